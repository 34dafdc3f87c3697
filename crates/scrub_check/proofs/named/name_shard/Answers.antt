use Rattle.std.proofs.Common.{◌≡◌, ◌∙◌, ◌++◌, ◌∷◌, [], ℕ, List, Result, Ok, Err, OnErr, ap, sym, map, take}
use Rattle.std.proofs.lemmas.List.{append-nil, take-map, take_all}
use Rattle.scrub_frame.specs.declared.locator.Locator.{Locator}
use Rattle.scrub_check.specs.declared.named.Owner.TheVariants.{Shard}
use Rattle.scrub_check.specs.declared.named.Named.{Named}
use Rattle.scrub_check.proofs.NamedLists.{shard_more}
use Rattle.scrub_check.proofs.named.name_shard.Goals as goal

pub loop-locator-init : goal.loop-locator-init
loop-locator-init c = sym (append-nil c.args.named.now.items)

pub loop-locator-preserved : goal.loop-locator-preserved
loop-locator-preserved c =
    let id = c.args.binding.now.id in
    let named = c.loop-locator.named.items in
    shard_more c.args.named.now.items id c.locators-locator-items.result.now c.loop-locator.locator-index _ named
    c.push.new.self.items
    c.loop-locator-test.true c.loop-locator.invariant
    (c.in_ok-push.ensures.items
    ∙ ap (λ x. named ++ record { owner = Shard x; locator = c.locator-item.result } ∷ []) c.id.ensures
    ∙ ap (λ x. named ++ record { owner = Shard id; locator = x } ∷ []) c.locator-item.is)

pub returns-clause-appended : goal.returns-clause-appended
returns-clause-appended c =
    let id = c.args.binding.now.id in
    c.loop-locator.invariant
    ∙ ap
    (λ ls. c.args.named.now.items ++ map (λ (l : Locator). let n : Named = record { owner = Shard id; locator = l } in n) ls)
    (take_all c.loop-locator.locator-index c.locators-locator-items.result.now c.loop-locator-test.false ∙ c.locators-locator-items.ensures)

refused : {T E : Type 0} (r : Result T E) (before after all : List Named) (count : ℕ) → after ≡ before ++ take count all →
    OnErr r ((n : ℕ) × (after ≡ before ++ take n all))
refused (Ok x) before after all count is = tt
refused (Err e) before after all count is = (count, is)

pub returns-in_err-push-clause-refused : goal.returns-in_err-push-clause-refused
returns-in_err-push-clause-refused c =
    let id = c.args.binding.now.id in
    let i = c.loop-locator.locator-index in
    let name : Locator → Named = λ l. record { owner = Shard id; locator = l } in
    refused _ c.args.named.now.items c.push.new.self.items _ i
    (c.in_err-push.ensures.items ∙ c.loop-locator.invariant
    ∙ ap (λ (ns : List Named). c.args.named.now.items ++ ns)
    (sym (take-map name i c.locators-locator-items.result.now) ∙ ap (λ (ls : List Locator). take i (map name ls)) c.locators-locator-items.ensures))
