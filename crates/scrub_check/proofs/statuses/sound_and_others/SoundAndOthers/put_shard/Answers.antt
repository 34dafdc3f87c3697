-- One more locator of the shard, and at the end all.
use Rattle.std.proofs.Common.{◌++◌, ◌∷◌, ◌∙◌, [], List, ap, map, refl, subst, sym, take}
use Rattle.std.proofs.lemmas.List.{append-nil, take_all}
use Rattle.scrub_frame.specs.declared.locator.Locator.{Locator}
use Rattle.scrub_check.specs.declared.named.Named.{Named}
use Rattle.scrub_check.specs.declared.named.Owner.TheVariants.{Shard}
use Rattle.scrub_check.specs.steps.SoundAndOthers.{IsApart}
use Rattle.scrub_check.proofs.NamedLists.{shard_more}
use Rattle.scrub_check.proofs.statuses.sound_and_others.SoundAndOthers.put_shard.Goals as goal

pub loop-locator-init : goal.loop-locator-init
loop-locator-init g c = λ named start.
    let image = g.D.PageSource.image c.args.scan.now.disk.now in
    subst (λ (ns : List Named). IsApart image c.args.scan.now.plan.now ns c.args.self.now) (sym (append-nil named)) start

pub loop-locator-preserved : goal.loop-locator-preserved
loop-locator-preserved g c = λ named start.
    let image = g.D.PageSource.image c.args.scan.now.disk.now in
    let plan = c.args.scan.now.plan.now in
    let id = c.args.binding.now.id in
    let ls = c.locators-locator-items.result.now in
    let name : Locator → Named = λ l. record { owner = Shard id; locator = l } in
    let first = named ++ map name (take c.loop-locator.locator-index ls) in
    subst (λ (ns : List Named). IsApart image plan ns c.put.new.self)
    (shard_more named id ls c.loop-locator.locator-index _ first _ c.loop-locator-test.true refl
    (ap (λ (x : Named). first ++ x ∷ []) (ap (λ x. record { owner = Shard x; locator = c.locator-item.result }) c.id.ensures ∙ ap name c.locator-item.is)))
    (c.in_ok-put.ensures image plan first (c.loop-locator.invariant named start) c.status_by_findings.ensures)

pub returns : goal.returns
returns g c = λ named start.
    let image = g.D.PageSource.image c.args.scan.now.disk.now in
    let name : Locator → Named = λ l. record { owner = Shard c.args.binding.now.id; locator = l } in
    subst (λ (ls : List Locator). IsApart image c.args.scan.now.plan.now (named ++ map name ls) c.loop-locator.self)
    (take_all c.loop-locator.locator-index c.locators-locator-items.result.now c.loop-locator-test.false ∙ c.locators-locator-items.ensures)
    (c.loop-locator.invariant named start)
