-- One more block, and at the end all.
use Rattle.std.proofs.Common.{◌++◌, ◌∙◌, ◌<◌, ◌≡◌, [], List, ap, arith, append_assoc, append-nil, get_or, length, subst, sym, take}
use Rattle.std.specs.List.{AllZip, flat_map}
use Rattle.std.proofs.lemmas.List.{take_all}
use Rattle.std.proofs.lemmas.Slice.Zip.{AllZip-long}
use Rattle.list_facts.proofs.Zips.{AllZip-at}
use Rattle.scrub_check.specs.declared.named.Named.{Named}
use Rattle.scrub_check.specs.steps.SoundAndOthers.{IsApart}
use Rattle.scrub_check.proofs.SoundAndOthers.{parts_more}
use Rattle.scrub_check.proofs.statuses.sound_and_others.SoundAndOthers.append_all.Goals as goal

pub loop-block-init : goal.loop-block-init
loop-block-init c = λ image plan named parts start are.
    subst (λ (ns : List Named). IsApart image plan ns c.args.self.now) (sym (append-nil named)) start

pub loop-block-preserved : goal.loop-block-preserved
loop-block-preserved c = λ image plan named parts start are.
    let blocks = c.args.blocks.now in
    let i = c.loop-block.block-index in
    let long : length blocks ≡ length parts = AllZip-long (IsApart image plan) parts blocks are in
    let inside : i < length parts = omega (arith, long, c.loop-block-test.true) in
    let here : IsApart image plan (get_or parts i []) c.block-item.result =
    subst (IsApart image plan (get_or parts i [])) (sym c.block-item.is) (AllZip-at (IsApart image plan) parts blocks i [] _ inside are) in
    subst (λ (ns : List Named). IsApart image plan ns c.append.new.self)
    (append_assoc named (flat_map (λ part. part) (take i parts)) (get_or parts i []) ∙ ap (λ ns. named ++ ns) (sym (parts_more parts i inside)))
    (c.in_ok-append.ensures image plan (named ++ flat_map (λ part. part) (take i parts)) (get_or parts i [])
    (c.loop-block.invariant image plan named parts start are) here)

pub returns : goal.returns
returns c = λ image plan named parts start are.
    let blocks = c.args.blocks.now in
    let i = c.loop-block.block-index in
    let long : length blocks ≡ length parts = AllZip-long (IsApart image plan) parts blocks are in
    subst (λ (ps : List (List Named)). IsApart image plan (named ++ flat_map (λ part. part) ps) c.loop-block.self)
    (take_all i parts (omega (arith, long, c.loop-block-test.false)))
    (c.loop-block.invariant image plan named parts start are)
