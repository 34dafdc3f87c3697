-- One more extent, and all of them.
use Rattle.std.proofs.Common.{◌∷◌, [], List, ℕ, arith, subst, sym}
use Rattle.std.proofs.lemmas.List.{take_all}
use Rattle.std.proofs.lemmas.Slice.Zip.{AllZip-long}
use Rattle.scrub_loose.specs.Loose.{LooseValue}
use Rattle.scrub_loose.specs.steps.Search.{AreFoundIn}
use Rattle.scrub_loose.proofs.FoundFrames.{found_more, found_none}
use Rattle.scrub_loose.proofs.searching.Found.joined.Goals as goal

pub loop-found-init : goal.loop-found-init
loop-found-init c = λ test image es rising found.
    subst (λ (v : LooseValue). AreFoundIn test image [] v) (sym c.none-all.ensures) (found_none test image)

pub loop-found-preserved : goal.loop-found-preserved
loop-found-preserved c = λ test image es rising found.
    found_more test image es c.args.each.now c.loop-found.found-index c.found-item.result c.loop-found.all c.add.new.self rising found
    c.loop-found-test.true c.found-item.is (c.loop-found.invariant test image es rising found) c.in_ok-add.ensures.frames
    c.in_ok-add.ensures.crowded

pub returns : goal.returns
returns c = λ test image es rising found.
    subst (λ (fs : List ℕ). AreFoundIn test image fs c.loop-found.all)
    (take_all c.loop-found.found-index es
    (omega (arith, c.loop-found-test.false, AllZip-long (λ e v. AreFoundIn test image (e ∷ []) v) es c.args.each.now found)))
    (c.loop-found.invariant test image es rising found)
