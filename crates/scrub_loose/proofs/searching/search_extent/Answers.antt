-- A crowded extent, or the frames of one that isn't: its bytes in memory are those of the image.
use Rattle.std.proofs.Common.{◌≡◌, ◌∙◌, ◌∷◌, [], ℕ, List, subst, sym}
use Rattle.std.proofs.lemmas.Bool.{false≢true}
use Rattle.std.proofs.lemmas.Result.{IfOk-weaker}
use Rattle.scrub_scan.specs.Extent.{Extent}
use Rattle.scrub_check.specs.Spares.{is_wanted}
use Rattle.scrub_loose.specs.Anywhere.{HasCrowd, IsCrowded}
use Rattle.scrub_loose.specs.Loose.{LooseValue}
use Rattle.scrub_loose.specs.steps.Search.{AreFoundIn, AreFramesBefore}
use Rattle.scrub_loose.proofs.FoundFrames.{found_crowd, found_sparse}
use Rattle.scrub_loose.proofs.searching.search_extent.Goals as goal

pub returns-then-is_crowded : goal.returns-then-is_crowded
returns-then-is_crowded g c =
    let image = g.D.PageSource.image c.args.disk.now in
    let test = is_wanted c.args.asked.now.contents.items in
    let e = c.args.extent in
    let crowd : IsCrowded image e = subst HasCrowd c.in_ok-inside.ensures.same (c.is_crowded.ensures.0 c.if-is_crowded.true) in
    IfOk-weaker c.crowd.result (λ f. f ≡ record { frames = []; crowded = e ∷ [] }) (AreFoundIn test image (e ∷ []))
    (λ v is. subst (λ (w : LooseValue). AreFoundIn test image (e ∷ []) w) (sym is) (found_crowd test image e crowd)) c.crowd.ensures

pub returns : goal.returns
returns g c =
    let image = g.D.PageSource.image c.args.disk.now in
    let test = is_wanted c.args.asked.now.contents.items in
    let e = c.args.extent in
    let frames = c.in_ok-frames.frames.items in
    let sparse : ¬ IsCrowded image e =
    λ crowd. false≢true (sym c.if-is_crowded.false ∙ c.is_crowded.ensures.1 (subst HasCrowd (sym c.in_ok-inside.ensures.same) crowd)) in
    subst (λ (ns : List ℕ). AreFoundIn test image (e ∷ []) (record { frames = frames; crowded = ns })) (sym c.new.ensures.items)
    (found_sparse test image e frames sparse c.requires.in_disk
    (subst (λ (x : Extent). AreFramesBefore test x e x.pointer frames) c.in_ok-inside.ensures.same c.in_ok-frames.ensures))
