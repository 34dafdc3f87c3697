use Rattle.std.proofs.Common.{◌++◌, ◌∷◌, [], List, ◌∙◌, ap, append_assoc}
use Rattle.scrub_scan.specs.Scanned.{Scanned, scanned}
use Rattle.scrub_check.specs.Candidates.{CandidateValue}
use Rattle.scrub_check.specs.steps.LocatorIndex.{reclaimable}
use Rattle.scrub_check.proofs.PartedExtents.{reclaimable_parts}
use Rattle.scrub_check.proofs.lists.reclaiming.reclaimable_among.Goals as goal

pub loop-found-preserved : goal.loop-found-preserved
loop-found-preserved g c checked locators =
    let f : Scanned = scanned c.in-Some.found.now in
    let rest : List Scanned = c.next.new.self in
    let geometry = c.args.geometry in
    let old : List CandidateValue = c.loop-found.candidates.items in
    ap (λ (cs : List CandidateValue). cs ++ reclaimable geometry rest checked)
    (c.in_ok-add_reclaimable.ensures checked locators (c.in_ok-live.ensures checked locators))
    ∙ append_assoc old (reclaimable geometry (f ∷ []) checked) (reclaimable geometry rest checked)
    ∙ ap (λ (cs : List CandidateValue). old ++ cs) (reclaimable_parts geometry checked (f ∷ []) rest)
    ∙ (rw c.in-Some.ensures.steps at c.loop-found.invariant checked locators)
