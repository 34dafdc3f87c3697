-- For each image and whatever is accepted there are lines of what can be reclaimed, and a verdict.
use Rattle.std.proofs.Common.{ℕ, Bool, List, [], refl}
use Rattle.scrub_disk.specs.Image.{Image}
use Rattle.scrub_super.proofs.PagesThere.{some_pages}
use Rattle.scrub_super.proofs.PlansFit.{plan_fits}
use Rattle.scrub_loose.proofs.LooseThere.{some_loose}
use Rattle.scrub_found.proofs.Existing.{some_scrub}
use Rattle.scrub_reclaim.specs.Doubts.{Acceptance}
use Rattle.scrub_reclaim.specs.Reclaimable.{AreReclaimLines, is_clear, reclaim_text}

-- Whatever is accepted, each image has a text of what can be reclaimed, and a verdict.
pub some_reclaim_listing : (image : Image) (accepted : Acceptance) →
    (text : List ℕ) × (clear : Bool) × AreReclaimLines image accepted text clear
some_reclaim_listing image accepted =
    let s = some_scrub [] image in
    let pages = some_pages image in
    let loose = some_loose [] image s.0.plan (plan_fits image s.0.choice s.0.plan s.1.choice s.1.plan) in (
      reclaim_text accepted pages.0 loose.0 s.0,
      is_clear accepted pages.0 loose.0 s.0,
      record {
        found = s.0;
        scrubbed = s.1;
        pages = pages.0;
        held = pages.1;
        loose = loose.0;
        are_loose = loose.1;
        text_is = refl;
        verdict = refl;
      },
    )
