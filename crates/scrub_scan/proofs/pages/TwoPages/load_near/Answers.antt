-- The page was asked for, or is the near one already.
use Rattle.std.proofs.Common.{arith, ap, ◌∙◌}
use Rattle.scrub_scan.specs.declared.pages.TwoPages.{TwoPages}
use Rattle.scrub_scan.proofs.ReadPages.{near_read}
use Rattle.scrub_scan.proofs.pages.TwoPages.load_near.Goals as goal
use Rattle.scrub_scan.proofs.pages.TwoPages.load_near.Goals.{then-ne, else-ne}

pub returns-clause-read : goal.returns-clause-read
returns-clause-read g c = λ n h. elim c.if-ne.branch [
  | then-ne w ↦
      near_read c.args.self.now c.if-ne.self n c.args.page
      (ap (λ (p : TwoPages). p.near.number) w.self-is ∙ w.read.ensures.number)
      (ap (λ (p : TwoPages). p.far.number) w.self-is)
      (λ small. omega (arith, ap (λ (p : TwoPages). p.asked) w.self-is, w.read.ensures.counted, small))
      h
  | else-ne w ↦ rw w.self-is h
]
