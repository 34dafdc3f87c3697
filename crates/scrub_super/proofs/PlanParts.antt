-- The plan of a choice and its parts say the same.
use Rattle.std.proofs.Common.{◌≡◌, sym, ◌∙◌, ap, Option, Some, None, MatchOption}
use Rattle.scrub_super.specs.Chosen.{Choice}
use Rattle.scrub_super.specs.Contents.{Contents}
use Rattle.scrub_super.specs.Plan.{PlanValue, plan_of}
use Rattle.scrub_super.specs.Planned.{extents_in_use}
use Rattle.scrub_super.specs.steps.PlanParts.{IsPlanBy, IsPlanInParts, IsPlanWithout}

-- the plan of a choice has these parts
pub plan_parts : (choice : Choice) (plan : PlanValue) → plan ≡ plan_of choice → IsPlanInParts choice plan
plan_parts choice plan is = record {
  geometry = ap (λ (p : PlanValue). p.geometry) is;
  all =
      ap (λ (p : PlanValue). p.planned) is
      ∙ ap (extents_in_use choice.geometry.extents) (sym (ap (λ (p : PlanValue). p.retired) is));
  by = by choice.superblock is;
}
  where
    by : (o : Option Contents) → plan ≡ plan_of (record choice { superblock = o }) →
        MatchOption o (IsPlanWithout plan choice.geometry) (IsPlanBy plan)
    by None is = record {
      has = ap (λ (p : PlanValue). p.has_superblock) is;
      retired = ap (λ (p : PlanValue). p.retired) is;
      pointers = ap (λ (p : PlanValue). p.pointers) is;
      runs = ap (λ (p : PlanValue). p.runs) is;
    }
    by (Some c) is = record {
      has = ap (λ (p : PlanValue). p.has_superblock) is;
      retired = ap (λ (p : PlanValue). p.retired) is;
      pointers = ap (λ (p : PlanValue). p.pointers) is;
      runs = ap (λ (p : PlanValue). p.runs) is;
    }
