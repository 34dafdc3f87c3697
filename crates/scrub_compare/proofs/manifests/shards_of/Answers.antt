-- The locators after those of the runs are those of shards, in the order of these.
use Rattle.std.proofs.Common.{drop, length, sym, subst, ◌∙◌}
use Rattle.scrub_listings.proofs.ShardLines.{along_runs, runs_fit, shards_part}
use Rattle.scrub_compare.specs.steps.Rows.{AreByOwner}
use Rattle.scrub_compare.proofs.OwnedBy.{by_owner}
use Rattle.scrub_compare.proofs.manifests.shards_of.Goals as goal

pub split_at-requires : goal.split_at-requires
split_at-requires g c =
    rw (c.runs.ensures.runs, c.deref.ensures.value)
    (runs_fit c.args.judged.now.scan.plan.runs c.requires.0 c.args.judged.now.checked.items c.requires.1.same)

pub returns-clause-shards : goal.returns-clause-shards
returns-clause-shards g c =
    c.split_at.ensures.back
    ∙ (λ i. drop (length (c.runs.ensures.runs i)) (c.deref.ensures.value i))
    ∙ sym (shards_part c.args.judged.now.scan.plan.runs c.requires.0 c.args.judged.now.checked.items c.requires.1.same)

pub returns-clause-ordered : goal.returns-clause-ordered
returns-clause-ordered g c =
    subst AreByOwner (sym (c.split_at.ensures.back ∙ (λ i. drop (length (c.runs.ensures.runs i)) (c.deref.ensures.value i))))
    (by_owner (drop (length c.args.judged.now.scan.plan.runs) c.args.judged.now.checked.items) c.requires.0
    (along_runs c.args.judged.now.scan.plan.runs c.requires.0 c.args.judged.now.checked.items c.requires.1.same) c.requires.1.rising)
