use Rattle.std.proofs.Common.{rules, arith, nat_lt}
use Rattle.std.proofs.lemmas.Bool.{le-leb, lt-ltb, ltb-true, leb-true}
use Rattle.std.proofs.lemmas.List.Sorted.{IsPartitionPoint-from_clause}
use Rattle.scrub_check.proofs.Searches.{PartedAt, parted, page_between, between_page}
use Rattle.scrub_check.proofs.statuses.extents.has_page_between.Goals as goal

pub returns-then-i-pages : goal.returns-then-i-pages
returns-then-i-pages c =
    let point : PartedAt c.args.pages.now c.args.first c.partition_point-i.result =
    IsPartitionPoint-from_clause (λ y. nat_lt y c.args.first) c.args.pages.now c.partition_point-i.result
    c.partition_point-i.ensures.partitioned (parted c.args.pages.now c.args.first c.requires) (λ a r f called. search rules) in (
      λ t. between_page c.args.pages.now c.partition_point-i.result c.args.first c.args.last point c.if-i-pages.true
          (leb-true _ _ t),
      λ h. le-leb _ _ (page_between c.args.pages.now c.partition_point-i.result c.args.first c.args.last c.requires point h).1,
    )

pub returns-else-i-pages : goal.returns-else-i-pages
returns-else-i-pages c =
    let point : PartedAt c.args.pages.now c.args.first c.partition_point-i.result =
    IsPartitionPoint-from_clause (λ y. nat_lt y c.args.first) c.args.pages.now c.partition_point-i.result
    c.partition_point-i.ensures.partitioned (parted c.args.pages.now c.args.first c.requires) (λ a r f called. search rules) in (
      λ t. absurd (omega (arith, ltb-true _ _ t, c.if-i-pages.false)),
      λ h. lt-ltb _ _ (page_between c.args.pages.now c.partition_point-i.result c.args.first c.args.last c.requires point h).0,
    )
