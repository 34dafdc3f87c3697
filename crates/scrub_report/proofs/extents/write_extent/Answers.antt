-- Its members are what was found in the extent.
use Rattle.scrub_report.proofs.extents.write_extent.Goals as goal

pub returns-clause-tokens : goal.returns-clause-tokens
returns-clause-tokens g c =
    rw (
      c.bad_pages.ensures,
      c.from.ensures,
      c.extent.ensures,
      c.items.ensures,
      c.from-2.ensures,
      c.from-3.ensures,
      c.pointer.ensures,
      c.from-4.ensures,
      c.tail_count.ensures,
      c.tail_first.ensures,
      c.findings-findings.ensures.value,
    )
    at c.write_object.ensures.tokens
