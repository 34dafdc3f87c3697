-- The numbers are those of the choice and of the pages.
use Rattle.scrub_listings.proofs.summary.append_superblocks.Goals as goal

pub returns : goal.returns
returns c =
    rw (
      c.from.ensures,
      c.records.ensures,
      c.from-2.ensures,
      c.generation_of.ensures,
      c.one_if.ensures,
      c.tie.ensures,
      c.damaged_count.ensures,
      c.stray_count.ensures,
    )
    at c.append_numbers.ensures
