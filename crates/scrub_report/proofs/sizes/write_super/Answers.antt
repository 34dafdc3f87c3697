-- Its members are what was chosen.
use Rattle.scrub_report.proofs.sizes.write_super.Goals as goal

pub returns-clause-tokens : goal.returns-clause-tokens
returns-clause-tokens c =
    rw (c.bad_pages.ensures, c.generation_of.ensures, c.page.ensures, c.from.ensures, c.records.ensures, c.tie.ensures)
    at c.write_object.ensures.tokens
