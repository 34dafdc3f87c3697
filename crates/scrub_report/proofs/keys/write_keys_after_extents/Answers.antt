-- The keys have what the lists have.
use Rattle.scrub_report.proofs.keys.write_keys_after_extents.Goals as goal

pub returns-clause-tokens : goal.returns-clause-tokens
returns-clause-tokens g c =
    rw (c.retired.ensures.retired, c.deref.ensures.value, c.deref-2.ensures.value, c.deref-3.ensures.value)
    at c.write_members.ensures.tokens
