-- The keys have what the lists have.
use Rattle.scrub_report.proofs.keys.write_middle.Goals as goal

pub returns-clause-tokens : goal.returns-clause-tokens
returns-clause-tokens g c = rw (c.geometry.ensures, c.deref.ensures.value) at c.write_members.ensures.tokens
