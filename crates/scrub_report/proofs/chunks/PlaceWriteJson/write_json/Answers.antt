-- Its members are its fields.
use Rattle.scrub_report.proofs.chunks.PlaceWriteJson.write_json.Goals as goal

pub returns-clause-tokens : goal.returns-clause-tokens
returns-clause-tokens c = rw (c.from.ensures, c.from-2.ensures, c.from-3.ensures) at c.write_object.ensures.tokens
