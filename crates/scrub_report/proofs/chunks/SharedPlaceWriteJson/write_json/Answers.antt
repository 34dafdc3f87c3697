-- Its members are its fields.
use Rattle.scrub_report.proofs.chunks.SharedPlaceWriteJson.write_json.Goals as goal

pub returns-clause-tokens : goal.returns-clause-tokens
returns-clause-tokens c = rw (c.from.ensures, c.from-2.ensures) at c.write_object.ensures.tokens
