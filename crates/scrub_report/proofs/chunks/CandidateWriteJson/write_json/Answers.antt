-- Its members are its fields.
use Rattle.scrub_report.proofs.chunks.CandidateWriteJson.write_json.Goals as goal

pub returns-clause-tokens : goal.returns-clause-tokens
returns-clause-tokens c =
    rw (c.from.ensures, c.extent.ensures, c.from-2.ensures, c.free.ensures, c.keep.ensures) at c.write_object.ensures.tokens
