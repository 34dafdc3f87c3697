-- The law, by the parts of bytes that begin with a record.
use Rattle.scrub_super.proofs.OneRecord.{one_record_lem}
use Rattle.scrub_super.proofs.record.one_record.Goals as goal

pub returns : goal.returns
returns c = one_record_lem
