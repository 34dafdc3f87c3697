-- Each crew of readers beside one more has one reader less.
use Rattle.std.proofs.Common.{◌+◌, ◌*◌, vec_len}
use Rattle.scrub_disk.proofs.parted_loading.+parts.Given as goal

abbrev pub decreases-read_beside : goal.decreases-read_beside
decreases-read_beside g l = 4 * vec_len l.readers + 3

abbrev pub decreases-read_all : goal.decreases-read_all
decreases-read_all g l = 4 * vec_len l.readers

abbrev pub decreases-read_parts : goal.decreases-read_parts
decreases-read_parts g l = 4 * vec_len l.readers + 1

abbrev pub decreases-read_beside-join+arg2 : goal.decreases-read_beside-join+arg2
decreases-read_beside-join+arg2 g l = 4 * vec_len l.readers + 2
