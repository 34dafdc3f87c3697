use Rattle.scrub_scan.proofs.Tilings.{in_one_item}
use Rattle.scrub_scan.proofs.Tails.{in_tail}
use Rattle.scrub_scan.proofs.tiling.each_byte_is_judged.Goals as goal

pub returns : goal.returns
returns c = record { below = in_one_item; past = in_tail }
