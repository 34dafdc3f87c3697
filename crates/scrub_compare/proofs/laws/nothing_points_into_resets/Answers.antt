-- A named locator there would have a line.
use Rattle.scrub_compare.proofs.Safe.{none_points}
use Rattle.scrub_compare.proofs.laws.nothing_points_into_resets.Goals as goal

pub returns : goal.returns
returns c resets before after found_after s = none_points resets before after s.text found_after s.safe
