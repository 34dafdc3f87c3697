-- Each digit leaves a smaller number.
use Rattle.scrub_cli.proofs.process.decimal.+write_decimal.Given as goal

abbrev pub decreases-write_decimal : goal.decreases-write_decimal
decreases-write_decimal g l = l.number
