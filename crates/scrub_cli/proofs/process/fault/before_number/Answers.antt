-- A number below 100 is its digit of tens and its digit of ones.
use Rattle.std.proofs.Common.{◌≡◌, ◌/◌, ◌%◌, arith, refl}
use Rattle.std.proofs.lemmas.Fmt.{decimal_digit, decimal_step}
use Rattle.std.proofs.lemmas.Nat.{mod_below}
use Rattle.scrub_cli.proofs.process.fault.before_number.Goals as goal

pub returns-then-number-lt10 : goal.returns-then-number-lt10
returns-then-number-lt10 c =
    let n = c.args.number in
    let no_tens : n / 10 ≡ 0 = omega (arith, c.if-number-lt10.true) in
    let ones : n % 10 ≡ n = omega (arith, c.if-number-lt10.true) in
    rw (no_tens, ones, decimal_digit 0 (omega arith)) refl

pub returns-else-number-lt10 : goal.returns-else-number-lt10
returns-else-number-lt10 c =
    let n = c.args.number in
    rw (decimal_step n (omega (arith, c.if-number-lt10.false)) c.ranges.number.fits, decimal_digit (n % 10) (mod_below n 10 (omega arith))) refl
