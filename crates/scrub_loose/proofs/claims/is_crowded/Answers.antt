-- The claimed lengths are more than four times the extent's bytes, or make no crowd.
use Rattle.std.proofs.Common.{◌*◌, arith, inl, inr}
use Rattle.std.proofs.lemmas.Bool.{cases_lt, lt-ltb, ltb-true}
use Rattle.scrub_loose.specs.steps.Held.{extent_held}
use Rattle.scrub_loose.proofs.Crowds.{no_crowd}
use Rattle.scrub_loose.proofs.claims.is_crowded.Goals as goal

pub returns : goal.returns
returns c =
    let x = c.args.extent.now in
    let all = c.claimed_bytes.ensures in (
      λ more. record {
        lengths = all.0;
        are = all.1;
        many = omega (arith, ltb-true (4 * c.len.result) c.claimed_bytes.result more, all.2, c.len.ensures, x.bytes.ok.0);
      },
      λ crowd. elim (cases_lt (4 * c.len.result) c.claimed_bytes.result) [
        | inl more ↦ lt-ltb (4 * c.len.result) c.claimed_bytes.result more
        | inr few ↦ absurd (no_crowd (extent_held x) all.0 all.1 (omega (arith, few, all.2, c.len.ensures, x.bytes.ok.0)) crowd)
      ],
    )
