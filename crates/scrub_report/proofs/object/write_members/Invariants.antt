-- The first members are written.
use Rattle.std.proofs.Common.{◌≡◌, ◌++◌, take}
use Rattle.std.specs.List.{flat_map}
use Rattle.scrub_report.specs.steps.Tokens.{member_tokens}
use Rattle.scrub_report.proofs.object.write_members.Given as goal

abbrev pub invariant-loop-key : goal.invariant-loop-key
invariant-loop-key g l =
    (l.out.tokens ≡ l.fn.out.tokens ++ flat_map (λ m. member_tokens m.0.now (g.V.WriteJson.shown m.1)) (take l.key-index l.members))
    × (l.out.before ≡ l.fn.out.before)
