-- At the end all are written.
use Rattle.std.proofs.Common.{arith}
use Rattle.scrub_report.proofs.Tokens.{all_members}
use Rattle.scrub_report.proofs.object.write_members.Goals as goal

pub returns-clause-tokens : goal.returns-clause-tokens
returns-clause-tokens g c =
    all_members (λ m. (m.0.now, g.V.WriteJson.shown m.1)) c.args.members.now c.args.out.now.tokens c.loop-key.out.tokens
    c.loop-key.key-index (omega (arith, c.loop-key-test.false)) c.loop-key.invariant.0
