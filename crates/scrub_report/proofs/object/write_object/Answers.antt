-- It is begun, its members are written, and it is closed.
use Rattle.std.proofs.Common.{map}
use Rattle.scrub_report.proofs.Tokens.{object_closed}
use Rattle.scrub_report.proofs.object.write_object.Goals as goal

pub returns-clause-tokens : goal.returns-clause-tokens
returns-clause-tokens g c =
    object_closed (map (λ m. (m.0.now, g.V.WriteJson.shown m.1)) c.args.members.now) c.args.out.now.tokens c.begin_object.new.self.tokens
    c.write_members.new.out.tokens c.end_object.new.self.tokens c.end_object.result c.in_ok-begin_object.ensures.ok
    c.in_ok-write_members.ensures.tokens c.end_object.ensures.ok
