-- It is begun, its elements are written, and it is closed.
use Rattle.scrub_report.proofs.Tokens.{list_closed}
use Rattle.scrub_report.proofs.json_values.write_list.Goals as goal

pub returns-clause-tokens : goal.returns-clause-tokens
returns-clause-tokens g c =
    list_closed g.T.WriteJson.shown c.args.items.now c.args.out.now.tokens c.begin_array.new.self.tokens
    c.write_elements.new.out.tokens c.end_array.new.self.tokens c.end_array.result c.in_ok-begin_array.ensures.ok
    c.in_ok-write_elements.ensures.tokens c.end_array.ensures.ok
