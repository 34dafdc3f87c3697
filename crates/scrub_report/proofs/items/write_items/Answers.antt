-- It is begun, its lines are written, and it is closed.
use Rattle.scrub_report.specs.steps.Values.{item_data}
use Rattle.scrub_report.proofs.Tokens.{list_closed}
use Rattle.scrub_report.proofs.items.write_items.Goals as goal

pub returns-clause-tokens : goal.returns-clause-tokens
returns-clause-tokens c =
    list_closed item_data c.args.items.now c.args.out.now.tokens c.begin_array.new.self.tokens
    c.write_lines.new.out.tokens c.end_array.new.self.tokens c.end_array.result c.in_ok-begin_array.ensures.ok
    c.in_ok-write_lines.ensures.tokens c.end_array.ensures.ok
