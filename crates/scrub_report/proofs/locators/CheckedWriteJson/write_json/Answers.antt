-- Its members are its fields, and its status is one of them unless it is hidden.
use Rattle.std.proofs.Common.{sym, ◌∙◌}
use Rattle.scrub_report.proofs.locators.CheckedWriteJson.write_json.Goals as goal

pub returns-then-is_hidden-clause-tokens : goal.returns-then-is_hidden-clause-tokens
returns-then-is_hidden-clause-tokens c =
    rw (sym c.is_hidden.ensures ∙ c.if-is_hidden.true)
    (rw (c.from.ensures, c.from-then-is_hidden.ensures, c.from-then-is_hidden-2.ensures) at c.write_object.ensures.tokens)

pub returns-clause-tokens : goal.returns-clause-tokens
returns-clause-tokens c =
    rw (sym c.is_hidden.ensures ∙ c.if-is_hidden.false)
    (rw (c.from-2.ensures, c.from-3.ensures, c.from-4.ensures) at c.write_object-2.ensures.tokens)
