-- Without resets it is the plan of the choice.
use Rattle.std.proofs.Common.{◌∙◌, sym}
use Rattle.std.proofs.lemmas.Result.{IfOk-weaker}
use Rattle.scrub_found.proofs.ResetPlans.{none_reset, some_reset}
use Rattle.scrub_found.proofs.scanning.plan_but.Goals as goal

pub returns-then-is_empty : goal.returns-then-is_empty
returns-then-is_empty c =
    none_reset c.args.resets.now c.args.chosen.now c.in_ok-plan.plan (sym c.is_empty.ensures ∙ c.if-is_empty.true) c.in_ok-plan.ensures.plan

pub returns : goal.returns
returns c =
    IfOk-weaker c.with_resets.result _ _
    (λ plan reset. some_reset c.args.resets.now c.args.chosen.now c.in_ok-plan.plan plan (sym c.is_empty.ensures ∙ c.if-is_empty.false) c.in_ok-plan.ensures.plan reset)
    c.with_resets.ensures
