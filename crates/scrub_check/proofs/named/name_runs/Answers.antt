use Rattle.std.proofs.Common.{rules, ◌∙◌, ◌++◌, ◌∷◌, [], ap}
use Rattle.std.proofs.lemmas.List.{take_all}
use Rattle.scrub_check.specs.Named.{named_by_runs}
use Rattle.scrub_check.proofs.NamedLists.{run_named, runs_more}
use Rattle.scrub_check.proofs.named.name_runs.Goals as goal

pub loop-number-init : goal.loop-number-init
loop-number-init c = search rules

pub loop-number-preserved : goal.loop-number-preserved
loop-number-preserved c =
    runs_more c.args.runs.now c.loop-number.number _ c.loop-number.named.items c.push.new.self.items c.loop-number-test.true
    c.loop-number.invariant
    (c.in_ok-push.ensures.items ∙ ap (λ l. c.loop-number.named.items ++ run_named c.loop-number.number l ∷ []) c.index-runs-number.is)

pub returns : goal.returns
returns c =
    c.loop-number.invariant
    ∙ ap (λ ls. named_by_runs 0 ls) (take_all c.loop-number.number c.args.runs.now c.loop-number-test.false)
