-- The locators of the entry have the copies that were found for them.
use Rattle.std.proofs.Common.{◌∙◌, List, subst}
use Rattle.std.proofs.lemmas.Result.{IfOk-weaker}
use Rattle.scrub_check.specs.declared.named.Named.{Named}
use Rattle.scrub_check.specs.Checked.{AreChecked}
use Rattle.scrub_shard.specs.Shard.{IsEntryAnswer}
use Rattle.scrub_shard.specs.steps.Payloads.{IsAnswerWith}
use Rattle.scrub_shard.proofs.Answered.{answer_of}
use Rattle.scrub_shard.proofs.Lost.{copies_can_be_read, have_copies}
use Rattle.scrub_shard.proofs.shard.entry_answer.Goals as goal

pub answer_by-requires-after_bounds : goal.answer_by-requires-after_bounds
answer_by-requires-after_bounds g c κs within =
    rw c.deref-3.ensures.value
    (copies_can_be_read (g.D.PageSource.image c.args.disk.now) c.args.plan.now c.args.all.now.extents c.in_ok-own.own.items
    c.in_ok-copies.copies c.requires c.in_ok-own.ensures.statuses (rw c.deref-2.ensures.value at c.in_ok-copies.ensures))

pub returns : goal.returns
returns g c =
    let image = g.D.PageSource.image c.args.disk.now in
    let plan = c.args.plan.now in
    let all = c.args.all.now.extents in
    let own = c.in_ok-own.own.items in
    let found = c.in_ok-copies.copies in
    let b = c.args.binding.now in
    let checked = subst (λ (ns : List Named). AreChecked image plan ns own) (c.deref.ensures.value ∙ c.in_ok-names.ensures) c.in_ok-own.ensures in
    let are = rw c.deref-2.ensures.value at c.in_ok-copies.ensures in
    IfOk-weaker c.answer_by.result (IsAnswerWith image found b.doubtful own) (IsEntryAnswer image plan all b)
    (λ a x. answer_of image plan all are.found found b own a are.are checked (have_copies image plan all own found are) x)
    (rw (c.deref-3.ensures.value, c.doubtful.ensures) at c.answer_by.ensures)
