use Rattle.std.proofs.Common.{◌≡◌, All, arith, rules, length}
use Rattle.std.specs.List.{AllZip}
use Rattle.std.proofs.lemmas.List.{places, with_items_is}
use Rattle.std.proofs.lemmas.Slice.Zip.{AllZip-long}
use Rattle.scrub_check.specs.steps.Open.{IsKnownBefore, IsOpenAt, IsJudged}
use Rattle.scrub_check.proofs.statuses.checked.judge_open.Goals as goal

-- something is said of each
pub open_locators-requires : goal.open_locators-requires
open_locators-requires g c =
    rw c.deref.ensures.value (AllZip-long (IsKnownBefore (g.D.PageSource.image c.args.scan.now.disk.now) c.args.scan.now.plan.now) c.args.named.now c.args.known.items c.requires)

-- each index is one of a named locator
pub write_statuses-requires-clause-below : goal.write_statuses-requires-clause-below
write_statuses-requires-clause-below g c =
    let image = g.D.PageSource.image c.args.scan.now.disk.now in
    let plan = c.args.scan.now.plan.now in
    let left : All (IsOpenAt image plan c.args.named.now) c.in_ok-left.left.items =
    c.in_ok-left.ensures.open image plan (rw c.deref.ensures.value c.requires) in
    let long : length c.args.known.items ≡ length c.args.named.now =
    AllZip-long (IsKnownBefore image plan) c.args.named.now c.args.known.items c.requires in
    rw (c.deref-3.ensures.value, c.deref_mut.ensures.value) (λ k d below. omega (arith, (left k d below).below, long))

pub write_statuses-requires-clause-count : goal.write_statuses-requires-clause-count
write_statuses-requires-clause-count g c =
    let image = g.D.PageSource.image c.args.scan.now.disk.now in
    rw (c.deref-4.ensures.value, c.deref-3.ensures.value)
    (AllZip-long (IsJudged image c.args.scan.now.plan.now c.args.named.now) c.in_ok-left.left.items c.in_ok-judged.judged.items
    (rw c.deref-2.ensures.value at c.in_ok-judged.ensures))

-- what is known stays right
pub returns-clause-known : goal.returns-clause-known
returns-clause-known g c =
    let image = g.D.PageSource.image c.args.scan.now.disk.now in
    let plan = c.args.scan.now.plan.now in
    let judged : AllZip (IsJudged image plan c.args.named.now) c.deref-3.result.now c.deref-4.result.now =
    rw (c.deref-3.ensures.value, c.deref-4.ensures.value) (rw c.deref-2.ensures.value at c.in_ok-judged.ensures) in
    let known : AllZip (IsKnownBefore image plan) c.args.named.now c.deref_mut.result.now = rw c.deref_mut.ensures.value c.requires in
    rw (with_items_is c.args.known c.write_statuses.new.known (search (rules, places)))
    (c.write_statuses.ensures.right image plan c.args.named.now judged known)
