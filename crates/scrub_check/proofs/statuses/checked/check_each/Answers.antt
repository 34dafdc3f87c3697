use Rattle.std.proofs.Common.{None, get_or, arith, subst}
use Rattle.std.proofs.lemmas.List.{take_all, get_or_default}
use Rattle.list_facts.proofs.Zips.{AllZip-take_more}
use Rattle.scrub_check.specs.declared.named.Named.{Named}
use Rattle.scrub_check.specs.Checked.{IsChecked}
use Rattle.scrub_check.proofs.CheckedLists.{each_checked, known_at}
use Rattle.scrub_check.proofs.JudgedPlaces.{is_known}
use Rattle.scrub_check.proofs.statuses.checked.check_each.Goals as goal

pub loop-i-init : goal.loop-i-init
loop-i-init c = λ image plan known.
    rw c.in_ok-checked.ensures.items tt

pub check_one-one-requires : goal.check_one-one-requires
check_one-one-requires c = is_known c.args.known.now c.loop-i.i (omega (arith, c.requires.count, c.loop-i-test.true)) c.requires.all

pub loop-i-preserved : goal.loop-i-preserved
loop-i-preserved c = λ image plan known.
    let i = c.loop-i.i in
    let name = c.index-named-i.result in
    let status = get_or c.args.known.now i None in
    AllZip-take_more (IsChecked image plan) c.args.named.now c.loop-i.checked.items c.push.new.self.items i name
    c.check_one-one.result c.loop-i-test.true (c.loop-i.invariant image plan known)
    (subst (λ (n : Named). IsChecked image plan n c.check_one-one.result) c.index-named-i.is
    (c.check_one-one.ensures image plan
    (known_at image plan c.args.named.now c.args.known.now i name status c.loop-i-test.true c.index-named-i.is
    (get_or_default c.args.known.now i None status (omega (arith, c.requires.count, c.loop-i-test.true))) known)))
    c.in_ok-push.ensures.items

pub returns : goal.returns
returns c = λ image plan known.
    each_checked image plan c.args.named.now c.loop-i.checked.items
    (rw (take_all c.loop-i.i c.args.named.now c.loop-i-test.false) at (c.loop-i.invariant image plan known))
