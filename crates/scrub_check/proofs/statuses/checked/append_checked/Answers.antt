use Rattle.std.proofs.Common.{◌≡◌, ◌+◌, None, length, get_or, arith, ap, sym}
use Rattle.std.proofs.lemmas.List.{get_or_default, length_push}
use Rattle.scrub_check.specs.steps.Open.{IsKnownBefore}
use Rattle.scrub_check.proofs.Rebuilt.{inside, one_more, tell}
use Rattle.scrub_check.proofs.statuses.checked.append_checked.Goals as goal

pub loop-i-preserved : goal.loop-i-preserved
loop-i-preserved c =
    let i = c.loop-i.i in
    let named = c.args.named.now in
    let tells = c.args.known.now in
    let checked = c.loop-i.checked.items in
    let name = c.index-named-i.result in
    let at = c.len-from.result + i in
    let status = get_or tells at None in
    record {
      count =
          let grown = ap length c.in_ok-push.ensures.items in
          let pushed = length_push checked c.check_one-one.result in
          omega (arith, grown, pushed, c.loop-i.invariant.count);
      each = λ image plan before later known start.
          let so_far = c.loop-i.invariant.each image plan before later known start in
          let here : at ≡ length checked = sym c.loop-i.invariant.count in
          let below = inside image plan before named later tells checked i c.loop-i-test.true known so_far at here in
          let told : IsKnownBefore image plan name status =
          tell image plan before named later tells checked i c.loop-i-test.true known so_far at name status here c.index-named-i.is
          (get_or_default tells at None status below) in
          one_more image plan before named later tells checked i c.loop-i-test.true known so_far name c.check_one-one.result
          c.push.new.self.items c.index-named-i.is (c.check_one-one.ensures image plan told) c.in_ok-push.ensures.items;
    }
