-- One more number, and at the end all.
use Rattle.std.proofs.Common.{◌≡◌, ◌+◌, List, ℕ, arith, length, max, sym, ap, ◌∙◌}
use Rattle.std.specs.Prelude.{string_bytes}
use Rattle.std.specs.List.{range_with_len}
use Rattle.std.proofs.lemmas.List.FromFn.{get_or-range_with_len, length-range_with_len}
use Rattle.scrub_listings.proofs.FlatLists.{flat_all, flat_more}
use Rattle.scrub_compare.specs.Compare.{change, numbered}
use Rattle.scrub_compare.specs.steps.Rows.{row_among}
use Rattle.scrub_compare.proofs.rows.append_shard.Goals as goal

pub loop-number-preserved : goal.loop-number-preserved
loop-number-preserved g c =
    let row = row_among c.args.before.now.all.now.extents c.args.before.now.copies.now in
    let row_now = row_among c.args.after.now.all.now.extents c.args.after.now.copies.now in
    let part : ℕ → List ℕ = λ n. change (numbered row c.args.own.now n) (numbered row_now c.args.own_now.now n) in
    let most = max (length c.args.own.now) (length c.args.own_now.now) in
    let n = c.loop-number.number in
    flat_more part (string_bytes c.args.text.now) (string_bytes c.loop-number.text) (string_bytes c.append_number.new.text) (range_with_len 0 most) n 0 (part n)
    (omega (arith, length-range_with_len 0 most, c.loop-number-test.true))
    (ap part (sym (get_or-range_with_len 0 most n 0 (omega (arith, c.loop-number-test.true)) ∙ (let e : 0 + n ≡ n = omega arith in e))))
    c.loop-number.invariant c.in_ok-append_number.ensures

pub returns : goal.returns
returns g c =
    let row = row_among c.args.before.now.all.now.extents c.args.before.now.copies.now in
    let row_now = row_among c.args.after.now.all.now.extents c.args.after.now.copies.now in
    let part : ℕ → List ℕ = λ n. change (numbered row c.args.own.now n) (numbered row_now c.args.own_now.now n) in
    let most = max (length c.args.own.now) (length c.args.own_now.now) in
    flat_all part (string_bytes c.args.text.now) (string_bytes c.loop-number.text) (range_with_len 0 most) c.loop-number.number
    (omega (arith, length-range_with_len 0 most, c.loop-number-test.false)) c.loop-number.invariant
