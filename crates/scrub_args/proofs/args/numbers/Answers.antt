-- Each value was accepted as a number, and is read as it.
use Rattle.std.proofs.Common.{◌≡◌, ◌∙◌, Some, ap}
use Rattle.clap.specs.Words.{found_of, many_of, rows_of, values_left}
use Rattle.clap.proofs.WalkLemmas.{typed_values-rows}
use Rattle.scrub_args.proofs.Numbers.{all_read, each_number, next_read, no_numbers, none_fails, none_read, numbers_found}
use Rattle.scrub_args.proofs.args.numbers.Goals as goal

pub returns-in_default : goal.returns-in_default
returns-in_default c =
    let f = found_of c.args.matches.now in
    let name = c.args.name.now in
    no_numbers (rows_of f) name c.new-numbers.result.items (c.in_default.ensures ∙ typed_values-rows f name)
    c.new-numbers.ensures.items

pub loop-value-init : goal.loop-value-init
loop-value-init c =
    let f = found_of c.args.matches.now in
    let name = c.args.name.now in
    let all = values_left c.into_iter-value-iterator.result in
    let are : Some all ≡ many_of name (rows_of f) =
    ap (λ values. Some (values_left values)) c.into_iter-value-iterator.ensures.into_iter_gives ∙ (c.in-Some.ensures ∙ typed_values-rows f name) in
    (tt, tt, rw c.new-numbers.ensures.items (none_read all (each_number (rows_of f) name all are c.requires)))

pub loop-value-preserved : goal.loop-value-preserved
loop-value-preserved c = (
  tt,
  tt,
  next_read (values_left c.into_iter-value-iterator.result) (values_left c.loop-value.value-iterator)
      (values_left c.next.new.self) c.loop-value.numbers.items c.push.new.self.items c.in-Ok.number c.loop-value.invariant.2
      (rw c.in-Ok.is at c.in-Some-value.ensures.steps) c.in_ok-push-in-Ok.ensures.items,
)

pub unreachable-requires : goal.unreachable-requires
unreachable-requires c =
    none_fails (values_left c.into_iter-value-iterator.result) (values_left c.loop-value.value-iterator)
    (values_left c.next.new.self) c.loop-value.numbers.items c.in-Err.field-0 c.loop-value.invariant.2
    (rw c.in-Err.is at c.in-Some-value.ensures.steps)

pub returns : goal.returns
returns c =
    let f = found_of c.args.matches.now in
    let name = c.args.name.now in
    let all = values_left c.into_iter-value-iterator.result in
    let are : Some all ≡ many_of name (rows_of f) =
    ap (λ values. Some (values_left values)) c.into_iter-value-iterator.ensures.into_iter_gives ∙ (c.in-Some.ensures ∙ typed_values-rows f name) in
    numbers_found (rows_of f) name all are c.loop-value.numbers.items
    (all_read all (values_left c.loop-value.value-iterator) (values_left c.next.new.self) c.loop-value.numbers.items
    c.loop-value.invariant.2 c.in-None.ensures.steps)
