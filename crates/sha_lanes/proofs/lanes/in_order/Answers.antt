use Rattle.std.proofs.Common.{◌≡◌, ◌<◌, ℕ, List, All, length, get_or, arith}
use Rattle.std.specs.List.{Contains}
use Rattle.std.proofs.lemmas.List.Sorted.{All-permutation, Contains-permutation}
use Rattle.sha_lanes.proofs.lanes.in_order.Goals as goal

all_below : (xs : List ℕ) (n : ℕ) → length xs ≡ n → ((j d : ℕ) → j < n → get_or xs j d ≡ j) → All (λ i. i < n) xs
all_below xs n size each = λ k d lt. let e = each k d (omega arith) in omega arith

contains : (xs : List ℕ) (n : ℕ) → length xs ≡ n → ((j d : ℕ) → j < n → get_or xs j d ≡ j) → (i : ℕ) → i < n → Contains xs i
contains xs n size each i lt = (i, omega arith, each i i lt)

pub returns-then-spans-gt-MOST_SORTED-clause-each : goal.returns-then-spans-gt-MOST_SORTED-clause-each
returns-then-spans-gt-MOST_SORTED-clause-each c = λ i lt.
    contains c.numbers.order.items c.numbers.i c.numbers.invariant.size c.numbers.invariant.each i (omega arith)

pub returns-clause-below : goal.returns-clause-below
returns-clause-below c =
    let n : c.numbers.i ≡ length c.args.spans.now = omega arith in
    All-permutation (λ i. i < length c.args.spans.now) c.numbers.order.items c.sort_by_key.new.self.items c.in_ok-sort_by_key.ensures.permutation
    (rw n at (all_below c.numbers.order.items c.numbers.i c.numbers.invariant.size c.numbers.invariant.each))

pub returns-clause-each : goal.returns-clause-each
returns-clause-each c = λ i lt.
    Contains-permutation c.numbers.order.items c.sort_by_key.new.self.items i c.in_ok-sort_by_key.ensures.permutation
    (contains c.numbers.order.items c.numbers.i c.numbers.invariant.size c.numbers.invariant.each i (omega arith))
