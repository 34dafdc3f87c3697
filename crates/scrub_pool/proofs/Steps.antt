-- Each step of the shared queue keeps its rule.
use Rattle.std.proofs.Common.{◌≡◌, ◌≢◌, ◌+◌, ◌-◌, ◌<◌, ◌≤◌, ◌==◌, ◌++◌, ◌∷◌, ◌∙◌, ℕ, zero, suc, List, [], All, true, false, length, set, get_or, sum_by, arith, refl, sym, ap, subst, append_assoc, length-append, ⊎_elim}
use Rattle.std.specs.List.Sorted.{IsStrictlyIncreasing}
use Rattle.std.proofs.lemmas.Bool.Decides.{nat_tests}
use Rattle.std.proofs.lemmas.List.{get_or_default}
use Rattle.std.proofs.lemmas.List.Concat.{flat_map-append}
use Rattle.std.proofs.lemmas.List.Elements.{All-contains, Contains-append_right}
use Rattle.std.proofs.lemmas.List.Sums.{sum_by-append, sum_by_push}
use mathlib.Core.Option.{some, some-injective, some-ne-none}
use lib.ListN.{get_elem?}
use Rattle.crossbeam_queue.specs.Fifo.{Pushes, Pops, Forks, Merges, Learns}
use Rattle.crossbeam_queue.proofs.Lists.{at_set, at_snoc}
use Rattle.list_facts.proofs.Counts.{contained_counts, counted_contained, one_for, permutation_of_sums}
use Rattle.list_facts.proofs.Rising.{All_below_next, IsStrictlyIncreasing-push}
use Rattle.scrub_pool.specs.declared.rule.View.{View}
use Rattle.scrub_pool.specs.Passes.{one_list}
use Rattle.scrub_pool.specs.steps.Account.{all_of, view_of, IsView, Accounts, IsTaken, AreAllTaken}
use Rattle.scrub_pool.proofs.Totals.{total_set, total_at, total_two, total_only}

-- what holds of each pass, after one changed
all_set : (F : View → Type 0) (views : List View) (port : ℕ) (w : View) → F w →
    ((j : ℕ) (u : View) → j ≢ port → get_elem? views j ≡ some u → F u) → (j : ℕ) (u : View) →
    get_elem? (set views port w) j ≡ some u → F u
all_set F views port w mine others j u at =
    ⊎_elim (λ (x : (j ≡ port) × (w ≡ u)). subst F x.1 mine)
    (λ (x : (j ≢ port) × (get_elem? views j ≡ some u)). others j u x.0 x.1) (at_set views port j w u at)

-- if the first pass has none out, all others are joined
alone : (items : List ℕ) (views : List View) (h : Accounts items views) (port : ℕ) (v : View) →
    get_elem? views port ≡ some v → v.firsts ≡ 1 → v.out ≡ 0 →
    (j : ℕ) (u : View) → j ≢ port → get_elem? views j ≡ some u → u.firsts + u.lives ≡ 0
alone items views h port v at one none j u differ there =
    let two = total_two (λ (w : View). w.firsts) views port j v u differ at there in
    let outs =
    total_only (λ (w : View). w.out) views port v at
    (λ k w other here. let pair = total_two (λ (x : View). x.firsts) views port k v w other at here in (h.each k w here).none_out (omega (arith, pair, one, h.one_first))) in
    let mine = total_at (λ (w : View). w.lives) views j u there in
    omega (arith, two, outs, mine, one, none, h.one_first, h.out_is)

only : (a : View) (j : ℕ) (u : View) → get_elem? (a ∷ []) j ≡ some u → a ≡ u
only a zero u at = some-injective a u at
only a (suc j) u at = absurd (some-ne-none u (sym at))

-- The rule holds of an empty queue with one pass, the first, which took nothing.
pub begins : Accounts [] (view_of 1 0 0 [] [] [] ∷ [])
begins = record {
  pushed = [];
  before = [];
  pushed_is = refl;
  rising = λ k within. absurd (omega (arith, within));
  taken = λ f. refl;
  one_first = refl;
  out_is = refl;
  each = λ j u at. subst (IsView []) (only (view_of 1 0 0 [] [] []) j u at) (record {
    none_out = λ no. refl;
    nothing = λ no. absurd (omega (arith, no));
    knows = λ _. refl;
  });
}

-- an extent is pushed
pub pushes : (n port : ℕ) (v : View) (x : ℕ) → v.firsts ≡ 1 → v.out ≡ 0 → All (λ y. y < x) v.pushed →
    Pushes Accounts n port v x (λ w. w ≡ view_of v.firsts v.lives v.out (v.pushed ++ x ∷ []) v.own v.joined)
pushes n port v x one none above items views _ h at =
    let w = view_of v.firsts v.lives v.out (v.pushed ++ x ∷ []) v.own v.joined in
    let fits = h.each port v at in
    let same : v.pushed ≡ h.pushed = fits.knows (omega (arith, one)) in (
      w,
      record {
        pushed = h.pushed ++ x ∷ [];
        before = h.before;
        pushed_is = ap (λ l. l ++ x ∷ []) h.pushed_is ∙ append_assoc h.before items (x ∷ []);
        rising = IsStrictlyIncreasing-push h.pushed x h.rising (rw same at above);
        taken = λ f. omega (arith, total_set (λ u. sum_by f (all_of u)) views port v w at, h.taken f);
        one_first = omega (arith, total_set (λ u. u.firsts) views port v w at, h.one_first);
        out_is = omega (
          arith,
          total_set (λ u. u.out) views port v w at,
          total_set (λ u. u.lives) views port v w at,
          h.out_is,
        );
        each = all_set (IsView (h.pushed ++ x ∷ [])) views port w (record {
          none_out = fits.none_out;
          nothing = fits.nothing;
          knows = λ _. ap (λ l. l ++ x ∷ []) same;
        })
            (λ j u differ there.
            let was = h.each j u there in
            let joined = alone items views h port v at one none j u differ there in
            record { none_out = was.none_out; nothing = was.nothing; knows = λ some_part. absurd (omega (arith, some_part, joined)) });
      },
      refl,
    )

-- one is taken
pub takes : (port : ℕ) (v : View) → 0 < v.firsts + v.lives → Pops Accounts port v (IsTaken v)
takes port v alive x items views h at =
    let w = view_of v.firsts v.lives v.out v.pushed (v.own ++ x ∷ []) v.joined in
    let fits = h.each port v at in
    let same : v.pushed ≡ h.pushed = fits.knows alive in
    let below = All_below_next h.before items x (subst IsStrictlyIncreasing h.pushed_is h.rising) in (
      w,
      record {
        pushed = h.pushed;
        before = h.before ++ x ∷ [];
        pushed_is = h.pushed_is ∙ sym (append_assoc h.before (x ∷ []) items);
        rising = h.rising;
        taken = λ f. omega (
          arith,
          total_set (λ u. sum_by f (all_of u)) views port v w at,
          h.taken f,
          sum_by_push f h.before x,
          sum_by-append f (v.own ++ x ∷ []) (one_list v.joined),
          sum_by_push f v.own x,
          sum_by-append f v.own (one_list v.joined),
        );
        one_first = omega (arith, total_set (λ u. u.firsts) views port v w at, h.one_first);
        out_is = omega (
          arith,
          total_set (λ u. u.out) views port v w at,
          total_set (λ u. u.lives) views port v w at,
          h.out_is,
        );
        each =
            all_set (IsView h.pushed) views port w
            (record {
              none_out = fits.none_out;
              nothing = λ none. absurd (omega (arith, none, alive));
              knows = fits.knows;
            })
            (λ j u differ there. h.each j u there);
      },
      record {
        view = refl;
        pushed = rw (same ∙ h.pushed_is) (Contains-append_right h.before (x ∷ items) x (0, omega arith, refl));
        above = λ k d within.
            let y = get_or (all_of v) k d in
            let mine = contained_counts (all_of v) y (k, within, get_or_default (all_of v) k y d within) in
            All-contains (λ z. z < x) h.before y below
            (counted_contained h.before y (omega (arith, mine, total_at (λ u. sum_by (one_for y) (all_of u)) views port v at, h.taken (one_for y))));
      },
    )

-- who finds none knows that all are taken
pub all_taken : (port : ℕ) (v : View) → 0 < v.firsts + v.lives → Learns Accounts port v (AreAllTaken v)
all_taken port v alive items views h at one none empty =
    permutation_of_sums (all_of v) v.pushed (λ f.
    let gone : (j : ℕ) (u : View) → j ≢ port → get_elem? views j ≡ some u → sum_by f (all_of u) ≡ 0 = λ j u differ there.
    let nothing = (h.each j u there).nothing (alone items views h port v at one none j u differ there) in
    ap (λ (p : List ℕ × List (List ℕ)). sum_by f (p.0 ++ one_list p.1)) (λ i. (nothing.0 i, nothing.1 i)) in
    let pushed : sum_by f v.pushed ≡ sum_by f (h.before ++ items) =
    ap (sum_by f) ((h.each port v at).knows alive ∙ h.pushed_is) in
    let left : sum_by f items ≡ 0 = ap (sum_by f) (nil items empty) in
    omega
    (arith, total_only (λ u. sum_by f (all_of u)) views port v at gone, pushed, left, h.taken f, sum_by-append f h.before items))
  where
    nil : (xs : List ℕ) → length xs ≡ 0 → xs ≡ []
    nil [] is = refl
    nil (x ∷ xs) is = absurd (omega (arith, is))

-- The queue holds no more extents than were pushed.
pub queue_at_most_pushed : (port : ℕ) (v : View) → 0 < v.firsts + v.lives →
    Learns Accounts port v (λ items. length items ≤ length v.pushed)
queue_at_most_pushed port v alive items views h at =
    let pushed : length v.pushed ≡ length (h.before ++ items) =
    ap (λ (l : List ℕ). length l) ((h.each port v at).knows alive ∙ h.pushed_is) in
    omega (arith, pushed, length-append h.before items)

-- a member is forked off
pub forks : (port : ℕ) (v : View) → v.firsts ≡ 1 →
    Forks Accounts port v (view_of v.firsts v.lives (v.out + 1) v.pushed v.own v.joined) (view_of 0 1 0 v.pushed [] [])
forks port v one items views h at =
    let left = view_of v.firsts v.lives (v.out + 1) v.pushed v.own v.joined in
    let right = view_of 0 1 0 v.pushed [] [] in
    let was = set views port left in
    let fits = h.each port v at in
    let after : (f : View → ℕ) → sum_by f (was ++ right ∷ []) + f v ≡ sum_by f views + f left + f right =
    λ f. omega (arith, total_set f views port v left at, sum_by_push f was right) in
    record {
      pushed = h.pushed;
      before = h.before;
      pushed_is = h.pushed_is;
      rising = h.rising;
      taken = λ f. omega (arith, after (λ u. sum_by f (all_of u)), h.taken f);
      one_first = omega (arith, after (λ u. u.firsts), h.one_first);
      out_is = omega (arith, after (λ u. u.out), after (λ u. u.lives), h.out_is);
      each = λ j u there. ⊎_elim
          (all_set (IsView h.pushed) views port left (record { none_out = λ no. absurd (omega (arith, no, one)); nothing = λ no. absurd (omega (arith, no, one)); knows = fits.knows }) (λ k w differ here. h.each k w here) j u)
          (λ (is : right ≡ u). subst (IsView h.pushed) is (record { none_out = λ _. refl; nothing = λ no. absurd (omega (arith, no)); knows = λ _. fits.knows (omega (arith, one)) }))
          (at_snoc was right u j there);
    }

-- a member is joined
pub merges : (port : ℕ) (v : View) (other : ℕ) (w : View) → v.firsts ≡ 1 → w.firsts ≡ 0 → w.lives ≡ 1 →
    Merges Accounts port v other w (view_of v.firsts v.lives (v.out - 1) v.pushed v.own (v.joined ++ w.own ∷ w.joined)) (view_of 0 0 0 [] [] [])
merges port v other w one zero_first live items views h at two at_other =
    let both = view_of v.firsts v.lives (v.out - 1) v.pushed v.own (v.joined ++ w.own ∷ w.joined) in
    let spent = view_of 0 0 0 [] [] [] in
    let was = set views port both in
    let fits = h.each port v at in
    let there : get_elem? views other ≡ some w =
    ⊎_elim (λ x. absurd (two x.0)) (λ x. x.1) (at_set views port other both w at_other) in
    let others : (k : ℕ) (u : View) → k ≢ port → get_elem? views k ≡ some u → u.out ≡ 0 = λ k u differ here.
    let pair = total_two (λ (x : View). x.firsts) views port k v u differ at here in
    (h.each k u here).none_out (omega (arith, pair, one, h.one_first)) in
    let outs = total_only (λ (u : View). u.out) views port v at others in
    let mine = total_at (λ (u : View). u.lives) views other w there in
    let after : (f : View → ℕ) → sum_by f (set was other spent) + f v + f w ≡ sum_by f views + f both + f spent =
    λ f. omega (arith, total_set f views port v both at, total_set f was other w spent at_other) in
    record {
      pushed = h.pushed;
      before = h.before;
      pushed_is = h.pushed_is;
      rising = h.rising;
      taken = λ f.
          let lists : sum_by f (one_list (v.joined ++ w.own ∷ w.joined)) ≡ sum_by f (one_list v.joined ++ (w.own ++ one_list w.joined)) =
          ap (sum_by f) (flat_map-append (λ (xs : List ℕ). xs) v.joined (w.own ∷ w.joined)) in
          omega (
            arith,
            after (λ u. sum_by f (all_of u)),
            h.taken f,
            lists,
            sum_by-append f v.own (one_list (v.joined ++ w.own ∷ w.joined)),
            sum_by-append f v.own (one_list v.joined),
            sum_by-append f (one_list v.joined) (w.own ++ one_list w.joined),
            sum_by-append f w.own (one_list w.joined),
          );
      one_first = omega (arith, after (λ u. u.firsts), h.one_first, zero_first);
      out_is =
          omega (arith, after (λ u. u.out), after (λ u. u.lives), others other w two there, outs, mine, live, h.out_is);
      each = all_set (IsView h.pushed) was other spent (record {
        none_out = λ _. refl;
        nothing = λ _. (refl, refl);
        knows = λ no. absurd (omega (arith, no));
      })
          (λ j u differ here. all_set (IsView h.pushed) views port both (record { none_out = λ no. absurd (omega (arith, no, one)); nothing = λ no. absurd (omega (arith, no, one)); knows = fits.knows }) (λ k x apart now. h.each k x now) j u here);
    }

-- a test for 1
pub is_one : (n : ℕ) → (n == 1) ≡ true → n ≡ 1
is_one n test = grind (arith, nat_tests)

-- and for none
pub not_one : (n m : ℕ) → n + m ≡ 1 → (n == 1) ≡ false → n ≡ 0
not_one n m sum test = let differ : n ≢ 1 = λ same. grind (arith, nat_tests) in omega (arith, sum, differ)
