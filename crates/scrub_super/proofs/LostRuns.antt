-- The runs of lost blocks, one block after the other.
use Rattle.std.proofs.Common.{◌≡◌, ◌<◌, ◌≤◌, ◌+◌, ◌-◌, ◌*◌, ◌++◌, ◌&&◌, ℕ, Bool, true, false, not, cond, List, [], ◌∷◌, length, get_or, arith, refl, sym, ◌∙◌, inl, inr}
use Rattle.std.specs.List.{Contains, AllPairs}
use Rattle.std.proofs.lemmas.Bool.{cases_lt, false≢true}
use Rattle.std.proofs.lemmas.List.{append-nil}
use Rattle.std.proofs.lemmas.List.Elements.{Contains-push, Contains-push_cases, Contains-append_left}
use Rattle.list_facts.proofs.Rising.{rises_more}
use Rattle.scrub_super.specs.declared.unknown_sizes.LostBytes.{LostBytes}
use Rattle.scrub_super.specs.Blocks.{IsMarked, IsLostRun}
use Rattle.scrub_super.specs.steps.BlocksRead.{ended_run}
use Rattle.scrub_super.specs.UnknownSizes.{AreLostRanges}
use Rattle.scrub_super.proofs.BlocksFront.{mark_within}

-- all blocks from `first` up to a block are lost, and the one before `first` isn't
pub record RunsFrom (lost : List Bool) (first block : ℕ) : Type 0 where
  pub from : first ≤ block
  pub all : (n : ℕ) → first ≤ n → n < block → IsMarked lost n
  pub not_before : (n : ℕ) → n + 1 ≡ first → IsMarked lost n → ⊥

-- the runs that end at a block or before it
pub record AreRunsTo (lost : List Bool) (block : ℕ) (ranges : List LostBytes) : Type 0 where
  pub rising : AllPairs (λ a b. a.from < b.from) ranges
  pub in_list : (l : LostBytes) (first stop : ℕ) → IsLostRun lost first stop → stop ≤ block → l.from ≡ first * 512 →
      l.to ≡ stop * 512 → Contains ranges l
  pub are : (l : LostBytes) → Contains ranges l →
      (first stop : ℕ) × IsLostRun lost first stop × (stop ≤ block) × (l.from ≡ first * 512) × (l.to ≡ stop * 512)

module _ {lost : List Bool} (block : ℕ) where
  -- If the block isn't lost, the next run of lost blocks begins after it, if at all.
  pub starts_behind : get_or lost block false ≡ false → RunsFrom lost (block + 1) (block + 1)
  starts_behind kept = record {
    from = omega arith;
    all = λ n low high. absurd (omega (arith, low, high));
    not_before = λ n e marked.
        let here : n ≡ block = omega (arith, e) in
        false≢true (sym kept ∙ (rw here at marked));
  }

  -- If the block is lost, the run of lost blocks before it goes on with it.
  pub goes_on : {first : ℕ} → get_or lost block false ≡ true → RunsFrom lost first block →
      RunsFrom lost first (block + 1)
  goes_on gone h = record {
    from = omega (arith, h.from);
    all = λ n low high. elim (cases_lt n block) [
      | inl below ↦ h.all n low below
      | inr here ↦ let here' : n ≡ block = omega (arith, here, high) in rw here' gone
    ];
    not_before = h.not_before;
  }

-- a run that ends with this block begins where the lost blocks do
same_run : {lost : List Bool} {first : ℕ} (block : ℕ) {f : ℕ} → RunsFrom lost first (block + 1) →
    IsLostRun lost f (block + 1) →
    f ≡ first
same_run {lost} {first} block {f} h run = elim (cases_lt f first) [
  | inl low ↦
      absurd
      (h.not_before (first - 1) (omega (arith, low)) (run.all (first - 1) (omega (arith, low)) (omega (arith, h.from, low))))
  | inr high ↦ elim (cases_lt first f) [
    | inl above ↦
        absurd
        (run.not_before (f - 1) (omega (arith, above)) (h.all (f - 1) (omega (arith, above)) (omega (arith, run.some, above))))
    | inr same ↦ omega (arith, high, same)
  ]
]

-- if no run ends with this block, the runs are those so far
runs_kept : {lost : List Bool} {block : ℕ} {ranges : List LostBytes} →
    ((f : ℕ) → IsLostRun lost f (block + 1) → ⊥) → AreRunsTo lost block ranges → AreRunsTo lost (block + 1) ranges
runs_kept {lost} {block} none h = record {
  rising = h.rising;
  in_list = λ l first stop run low hf ht. elim (cases_lt block stop) [
    | inl here ↦ let end : stop ≡ block + 1 = omega (arith, here, low) in absurd (none first (rw end at run))
    | inr before ↦ h.in_list l first stop run before hf ht
  ];
  are = λ l c. let r = h.are l c in (r.0, r.1, r.2, omega (arith, r.3), r.4, r.5);
}

same_bytes : {l m : LostBytes} → l.from ≡ m.from → l.to ≡ m.to → l ≡ m
same_bytes hf ht = λ i. record { from = hf i; to = ht i }

-- and if one does, it is one more
runs_more : {lost : List Bool} {first block : ℕ} {ranges : List LostBytes} (l : LostBytes) →
    RunsFrom lost first (block + 1) → first < block + 1 → (IsMarked lost (block + 1) → ⊥) →
    l.from ≡ first * 512 → l.to ≡ (block + 1) * 512 → AreRunsTo lost block ranges →
    AreRunsTo lost (block + 1) (ranges ++ l ∷ [])
runs_more {lost} {first} {block} {ranges} l from some ends hf ht h = record {
  rising =
      rises_more (λ x. x.from) ranges l h.rising
      (λ x c. let r = h.are x c in omega (arith, r.4, hf, lower r.0 r.1 r.2 r.3));
  in_list = λ x f stop run low xf xt. elim (cases_lt block stop) [
    | inl here ↦
        let end : stop ≡ block + 1 = omega (arith, here, low) in
        let begin : f ≡ first = same_run block from (rw end at run) in
        let same : x ≡ l = same_bytes (omega (arith, hf, xf, begin)) (omega (arith, ht, xt, end)) in
        rw same (Contains-push ranges l)
    | inr before ↦ Contains-append_left ranges (l ∷ []) x (h.in_list x f stop run before xf xt)
  ];
  are = λ x c. elim (Contains-push_cases ranges l x c) [
    | inl was ↦ let r = h.are x was in (r.0, r.1, r.2, omega (arith, r.3), r.4, r.5)
    | inr same ↦ rw (← same) (first, block + 1, this, omega arith, hf, ht)
  ];
}
  where
    this : IsLostRun lost first (block + 1)
    this = record { some = some; all = from.all; not_before = from.not_before; not_behind = ends }

    lower : (f stop : ℕ) → IsLostRun lost f stop → stop ≤ block → f < first
    lower f stop run low = elim (cases_lt stop first) [
      | inl below ↦ omega (arith, run.some, below)
      | inr above ↦ absurd (run.not_behind (from.all stop above (omega (arith, low))))
    ]

-- the run that ends with a block, if its mark and the next one say so
pub runs_next : {lost : List Bool} {first block : ℕ} {ranges more : List LostBytes} → RunsFrom lost first (block + 1) →
    more ≡ ranges ++ ended_run lost first block → AreRunsTo lost block ranges → AreRunsTo lost (block + 1) more
runs_next {lost} {first} {block} {ranges} from e h =
    rw e (by (get_or lost block false) (get_or lost (block + 1) false) refl refl)
  where
    this : LostBytes
    this = record { from = first * 512; to = (block + 1) * 512 }

    kept : ((f : ℕ) → IsLostRun lost f (block + 1) → ⊥) → AreRunsTo lost (block + 1) (ranges ++ [])
    kept none = rw append-nil (runs_kept none h)

    begins : get_or lost block false ≡ true → first < block + 1
    begins marked = elim (cases_lt first (block + 1)) [
      | inl low ↦ low
      | inr high ↦ absurd (from.not_before block (omega (arith, high, from.from)) marked)
    ]

    by : (b c : Bool) → get_or lost block false ≡ b → get_or lost (block + 1) false ≡ c →
        AreRunsTo lost (block + 1) (ranges ++ cond (b && not c) (this ∷ []) [])
    by false c hb hc = kept (λ f run. false≢true (sym hb ∙ run.all block (omega (arith, run.some)) (omega arith)))
    by true true hb hc = kept (λ f run. run.not_behind hc)
    by true false hb hc = runs_more this from (begins hb) (λ marked. false≢true (sym hc ∙ marked)) refl refl h

-- a run ends in the list
run_within : {lost : List Bool} {first stop : ℕ} → IsLostRun lost first stop → stop ≤ length lost
run_within {lost} {stop = stop} run =
    let last : IsMarked lost (stop - 1) = run.all (stop - 1) (omega (arith, run.some)) (omega (arith, run.some)) in
    omega (arith, run.some, mark_within lost (stop - 1) last)

-- past all blocks, the runs are all lost ranges
pub all_runs : {lost : List Bool} {block : ℕ} {ranges : List LostBytes} → length lost ≤ block →
    AreRunsTo lost block ranges → AreLostRanges lost ranges
all_runs enough h = record {
  rising = h.rising;
  exact = λ l. (
    (λ c. let r = h.are l c in (r.0, r.1, r.2, r.4, r.5)),
    (λ x. h.in_list l x.0 x.1 x.2 (omega (arith, run_within x.2, enough)) x.3 x.4),
  );
}
