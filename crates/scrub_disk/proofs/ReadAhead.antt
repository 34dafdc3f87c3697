-- Pages that are read one after another, many at once where that can be.
use Rattle.std.proofs.Common.{◌≡◌, ◌<◌, ◌≤◌, ◌+◌, ◌-◌, ◌*◌, ◌/◌, ℕ, Bool, true, false, not, List, [], ◌∷◌, ◌++◌, ◌⊎◌, length, length-append, get_or, set, slice_get, arith, sym, ◌∙◌, ap, inl, inr, Option, Some, None, IfSome, get_or-set_same, get_or-set_other, ◌≢◌}
use Rattle.std.proofs.lemmas.Nat.{div_below, div-mul-add}
use Rattle.std.specs.Bool.{OnTrue, OnFalse}
use Rattle.std.proofs.lemmas.Bool.{cases_lt, cases_eq, false≢true}
use Rattle.std.proofs.lemmas.List.Elements.{All-push, Contains-push, Contains-append_left}
use borrow.Rule.Slice.PartMut.{put_mid}
use Rattle.list_facts.proofs.Bools.{true_from_not}
use Rattle.scrub_disk.specs.Raw.{IsRead, MayFailIn}
use Rattle.scrub_disk.specs.steps.Ahead.{StandsBetween, HasFailed, MarksFrom}
use Rattle.scrub_disk.proofs.RawBytes.{read_more}

-- one more read brought the bytes after those at the front of a list
pub rest_more : (raw was : Option (List ℕ)) (offset done n : ℕ) (out piece : List ℕ) → was ≡ raw → done ≤ length out →
    length piece ≡ length out - done →
    IfSome raw (λ known. StandsBetween known offset 0 done out) → IsRead was (offset + done) piece n →
    IfSome raw (λ known. StandsBetween known offset 0 (done + n) (put_mid done (length out - done) out piece))
rest_more None was offset done n out piece e within l before read = tt
rest_more (Some known) was offset done n out piece e within l before read =
    λ i low hi. read_more (Some known) was offset done n out piece e within l (λ k hk. before k (omega arith) hk) read i hi

-- each byte below page n is at its place, unless its page is marked
abbrev pub HeldAhead : List ℕ → ℕ → ℕ → ℕ → List Bool → List ℕ → Type 0
HeldAhead known place page n marks bytes =
    (i : ℕ) → i < n * page → get_or marks (i / page) true ≡ false → slice_get known (place + i) ≡ Some (get_or bytes i 0)

on_true : (b : Bool) {P : Type 0} → b ≡ true → OnTrue b P → P
on_true true e p = p
on_true false e p = absurd (false≢true e)

-- one more page was read whole, or marked
held_next : (known : List ℕ) (place page n : ℕ) (marks : List Bool) (bytes more : List ℕ) (whole : Bool) → 0 < page →
    n < length marks →
    HeldAhead known place page n marks bytes → ((i : ℕ) → i < n * page → get_or more i 0 ≡ get_or bytes i 0) →
    OnTrue whole (StandsBetween known place (n * page) (n * page + page) more) →
    HeldAhead known place page (n + 1) (set marks n (not whole)) more
held_next known place page n marks bytes more whole pos below before kept read i hi unmarked = elim (cases_lt i (n * page)) [
  | inl less ↦
      let q : i / page < n = div_below i page n pos (omega (arith, less)) in
      let ne : i / page ≢ n = omega (arith, q) in
      before i less (sym (get_or-set_other marks n (i / page) (not whole) true ne) ∙ unmarked) ∙ ap Some (sym (kept i less))
  | inr past ↦
      let k : n * page + (i - n * page) ≡ i = omega (arith, past) in
      let small : i - n * page < page = omega (arith, past, hi) in
      let q : i / page ≡ n = ap (λ m. m / page) (sym k) ∙ div-mul-add n page (i - n * page) small in
      let is_whole : whole ≡ true =
      true_from_not whole
      (sym (get_or-set_same marks n (not whole) true below) ∙ ap (λ m. get_or (set marks n (not whole)) m true) (sym q) ∙ unmarked) in
      on_true whole is_whole read i past (omega (arith, small, past))
]

-- one more page, marked if it wasn't read whole: then it was cut, or one more failure was counted
marks_next : (known : List ℕ) (fails : ℕ → ℕ → Bool) (start page n before after : ℕ) (marks : List Bool) (whole : Bool) → n < length marks →
    before ≤ after →
    MarksFrom known fails start page n before marks →
    OnFalse whole ((length known < (start + n) * page + page) ⊎ HasFailed fails ((start + n) * page) page before after) →
    MarksFrom known fails start page (n + 1) after (set marks n (not whole))
marks_next known fails start page n before after marks true below le m lost = record {
  failed = m.failed;
  few = omega (arith, m.few, le);
  each = m.each;
  only = λ k hk marked. elim (cases_eq k n) [
    | inr ne ↦ m.only k (omega (arith, hk, ne)) (sym (get_or-set_other marks n k false false ne) ∙ marked)
    | inl e ↦
        absurd
        (false≢true (sym (get_or-set_same marks n false false below) ∙ ap (λ i. get_or (set marks n false) i false) (sym e) ∙ marked))
  ];
}
marks_next known fails start page n before after marks false below le m (inl cut) = record {
  failed = m.failed;
  few = omega (arith, m.few, le);
  each = m.each;
  only = λ k hk marked. elim (cases_eq k n) [
    | inr ne ↦ m.only k (omega (arith, hk, ne)) (sym (get_or-set_other marks n k true false ne) ∙ marked)
    | inl e ↦ inl (rw e cut)
  ];
}
marks_next known fails start page n before after marks false below le m (inr more) = record {
  failed = m.failed ++ (start + n) ∷ [];
  few = omega (arith, m.few, more.0, length-append m.failed ((start + n) ∷ []));
  each = All-push (λ k. MayFailIn fails (k * page) page) m.failed (start + n) m.each more.1;
  only = λ k hk marked. elim (cases_eq k n) [
    | inr ne ↦ elim (m.only k (omega (arith, hk, ne)) (sym (get_or-set_other marks n k true false ne) ∙ marked)) [
      | inl cut ↦ inl cut
      | inr there ↦ inr (Contains-append_left m.failed ((start + n) ∷ []) (start + k) there)
    ]
    | inl e ↦ inr (rw e (Contains-push m.failed (start + n)))
  ];
}

-- the same if the raw image's bytes are known
pub held_more_ahead : (raw was : Option (List ℕ)) (place page n : ℕ) (marks : List Bool) (bytes more : List ℕ) (whole : Bool) →
    was ≡ raw → 0 < page → n < length marks →
    IfSome raw (λ known. HeldAhead known place page n marks bytes) →
    ((i : ℕ) → i < n * page → get_or more i 0 ≡ get_or bytes i 0) →
    IfSome was (λ known. OnTrue whole (StandsBetween known place (n * page) (n * page + page) more)) →
    IfSome raw (λ known. HeldAhead known place page (n + 1) (set marks n (not whole)) more)
held_more_ahead None was place page n marks bytes more whole e pos below before kept read = tt
held_more_ahead (Some known) was place page n marks bytes more whole e pos below before kept read =
    held_next known place page n marks bytes more whole pos below before kept (here (rw e at read))
  where
    here : IfSome (Some known) (λ t. OnTrue whole (StandsBetween t place (n * page) (n * page + page) more)) →
        OnTrue whole (StandsBetween known place (n * page) (n * page + page) more)
    here r = r

-- If bytes are the raw ones from the end of page n on, they are so from the start of page n + 1 on.
pub stands_more_ahead : (raw was : Option (List ℕ)) (place page n reached : ℕ) (more : List ℕ) → was ≡ raw →
    IfSome was (λ known. StandsBetween known place (n * page + page) reached more) →
    IfSome raw (λ known. StandsBetween known place ((n + 1) * page) reached more)
stands_more_ahead None was place page n reached more e read = tt
stands_more_ahead (Some known) was place page n reached more e read =
    λ i low high. here (rw e at read) i (omega (arith, low)) high
  where
    here : IfSome (Some known) (λ t. StandsBetween t place (n * page + page) reached more) →
        StandsBetween known place (n * page + page) reached more
    here r = r

-- Marks are right as `MarksFrom` says with page n too, marked only if it was cut or a read in it failed.
pub marks_more_ahead : (raw was : Option (List ℕ)) (fails : ℕ → ℕ → Bool) (start page n first before after : ℕ) (marks : List Bool) (whole : Bool) →
    was ≡ raw → first ≤ before → before ≤ after → n < length marks →
    IfSome raw (λ known. MarksFrom known fails start page n (before - first) marks) →
    IfSome was (λ known. OnFalse whole
    ((length known < start * page + n * page + page) ⊎ HasFailed fails (start * page + n * page) page before after)) →
    IfSome raw (λ known. MarksFrom known fails start page (n + 1) (after - first) (set marks n (not whole)))
marks_more_ahead None was fails start page n first before after marks whole e le more below m lost = tt
marks_more_ahead (Some known) was fails start page n first before after marks whole e le more below m lost =
    marks_next known fails start page n (before - first) (after - first) marks whole below (omega (arith, le, more)) m
    (counted whole (rw e at lost))
  where
    place : start * page + n * page ≡ (start + n) * page
    place = omega arith

    counted : (b : Bool) →
        OnFalse b ((length known < start * page + n * page + page) ⊎ HasFailed fails (start * page + n * page) page before after) →
        OnFalse b ((length known < (start + n) * page + page) ⊎ HasFailed fails ((start + n) * page) page (before - first) (after - first))
    counted true l = l
    counted false (inl cut) = inl (omega (arith, cut))
    counted false (inr one) = inr (omega (arith, one.0, le), rw place at one.1)
