-- The shares of a disk that readers read, put together.
use Rattle.std.proofs.Common.{◌≡◌, ◌<◌, ◌+◌, ◌-◌, ◌*◌, ◌/◌, ◌%◌, ℕ, Bool, true, false, List, [], ◌∷◌, ◌++◌, ◌⊎◌, length, length-append, get_or, slice_get, arith, refl, sym, ◌∙◌, ap, inl, inr, Option, Some, None, IfSome, All, sum_by, Contains}
use Rattle.scrub_disk.specs.Raw.{MayFailIn}
use Rattle.std.proofs.lemmas.Nat.{div_below, div-mul-add, div-add-mod'}
use Rattle.std.proofs.Math.Nat.{mod-lt}
use Rattle.std.proofs.lemmas.Bool.{cases_lt}
use Rattle.std.proofs.lemmas.List.{get_or_append_left, get_or-append_right}
use Rattle.std.proofs.lemmas.List.Elements.{All-append, All-cons, All-head, All-nil, All-same, All-tail, Contains-append_left, Contains-append_right}
use Rattle.std.proofs.lemmas.List.Sums.{sum_by-append, sum_by-cons}
use Rattle.scrub_disk.specs.declared.blocks.Block.{Block}
use Rattle.scrub_disk.specs.Stored.{block_text}
use Rattle.scrub_disk.specs.steps.Added.{AddsPages}
use Rattle.scrub_disk.specs.steps.Ahead.{HoldsFrom, IsReadPart, IsReadFrom, MarksFrom}

-- pages that were read after the first ones
read_more_text : (text : List ℕ) (fails : ℕ → ℕ → Bool) (page s x c f1 f2 : ℕ) (bytes more : List ℕ) (marks marked : List Bool) → 0 < page →
    length bytes ≡ page * x → length marks ≡ x → length more ≡ page * c → length marked ≡ c →
    IsReadPart text fails s page f1 bytes marks → IsReadPart text fails (s + x) page f2 more marked →
    IsReadPart text fails s page (f1 + f2) (bytes ++ more) (marks ++ marked)
read_more_text text fails page s x c f1 f2 bytes more marks marked pos lb lm lmore lmarked r1 r2 = record {
  held = λ i hi unmarked. elim (cases_lt i (length bytes)) [
    | inl less ↦
        let q : i / page < x = div_below i page x pos (omega (arith, less, lb)) in
        r1.held i less (sym (get_or_append_left marks marked true (i / page) (omega (arith, q, lm))) ∙ unmarked)
        ∙ ap Some (sym (get_or_append_left bytes more 0 i less))
    | inr past ↦ behind (i - length bytes) i (omega (arith, past)) (omega (arith, past, hi, length-append bytes more)) unmarked
  ];
  lost = record {
    failed = r1.lost.failed ++ r2.lost.failed;
    few = omega (arith, r1.lost.few, r2.lost.few, length-append r1.lost.failed r2.lost.failed);
    each = All-append (λ n. MayFailIn fails (n * page) page) r1.lost.failed r2.lost.failed r1.lost.each r2.lost.each;
    only = λ n hn is. elim (cases_lt n x) [
      | inl less ↦ elim (r1.lost.only n (omega (arith, less, lm)) (sym (get_or_append_left marks marked false n (omega (arith, less, lm))) ∙ is)) [
        | inl cut ↦ inl cut
        | inr there ↦ inr (Contains-append_left r1.lost.failed r2.lost.failed (s + n) there)
      ]
      | inr past ↦ behind_mark (n - x) n (omega (arith, past)) (omega (arith, past, hn, length-append marks marked, lm)) is
    ];
  };
}
  where
    behind : (j i : ℕ) → i ≡ length bytes + j → j < length more → get_or (marks ++ marked) (i / page) true ≡ false →
        slice_get text (s * page + i) ≡ Some (get_or (bytes ++ more) i 0)
    behind j i e hj unmarked =
        let small : j % page < page = mod-lt j pos in
        let whole : j / page * page + j % page ≡ j = div-add-mod' j page in
        let at : i ≡ (x + j / page) * page + j % page = omega (arith, e, lb, whole) in
        let own : i / page ≡ x + j / page = ap (λ m. m / page) at ∙ div-mul-add (x + j / page) page (j % page) small in
        let clear : get_or marked (j / page) true ≡ false =
        ap (λ m. get_or marked m true) (let k : j / page ≡ x + j / page - x = omega arith in k)
        ∙ sym (get_or-append_right marks marked x (x + j / page) true lm (omega arith))
        ∙ ap (λ m. get_or (marks ++ marked) m true) (sym own) ∙ unmarked in
        ap (slice_get text) (let k : s * page + i ≡ (s + x) * page + j = omega (arith, e, lb) in k)
        ∙ r2.held j hj clear
        ∙ ap Some
        (ap (λ m. get_or more m 0) (let k : j ≡ i - length bytes = omega (arith, e) in k)
        ∙ sym (get_or-append_right bytes more (length bytes) i 0 refl (omega (arith, e))))

    behind_mark : (k n : ℕ) → n ≡ x + k → k < length marked → get_or (marks ++ marked) n false ≡ true →
        (length text < (s + n) * page + page) ⊎ Contains (r1.lost.failed ++ r2.lost.failed) (s + n)
    behind_mark k n e hk is =
        let set' : get_or marked k false ≡ true =
        ap (λ m. get_or marked m false) (let h : k ≡ n - x = omega (arith, e) in h)
        ∙ sym (get_or-append_right marks marked x n false lm (omega (arith, e))) ∙ is in
        let same : s + n ≡ s + x + k = omega (arith, e) in
        rw same (elim (r2.lost.only k hk set') [
          | inl cut ↦ inl cut
          | inr there ↦ inr (Contains-append_right r1.lost.failed r2.lost.failed (s + x + k) there)
        ])

-- before any read
pub nothing_read : (known : Option (List ℕ)) (fails : ℕ → ℕ → Bool) (first page most : ℕ) → IsReadFrom known fails first page most [] []
nothing_read None fails first page most = tt
nothing_read (Some text) fails first page most = record {
  held = λ i hi unmarked. absurd (omega (arith, hi));
  lost = record {
    failed = [];
    few = omega arith;
    each = All-nil (λ n. MayFailIn fails (n * page) page);
    only = λ n hn marked. absurd (omega (arith, hn));
  };
}

-- the same if the raw bytes are known
pub read_more_parts : (known : Option (List ℕ)) (fails : ℕ → ℕ → Bool) (page s t x c f1 f2 : ℕ) (bytes more all : List ℕ) (marks marked every : List Bool) →
    0 < page → length bytes ≡ page * x → length marks ≡ x → length more ≡ page * c → length marked ≡ c →
    all ≡ bytes ++ more → every ≡ marks ++ marked →
    t ≡ s + x → IsReadFrom known fails s page f1 bytes marks → IsReadFrom known fails t page f2 more marked →
    IsReadFrom known fails s page (f1 + f2) all every
read_more_parts None fails page s t x c f1 f2 bytes more all marks marked every pos lb lm lmore lmarked is marks_are at r1 r2 = tt
read_more_parts (Some text) fails page s t x c f1 f2 bytes more all marks marked every pos lb lm lmore lmarked is marks_are at r1 r2 =
    rw (is, marks_are) (read_more_text text fails page s x c f1 f2 bytes more marks marked pos lb lm lmore lmarked r1 (rw at at r2))

-- pages whose bytes were read, wherever they aren't marked
read_into : (raw : List ℕ) (fails : ℕ → ℕ → Bool) (first page failures : ℕ) (bytes text : List ℕ) (marks : List Bool) →
    length text ≡ length bytes →
    ((i : ℕ) → i < length bytes → get_or marks (i / page) true ≡ false → get_or text i 0 ≡ get_or bytes i 0) →
    IsReadPart raw fails first page failures bytes marks → IsReadPart raw fails first page failures text marks
read_into raw fails first page failures bytes text marks size same r = record {
  held = λ i hi unmarked.
      let within : i < length bytes = omega (arith, hi, size) in
      r.held i within unmarked ∙ ap Some (sym (same i within unmarked));
  lost = r.lost;
}

-- pages that were read into a buffer and put into a block
pub block_read : (known : Option (List ℕ)) (fails : ℕ → ℕ → Bool) (first from page failures : ℕ) (bytes text all : List ℕ) (marks every : List Bool) →
    first ≡ from → every ≡ marks → all ≡ text → length text ≡ length bytes →
    ((i : ℕ) → i < length bytes → get_or every (i / page) true ≡ false → get_or text i 0 ≡ get_or bytes i 0) →
    IfSome known (λ raw. HoldsFrom raw (first * page) page marks bytes) →
    IfSome known (λ raw. MarksFrom raw fails first page (length marks) failures marks) →
    IsReadFrom known fails from page failures all every
block_read None fails first from page failures bytes text all marks every at marked is size same holds lost = tt
block_read (Some raw) fails first from page failures bytes text all marks every at marked is size same holds lost =
    rw (← at, is)
    (read_into raw fails first page failures bytes text every size same
    (rw marked (record { held = holds; lost = lost })))

-- pages that were read into a buffer and added to a block
pub more_pages_read : (known was : Option (List ℕ)) (fails : ℕ → ℕ → Bool) (first at page done n failed more both : ℕ) (old new : Block) (bytes : List ℕ)
    (marks unreadable marked every : List Bool) → 0 < page → was ≡ known → at ≡ first + done → both ≡ failed + more →
    length (block_text page old) ≡ done * page → length marks ≡ done → length bytes ≡ n * page → length unreadable ≡ n →
    marked ≡ unreadable → every ≡ marks ++ marked → AddsPages page old new (length marked) bytes marked →
    IsReadFrom known fails first page failed (block_text page old) marks →
    IfSome was (λ raw. HoldsFrom raw (at * page) page unreadable bytes) →
    IfSome was (λ raw. MarksFrom raw fails at page (length unreadable) more unreadable) →
    (length (block_text page new) ≡ (done + n) * page) × IsReadFrom known fails first page both (block_text page new) every
more_pages_read known was fails first at page done n failed more both old new bytes marks unreadable marked every pos same is sum size each full count marked_is all adds read holds lost = (
  ap length adds.text ∙ length-append (block_text page old) adds.added ∙ omega (arith, size, added),
  rw sum
      (read_more_parts known fails page first at done n failed more (block_text page old) adds.added (block_text page new) marks marked every pos
      (omega (arith, size)) each (omega (arith, added)) counted adds.text all is read rest),
)
  where
    counted : length marked ≡ n
    counted = ap length marked_is ∙ count

    added : length adds.added ≡ n * page
    added = adds.size ∙ ap (λ m. m * page) counted

    rest : IsReadFrom known fails at page more adds.added marked
    rest =
        block_read known fails at at page more bytes adds.added adds.added unreadable marked refl marked_is refl
        (omega (arith, added, full))
        (λ i hi clear. adds.same i (let m : length marked * page ≡ n * page = ap (λ m. m * page) counted in omega (arith, hi, full, m)) clear)
        (rw same at holds) (rw same at lost)

-- what holds of all elements holds of those before the last and of the last
pub all_ends : {X : Type 0} (P : X → Type 0) (xs all : List X) (x : X) → all ≡ xs ++ x ∷ [] → All P all → All P xs × P x
all_ends P xs all x is h = go xs (All-same P (xs ++ x ∷ []) all (sym is) h)
  where
    go : (zs : List _) → All P (zs ++ x ∷ []) → All P zs × P x
    go [] h = (All-nil P, All-head P x [] h)
    go (z ∷ zs) h =
        let rest = go zs (All-tail P z (zs ++ x ∷ []) h) in
        (All-cons P z zs (All-head P z (zs ++ x ∷ []) h) rest.0, rest.1)

-- a sum over all elements
pub sum_ends : {X : Type 0} (f : X → ℕ) (xs all : List X) (x : X) → all ≡ xs ++ x ∷ [] → sum_by f all ≡ sum_by f xs + f x
sum_ends f xs all x is =
    ap (λ l. sum_by f l) is ∙ sum_by-append f xs (x ∷ []) ∙ ap (λ m. sum_by f xs + m) (sum_by-cons f x [] ∙ (let none : f x + sum_by f [] ≡ f x = omega arith in none))
