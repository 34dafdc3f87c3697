-- The lines of extents, one extent after another.
use Rattle.std.proofs.Common.{◌≡◌, ◌⊎◌, ◌+◌, ◌++◌, ◌∷◌, [], ℕ, zero, suc, List, Option, Some, IfOk, OnOk, Ok, Err, Result, length, arith, refl, sym, subst, ◌∙◌, ap, inl, inr, append-nil, append_assoc}
use Rattle.std.specs.List.{enumerate_from, flat_map, slice_get}
use Rattle.std.specs.Option.{unwrap_or}
use Rattle.std.proofs.lemmas.Grind.{flat_map-append}
use Rattle.std.proofs.lemmas.List.{length_push}
use Rattle.std.proofs.lemmas.Option.{none-some, same_Some}
use Rattle.scrub_disk.specs.Image.{Image}
use Rattle.scrub_super.specs.Plan.{PlanValue, pointer_of}
use Rattle.scrub_found.specs.Scrubbed.{Scrubbed}
use Rattle.scrub_compare.specs.Written.{AreFirstWritten, IsLeastNumber, IsWrittenIn, pointer_in, room_at}
use Rattle.scrub_compare.specs.Compare.{extent_lines, lines_in}

-- what follows from a result that is as it should be
pub on_ok : {T E : Type 0} (r : Result T E) (A B : Type 0) → OnOk r A → (A → B) → OnOk r B
on_ok (Ok t) A B a f = f a
on_ok (Err e) A B a f = tt

-- ---- lists that grow at their end

pub enumerate_push : {X : Type 0} (n : ℕ) (xs : List X) (x : X) → enumerate_from n (xs ++ x ∷ []) ≡ enumerate_from n xs ++ (n + length xs, x) ∷ []
enumerate_push n [] x = ap (λ (m : ℕ). (m, x) ∷ []) (let e : n ≡ n + 0 = omega arith in e)
enumerate_push {X} n (y ∷ xs) x =
    ap (λ (ps : List (ℕ × X)). (n, y) ∷ ps)
    (enumerate_push (n + 1) xs x ∙ ap (λ (m : ℕ). enumerate_from (n + 1) xs ++ (m, x) ∷ []) (let e : n + 1 + length xs ≡ n + suc (length xs) = omega arith in e))

pub pushed : {X : Type 0} (xs : List X) (x : X) (k : ℕ) (y : X) → slice_get (xs ++ x ∷ []) k ≡ Some y →
    (slice_get xs k ≡ Some y) ⊎ ((k ≡ length xs) × (x ≡ y))
pushed [] x zero y is = inr (refl, same_Some x y is)
pushed [] x (suc k) y is = absurd (none-some y is)
pushed (z ∷ xs) x zero y is = inl is
pushed (z ∷ xs) x (suc k) y is = elim (pushed xs x k y is) [
  | inl before ↦ inl before
  | inr (at, same) ↦ inr (ap suc at, same)
]

-- ---- the lines so far

-- the first bytes that changed and may not of the extents from 1 on up to n, and the lines of these extents
pub record AreLinesTo (before after : Image) (resets : List ℕ) (found_before found_after : Scrubbed) (old text : List ℕ) (n : ℕ) : Type 0 where
  pub firsts : List (Option ℕ)
  pub count : length firsts + 1 ≡ n
  pub each : (k : ℕ) (first : Option ℕ) → slice_get firsts k ≡ Some first →
      IsLeastNumber (IsWrittenIn before after (room_at found_before (k + 1)) (pointer_in found_after.plan (k + 1)) (k + 1)) first
  pub text_is : text ≡ old ++ extent_lines resets found_before found_after firsts

-- one extent more
pub record HasLinesOf (before after : Image) (resets : List ℕ) (found_before found_after : Scrubbed) (mid text : List ℕ) (n : ℕ) : Type 0 where
  pub first : Option ℕ
  pub least : IsLeastNumber (IsWrittenIn before after (room_at found_before n) (pointer_in found_after.plan n) n) first
  pub text_is : text ≡ mid ++ lines_in resets found_before found_after n first

module _ (before after : Image) (resets : List ℕ) (found_before found_after : Scrubbed) (old : List ℕ) where
  -- Before extent 1 no line is added to the old text.
  pub no_lines : AreLinesTo before after resets found_before found_after old old 1
  no_lines = record {
    firsts = [];
    count = omega arith;
    each = λ k first is. absurd (none-some first is);
    text_is = sym (append-nil old);
  }

  -- The lines before extent `n` and those of extent `n` are the lines before extent `n + 1`.
  pub more_lines : (mid new : List ℕ) (n : ℕ) → AreLinesTo before after resets found_before found_after old mid n →
      HasLinesOf before after resets found_before found_after mid new n → AreLinesTo before after resets found_before found_after old new (n + 1)
  more_lines mid new n so_far one = record {
    firsts = firsts;
    count = omega (arith, length_push so_far.firsts one.first, so_far.count);
    each = λ k first is. elim (pushed so_far.firsts one.first k first is) [
      | inl before ↦ so_far.each k first before
      | inr (at, same) ↦
          let number : k + 1 ≡ n = omega (arith, at, so_far.count) in
          subst (λ (o : Option ℕ). IsLeastNumber (IsWrittenIn before after (room_at found_before (k + 1)) (pointer_in found_after.plan (k + 1)) (k + 1)) o) same
          (subst (λ (m : ℕ). IsLeastNumber (IsWrittenIn before after (room_at found_before m) (pointer_in found_after.plan m) m) one.first) (sym number) one.least)
    ];
    text_is =
        one.text_is
        ∙ ap (λ (u : List ℕ). u ++ lines_in resets found_before found_after n one.first) so_far.text_is
        ∙ append_assoc old (extent_lines resets found_before found_after so_far.firsts) (lines_in resets found_before found_after n one.first)
        ∙ ap (λ (u : List ℕ). old ++ u) (sym lines);
  }
    where
      firsts : List (Option ℕ)
      firsts = so_far.firsts ++ one.first ∷ []

      line : ℕ × Option ℕ → List ℕ
      line e = lines_in resets found_before found_after (e.0 + 1) e.1

      last : flat_map line ((0 + length so_far.firsts, one.first) ∷ []) ≡ lines_in resets found_before found_after n one.first
      last =
          append-nil (line (0 + length so_far.firsts, one.first))
          ∙ ap (λ (m : ℕ). lines_in resets found_before found_after m one.first) (let e : 0 + length so_far.firsts + 1 ≡ n = omega (arith, so_far.count) in e)

      lines : extent_lines resets found_before found_after firsts ≡ extent_lines resets found_before found_after so_far.firsts ++ lines_in resets found_before found_after n one.first
      lines =
          ap (flat_map line) (enumerate_push 0 so_far.firsts one.first)
          ∙ flat_map-append line (enumerate_from 0 so_far.firsts) ((0 + length so_far.firsts, one.first) ∷ [])
          ∙ ap (λ (u : List ℕ). flat_map line (enumerate_from 0 so_far.firsts) ++ u) last

  -- all of them
  pub all_lines : (text : List ℕ) (n : ℕ) → n ≡ before.geometry.extents → AreLinesTo before after resets found_before found_after old text n →
      (firsts : List (Option ℕ)) × AreFirstWritten before after found_before found_after firsts ×
      (text ≡ old ++ extent_lines resets found_before found_after firsts)
  all_lines text n end so_far = (so_far.firsts, record { count = so_far.count ∙ end; each = so_far.each }, so_far.text_is)

-- the write pointer of an extent
pub pointer_is : (plan : PlanValue) (x w : ℕ) → pointer_of plan x ≡ Some w → pointer_in plan x ≡ w
pointer_is plan x w is = ap (λ (o : Option ℕ). unwrap_or o 0) is

-- If `P` holds of the value of a result that is `Ok`, so does all that follows from `P`.
pub if_ok : {T E : Type 0} (r : Result T E) (P Q : T → Type 0) → IfOk r P → ((t : T) → P t → Q t) → IfOk r Q
if_ok (Ok t) P Q p f = f t p
if_ok (Err e) P Q p f = tt
