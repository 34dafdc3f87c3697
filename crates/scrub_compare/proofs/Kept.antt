-- What is safe keeps the manifest, but that fewer runs may be hidden, and last words may rise.
use Rattle.std.proofs.Common.{◌≡◌, ◌⊎◌, ◌<◌, ◌≤◌, ◌+◌, ◌&&◌, ◌++◌, ◌∷◌, [], ℕ, suc, Bool, true, false, List, Option, Some, None, codes, length, get_or, map, max, not, arith, refl, sym, ◌∙◌, ap, subst, inl, inr, if◌then◌else◌, option_map, append-nil, append_assoc}
use Rattle.std.specs.List.{AllZip, enumerate_from, range_with_len, slice_get}
use Rattle.std.specs.Str.{bytes_eq}
use Rattle.std.proofs.Math.Nat.{le-max_left, le-max_right}
use Rattle.std.proofs.lemmas.Bool.{and_parts, cases_lt, false≢true}
use Rattle.std.proofs.lemmas.List.FromFn.{get_or-range_with_len, length-range_with_len}
use Rattle.std.proofs.lemmas.Option.{none-some, same_Some, slice_get-get_or, slice_get_past, slice_get_within}
use Rattle.std.proofs.lemmas.Slice.Eq.{bytes_eq-Decides}
use Rattle.scrub_check.specs.declared.statuses.checked.Checked.{Checked}
use Rattle.scrub_check.specs.Checked.{is_hidden, is_sound}
use Rattle.scrub_check.specs.ChunkForms.{form_at}
use Rattle.scrub_scan.specs.declared.standing.Standing.{Standing}
use Rattle.scrub_loose.specs.declared.copies.BestCopy.{BestCopy}
use Rattle.scrub_loose.specs.declared.copies.BestCopy.TheVariants.{Nowhere, Loose, Spare}
use Rattle.scrub_loose.specs.Loose.{best_of}
use Rattle.scrub_scan.specs.Line.{spaced}
use Rattle.scrub_listings.specs.Manifest.{after_status_in, copy_word, form_text, looked_for, numbered_line, numbered_text}
use Rattle.scrub_reclaim.specs.Copy.{IsSameOrRisen, rank}
use Rattle.scrub_reclaim.proofs.BestCopies.{one_of_rank}
use Rattle.scrub_found.specs.Scrubbed.{Scrubbed}
use Rattle.scrub_compare.specs.Compare.{RowValue, are_alike, change, fallen_word, has_fallen, has_no_less, last_word, lost_line, new_line, numbered, row_in, row_line, shard_change}
use Rattle.scrub_compare.proofs.LastWords.{no_lower}
use Rattle.scrub_compare.proofs.OwnedBy.{some_checked}
use Rattle.scrub_compare.proofs.Safe.{all_none, some_text}

-- ---- one line

-- what the line of a last word that falls begins with isn't nothing
some_word : (o : Option BestCopy) → 0 < length (fallen_word o)
some_word None = omega arith
some_word (Some Nowhere) = omega arith
some_word (Some Loose) = omega arith
some_word (Some Spare) = omega arith

-- nothing is said of two lines that are both missing, or alike
nothing_said : (o p : Option RowValue) → change o p ≡ [] →
    ((o ≡ None) × (p ≡ None)) ⊎ ((x : RowValue) × (y : RowValue) × (o ≡ Some x) × (p ≡ Some y) × (are_alike x y ≡ true))
nothing_said None None none = inl (refl, refl)
nothing_said (Some x) None none = absurd (some_text (codes "lost ") (row_line x) (omega arith) none)
nothing_said None (Some y) none = absurd (some_text (codes "new ") (row_line y) (omega arith) none)
nothing_said (Some x) (Some y) none = inr (x, y, refl, refl, by (are_alike x y) (has_fallen x y) none)
  where
    by : (a b : Bool) → (if a then [] else (if b then fallen_word x.best ++ row_line x else lost_line (row_line x) ++ new_line (row_line y))) ≡ [] → a ≡ true
    by true b e = refl
    by false true e = absurd (some_text (fallen_word x.best) (row_line x) (some_word x.best) e)
    by false false e = absurd (some_text (codes "lost ") (row_line x ++ new_line (row_line y)) (omega arith) (sym (append_assoc (codes "lost ") (row_line x) (new_line (row_line y))) ∙ e))

-- ---- the lines of one shard

module _ (f g : ℕ → Checked → RowValue) (own now : List Checked) (none : shard_change f g own now ≡ []) where
  at_number : (n : ℕ) → n < max (length own) (length now) → change (numbered f own n) (numbered g now n) ≡ []
  at_number n below =
      ap (λ (m : ℕ). change (numbered f own m) (numbered g now m))
      (let e : n ≡ get_or (range_with_len 0 (max (length own) (length now))) n 0 = omega (arith, get_or-range_with_len 0 (max (length own) (length now)) n 0 below) in e)
      ∙ all_none (λ m. change (numbered f own m) (numbered g now m)) (range_with_len 0 (max (length own) (length now))) none n 0
      (omega (arith, below, length-range_with_len 0 (max (length own) (length now))))

  is_there : (h : ℕ → Checked → RowValue) (cs : List Checked) (n : ℕ) (d : Checked) → n < length cs → numbered h cs n ≡ Some (h n (get_or cs n d))
  is_there h cs n d below = ap (option_map (h n)) (slice_get-get_or cs n d below)

  is_past : (h : ℕ → Checked → RowValue) (cs : List Checked) (n : ℕ) → length cs ≤ n → numbered h cs n ≡ None
  is_past h cs n past = ap (option_map (h n)) (slice_get_past cs n past)

  -- two lists of which one is longer don't go without a line
  not_shorter : (n : ℕ) (x : RowValue) → n < max (length own) (length now) → numbered f own n ≡ None → numbered g now n ≡ Some x → ⊥
  not_shorter n x below missing there = elim (nothing_said (numbered f own n) (numbered g now n) (at_number n below)) [
    | inl both ↦ none-some x (sym both.1 ∙ there)
    | inr (y, z, is, other, alike) ↦ none-some y (sym missing ∙ is)
  ]

  not_longer : (n : ℕ) (x : RowValue) → n < max (length own) (length now) → numbered f own n ≡ Some x → numbered g now n ≡ None → ⊥
  not_longer n x below there missing = elim (nothing_said (numbered f own n) (numbered g now n) (at_number n below)) [
    | inl both ↦ none-some x (sym both.0 ∙ there)
    | inr (y, z, is, other, alike) ↦ none-some z (sym missing ∙ other)
  ]

  -- If no line says that a shard's locators changed, there are as many of them as before.
  pub same_length : length own ≡ length now
  same_length = elim (cases_lt (length own) (length now)) [
    | inl less ↦
        absurd
        (not_shorter (length own) (g (length own) (get_or now (length own) some_checked)) (omega (arith, less, le-max_right (length own) (length now)))
        (is_past f own (length own) (omega arith)) (is_there g now (length own) some_checked less))
    | inr le ↦ elim (cases_lt (length now) (length own)) [
      | inl less ↦
          absurd
          (not_longer (length now) (f (length now) (get_or own (length now) some_checked)) (omega (arith, less, le-max_left (length own) (length now)))
          (is_there f own (length now) some_checked less) (is_past g now (length now) (omega arith)))
      | inr ge ↦ omega (arith, le, ge)
    ]
  ]

  -- If no line says that a shard's locators changed, their lines of each number are alike.
  pub alike_at : (n : ℕ) (c d : Checked) → slice_get own n ≡ Some c → slice_get now n ≡ Some d → are_alike (f n c) (g n d) ≡ true
  alike_at n c d was is =
      elim (nothing_said (numbered f own n) (numbered g now n) (at_number n (omega (arith, slice_get_within own n c was, le-max_left (length own) (length now))))) [
        | inl both ↦ absurd (none-some (f n c) (sym both.0 ∙ ap (option_map (f n)) was))
        | inr (y, z, here, there, alike) ↦
            let old : y ≡ f n c = same_Some y (f n c) (sym here ∙ ap (option_map (f n)) was) in
            let new : z ≡ g n d = same_Some z (g n d) (sym there ∙ ap (option_map (g n)) is) in
            (λ i. are_alike (sym old i) (sym new i)) ∙ alike
      ]

-- ---- a line as a manifest has it

-- the line of a locator in its two parts is that of a manifest
row_is_line : (s : Scrubbed) (loose : List Standing) (n : ℕ) (c : Checked) →
    row_line (row_in s loose n c) ≡ numbered_line (after_status_in s.all loose) n c
row_is_line s loose n c = ap (λ (u : List ℕ). u ++ 10 ∷ []) (by (is_sound c.status) (is_hidden c.status))
  where
    front : List ℕ
    front = numbered_text n c

    form : List ℕ
    form = form_text (form_at s.all c.locator)

    best : BestCopy
    best = best_of s.all loose c

    by : (sound hidden : Bool) →
        (front ++ (if sound then form else looked_for c.locator)) ++ last_word (if not sound && not hidden then Some best else None)
        ≡ front ++ (if sound then form else looked_for c.locator ++ (if not sound && not hidden then spaced (copy_word best) else []))
    by true hidden = append-nil (front ++ form)
    by false true = append_assoc front (looked_for c.locator) []
    by false false = append_assoc front (looked_for c.locator) (spaced (copy_word best))

-- two lines that are alike are the same, or the last word rose
alike_lines : (x y : RowValue) → are_alike x y ≡ true → IsSameOrRisen (row_line x) (row_line y)
alike_lines x y alike = by x.best y.best refl refl parts.1
  where
    parts : (bytes_eq x.stem y.stem ≡ true) × (has_no_less x.best y.best ≡ true)
    parts = and_parts (bytes_eq x.stem y.stem) (has_no_less x.best y.best) alike

    stem : x.stem ≡ y.stem
    stem = (bytes_eq-Decides x.stem y.stem).0 parts.0

    same : (o : Option BestCopy) → x.best ≡ o → y.best ≡ o → IsSameOrRisen (row_line x) (row_line y)
    same o old new = inl (λ i. sym stem i ++ last_word ((new ∙ sym old) i) ++ 10 ∷ [])

    by : (o p : Option BestCopy) → x.best ≡ o → y.best ≡ p → has_no_less o p ≡ true → IsSameOrRisen (row_line x) (row_line y)
    by None None old new is = same None old new
    by None (Some b) old new is = absurd (false≢true is)
    by (Some b) None old new is = absurd (false≢true is)
    by (Some b) (Some d) old new is = elim (cases_lt (rank b) (rank d)) [
      | inl less ↦
          inr (
            x.stem,
            b,
            d,
            less,
            ap (λ (o : Option BestCopy). x.stem ++ last_word o ++ 10 ∷ []) old,
            λ i. sym stem i ++ last_word (new i) ++ 10 ∷ [],
          )
      | inr more ↦ same (Some b) old (new ∙ ap Some (sym (one_of_rank b d (no_lower b d is) more)))
    ]

-- the lines of a shard, one by one
abbrev pub lines_of : Scrubbed → List Standing → ℕ → List Checked → List (List ℕ)
lines_of s loose n cs = map (λ p. numbered_line (after_status_in s.all loose) p.0 p.1) (enumerate_from n cs)

-- Lines that are alike at each number are the same in both manifests, or their last words rose.
pub zip_lines : (s t : Scrubbed) (loose others : List Standing) (n : ℕ) (cs ds : List Checked) → length cs ≡ length ds →
    ((k : ℕ) (c d : Checked) → slice_get cs k ≡ Some c → slice_get ds k ≡ Some d → are_alike (row_in s loose (n + k) c) (row_in t others (n + k) d) ≡ true) →
    AllZip IsSameOrRisen (lines_of s loose n cs) (lines_of t others n ds)
zip_lines s t loose others n [] [] long alike = tt
zip_lines s t loose others n [] (d ∷ ds) long alike = absurd (omega (arith, long))
zip_lines s t loose others n (c ∷ cs) [] long alike = absurd (omega (arith, long))
zip_lines s t loose others n (c ∷ cs) (d ∷ ds) long alike = (
  subst (λ (u : List ℕ). IsSameOrRisen u (numbered_line (after_status_in t.all others) n d)) (row_is_line s loose n c)
      (subst (λ (u : List ℕ). IsSameOrRisen (row_line (row_in s loose n c)) u) (row_is_line t others n d) (alike_lines (row_in s loose n c) (row_in t others n d) (first (alike 0 c d refl refl)))),
  zip_lines s t loose others (n + 1) cs ds (omega (arith, long))
      (λ k x y was is. subst (λ (m : ℕ). are_alike (row_in s loose m x) (row_in t others m y) ≡ true) (let e : n + suc k ≡ n + 1 + k = omega arith in e) (alike (suc k) x y was is)),
)
  where
    first : are_alike (row_in s loose (n + 0) c) (row_in t others (n + 0) d) ≡ true → are_alike (row_in s loose n c) (row_in t others n d) ≡ true
    first is = subst (λ (m : ℕ). are_alike (row_in s loose m c) (row_in t others m d) ≡ true) (let e : n + 0 ≡ n = omega arith in e) is
