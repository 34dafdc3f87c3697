-- Texts that are the same but that the words for best copies rose, part by part, and so whole manifests.
use Rattle.std.proofs.Common.{◌≡◌, ◌⊎◌, ◌<◌, ◌≤◌, ◌&&◌, ◌+◌, ◌++◌, ◌∷◌, [], ℕ, Bool, true, false, is_none, List, Option, get_or, length, arith, refl, sym, ◌∙◌, ap, subst, append-nil, append_assoc, inl, inr, if◌then◌else◌}
use Rattle.std.specs.Prelude.{codes}
use Rattle.std.specs.List.{All, count_by, enumerate_from, filter, flat_map}
use Rattle.std.proofs.lemmas.Bool.{cases_lt}
use Rattle.std.proofs.lemmas.Grind.{flat_map-append}
use Rattle.std.proofs.lemmas.List.Elements.{All-cons, All-filter, All-head, All-tail}
use Rattle.list_facts.proofs.Zips.{AllZip-append}
use Rattle.scrub_frame.specs.declared.form.Form.{Form}
use Rattle.scrub_scan.specs.declared.standing.Standing.{Standing}
use Rattle.scrub_scan.specs.Line.{spaced}
use Rattle.scrub_merge.specs.Binding.{BindingValue}
use Rattle.scrub_check.specs.declared.statuses.checked.Checked.{Checked}
use Rattle.scrub_check.specs.Checked.{is_dangling, is_hidden, is_owned_by, is_sound}
use Rattle.scrub_check.specs.ChunkForms.{form_at}
use Rattle.scrub_check.specs.Runs.{ReadRunsValue}
use Rattle.scrub_check.proofs.RunStates.{Sound_from_is_sound}
use Rattle.scrub_loose.specs.declared.copies.BestCopy.{BestCopy}
use Rattle.scrub_loose.specs.declared.copies.BestCopy.TheVariants.{Nowhere, Loose, Spare}
use Rattle.scrub_loose.specs.Loose.{best_of}
use Rattle.scrub_found.specs.Scrubbed.{Scrubbed}
use Rattle.scrub_listings.specs.Manifest.{after_status, after_status_in, copy_word, form_text, hidden_runs, is_of_read_run, is_of_shard, looked_for, lost_run_count, manifest_text, numbered_line, numbered_lines, numbered_text, of_shards, retired_line, runs_line, shard_lines, text_by, total_line}
use Rattle.scrub_reclaim.specs.Copy.{IsSameButRisen, IsSameOrRisen, rank}
use Rattle.scrub_reclaim.specs.Reset.{NameTheSame}
use Rattle.scrub_reclaim.specs.Same.{IsSameButLastWords}
use Rattle.scrub_reclaim.proofs.BestCopies.{one_of_rank}

-- ---- parts of texts

-- one part
one_part : (a b : List ℕ) → IsSameOrRisen a b → IsSameButRisen a b
one_part a b same = record {
  parts = a ∷ [];
  others = b ∷ [];
  a_is = sym (append-nil a);
  b_is = sym (append-nil b);
  each = (same, tt);
}

itself : (a : List ℕ) → IsSameButRisen a a
itself a = one_part a a (inl refl)

-- one text after another
both : (a b c d : List ℕ) → IsSameButRisen a b → IsSameButRisen c d → IsSameButRisen (a ++ c) (b ++ d)
both a b c d s t = record {
  parts = s.parts ++ t.parts;
  others = s.others ++ t.others;
  a_is =
      ap (λ (u : List ℕ). u ++ c) s.a_is ∙ ap (λ (u : List ℕ). flat_map (λ part. part) s.parts ++ u) t.a_is
      ∙ sym (flat_map-append (λ (part : List ℕ). part) s.parts t.parts);
  b_is =
      ap (λ (u : List ℕ). u ++ d) s.b_is ∙ ap (λ (u : List ℕ). flat_map (λ part. part) s.others ++ u) t.b_is
      ∙ sym (flat_map-append (λ (part : List ℕ). part) s.others t.others);
  each = AllZip-append IsSameOrRisen s.parts t.parts s.others t.others s.each t.each;
}

-- those of each element
of_each : {X : Type 0} (f g : X → List ℕ) (xs : List X) → All (λ x. IsSameButRisen (f x) (g x)) xs →
    IsSameButRisen (flat_map f xs) (flat_map g xs)
of_each f g [] each = itself []
of_each {X} f g (x ∷ xs) each =
    both (f x) (g x) (flat_map f xs) (flat_map g xs) (All-head (λ (v : X). IsSameButRisen (f v) (g v)) x xs each)
    (of_each f g xs (All-tail (λ (v : X). IsSameButRisen (f v) (g v)) x xs each))

-- ---- what follows a status

-- it is the same, or the word for the best copy at its end rose
abbrev pub IsSaidAlike : List ℕ → List ℕ → Type 0
IsSaidAlike a b =
    (b ≡ a) ⊎
    ((front : List ℕ) × (was is : BestCopy) × (rank was < rank is) ×
    (a ≡ front ++ spaced (copy_word was)) × (b ≡ front ++ spaced (copy_word is)))

-- no copy is better than a spare
at_most_spare : (best : BestCopy) → rank best ≤ rank Spare
at_most_spare Nowhere = omega arith
at_most_spare Loose = omega arith
at_most_spare Spare = omega arith

-- the word for a copy that is as good or better
said_copies : (l : List ℕ) (x y : BestCopy) → rank x ≤ rank y → IsSaidAlike (l ++ spaced (copy_word x)) (l ++ spaced (copy_word y))
said_copies l x y le = elim (cases_lt (rank x) (rank y)) [
  | inl less ↦ inr (l, x, y, less, refl, refl)
  | inr ge ↦ inl (ap (λ (z : BestCopy). l ++ spaced (copy_word z)) (sym (one_of_rank x y le ge)))
]

-- If a sound locator keeps its form, and the best copy is as good or better, what follows its status is alike.
pub said_alike : (form other : Option Form) (best now : BestCopy) (c : Checked) → (is_sound c.status ≡ true → other ≡ form) →
    rank best ≤ rank now → IsSaidAlike (after_status form best c) (after_status other now c)
said_alike form other best now c forms le = by (is_sound c.status) (is_dangling c.status) forms
  where
    by : (sound dangling : Bool) → (sound ≡ true → other ≡ form) →
        IsSaidAlike
        (if sound then form_text form else looked_for c.locator ++ (if dangling then spaced (copy_word best) else []))
        (if sound then form_text other else looked_for c.locator ++ (if dangling then spaced (copy_word now) else []))
    by true dangling same = inl (ap form_text (same refl))
    by false true same = said_copies (looked_for c.locator) best now le
    by false false same = inl refl

-- ---- the lines

-- a line that ends so
line_alike : (front a b : List ℕ) → IsSaidAlike a b → IsSameButRisen (front ++ a ++ 10 ∷ []) (front ++ b ++ 10 ∷ [])
line_alike front a b (inl same) =
    one_part (front ++ a ++ 10 ∷ []) (front ++ b ++ 10 ∷ []) (inl (ap (λ (u : List ℕ). front ++ u ++ 10 ∷ []) same))
line_alike front a b (inr (l, was, is, less, a_is, b_is)) =
    one_part (front ++ a ++ 10 ∷ []) (front ++ b ++ 10 ∷ [])
    (inr (front ++ l, was, is, less, with_end a (spaced (copy_word was)) a_is, with_end b (spaced (copy_word is)) b_is))
  where
    with_end : (u v : List ℕ) → u ≡ l ++ v → front ++ u ++ 10 ∷ [] ≡ (front ++ l) ++ v ++ 10 ∷ []
    with_end u v e =
        ap (λ (w : List ℕ). front ++ w ++ 10 ∷ []) e ∙ ap (λ (w : List ℕ). w ++ 10 ∷ []) (sym (append_assoc front l v))

-- by what follows a status before and after
module _ (before after : Checked → List ℕ) where
  abbrev AreAlike : Checked → Type 0
  AreAlike c = IsSaidAlike (before c) (after c)

  numbered_alike : (n : ℕ) (cs : List Checked) → All AreAlike cs →
      All (λ (p : ℕ × Checked). IsSameButRisen (numbered_line before p.0 p.1) (numbered_line after p.0 p.1)) (enumerate_from n cs)
  numbered_alike n [] each = λ i d below. absurd (omega (arith, below))
  numbered_alike n (c ∷ cs) each =
      All-cons (λ (p : ℕ × Checked). IsSameButRisen (numbered_line before p.0 p.1) (numbered_line after p.0 p.1)) (n, c)
      (enumerate_from (n + 1) cs) (line_alike (numbered_text n c) (before c) (after c) (All-head AreAlike c cs each))
      (numbered_alike (n + 1) cs (All-tail AreAlike c cs each))

  lines_alike : (cs : List Checked) → All AreAlike cs → IsSameButRisen (numbered_lines before cs) (numbered_lines after cs)
  lines_alike cs each =
      of_each (λ (p : ℕ × Checked). numbered_line before p.0 p.1) (λ (p : ℕ × Checked). numbered_line after p.0 p.1)
      (enumerate_from 0 cs) (numbered_alike 0 cs each)

  -- If what follows each status is alike, the manifests are the same but that words for best copies may have risen.
  pub texts_alike : (has : Bool) (retired : List ℕ) (lost hidden : ℕ) (bindings : List BindingValue) (shards : List Checked) →
      All AreAlike shards →
      IsSameButRisen (text_by before has retired lost hidden bindings shards) (text_by after has retired lost hidden bindings shards)
  texts_alike false retired lost hidden bindings shards each = itself (codes "no-superblock" ++ 10 ∷ [])
  texts_alike true retired lost hidden bindings shards each =
      let front = retired_line retired ++ runs_line lost hidden in
      let last = total_line (length bindings) (length shards) in
      let mid = flat_map (λ (b : BindingValue). shard_lines before shards b.id) bindings in
      let other = flat_map (λ (b : BindingValue). shard_lines after shards b.id) bindings in
      both (front ++ mid) (front ++ other) last last
      (both front front mid other (itself front)
      (of_each (λ (b : BindingValue). shard_lines before shards b.id) (λ (b : BindingValue). shard_lines after shards b.id) bindings of_one))
      (itself last)
    where
      of_one : All (λ (b : BindingValue). IsSameButRisen (shard_lines before shards b.id) (shard_lines after shards b.id)) bindings
      of_one k d below =
          lines_alike (filter (λ c. is_owned_by (get_or bindings k d).id c.owner) shards)
          (All-filter (λ c. is_owned_by (get_or bindings k d).id c.owner) AreAlike shards each)

-- ---- whole manifests

module _ (found rest : Scrubbed) (loose others : List Standing) (same : NameTheSame found rest) where
  -- what follows the status of a locator, before and after
  abbrev AreSaid : Checked → Type 0
  AreSaid k = IsSaidAlike (after_status_in found.all loose k) (after_status_in rest.all others k)

  -- the other manifest, by what is named in the first one
  other_text : text_by (after_status_in rest.all others) found.plan.has_superblock found.plan.retired (lost_run_count found)
      (hidden_runs found) found.bindings (of_shards found.checked) ≡ manifest_text rest others
  other_text = λ i. of (sym same.superblock i) (sym same.retired i) (sym same.read i) (sym same.bindings i) (sym same.checked i)
    where
      of : Bool → List ℕ → ReadRunsValue → List BindingValue → List Checked → List ℕ
      of has retired reads binds all =
          text_by (after_status_in rest.all others) has retired (count_by is_none reads.runs) (count_by (λ k. is_hidden k.status && is_of_read_run reads.runs k.owner) all) binds (of_shards all)

  -- If the same is named, and what follows each status is alike, the manifests are the same but that such words may have risen.
  pub manifests_alike : All AreSaid found.checked → IsSameButRisen (manifest_text found loose) (manifest_text rest others)
  manifests_alike said =
      subst (λ (t : List ℕ). IsSameButRisen (manifest_text found loose) t) other_text
      (texts_alike (after_status_in found.all loose) (after_status_in rest.all others) found.plan.has_superblock found.plan.retired (lost_run_count found) (hidden_runs found) found.bindings (of_shards found.checked)
      (All-filter (λ k. is_of_shard k.owner) AreSaid found.checked said))

  -- The same, if the best copy of each locator is as good or better.
  pub manifests_rise : All (λ (k : Checked). rank (best_of found.all loose k) ≤ rank (best_of rest.all others k)) found.checked →
      IsSameButRisen (manifest_text found loose) (manifest_text rest others)
  manifests_rise rises = manifests_alike said
    where
      said : All AreSaid found.checked
      said i d below =
          let k : Checked = get_or found.checked i d in
          said_alike (form_at found.all k.locator) (form_at rest.all k.locator) (best_of found.all loose k) (best_of rest.all others k) k
          (λ sound. same.forms i d below (Sound_from_is_sound k.status sound)) (rises i d below)

  -- what follows a status if there is a spare
  abbrev AtBest : Checked → List ℕ
  AtBest k = after_status (form_at found.all k.locator) Spare k

  -- the first manifest, if each dangling locator had a spare
  abbrev best_text : List ℕ
  best_text =
      text_by AtBest found.plan.has_superblock found.plan.retired (lost_run_count found) (hidden_runs found) found.bindings (of_shards found.checked)

  -- what rises to it
  rises_to_best : (after : Checked → List ℕ) → All (λ (k : Checked). IsSaidAlike (after k) (AtBest k)) found.checked →
      IsSameButRisen (text_by after found.plan.has_superblock found.plan.retired (lost_run_count found) (hidden_runs found) found.bindings (of_shards found.checked)) best_text
  rises_to_best after said =
      texts_alike after AtBest found.plan.has_superblock found.plan.retired (lost_run_count found) (hidden_runs found) found.bindings (of_shards found.checked)
      (All-filter (λ k. is_of_shard k.owner) (λ (k : Checked). IsSaidAlike (after k) (AtBest k)) found.checked said)

  -- If the same is named, both manifests rise to that.
  pub last_words_alone : IsSameButLastWords (manifest_text found loose) (manifest_text rest others)
  last_words_alone = record {
    risen = best_text;
    one =
        rises_to_best (after_status_in found.all loose)
        (λ i d below.
        let k : Checked = get_or found.checked i d in
        said_alike (form_at found.all k.locator) (form_at found.all k.locator) (best_of found.all loose k) Spare k (λ sound. refl) (at_most_spare (best_of found.all loose k)));
    other =
        subst (λ (t : List ℕ). IsSameButRisen t best_text) other_text
        (rises_to_best (after_status_in rest.all others)
        (λ i d below.
        let k : Checked = get_or found.checked i d in
        said_alike (form_at rest.all k.locator) (form_at found.all k.locator) (best_of rest.all others k) Spare k
        (λ sound. sym (same.forms i d below (Sound_from_is_sound k.status sound))) (at_most_spare (best_of rest.all others k))));
  }
