-- The first field of a text, and the fields after it.
use Rattle.std.proofs.Common.{◌≡◌, ◌<◌, ◌≤◌, ◌+◌, ◌-◌, ℕ, suc, Bool, true, false, cond, not, List, [], ◌∷◌, length, take, drop, get_or, eqb, arith, refl, sym, ◌∙◌, ap, subst, inl, inr, add-one}
use Rattle.std.specs.Prelude.{filter, nat_lt}
use Rattle.std.specs.List.{position_or_len, prefix_len, slice_split, before_first, after_first}
use Rattle.std.proofs.lemmas.List.Splits.{slice_split-cons_yes, slice_split_first, slice_split_none}
use Rattle.std.proofs.lemmas.List.Sums.{prefix_len_passes, prefix_len_stops}
use Rattle.std.proofs.lemmas.Bool.{cases_lt, lt-ltb, not-false, not-true, eqb-true, eqb-false}
use Rattle.std.proofs.lemmas.List.{take_all, drop_all, take_rest, length-take-le}
use Rattle.std.proofs.Math.Seq.{drop-cons}
use Rattle.scrub_map.specs.Fields.{fields_of, is_field_blank}

-- a blank in front changes no field
fields_behind_blank : (b : ℕ) (text : List ℕ) → is_field_blank b ≡ true → fields_of (b ∷ text) ≡ fields_of text
unfolding fields_of
fields_behind_blank b text blank =
    ap (filter (λ part. nat_lt 0 (length part))) (slice_split-cons_yes is_field_blank b text blank)

-- what is left after the blanks in front: the same fields, and no blank in front
pub record IsBehindBlanks (text rest : List ℕ) : Type 0 where
  pub fields : fields_of rest ≡ fields_of text
  pub first : 0 < length rest → is_field_blank (get_or rest 0 0) ≡ false

behind_more : (b : ℕ) (text : List ℕ) (blank : Bool) → is_field_blank b ≡ blank →
    IsBehindBlanks text (drop (prefix_len is_field_blank text) text) →
    IsBehindBlanks (b ∷ text) (drop (cond (is_field_blank b) (1 + prefix_len is_field_blank text) 0) (b ∷ text))
behind_more b text true e more =
    let step : 1 + prefix_len is_field_blank text ≡ suc (prefix_len is_field_blank text) = omega arith in
    let cut : drop (cond (is_field_blank b) (1 + prefix_len is_field_blank text) 0) (b ∷ text) ≡ drop (prefix_len is_field_blank text) text =
    ap (λ c. drop (cond c (1 + prefix_len is_field_blank text) 0) (b ∷ text)) e ∙ ap (λ n. drop n (b ∷ text)) step in
    subst (IsBehindBlanks (b ∷ text)) (sym cut) (record {
      fields = more.fields ∙ sym (fields_behind_blank b text e);
      first = more.first;
    })
behind_more b text false e more =
    subst (IsBehindBlanks (b ∷ text)) (sym (ap (λ c. drop (cond c (1 + prefix_len is_field_blank text) 0) (b ∷ text)) e)) (record {
      fields = refl;
      first = λ _. e;
    })

pub behind_blanks : (text : List ℕ) → IsBehindBlanks text (drop (prefix_len is_field_blank text) text)
behind_blanks [] = record { fields = refl; first = λ h. absurd (omega (arith, h)) }
behind_blanks (b ∷ text) = behind_more b text (is_field_blank b) refl (behind_blanks text)

-- a part that isn't empty is a field
field_kept : (part : List ℕ) (parts : List (List ℕ)) → 0 < length part →
    filter (λ p. nat_lt 0 (length p)) (part ∷ parts) ≡ part ∷ filter (λ p. nat_lt 0 (length p)) parts
field_kept part parts some =
    ap (λ b. cond b (part ∷ filter (λ p. nat_lt 0 (length p)) parts) (filter (λ p. nat_lt 0 (length p)) parts))
    (lt-ltb 0 (length part) some)

-- no text, no field
pub no_fields : (text : List ℕ) → length text ≡ 0 → fields_of text ≡ []
unfolding fields_of
no_fields [] e = refl
no_fields (b ∷ text) e = absurd (omega (arith, e))

-- the same if no blank follows
last_field : (text : List ℕ) → length text ≤ position_or_len is_field_blank text → 0 < length text →
    fields_of text ≡ text ∷ []
unfolding fields_of
last_field text whole some =
    ap (filter (λ p. nat_lt 0 (length p))) (slice_split_none is_field_blank text
    (λ k d below. not-true _ (prefix_len_passes (λ b. not (is_field_blank b)) text k d (omega (arith, below, whole)))))
    ∙ field_kept text [] some

-- and if one follows
inner_field : (text : List ℕ) → position_or_len is_field_blank text < length text →
    0 < position_or_len is_field_blank text →
    fields_of text ≡ take (position_or_len is_field_blank text) text ∷ fields_of (drop (position_or_len is_field_blank text + 1) text)
unfolding fields_of
inner_field text below some =
    ap (filter (λ p. nat_lt 0 (length p))) (slice_split_first is_field_blank text 0 below)
    ∙ field_kept (before_first is_field_blank text) (slice_split is_field_blank (after_first is_field_blank text))
    (omega (arith, length-take-le (position_or_len is_field_blank text) text (omega (arith, below)), some))

-- a text that doesn't begin with a blank begins with a field
starts_inside : (text : List ℕ) → 0 < length text → is_field_blank (get_or text 0 0) ≡ false →
    0 < position_or_len is_field_blank text
starts_inside [] some first = absurd (omega (arith, some))
starts_inside (b ∷ text) some first = rw first (omega arith)

pub first_field : (text : List ℕ) (k : ℕ) → k ≡ position_or_len is_field_blank text → 0 < length text →
    is_field_blank (get_or text 0 0) ≡ false →
    fields_of text ≡ take k text ∷ fields_of (drop k text)
first_field text k e some first =
    rw e (elim (cases_lt (position_or_len is_field_blank text) (length text)) [
      | inl below ↦
          let cut : drop (position_or_len is_field_blank text) text ≡ get_or text (position_or_len is_field_blank text) 0 ∷ drop (position_or_len is_field_blank text + 1) text =
          rw add-one (drop-cons text (position_or_len is_field_blank text) 0 below) in
          inner_field text below (starts_inside text some first)
          ∙ ap (λ more. take (position_or_len is_field_blank text) text ∷ more)
          (sym (ap fields_of cut ∙ fields_behind_blank _ _ (not-false _ (prefix_len_stops (λ b. not (is_field_blank b)) text 0 below))))
      | inr whole ↦
          let none : drop (position_or_len is_field_blank text) text ≡ [] = drop_all _ text whole in
          last_field text whole some
          ∙ ap (λ part. part ∷ []) (sym (take_all (position_or_len is_field_blank text) text whole))
          ∙ ap (λ more. take (position_or_len is_field_blank text) text ∷ more)
          (sym (ap fields_of none ∙ no_fields [] refl))
    ])

-- what an empty list is
pub empty_is : (xs : List ℕ) (b : Bool) → b ≡ eqb (length xs) 0 → b ≡ true → length xs ≡ 0
empty_is xs b e t = eqb-true (length xs) 0 (sym e ∙ t)

-- A list whose test for being empty is false has an element.
pub filled_is : (xs : List ℕ) (b : Bool) → b ≡ eqb (length xs) 0 → b ≡ false → 0 < length xs
filled_is xs b e t = let ne : length xs ≡ 0 → ⊥ = eqb-false (length xs) 0 (sym e ∙ t) in omega (arith, ne)

-- the first field of a text after the blanks in front, and the bytes after it
pub field_behind : (text rest : List ℕ) (n k : ℕ) → n ≡ prefix_len is_field_blank text →
    rest ≡ take (length text - n) (drop n text) → 0 < length rest →
    k ≡ position_or_len is_field_blank rest → fields_of text ≡ take k rest ∷ fields_of (drop k rest)
field_behind text rest n k e cut some place =
    let same : drop (prefix_len is_field_blank text) text ≡ rest =
    ap (λ m. drop m text) (sym e) ∙ sym (take_rest text n) ∙ sym cut in
    let behind : IsBehindBlanks text rest = subst (IsBehindBlanks text) same (behind_blanks text) in
    sym behind.fields ∙ first_field rest k place some (behind.first some)

-- if nothing follows the blanks, there is no field
pub nothing_behind : (text rest : List ℕ) (n : ℕ) → n ≡ prefix_len is_field_blank text →
    rest ≡ take (length text - n) (drop n text) → length rest ≡ 0 → fields_of text ≡ []
nothing_behind text rest n e cut none =
    let same : drop (prefix_len is_field_blank text) text ≡ rest =
    ap (λ m. drop m text) (sym e) ∙ sym (take_rest text n) ∙ sym cut in
    let behind : IsBehindBlanks text rest = subst (IsBehindBlanks text) same (behind_blanks text) in
    sym behind.fields ∙ no_fields rest none
