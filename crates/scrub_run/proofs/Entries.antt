-- Bytes that begin with entries: which entries they are.
use Rattle.std.proofs.Common.{◌≡◌, ◌<◌, ◌≤◌, ◌+◌, ◌*◌, ℕ, List, [], ◌∷◌, ◌++◌, length, take, drop, get_or, All, arith, refl, sym, ◌∙◌, ap, append_assoc, drop-drop, length-append}
use Rattle.std.specs.List.{flat_map}
use Rattle.std.proofs.lemmas.List.{drop_at, flat_map_more, get_or_append_left, get_or_at, take_at}
use Rattle.std.proofs.lemmas.List.Elements.{All-drop, All-head, All-push, All-tail}
use Rattle.std.proofs.lemmas.List.Quantifiers.{all_pairs_push}
use Rattle.list_facts.proofs.Spelling.{parts_again, read_parts}
use Rattle.scrub_frame.specs.Locator.{locator_bytes, IsLocator}
use Rattle.scrub_frame.proofs.Locators.{length-locator_bytes, length-locators}
use Rattle.scrub_frame.proofs.ReadAgain.{read_locator, locator_again}
use Rattle.scrub_run.specs.Entry.{EntryValue, IsBelow}
use Rattle.scrub_run.specs.Run.{RisesById}
use Rattle.scrub_run.specs.steps.Parts.{entry_bytes, IsEntry}

-- how many bytes the entry takes that bytes begin with
abbrev pub entry_size : List ℕ → ℕ
entry_size x = 17 + 60 * get_or x 16 0

-- the entry that bytes begin with
abbrev pub read_entry : List ℕ → EntryValue
read_entry x = record {
  id = record { 0 = take 16 x };
  locators = read_parts read_locator 60 (get_or x 16 0) (drop 17 x);
}

-- an entry is read from the bytes that spell it, and those that follow are left
pub entry_again : (x : List ℕ) (e : EntryValue) (r : List ℕ) → IsEntry e → x ≡ entry_bytes e ++ r →
    (read_entry x ≡ e) × (drop (entry_size x) x ≡ r)
entry_again x e r h is = ((λ i. record { id = record { 0 = id i }; locators = locators i }), behind)
  where
    after : List ℕ
    after = flat_map locator_bytes e.locators ++ r

    parts : x ≡ e.id.0 ++ (length e.locators ∷ after)
    parts = is ∙ append_assoc e.id.0 (length e.locators ∷ flat_map locator_bytes e.locators) r

    id : take 16 x ≡ e.id.0
    id = ap (take 16) parts ∙ take_at e.id.0 (length e.locators ∷ after) 16 h.0

    count : get_or x 16 0 ≡ length e.locators
    count = ap (λ t. get_or t 16 0) parts ∙ get_or_at e.id.0 (length e.locators) after 0 16 h.0

    rest : drop 17 x ≡ after
    rest =
        sym (drop-drop 1 16 x)
        ∙ ap (drop 1) (ap (drop 16) parts ∙ drop_at e.id.0 (length e.locators ∷ after) 16 h.0)

    locators : read_parts read_locator 60 (get_or x 16 0) (drop 17 x) ≡ e.locators
    locators =
        ap (λ n. read_parts read_locator 60 n (drop 17 x)) count
        ∙ ap (read_parts read_locator 60 (length e.locators)) rest
        ∙ parts_again locator_bytes IsLocator read_locator 60 e.locators r length-locator_bytes locator_again h.2

    behind : drop (entry_size x) x ≡ r
    behind =
        sym (drop-drop (60 * get_or x 16 0) 17 x)
        ∙ ap (drop (60 * get_or x 16 0)) rest
        ∙ drop_at (flat_map locator_bytes e.locators) r (60 * get_or x 16 0)
        (length-locators e.locators h.2 ∙ ap (λ n. 60 * n) (sym count))

-- bytes begin with at most one entry
pub same_entry : (e f : EntryValue) (r s : List ℕ) → IsEntry e → IsEntry f → entry_bytes e ++ r ≡ entry_bytes f ++ s → (e ≡ f) × (r ≡ s)
same_entry e f r s he hf same =
    let one = entry_again (entry_bytes e ++ r) e r he refl in
    let other = entry_again (entry_bytes e ++ r) f s hf same in
    (sym one.0 ∙ other.0, sym one.1 ∙ other.1)

-- the entries ys are xs and then some more, which the rest of the bytes is
pub record Continues (xs ys : List EntryValue) (rest : List ℕ) : Type 0 where
  pub more : List EntryValue
  pub whole : ys ≡ xs ++ more
  pub rest_is : rest ≡ flat_map entry_bytes more

-- if bytes are the entries ys, and begin with no more entries xs than these, ys begin with xs
pub continues : (xs ys : List EntryValue) (rest : List ℕ) → All IsEntry xs → All IsEntry ys → length xs ≤ length ys →
    flat_map entry_bytes xs ++ rest ≡ flat_map entry_bytes ys → Continues xs ys rest
continues [] ys rest hx hy few e = record { more = ys; whole = refl; rest_is = e }
continues (x ∷ xs) [] rest hx hy few e = absurd (omega (arith, few))
continues (x ∷ xs) (y ∷ ys) rest hx hy few e =
    let cut : (x ≡ y) × (flat_map entry_bytes xs ++ rest ≡ flat_map entry_bytes ys) =
    same_entry x y (flat_map entry_bytes xs ++ rest) (flat_map entry_bytes ys) (All-head IsEntry x xs hx) (All-head IsEntry y ys hy)
    (sym (append_assoc (entry_bytes x) (flat_map entry_bytes xs) rest) ∙ e) in
    let after : Continues xs ys rest = continues xs ys rest (All-tail IsEntry x xs hx) (All-tail IsEntry y ys hy) (omega (arith, few)) cut.1 in
    record { more = after.more; whole = ap (λ z. z ∷ ys) (sym cut.0) ∙ ap (λ zs. x ∷ zs) after.whole; rest_is = after.rest_is }

-- the parts of bytes that begin with an entry
pub entry_stands : (x : List ℕ) (e : EntryValue) (r : List ℕ) → IsEntry e → x ≡ entry_bytes e ++ r → (get_or x 16 0 ≡ length e.locators) × (17 + 60 * length e.locators ≤ length x)
entry_stands x e r h same = (ap (λ t. get_or t 16 0) parts ∙ get_or_at e.id.0 (length e.locators) (flat_map locator_bytes e.locators ++ r) 0 16 h.0, long)
  where
    parts : x ≡ e.id.0 ++ (length e.locators ∷ (flat_map locator_bytes e.locators ++ r))
    parts = same ∙ append_assoc e.id.0 (length e.locators ∷ flat_map locator_bytes e.locators) r

    long : 17 + 60 * length e.locators ≤ length x
    long = omega (
      arith,
      ap length parts,
      length-append e.id.0 (length e.locators ∷ (flat_map locator_bytes e.locators ++ r)),
      length-append (flat_map locator_bytes e.locators) r,
      length-locators e.locators h.2,
      h.0,
    )

-- the entries xs, n of them, were read, and the rest is to come
pub record HasRead (x : List ℕ) (xs : List EntryValue) (rest : List ℕ) (n : ℕ) : Type 0 where
  pub count : length xs ≡ n
  pub each : All IsEntry xs
  pub rising : RisesById xs
  pub spelled : x ≡ flat_map entry_bytes xs ++ rest

-- one more entry was read, from the front of the rest
pub read_entry_more : (x : List ℕ) (xs : List EntryValue) (rest first behind : List ℕ) (n : ℕ) (e : EntryValue) → HasRead x xs rest n → IsEntry e →
    entry_bytes e ≡ first → first ++ behind ≡ rest → All (λ v. IsBelow v.id e.id) xs → HasRead x (xs ++ e ∷ []) behind (n + 1)
read_entry_more x xs rest first behind n e h he ht hr above = record {
  count = omega (arith, length-append xs (e ∷ []), h.count);
  each = All-push IsEntry xs e h.each he;
  rising = all_pairs_push (λ v w. IsBelow v.id w.id) xs e h.rising above;
  spelled =
      h.spelled ∙ ap (λ t. flat_map entry_bytes xs ++ t) (sym hr ∙ ap (λ t. t ++ behind) (sym ht))
      ∙ sym (append_assoc (flat_map entry_bytes xs) (entry_bytes e) behind)
      ∙ ap (λ t. t ++ behind) (flat_map_more entry_bytes [] xs e);
}

-- if n or more entries make up the bytes, the rest is those after the first n
pub goes_on : (x : List ℕ) (xs ys : List EntryValue) (rest : List ℕ) (n : ℕ) → HasRead x xs rest n → All IsEntry ys → n ≤ length ys → x ≡ flat_map entry_bytes ys → Continues xs ys rest
goes_on x xs ys rest n h hy few e = continues xs ys rest h.each hy (omega (arith, h.count, few)) (sym h.spelled ∙ e)

-- so if more entries are to come, the rest begins with one
pub no_entry_more : (x : List ℕ) (xs ys : List EntryValue) (rest : List ℕ) (n : ℕ) → HasRead x xs rest n → All IsEntry ys → n < length ys → x ≡ flat_map entry_bytes ys →
    ((e : EntryValue) (r : List ℕ) → IsEntry e → rest ≡ entry_bytes e ++ r → ⊥) → ⊥
no_entry_more x xs ys rest n h hy few e none = by go.more go.whole go.rest_is
  where
    go : Continues xs ys rest
    go = goes_on x xs ys rest n h hy (omega (arith, few)) e

    by : (more : List EntryValue) → ys ≡ xs ++ more → rest ≡ flat_map entry_bytes more → ⊥
    by [] whole is = omega (arith, few, h.count, ap length whole, length-append xs [])
    by (m ∷ more) whole is =
        none m (flat_map entry_bytes more)
        (All-head IsEntry m more (rw (drop_at xs (m ∷ more) (length xs) refl) at (All-drop IsEntry (length xs) (xs ++ m ∷ more) (rw whole at hy)))) is

-- and the next entry can't be one that isn't above all before it
pub no_rise : (x : List ℕ) (xs ys : List EntryValue) (rest first behind : List ℕ) (n : ℕ) (e : EntryValue) → HasRead x xs rest n → All IsEntry ys → n < length ys → x ≡ flat_map entry_bytes ys →
    RisesById ys → IsEntry e → entry_bytes e ≡ first → first ++ behind ≡ rest → All (λ v. IsBelow v.id e.id) xs
no_rise x xs ys rest first behind n e h hy few same rising he ht hr = by go.more go.whole go.rest_is
  where
    go : Continues xs ys rest
    go = goes_on x xs ys rest n h hy (omega (arith, few)) same

    by : (more : List EntryValue) → ys ≡ xs ++ more → rest ≡ flat_map entry_bytes more → All (λ v. IsBelow v.id e.id) xs
    by [] whole is = absurd (omega (arith, few, h.count, ap length whole, length-append xs []))
    by (m ∷ more) whole is = λ k d hk.
        let next : IsEntry m = All-head IsEntry m more (rw (drop_at xs (m ∷ more) (length xs) refl) at (All-drop IsEntry (length xs) (xs ++ m ∷ more) (rw whole at hy))) in
        let found : (e ≡ m) × (behind ≡ flat_map entry_bytes more) = same_entry e m behind (flat_map entry_bytes more) he next (ap (λ t. t ++ behind) ht ∙ hr ∙ is) in
        let pair : IsBelow (get_or ys k d).id (get_or ys (length xs) d).id = rising k (length xs) d hk (omega (arith, few, h.count)) in
        let here : get_or ys (length xs) d ≡ e = ap (λ t. get_or t (length xs) d) whole ∙ get_or_at xs m more d (length xs) refl ∙ sym found.0 in
        let before : get_or ys k d ≡ get_or xs k d = ap (λ t. get_or t k d) whole ∙ get_or_append_left xs (m ∷ more) d k hk in
        rw (here, before) at pair

-- and once all entries were read, nothing is left
pub nothing_left : (x : List ℕ) (xs ys : List EntryValue) (rest : List ℕ) (n : ℕ) → HasRead x xs rest n → All IsEntry ys → length ys ≡ n → x ≡ flat_map entry_bytes ys → length rest ≡ 0
nothing_left x xs ys rest n h hy count e = by go.more go.whole go.rest_is
  where
    go : Continues xs ys rest
    go = goes_on x xs ys rest n h hy (omega (arith, count)) e

    by : (more : List EntryValue) → ys ≡ xs ++ more → rest ≡ flat_map entry_bytes more → length rest ≡ 0
    by [] whole is = ap length is
    by (m ∷ more) whole is = absurd (omega (arith, h.count, count, ap length whole, length-append xs (m ∷ more)))
