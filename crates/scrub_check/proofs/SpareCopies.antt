-- Frames sorted by what their payloads are told by, and the copies of what a locator asks for among them.
use Rattle.std.proofs.Common.{◌≡◌, ◌<◌, ◌≤◌, ◌+◌, ◌-◌, ◌&&◌, ◌++◌, ℕ, Bool, true, false, not, cond, List, [], ◌∷◌, length, get_or, map, take, drop, arith, refl, sym, ◌∙◌, ap, append_assoc, nat_lt, if◌then◌else◌, Option, Ordering, nat_cmp, is_eq, is_lt}
use Rattle.std.proofs.Math.Path.{ap₂}
use Rattle.std.specs.Cmp.{IsTotalOrder, nat_cmp_total}
use Rattle.std.specs.Cmp.Lexicographic.{slice_cmp}
use Rattle.std.specs.Prelude.{Contains}
use Rattle.std.specs.List.{filter, filter_map}
use Rattle.std.specs.List.Sorted.{IsStableByKey, ties}
use Rattle.std.proofs.lemmas.Cmp.{nat_list_cmp_total, on_total, then_total}
use Rattle.std.proofs.lemmas.List.{take_more}
use Rattle.std.proofs.lemmas.List.Elements.{filter-append, filter_agree, filter_map-append}
use Rattle.std.proofs.lemmas.List.Sorted.{sum_by-IsPermutation}
use Rattle.std.proofs.lemmas.Map.Text.{is_eq-slice_cmp}
use Rattle.std.proofs.lemmas.Slice.{between_is}
use Rattle.list_facts.proofs.Counts.{any_counts, count_map}
use Rattle.list_facts.proofs.Filters.{filter_between, filter_of_weaker, list_any-filter}
use Rattle.list_facts.proofs.Orders.{eq_if_neither_lt_nor_gt, is_eq-nat_cmp, is_eq-neither_lt, is_eq-ordering_then, is_eq-reverse, not_eq_from_lt, not_eq_from_not_le}
use Rattle.list_facts.proofs.Sorted.{BelowAt, ThroughAt}
use Rattle.scrub_frame.specs.declared.form.Form.TheVariants.{Plain}
use Rattle.scrub_frame.specs.declared.locator.Locator.{Locator}
use Rattle.scrub_scan.specs.declared.standing.Standing.{Standing}
use Rattle.scrub_scan.specs.Scanned.{Scanned}
use Rattle.scrub_check.specs.declared.lists.spares.Content.{Content}
use Rattle.scrub_check.specs.declared.statuses.checked.Checked.{Checked}
use Rattle.scrub_check.specs.Spares.{AreSpares, AreWanted, HaveTheSameCopies, asks_for_spares, content_cmp, content_named, content_of, copies_of, frames, is_copy_of, is_wanted}

-- ---- the order

pub content_total : IsTotalOrder content_cmp
content_total = then_total (on_total (λ (a : Content). a.digest) nat_list_cmp_total) (on_total (λ (a : Content). a.length) nat_cmp_total)

-- the order of frames by their contents
abbrev pub frame_cmp : Standing → Standing → Ordering
frame_cmp a b = content_cmp (content_of a) (content_of b)

-- it is a total order
pub frame_total : IsTotalOrder frame_cmp
frame_total = on_total content_of content_total

-- a frame with what a locator asks for
abbrev pub probe : Locator → Standing
probe l = record { extent = 0; offset = 0; form = Plain; uuid = []; length = l.length; digest = l.digest }

-- a frame has what the locator asks for exactly if it is neither below nor above one that does
pub copy_there : (l : Locator) (s : Standing) → is_copy_of l s ≡ is_eq (frame_cmp s (probe l))
copy_there l s =
    sym
    (is_eq-ordering_then (slice_cmp nat_cmp s.digest l.digest) (nat_cmp s.length l.length) ∙ ap₂ (λ a b. a && b) (is_eq-slice_cmp s.digest l.digest) (is_eq-nat_cmp s.length l.length))

ties_there : (l : Locator) (s : Standing) → ties (λ a b. is_lt (frame_cmp a b)) (probe l) s ≡ is_copy_of l s
ties_there l s =
    ap (λ (r : Ordering). not (is_lt r) && not (is_lt (frame_cmp s (probe l)))) (frame_total.antisymm (probe l) s)
    ∙ is_eq-neither_lt (frame_cmp s (probe l)) ∙ sym (copy_there l s)

-- a stable sort keeps the order of copies
pub same_copies : (found others : List Standing) → IsStableByKey content_of content_cmp found others → HaveTheSameCopies found others
same_copies found others stable l =
    sym (filter_agree (ties (λ a b. is_lt (frame_cmp a b)) (probe l)) (is_copy_of l) (ties_there l) others)
    ∙ stable (probe l)
    ∙ filter_agree (ties (λ a b. is_lt (frame_cmp a b)) (probe l)) (is_copy_of l) (ties_there l) found

-- ---- the part of a sorted list

-- the copies are between the frames below them and those above them
pub copies_between : (found : List Standing) (l : Locator) (below through : ℕ) → BelowAt frame_cmp found (probe l) below →
    ThroughAt frame_cmp found (probe l) through → below ≤ through → through ≤ length found →
    take (through - below) (drop below found) ≡ filter (is_copy_of l) found
copies_between found l below through lows highs le inside =
    between_is found below through
    ∙ sym
    (filter_between (is_copy_of l) found below through le inside
    (λ k d lt. copy_there l (get_or found k d) ∙ not_eq_from_lt _ (lows.0 k d (omega arith) lt))
    (λ k d from lt. copy_there l (get_or found k d) ∙ eq_if_neither_lt_nor_gt _ (lows.1 k d from (omega (arith, lt, inside))) (highs.0 k d (omega arith) lt))
    (λ k d from lt. copy_there l (get_or found k d) ∙ not_eq_from_not_le _ (highs.1 k d from lt)))

-- ---- what is wanted

-- a copy of what a named locator asks for is wanted
copy_wanted : (checked : List Checked) (wanted : List Content) (c : Checked) (s : Standing) → AreWanted checked wanted →
    Contains checked c → asks_for_spares c ≡ true → is_copy_of c.locator s ≡ true → is_wanted wanted s ≡ true
copy_wanted checked wanted c s are there asks copy =
    ap (λ n. nat_lt 0 n)
    (sum_by-IsPermutation (λ other. cond (test other) 1 0) (map content_named (filter asks_for_spares checked)) wanted are ∙ count_map test content_named (filter asks_for_spares checked))
    ∙ sym (any_counts (λ d. test (content_named d)) (filter asks_for_spares checked))
    ∙ list_any-filter (λ d. test (content_named d)) asks_for_spares checked there.0 c there.1 there.2 asks
    (ap is_eq (content_total.antisymm (content_named c) (content_of s)) ∙ is_eq-reverse (content_cmp (content_of s) (content_named c)) ∙ sym (copy_there c.locator s) ∙ copy)
  where
    test : Content → Bool
    test other = is_eq (content_cmp other (content_of s))

-- so the spares are found
pub spares_found : (all : List Scanned) (checked : List Checked) (wanted : List Content) (found spares : List Standing) →
    AreWanted checked wanted → found ≡ filter (is_wanted wanted) (frames all) → HaveTheSameCopies found spares →
    AreSpares all checked spares
spares_found all checked wanted found spares are is same c there = by (asks_for_spares c) refl
  where
    by : (b : Bool) → asks_for_spares c ≡ b →
        (if asks_for_spares c then filter (is_copy_of c.locator) spares else []) ≡ (if asks_for_spares c then copies_of all c.locator else [])
    by true asks =
        ap (λ (ss : List Standing). if asks_for_spares c then ss else [])
        (same c.locator
        ∙ ap (filter (is_copy_of c.locator)) is
        ∙ filter_of_weaker (is_copy_of c.locator) (is_wanted wanted) (frames all) (λ s copy. copy_wanted checked wanted c s are there asks copy))
    by false none =
        ap (λ (b : Bool). if b then filter (is_copy_of c.locator) spares else []) none
        ∙ sym (ap (λ (b : Bool). if b then copies_of all c.locator else []) none)

-- one more item
pub item_more : {X Y : Type 0} (p : Y → Bool) (f : X → Option Y) (xs : List X) (i : ℕ) (x : X) (old mid new : List Y) → i < length xs →
    x ≡ get_or xs i x → mid ≡ old ++ filter p (filter_map f (take i xs)) →
    new ≡ mid ++ filter p (filter_map f (x ∷ [])) → new ≡ old ++ filter p (filter_map f (take (i + 1) xs))
item_more {X} {Y} p f xs i x old mid new below is so_far grown =
    grown
    ∙ ap (λ (ys : List Y). ys ++ filter p (filter_map f (x ∷ []))) so_far
    ∙ append_assoc old (filter p (filter_map f (take i xs))) (filter p (filter_map f (x ∷ [])))
    ∙ ap (λ (ys : List Y). old ++ ys)
    (sym (filter-append p (filter_map f (take i xs)) (filter_map f (x ∷ [])))
    ∙ ap (filter p) (sym (filter_map-append f (take i xs) (x ∷ [])) ∙ ap (filter_map f) (ap (λ (y : X). take i xs ++ y ∷ []) is ∙ sym (take_more xs i x below))))

-- if nothing is wanted, there is none
none_wanted : (ss : List Standing) → filter (is_wanted []) ss ≡ []
none_wanted [] = refl
none_wanted (s ∷ ss) = none_wanted ss

-- nothing wanted, no spare
pub no_spares : (all : List Scanned) (checked : List Checked) → AreWanted checked [] → AreSpares all checked []
no_spares all checked are = spares_found all checked [] [] [] are (sym (none_wanted (frames all))) (λ l. refl)
