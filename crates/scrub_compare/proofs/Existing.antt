-- Each two images have a comparison, and a verdict whether it is safe: which bytes may not have changed is decided, and the
-- identifiers of both can be put in order.
use Rattle.std.proofs.Common.{◌≡◌, ◌⊎◌, ◌<◌, ◌≤◌, ◌+◌, ◌-◌, ◌++◌, ℕ, Bool, List, [], length, map, arith, refl, sym, ◌∙◌, subst, Option, None, Some, inl, inr}
use Rattle.std.specs.List.{range_with_len}
use Rattle.std.proofs.lemmas.Bool.{cases_lt}
use Rattle.std.proofs.lemmas.List.FromFn.{get_or-map-range_with_len, length-map-range_with_len}
use Rattle.std.proofs.lemmas.Option.{get_or_from_slice_get, slice_get_within}
use Rattle.list_facts.proofs.Decisions.{Decided, decided_at_most, decided_both, decided_less, decided_like, decided_not, decided_some, first_below}
use Rattle.list_facts.proofs.Sorting.{sorted_once}
use Rattle.scrub_disk.specs.Image.{Image, image_byte, extent_bytes}
use Rattle.scrub_super.proofs.PagesThere.{decided_held, some_pages}
use Rattle.scrub_run.specs.declared.shard_id.ShardId.{ShardId}
use Rattle.scrub_merge.specs.Binding.{BindingValue}
use Rattle.scrub_merge.proofs.Identifiers.{id_cmp_exact, id_cmp_total}
use Rattle.scrub_found.specs.Scrubbed.{Scrubbed}
use Rattle.scrub_loose.proofs.LooseThere.{some_loose}
use Rattle.scrub_found.proofs.Existing.{some_scrub}
use Rattle.scrub_found.proofs.GivenPlans.{plan_but_fits}
use Rattle.scrub_compare.specs.Compare.{AreBoundIds, AreCompared, Compared, IsComparison, comparison_text, is_safe}
use Rattle.scrub_compare.specs.Written.{AreFirstWritten, IsChanged, IsLeastNumber, IsWrittenIn, IsWrittenInRecords, IsZeroNow, MayChangeInRoom, pointer_in, room_at}
use Rattle.scrub_compare.proofs.BoundIds.{bound_found}
use Rattle.scrub_compare.proofs.ChangedBytes.{none_past, same_or_other}

-- ---- which bytes may not have changed

decided_either : {P Q : Type 0} → Decided P → Decided Q → Decided (P ⊎ Q)
decided_either (inl p) d = inl (inl p)
decided_either (inr n) (inl q) = inl (inr q)
decided_either (inr n) (inr m) = inr (λ s. elim s [ inl p ↦ n p | inr q ↦ m q ])

module _ (before after : Image) where
  decided_changed : (x p : ℕ) → Decided (IsChanged before after x p)
  decided_changed x p = decided_not (same_or_other (image_byte before x p) (image_byte after x p))

  decided_zero : (x p : ℕ) → Decided (IsZeroNow before after x p)
  decided_zero x p =
      decided_like (decided_both (decided_not (same_or_other (image_byte before x p) None)) (decided_some (image_byte after x p) 0))
      (λ h. record { was_readable = h.0; is_zero = h.1 })
      (λ z. (z.was_readable, z.is_zero))

  decided_in_records : (p : ℕ) → Decided (IsWrittenInRecords before after p)
  decided_in_records p =
      decided_both (decided_changed 0 p) (decided_not (decided_either (decided_zero 0 p) (decided_held after p)))

  decided_in_room : (room : Option ℕ) (pointer x p : ℕ) → Decided (MayChangeInRoom before after room pointer x p)
  decided_in_room None pointer x p = inr (λ may. may)
  decided_in_room (Some place) pointer x p =
      decided_both (decided_at_most place p) (decided_either (decided_less p pointer) (decided_zero x p))

  decided_in : (room : Option ℕ) (pointer x p : ℕ) → Decided (IsWrittenIn before after room pointer x p)
  decided_in room pointer x p = decided_both (decided_changed x p) (decided_not (decided_in_room room pointer x p))

  -- none changed past the ends of both extents
  end : ℕ
  end = extent_bytes before.geometry + extent_bytes after.geometry

  unchanged_past : (x p : ℕ) → end ≤ p → ¬ IsChanged before after x p
  unfolding end
  unchanged_past x p past changed =
      changed (none_past before x p (omega (arith, past)) ∙ sym (none_past after x p (omega (arith, past))))

-- ---- the first of them

some_least : (P : ℕ → Type 0) → ((p : ℕ) → Decided (P p)) → (top : ℕ) → ((p : ℕ) → top ≤ p → ¬ P p) →
    (o : Option ℕ) × IsLeastNumber P o
some_least P each top past = by (first_below P each top)
  where
    by : ((k : ℕ) × (k < top) × P k × ((j : ℕ) → j < k → P j → ⊥)) ⊎ ((k : ℕ) → k < top → P k → ⊥) →
        (o : Option ℕ) × IsLeastNumber P o
    by (inl (k, below, is, earlier)) = (Some k, (is, earlier))
    by (inr none) = (None, λ p is. elim (cases_lt p top) [ inl less ↦ none p less is | inr more ↦ past p more is ])

module _ (before after : Image) (found_before found_after : Scrubbed) where
  abbrev IsWritten : ℕ → ℕ → Type 0
  IsWritten k = IsWrittenIn before after (room_at found_before (k + 1)) (pointer_in found_after.plan (k + 1)) (k + 1)

  first_in : (k : ℕ) → (o : Option ℕ) × IsLeastNumber (IsWritten k) o
  first_in k =
      some_least (IsWritten k) (decided_in before after (room_at found_before (k + 1)) (pointer_in found_after.plan (k + 1)) (k + 1))
      (end before after) (λ p past is. unchanged_past before after (k + 1) p past is.0)

  some_firsts : (firsts : List (Option ℕ)) × AreFirstWritten before after found_before found_after firsts
  some_firsts = (
    map first (range_with_len 0 n),
    record {
      count = omega (arith, length-map-range_with_len first 0 n, before.geometry.extents_least);
      each = λ k o is.
          let here : k < length (map first (range_with_len 0 n)) = slice_get_within (map first (range_with_len 0 n)) k o is in
          let there : o ≡ first k =
          sym (get_or_from_slice_get (map first (range_with_len 0 n)) k o o is)
          ∙ get_or-map-range_with_len first 0 n k k o (omega (arith, here, length-map-range_with_len first 0 n)) (omega arith) in
          subst (λ (f : Option ℕ). IsLeastNumber (IsWritten k) f) (sym there) (first_in k).1;
    },
  )
    where
      n : ℕ
      n = before.geometry.extents - 1

      first : ℕ → Option ℕ
      first k = (first_in k).0

-- ---- the identifiers of both

some_ids : (old new : List BindingValue) → (ids : List ShardId) × AreBoundIds old new ids
some_ids old new =
    let once = sorted_once id_cmp_total id_cmp_exact (map (λ b. b.id) old ++ map (λ b. b.id) new) in
    (once.0, bound_found old new once.0 (record { rising = once.1; same = once.2 }))

-- ---- the whole comparison

some_compared : (resets : List ℕ) (before after : Image) → (c : Compared) × AreCompared resets before after c
some_compared resets before after =
    let found_before = some_scrub [] before in
    let found_after = some_scrub [] after in
    let found_after_resets = some_scrub resets after in
    let loose =
    some_loose [] before found_before.0.plan (plan_but_fits [] before found_before.0.choice found_before.0.plan found_before.1.choice found_before.1.plan) in
    let loose_now =
    some_loose resets after found_after_resets.0.plan (plan_but_fits resets after found_after_resets.0.choice found_after_resets.0.plan found_after_resets.1.choice found_after_resets.1.plan) in
    let pages = some_pages before in
    let pages_now = some_pages after in
    let first =
    some_least (IsWrittenInRecords before after) (decided_in_records before after) (end before after)
    (λ p past is. unchanged_past before after 0 p past is.0) in
    let firsts = some_firsts before after found_before.0 found_after.0 in
    let ids = some_ids found_before.0.bindings found_after_resets.0.bindings in (
      record {
        before = found_before.0;
        after = found_after.0;
        after_resets = found_after_resets.0;
        loose = loose.0;
        loose_now = loose_now.0;
        pages = pages.0;
        pages_now = pages_now.0;
        first = first.0;
        firsts = firsts.0;
        ids = ids.0;
      },
      record {
        scrubbed_before = found_before.1;
        scrubbed_after = found_after.1;
        scrubbed_after_resets = found_after_resets.1;
        loose = loose.1;
        loose_now = loose_now.1;
        pages = pages.1;
        pages_now = pages_now.1;
        first = first.1;
        firsts = firsts.1;
        ids = ids.1;
      },
    )

-- Any two images have a comparison, and a verdict whether the step between them is safe.
pub some_comparison : (resets : List ℕ) (before after : Image) →
    (text : List ℕ) × (safe : Bool) × IsComparison resets before after text safe
some_comparison resets before after =
    let c = some_compared resets before after in (
      comparison_text resets c.0,
      is_safe resets c.0,
      record { compared = c.0; are = c.1; text_is = refl; verdict = refl },
    )
