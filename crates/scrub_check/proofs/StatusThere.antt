-- Each test of a locator is decided, so each locator has a status; and the run of each was read or is lost.
use Rattle.std.proofs.Common.{◌≡◌, ◌⊎◌, ◌<◌, ◌≤◌, ◌+◌, ◌-◌, ℕ, Bool, true, false, List, map, length, Contains, arith, refl, sym, ◌∙◌, ap, subst, Option, Some, None, MatchBool, MatchOption, inl, inr}
use Rattle.std.proofs.lemmas.Bool.{false≢true}
use Rattle.std.proofs.lemmas.Option.{none-some, same_Some}
use Rattle.sha2.specs.Sha256.{sha256}
use Rattle.list_facts.proofs.Decisions.{Decided, decided_at_most, decided_both, decided_less, decided_like, decided_none, decided_number, decided_numbers, some_below, some_element}
use Rattle.scrub_disk.specs.Image.{Image, image_byte, extent_bytes}
use Rattle.scrub_frame.specs.declared.form.Form.{Form}
use Rattle.scrub_frame.specs.declared.locator.Locator.{Locator}
use Rattle.scrub_super.specs.Plan.{PlanValue, pointer_of}
use Rattle.scrub_scan.specs.Extent.{Extent, extent_of, FrameAt, NoFrameAt, HasGap}
use Rattle.scrub_scan.specs.declared.item.Item.{Item}
use Rattle.scrub_scan.specs.Item.{start_of}
use Rattle.scrub_scan.specs.Tiling.{IsTiling}
use Rattle.scrub_scan.proofs.Existing.{some_frame, some_tiling}
use Rattle.scrub_scan.proofs.Tilings.{one_tiling}
use Rattle.scrub_run.specs.Entry.{EntryValue}
use Rattle.scrub_run.specs.Run.{IsRun}
use Rattle.scrub_run.proofs.RunsThere.{some_run}
use Rattle.scrub_check.specs.declared.runs.RunState.{RunState}
use Rattle.scrub_check.specs.declared.runs.RunState.TheVariants.{Read, BadChunk, NotARun}
use Rattle.scrub_check.specs.declared.statuses.status.Status.{Status}
use Rattle.scrub_check.specs.declared.statuses.status.Status.TheVariants.{OutOfRange, Retired, PastPointer, Unreadable, NoFrame, WrongUuid, WrongLength, WrongDigest, Hidden, Sound}
use Rattle.scrub_check.specs.Checked.{is_dangling}
use Rattle.scrub_check.specs.Runs.{NamesChunkIn, HasRunIn}
use Rattle.scrub_check.specs.Status.{end_of, InRange, HasUnreadableByte, CanStand, FindsFrame, NamesChunk, BeginsAt, HasStatus, HasStatusInRetired, HasStatusIn, is_retired}
use Rattle.scrub_check.proofs.RunStates.{HasStatusInUse, named, unnamed}
use Rattle.scrub_check.proofs.StatusKinds.{status_kinds}

-- ---- under a write pointer

decided_in_range : (image : Image) (l : Locator) → Decided (InRange image.geometry l)
decided_in_range image l =
    let extents : Decided ((1 ≤ l.extent) × (l.extent < image.geometry.extents)) =
    decided_both (decided_at_most 1 l.extent) (decided_less l.extent image.geometry.extents) in
    let all : Decided (((1 ≤ l.extent) × (l.extent < image.geometry.extents)) × (end_of l ≤ extent_bytes image.geometry)) =
    decided_both extents (decided_at_most (end_of l) (extent_bytes image.geometry)) in
    decided_like all
    (λ h. record { from_one = h.0.0; in_disk = h.0.1; in_extent = h.1 })
    (λ h. ((h.from_one, h.in_disk), h.in_extent))

decided_gap : (at : ℕ → Option ℕ) (p n : ℕ) → Decided (HasGap at p n)
decided_gap at p n = by (some_below (λ k. at (p + k) ≡ None) (λ k. decided_none (at (p + k))) n)
  where
    by : ((k : ℕ) × (k < n) × (at (p + k) ≡ None)) ⊎ ((k : ℕ) → k < n → at (p + k) ≡ None → ⊥) → Decided (HasGap at p n)
    by (inl (k, here, lost)) =
        inl (record { place = p + k; low = omega arith; high = omega (arith, here); unreadable = lost })
    by (inr whole) = inr (λ gap.
        let e : p + (gap.place - p) ≡ gap.place = omega (arith, gap.low) in
        whole (gap.place - p) (omega (arith, gap.low, gap.high)) (ap at e ∙ gap.unreadable))

decided_begins : (x : Extent) (p : ℕ) → 0 < x.page → Decided (BeginsAt x p)
decided_begins x p pos = by (some_element (λ q. q ≡ p) (λ q. decided_number q p) (map start_of tiled.0))
  where
    tiled : (items : List Item) × IsTiling x items
    tiled = some_tiling x pos

    by : ((q : ℕ) × Contains (map start_of tiled.0) q × (q ≡ p)) ⊎ ((q : ℕ) → Contains (map start_of tiled.0) q → q ≡ p → ⊥) →
        Decided (BeginsAt x p)
    by (inl (q, there, is)) =
        inl (record { items = tiled.0; tiled = tiled.1; begins = subst (Contains (map start_of tiled.0)) is there })
    by (inr none) = inr (λ b.
        let same : b.items ≡ tiled.0 = one_tiling x b.items tiled.0 pos b.tiled tiled.1 in
        none p (subst (λ (items : List Item). Contains (map start_of items) p) same b.begins) refl)

module _ (image : Image) (w : ℕ) (l : Locator) where
  judge_chunk : NamesChunk image w l → (s : Status) × HasStatus image w l s
  judge_chunk n = by (decided_begins (extent_of image l.extent w) l.offset (omega (arith, image.geometry.page_least)))
    where
      by : Decided (BeginsAt (extent_of image l.extent w) l.offset) → (s : Status) × HasStatus image w l s
      by (inl begins) = (Sound, (n, begins))
      by (inr hidden) = (Hidden, (n, hidden))

  judge_own : (b : List ℕ) → FindsFrame image w l l.uuid b → (s : Status) × HasStatus image w l s
  judge_own b f = by_length (decided_number (length b) l.length)
    where
      by_length : Decided (length b ≡ l.length) → (s : Status) × HasStatus image w l s
      by_length (inr other) = (WrongLength, (b, f, other))
      by_length (inl same) = by_digest (decided_numbers (sha256 b) l.digest)
        where
          by_digest : Decided (sha256 b ≡ l.digest) → (s : Status) × HasStatus image w l s
          by_digest (inr other) = (WrongDigest, (b, f, same, other))
          by_digest (inl digest) = judge_chunk (record { payload = b; found = f; length = same; digest = digest })

  judge_frame : (u b : List ℕ) → FindsFrame image w l u b → (s : Status) × HasStatus image w l s
  judge_frame u b f = by (decided_numbers u l.uuid)
    where
      by : Decided (u ≡ l.uuid) → (s : Status) × HasStatus image w l s
      by (inr other) = (WrongUuid, (u, (b, f, other)))
      by (inl same) = judge_own b (subst (λ (v : List ℕ). FindsFrame image w l v b) same f)

  judge_place : CanStand image w l → (s : Status) × HasStatus image w l s
  judge_place can = by (some_frame (extent_of image l.extent w) l.offset)
    where
      by : ((f : Form) × (u : List ℕ) × (b : List ℕ) × FrameAt (extent_of image l.extent w) l.offset f u b) ⊎ NoFrameAt (extent_of image l.extent w) l.offset →
          (s : Status) × HasStatus image w l s
      by (inr none) = (NoFrame, (can, none))
      by (inl x) = judge_frame x.1 x.2 (record { can = can; form = x.0; frame = x.3 })

  -- Under each write pointer a locator has a status.
  pub some_status : (s : Status) × HasStatus image w l s
  some_status = by_range (decided_in_range image l)
    where
      by_range : Decided (InRange image.geometry l) → (s : Status) × HasStatus image w l s
      by_range (inr out) = (OutOfRange, out)
      by_range (inl in_range) = by_pointer (decided_at_most (end_of l) w)
        where
          by_pointer : Decided (end_of l ≤ w) → (s : Status) × HasStatus image w l s
          by_pointer (inr past) = (PastPointer, (in_range, past))
          by_pointer (inl below) =
              by_bytes (decided_gap (image_byte image l.extent) l.offset (l.length + 38))
            where
              by_bytes : Decided (HasUnreadableByte image l) → (s : Status) × HasStatus image w l s
              by_bytes (inl gap) = (Unreadable, (in_range, below, gap))
              by_bytes (inr readable) =
                  judge_place (record { in_range = in_range; below = below; readable = readable })

  -- whether the locator names a chunk
  decided_named : Decided (NamesChunk image w l)
  decided_named = by (status_kinds some_status.0)
    where
      by : (some_status.0 ≡ Sound) ⊎ ((some_status.0 ≡ Hidden) ⊎ (is_dangling some_status.0 ≡ true)) → Decided (NamesChunk image w l)
      by (inl is) = inl (named image w l some_status.0 (inl is) some_status.1)
      by (inr (inl is)) = inl (named image w l some_status.0 (inr is) some_status.1)
      by (inr (inr dangles)) =
          inr (unnamed image w l some_status.0 (λ is. false≢true (sym (ap is_dangling is) ∙ dangles))
          (λ is. false≢true (sym (ap is_dangling is) ∙ dangles)) some_status.1)

-- ---- by a plan

some_in_retired : (image : Image) (l : Locator) → (s : Status) × HasStatusInRetired image l s
some_in_retired image l = by (decided_in_range image l)
  where
    by : Decided (InRange image.geometry l) → (s : Status) × HasStatusInRetired image l s
    by (inl in_range) = (Retired, in_range)
    by (inr out) = (OutOfRange, out)

-- a locator has a status
pub some_in_plan : (image : Image) (plan : PlanValue) (l : Locator) → (s : Status) × HasStatusIn image plan l s
some_in_plan image plan l = by (is_retired plan l.extent)
  where
    in_use : (o : Option ℕ) → (s : Status) × MatchOption o (s ≡ OutOfRange) (λ w. HasStatus image w l s)
    in_use None = (OutOfRange, refl)
    in_use (Some w) = some_status image w l

    by : (b : Bool) → (s : Status) × MatchBool b (HasStatusInRetired image l s) (HasStatusInUse image plan l s)
    by true = some_in_retired image l
    by false = in_use (pointer_of plan l.extent)

-- whether the locator names a chunk by the plan
decided_named_in : (image : Image) (plan : PlanValue) (l : Locator) → Decided (NamesChunkIn image plan l)
decided_named_in image plan l = by_use (is_retired plan l.extent) refl
  where
    by_use : (b : Bool) → is_retired plan l.extent ≡ b → Decided (NamesChunkIn image plan l)
    by_use true e = inr (λ n. false≢true (sym n.in_use ∙ e))
    by_use false e = by_pointer (pointer_of plan l.extent) refl
      where
        by_pointer : (o : Option ℕ) → pointer_of plan l.extent ≡ o → Decided (NamesChunkIn image plan l)
        by_pointer None none = inr (λ n. none-some n.pointer (sym none ∙ n.has_pointer))
        by_pointer (Some w) is = by (decided_named image w l)
          where
            by : Decided (NamesChunk image w l) → Decided (NamesChunkIn image plan l)
            by (inl n) = inl (record { in_use = e; pointer = w; has_pointer = is; chunk = n })
            by (inr other) = inr (λ n.
                let same : n.pointer ≡ w = same_Some n.pointer w (sym n.has_pointer ∙ is) in
                other (subst (λ (v : ℕ). NamesChunk image v l) same n.chunk))

-- ---- index runs

-- a run that a locator names was read, or is lost
pub some_run_in : (image : Image) (plan : PlanValue) (l : Locator) →
    (run : Option (List EntryValue)) × (state : RunState) × HasRunIn image plan l run state
some_run_in image plan l = by (decided_named_in image plan l)
  where
    by : Decided (NamesChunkIn image plan l) →
        (run : Option (List EntryValue)) × (state : RunState) × HasRunIn image plan l run state
    by (inr lost) = let s = some_in_plan image plan l in (None, BadChunk s.0, (s.1, lost))
    by (inl names) = by_payload (some_run names.chunk.payload)
      where
        by_payload : ((es : List EntryValue) × IsRun names.chunk.payload es) ⊎ ((es : List EntryValue) → IsRun names.chunk.payload es → ⊥) →
            (run : Option (List EntryValue)) × (state : RunState) × HasRunIn image plan l run state
        by_payload (inl x) = (Some x.0, Read, (names, x.1))
        by_payload (inr none) = (None, NotARun, (names, none))
