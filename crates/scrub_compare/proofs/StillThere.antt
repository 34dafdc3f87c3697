-- What had a loose copy before a safe step has a copy after it, as a frame of the later image.
use Rattle.std.proofs.Common.{◌≡◌, ◌<◌, ◌≤◌, ◌==◌, ◌&&◌, [], ℕ, Bool, true, false, List, Some, None, length, get_or, nat_lt, arith, sym, ◌∙◌, subst, inl, inr, if◌then◌else◌}
use Rattle.std.specs.List.{Contains, filter, slice_get}
use Rattle.std.specs.Str.{bytes_eq}
use Rattle.std.proofs.lemmas.Bool.{and_parts, false≢true}
use Rattle.std.proofs.lemmas.List.Elements.{All-contains, filter_passes}
use Rattle.std.proofs.lemmas.Option.{slice_get-get_or, slice_get_within}
use Rattle.std.proofs.lemmas.Slice.Eq.{bytes_eq-Decides}
use Rattle.hex.specs.Hex.{encode_lower}
use Rattle.sha2.specs.Sha256.{sha256}
use Rattle.list_facts.proofs.Elements.{Contains-from_filter}
use Rattle.scrub_disk.specs.Image.{Image}
use Rattle.scrub_frame.specs.declared.locator.Locator.{Locator}
use Rattle.scrub_run.specs.declared.shard_id.ShardId.{ShardId}
use Rattle.scrub_scan.specs.declared.standing.Standing.{Standing}
use Rattle.scrub_scan.specs.Standing.{Stands}
use Rattle.scrub_check.specs.declared.statuses.checked.Checked.{Checked}
use Rattle.scrub_check.specs.Checked.{is_dangling, is_owned_by}
use Rattle.scrub_check.specs.Spares.{asks_for_spares, frames, is_copy_of, spares_by, spares_of}
use Rattle.scrub_loose.specs.declared.copies.BestCopy.{BestCopy}
use Rattle.scrub_loose.specs.Loose.{AreLoose, IsLooseFrame, LooseValue, best_of, is_gone, loose_of}
use Rattle.scrub_found.specs.Resets.{IsScrubbedBut}
use Rattle.scrub_found.specs.Scrubbed.{Scrubbed}
use Rattle.scrub_found.proofs.ResetPlans.{whole_but}
use Rattle.scrub_listings.specs.Manifest.{of_shards}
use Rattle.scrub_listings.proofs.ManifestTexts.{HasSmallNumbers, small}
use Rattle.scrub_reclaim.specs.Copy.{rank}
use Rattle.scrub_reclaim.proofs.BestCopies.{loose_among}
use Rattle.scrub_reclaim.proofs.ResetForms.{spare_among}
use Rattle.scrub_compare.specs.Compare.{AreCompared, Compared, HasBinding, has_no_less, owned_by, row_in}
use Rattle.scrub_compare.proofs.ChunksThere.{IsThereIn, chunks_there}
use Rattle.scrub_compare.proofs.KeptManifest.{AreKept, kept, some_bound}
use Rattle.scrub_compare.proofs.KeptNames.{owned_there}
use Rattle.scrub_compare.proofs.LastWords.{no_lower, some_copy, some_rank}
use Rattle.scrub_compare.proofs.Safe.{HasNoLine}
use Rattle.scrub_compare.proofs.SameContent.{same_digests, same_words}

-- ---- a copy is there

-- a frame that has what a locator asks for is there, in an extent with a number among these
pub record IsCopyThere (image : Image) (numbers : List ℕ) (l : Locator) (s : Standing) : Type 0 where
  pub there : IsThereIn image numbers s
  pub copies : is_copy_of l s ≡ true

-- a spare has what its locator asks for
spare_copies : (c : Checked) (xs : List Standing) (s : Standing) → Contains (spares_by xs c) s → is_copy_of c.locator s ≡ true
spare_copies c xs s = by (asks_for_spares c)
  where
    by : (b : Bool) → Contains (if b then filter (is_copy_of c.locator) xs else []) s → is_copy_of c.locator s ≡ true
    by true there =
        All-contains (λ (t : Standing). is_copy_of c.locator t ≡ true) (filter (is_copy_of c.locator) xs) s
        (filter_passes (is_copy_of c.locator) xs) there
    by false there = absurd (omega (arith, there.1))

-- If the best copy of a locator isn't nowhere, a copy is there in an extent in use.
one_there : (resets : List ℕ) (image : Image) (s : Scrubbed) (loose : LooseValue) → IsScrubbedBut resets image s →
    AreLoose resets image s.plan loose → (d : Checked) → 0 < rank (best_of s.all loose.frames d) →
    (t : Standing) × IsCopyThere image s.plan.planned d.locator t
one_there resets image s loose x l d some = elim (some_copy (spares_of s.all d) (loose_of s.all loose.frames d) some) [
  | inl (t, there) ↦ (
    t,
    record {
      there =
          All-contains (IsThereIn image s.plan.planned) (frames s.all) t
          (chunks_there image s.plan s.all (whole_but resets s.choice s.plan image s.all x.choice x.plan x.all))
          (spare_among d (frames s.all) [] t there);
      copies = spare_copies d (frames s.all) t there;
    },
  )
  | inr (t, there) ↦
      let copy = loose_among d s.all s.all loose.frames loose.frames t there in
      let is : IsLooseFrame resets image s.plan t = (l.frames t).0 copy.2 in
      (t, record { there = record { number = is.searched.in_use; stands = is.stands }; copies = copy.1 })
]

-- a copy's digest is that of a payload, and so is what its locator asks for
asked_digest : (image : Image) (l : Locator) (s : Standing) → Stands image s → is_copy_of l s ≡ true → (payload : List ℕ) × (l.digest ≡ sha256 payload)
asked_digest image l s stands copies =
    let same : s.digest ≡ l.digest =
    (bytes_eq-Decides s.digest l.digest).0 (and_parts (bytes_eq s.digest l.digest) (s.length == l.length) copies).0 in
    (stands.payload, sym same ∙ stands.has.frame.digest)

-- ---- the numbers of a shard's locator

module _ (resets : List ℕ) (image : Image) (s : Scrubbed) (x : IsScrubbedBut resets image s) (id : ShardId) (n : ℕ) (c : Checked)
    (at : slice_get (owned_by id (of_shards s.checked)) n ≡ Some c) where
  own_numbers : HasSmallNumbers c.locator
  own_numbers =
      All-contains (λ (d : Checked). HasSmallNumbers d.locator) (of_shards s.checked) c
      (small resets image s x) (Contains-from_filter (λ (d : Checked). is_owned_by id d.owner) (of_shards s.checked) c (owned_there s id n c at)).0

-- ---- what is safe

module _ (resets : List ℕ) (before after : Image) (c : Compared) (are : AreCompared resets before after c) (none : HasNoLine resets c) where
  k : AreKept c.before c.after_resets c.loose.frames c.loose_now.frames
  k = kept resets before after c are none

  -- a locator with a loose copy in the earlier image, and the one with its number in the later one
  module _ (id : ShardId) (n : ℕ) (e : Checked) (was : slice_get (owned_by id (of_shards c.before.checked)) n ≡ Some e) (s : Standing)
      (loose : Contains (loose_of c.before.all c.loose.frames e) s) where
    is : (is_gone c.before.all e ≡ true) × (is_copy_of e.locator s ≡ true) × Contains c.loose.frames s
    is = loose_among e c.before.all c.before.all c.loose.frames c.loose.frames s loose

    bound : HasBinding c.before.bindings id
    bound =
        some_bound [] before c.before are.scrubbed_before id (omega (arith, slice_get_within (owned_by id (of_shards c.before.checked)) n e was))

    abbrev d : Checked
    d = get_or (owned_by id (of_shards c.after_resets.checked)) n e

    at : slice_get (owned_by id (of_shards c.after_resets.checked)) n ≡ Some d
    at =
        slice_get-get_or (owned_by id (of_shards c.after_resets.checked)) n e
        (omega (arith, slice_get_within (owned_by id (of_shards c.before.checked)) n e was, k.sizes id bound))

    parts : (bytes_eq (row_in c.before c.loose.frames n e).stem (row_in c.after_resets c.loose_now.frames n d).stem ≡ true)
        × (has_no_less (row_in c.before c.loose.frames n e).best (row_in c.after_resets c.loose_now.frames n d).best ≡ true)
    parts =
        and_parts (bytes_eq (row_in c.before c.loose.frames n e).stem (row_in c.after_resets c.loose_now.frames n d).stem)
        (has_no_less (row_in c.before c.loose.frames n e).best (row_in c.after_resets c.loose_now.frames n d).best) (k.alike id bound n e d was at)

    dangles : is_dangling e.status ≡ true
    dangles =
        let asks = and_parts (asks_for_spares e) (length (spares_of c.before.all e) == 0) is.0 in
        (and_parts (is_dangling e.status) (nat_lt 0 e.locator.length) asks.0).0

    abbrev old : BestCopy
    old = best_of c.before.all c.loose.frames e

    abbrev new : BestCopy
    new = best_of c.after_resets.all c.loose_now.frames d

    no_worse : rank old ≤ rank new
    no_worse =
        by (is_dangling d.status)
        (subst (λ (b : Bool). has_no_less (if b then Some old else None) (row_in c.after_resets c.loose_now.frames n d).best ≡ true) dangles parts.1)
      where
        by : (b : Bool) → has_no_less (Some old) (if b then Some new else None) ≡ true → rank old ≤ rank new
        by true less = no_lower old new less
        by false less = absurd (false≢true less)

    some : 0 < rank old
    some = some_rank (spares_of c.before.all e) (loose_of c.before.all c.loose.frames e) s loose

    found_there : (t : Standing) × IsCopyThere after c.after_resets.plan.planned d.locator t
    found_there = one_there resets after c.after_resets c.loose_now are.scrubbed_after_resets are.loose_now d (omega (arith, some, no_worse))

    words : (e.locator.length ≡ d.locator.length) × (encode_lower e.locator.digest ≡ encode_lower d.locator.digest)
    words =
        same_words n e d c.before.all c.after_resets.all
        (own_numbers [] before c.before are.scrubbed_before id n e was).length (own_numbers resets after c.after_resets are.scrubbed_after_resets id n d at).length
        ((bytes_eq-Decides (row_in c.before c.loose.frames n e).stem (row_in c.after_resets c.loose_now.frames n d).stem).0 parts.0)

    digests : e.locator.digest ≡ d.locator.digest
    digests =
        let one = asked_digest before e.locator s ((are.loose.frames s).0 is.2).stands is.1 in
        let other = asked_digest after d.locator found_there.0 found_there.1.there.stands found_there.1.copies in
        same_digests n e d one.0 other.0 one.1 other.1 words.1

    -- The locator of the earlier image has a copy among the frames of the later one.
    pub still_there : (t : Standing) × IsCopyThere after c.after_resets.plan.planned e.locator t
    still_there =
        let t = found_there.0 in
        (t, record { there = found_there.1.there; copies = (λ i. bytes_eq t.digest (digests i) && (t.length == words.0 i)) ∙ found_there.1.copies })
