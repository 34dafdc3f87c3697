-- If no extent is retired, a payload is lost exactly if no frame of the disk has what its locator asks for.
use Rattle.std.proofs.Common.{◌≡◌, ◌⊎◌, inl, inr, ◌↔◌, ◌<◌, ◌≤◌, ◌+◌, ◌-◌, [], ℕ, zero, suc, Bool, true, false, List, MatchBool, MatchOption, Option, Some, length, arith, refl, sym, ◌∙◌, ap, subst}
use Rattle.std.specs.List.{All, Contains, range_with_len}
use Rattle.std.proofs.lemmas.Bool.{false≢true}
use Rattle.std.proofs.lemmas.List.Elements.{All-contains}
use Rattle.std.proofs.lemmas.List.FromFn.{get_or-range_with_len, length-range_with_len}
use Rattle.scrub_disk.specs.Image.{Image}
use Rattle.scrub_frame.specs.declared.locator.Locator.{Locator}
use Rattle.scrub_super.specs.Plan.{PlanValue, pointer_of}
use Rattle.scrub_super.specs.Planned.{extents_in_use}
use Rattle.scrub_super.proofs.Plans.{all_kept, in_use_planned}
use Rattle.scrub_scan.specs.declared.standing.Standing.{Standing}
use Rattle.scrub_merge.specs.Binding.{BindingValue}
use Rattle.scrub_check.specs.declared.statuses.checked.Checked.{Checked}
use Rattle.scrub_check.specs.declared.statuses.status.Status.{Status}
use Rattle.scrub_check.specs.declared.statuses.status.Status.TheVariants.{OutOfRange, Hidden, Sound}
use Rattle.scrub_check.specs.Checked.{AreChecked, is_dangling}
use Rattle.scrub_check.specs.ChunkRun.{StandsThere, standing_of}
use Rattle.scrub_check.specs.Named.{named_by_shard}
use Rattle.scrub_check.specs.Spares.{frames}
use Rattle.scrub_check.specs.Status.{HasStatus, HasStatusIn, HasStatusInRetired, is_retired}
use Rattle.scrub_check.specs.WholeScan.{IsWholeScan}
use Rattle.scrub_check.proofs.Payloads.{stands_there}
use Rattle.scrub_loose.specs.Anywhere.{IsCrowded}
use Rattle.scrub_loose.specs.Loose.{AreLoose, LooseValue}
use Rattle.scrub_shard.specs.Shard.{IsMappedFrom, IsNowhere, IsOnNoExtent, Mapped, is_payload_lost}
use Rattle.scrub_shard.proofs.Frames.{StandsPastZero, frames_there}
use Rattle.scrub_shard.proofs.Lost.{not_dangling}
use Rattle.scrub_shard.proofs.Nowhere.{lost, nowhere, whole_scan}

-- an extent other than extent 0 is in use if none is retired
in_use : (extents e : ℕ) → 0 < e → e < extents → Contains (extents_in_use extents []) e
in_use extents e first below =
    let size : length (range_with_len 1 (extents - 1)) ≡ extents - 1 = length-range_with_len 1 (extents - 1) in
    let back : 1 + (e - 1) ≡ e = omega (arith, first) in
    subst (λ (xs : List ℕ). Contains xs e) (sym (all_kept extents))
    (e - 1, omega (arith, size, first, below), get_or-range_with_len 1 (extents - 1) (e - 1) e (omega (arith, first, below)) ∙ back)

-- ---- locators that don't dangle

-- extent 0 has no chunk that a locator names
not_first : (image : Image) (plan : PlanValue) (l : Locator) (s : Status) → is_dangling s ≡ false → HasStatusIn image plan l s → l.extent ≡ 0 → ⊥
not_first image plan l s sound status first =
    by (is_retired plan 0)
    (subst (λ (e : ℕ). MatchBool (is_retired plan e) (HasStatusInRetired image l s) (MatchOption (pointer_of plan e) (s ≡ OutOfRange) (λ w. HasStatus image w l s))) first status)
  where
    in_retired : (t : Status) → (t ≡ Sound) ⊎ (t ≡ Hidden) → HasStatusInRetired image l t → ⊥
    in_retired t (inl is) h = subst (λ (u : Status). HasStatusInRetired image l u) is h
    in_retired t (inr is) h = subst (λ (u : Status). HasStatusInRetired image l u) is h

    by : (b : Bool) → MatchBool b (HasStatusInRetired image l s) (s ≡ OutOfRange) → ⊥
    by true h = in_retired s (not_dangling s sound) h
    by false h = false≢true (sym sound ∙ ap is_dangling h)

module _ (given : Option (List Locator)) (image : Image) (m : Mapped) (mapped : IsMappedFrom given image m) (v : LooseValue)
    (are : AreLoose [] image m.plan v) (c : Checked) (status : HasStatusIn image m.plan c.locator c.status) where
  whole : IsWholeScan image m.plan m.all
  whole = whole_scan given image m mapped

  from_one : All (λ (n : ℕ). 1 ≤ n) m.plan.planned
  from_one = subst (λ (ns : List ℕ). All (λ n. 1 ≤ n) ns) (sym whole.planned) (in_use_planned image.geometry.extents m.plan.retired).from_one

  -- what is lost is on no extent, if none is retired or crowded
  pub on_none : m.plan.retired ≡ [] → ((e : ℕ) → IsCrowded image e → ⊥) → is_payload_lost m.all v.frames c ≡ true → IsOnNoExtent image c.locator
  on_none none sparse e =
      let n : IsNowhere image m.plan m.all c = nowhere image m.plan m.all v whole are c e in
      record {
        asks = n.asks;
        no_frame = λ s x same.
            n.no_frame s
            (record {
              planned =
                  subst (λ (ns : List ℕ). Contains ns s.extent) (sym (whole.planned ∙ ap (extents_in_use image.geometry.extents) none))
                  (in_use image.geometry.extents s.extent x.behind x.stands.has.in_disk);
              sparse = sparse s.extent;
              stands = x.stands;
            })
            same;
      }

  -- what is on no extent is lost
  pub is_lost : IsOnNoExtent image c.locator → is_payload_lost m.all v.frames c ≡ true
  is_lost x =
      lost image m.plan m.all v whole are c
      (record {
        asks = x.asks;
        dangles = dangles (is_dangling c.status) refl;
        no_chunk = λ s among same.
            x.no_frame s
            (record {
              behind = (let one : 1 ≤ s.extent = (there s among).1 in omega (arith, one));
              stands = (there s among).0;
            })
            same;
        no_frame = λ s used same.
            x.no_frame s
            (record {
              behind =
                  (let one : 1 ≤ s.extent = All-contains (λ (n : ℕ). 1 ≤ n) m.plan.planned s.extent from_one used.planned in omega (arith, one));
              stands = used.stands;
            })
            same;
      })
    where
      there : (s : Standing) → Contains (frames m.all) s → StandsPastZero image s
      there s among = All-contains (StandsPastZero image) (frames m.all) s (frames_there image m.plan m.all whole) among

      behind : is_dangling c.status ≡ false → (n : ℕ) → c.locator.extent ≡ n → 0 < c.locator.extent
      behind sound zero e = absurd (not_first image m.plan c.locator c.status sound status e)
      behind sound (suc n) e = omega (arith, e)

      dangles : (b : Bool) → is_dangling c.status ≡ b → is_dangling c.status ≡ true
      dangles true e = e
      dangles false e =
          let there : StandsThere image c.locator = stands_there image m.plan c.locator c.status (not_dangling c.status e) status in
          absurd (x.no_frame (standing_of c.locator there.form)
          (record { behind = behind e c.locator.extent refl; stands = there.stands }) (refl, refl))

-- If no extent is retired or crowded, a payload is lost exactly if no frame of the disk has it.
pub lost_if_nowhere : (given : Option (List Locator)) (image : Image) (m : Mapped) → IsMappedFrom given image m → m.plan.retired ≡ [] →
    ((e : ℕ) → IsCrowded image e → ⊥) → (b : BindingValue) (own : List Checked) →
    AreChecked image m.plan (named_by_shard b) own → (loose : LooseValue) → AreLoose [] image m.plan loose → (c : Checked) → Contains own c →
    (is_payload_lost m.all loose.frames c ≡ true) ↔ IsOnNoExtent image c.locator
lost_if_nowhere given image m mapped none sparse b own checked loose are c among =
    let status : HasStatusIn image m.plan c.locator c.status =
    All-contains (λ (d : Checked). HasStatusIn image m.plan d.locator d.status) own c checked.statuses among in
    (on_none given image m mapped loose are c status none sparse, is_lost given image m mapped loose are c status)

-- So it is by given runs.
pub lost_by_runs : (runs : List Locator) (image : Image) (m : Mapped) → IsMappedFrom (Some runs) image m →
    ((e : ℕ) → IsCrowded image e → ⊥) → (b : BindingValue) (own : List Checked) →
    AreChecked image m.plan (named_by_shard b) own → (loose : LooseValue) → AreLoose [] image m.plan loose → (c : Checked) → Contains own c →
    (is_payload_lost m.all loose.frames c ≡ true) ↔ IsOnNoExtent image c.locator
lost_by_runs runs image m mapped = lost_if_nowhere (Some runs) image m mapped (ap (λ (p : PlanValue). p.retired) mapped.plan)
