-- Where no loose copy is accepted and nothing is in doubt, each locator that has a loose copy keeps one, where nothing is written; and
-- where no crowded extent is accepted, none is reset or written into while a payload is gone.
use Rattle.std.proofs.Common.{◌≡◌, ◌<◌, ◌==◌, ◌&&◌, ◌||◌, ◌∷◌, [], ℕ, suc, Bool, true, false, not, List, length, get_or, map, arith, refl, sym, ◌∙◌, ap, subst, if◌then◌else◌}
use Rattle.std.specs.List.{Contains, list_all, list_any}
use Rattle.std.proofs.lemmas.Bool.{eq-eqb, false≢true, or_right}
use Rattle.std.proofs.lemmas.List.Elements.{All-contains, All-contains_itself, All-filter, filter_passes}
use Rattle.std.proofs.lemmas.List.Folds.{list_any_at}
use Rattle.std.proofs.lemmas.List.Sums.{AllPass-from_list_all}
use Rattle.list_facts.proofs.Bools.{false_from_not}
use Rattle.list_facts.proofs.Elements.{Contains-flat_map}
use Rattle.scrub_frame.specs.declared.form.Form.TheVariants.{Plain}
use Rattle.scrub_super.specs.declared.pages.SuperblockPage.{SuperblockPage}
use Rattle.scrub_scan.specs.declared.standing.Standing.{Standing}
use Rattle.scrub_scan.specs.Scanned.{Scanned}
use Rattle.scrub_check.specs.declared.statuses.checked.Checked.{Checked}
use Rattle.scrub_loose.specs.Loose.{LooseValue, loose_of}
use Rattle.scrub_found.specs.Scrubbed.{Scrubbed}
use Rattle.scrub_reclaim.specs.declared.doubts.Doubt.{Doubt}
use Rattle.scrub_reclaim.specs.declared.doubts.Doubt.TheVariants.{Crowded}
use Rattle.scrub_reclaim.specs.Doubts.{Acceptance, crowded_doubt, crowded_doubts, crowded_now, first_doubt, is_accepted, is_any_gone, is_crowded, is_in, is_loose, loose_doubt, loose_doubts_of, outside}
use Rattle.scrub_reclaim.specs.Reclaimable.{AcceptsNoCrowded, AcceptsNoLoose, HasNoRoomLine, HasSafeLoose, IsLeftAlone, KeepsCrowded, KeepsLoose, accepted_in, doubts_for, is_clear, reclaimed}
use Rattle.scrub_reclaim.specs.Room.{has_room, holds_loose, is_closed, place_in, room_in, room_line}
use Rattle.scrub_reclaim.proofs.DoubtParts.{each_part, of_crowded, of_loose}
use Rattle.scrub_reclaim.proofs.SpareLaw.{clash, others}

-- ---- closed extents

-- a test that an element passes finds one
pub any_of : {X : Type 0} (p : X → Bool) (xs : List X) (x : X) → Contains xs x → p x ≡ true → list_any p xs ≡ true
any_of p xs x there passes = list_any_at p xs there.0 x there.1 (ap p there.2 ∙ passes)

-- The extent of a loose copy holds one.
pub holds_it : (all : List Scanned) (frames : List Standing) (checked : List Checked) (c : Checked) (s : Standing) → Contains checked c →
    Contains (loose_of all frames c) s → holds_loose all frames checked s.extent ≡ true
holds_it all frames checked c s there copy =
    any_of (λ d. list_any (λ t. t.extent == s.extent) (loose_of all frames d)) checked c there
    (any_of (λ t. t.extent == s.extent) (loose_of all frames c) s copy (eq-eqb s.extent s.extent refl))

module _ (loose : LooseValue) (found : Scrubbed) where
  -- a closed extent has no line
  no_line : (e : ℕ) → is_closed found.all loose found.checked e ≡ true → HasNoRoomLine loose found e
  no_line e closed is_listed i d below at =
      let f : Scanned = get_or found.all i d in
      ap
      (λ (b : Bool). if not b && has_room found.plan.geometry found.checked f then room_line is_listed f.extent (place_in found.plan.geometry f) (room_in found.plan.geometry f) else [])
      (ap (is_closed found.all loose found.checked) at ∙ closed)

  -- nor has that of a loose copy
  none_at_copy : (c : Checked) (s : Standing) → Contains found.checked c → Contains (loose_of found.all loose.frames c) s →
      HasNoRoomLine loose found s.extent
  none_at_copy c s there copy =
      no_line s.extent
      (ap (λ (b : Bool). b || list_any (λ n. n == s.extent) (crowded_now found.all loose.crowded found.checked))
      (holds_it found.all loose.frames found.checked c s there copy))

  -- nor has a crowded one, while a payload is gone
  none_in_crowded : is_any_gone found.all found.checked ≡ true → (e : ℕ) → Contains loose.crowded e → HasNoRoomLine loose found e
  none_in_crowded gone e there =
      no_line e
      (or_right (holds_loose found.all loose.frames found.checked e) (list_any (λ n. n == e) (crowded_now found.all loose.crowded found.checked))
      (any_of (λ n. n == e) (crowded_now found.all loose.crowded found.checked) e
      (subst (λ (b : Bool). Contains (if b then loose.crowded else []) e) (sym gone) there) (eq-eqb e e refl)))

module _ (accepted : Acceptance) (pages : List SuperblockPage) (loose : LooseValue) (found : Scrubbed) where
  abbrev numbers : List ℕ
  numbers = map (λ a. a.extent) found.candidates

  -- ---- loose copies

  abbrev copies : Checked → List Standing
  copies c = loose_of found.all loose.frames c

  -- one of those that stay
  one_stays : (c : Checked) → Contains found.checked c → 0 < length (outside numbers (copies c)) →
      HasSafeLoose loose found found.candidates c
  one_stays c there some = record {
    copy = s;
    among = copy;
    stays = others found.candidates s.extent (false_from_not (is_in numbers s) (filter_passes p (copies c) 0 d some));
    unwritten = none_at_copy loose found c s there copy;
  }
    where
      p : Standing → Bool
      p = λ s. not (is_in numbers s)

      d : Standing
      d = record { extent = 0; offset = 0; form = Plain; uuid = []; length = 0; digest = [] }

      s : Standing
      s = get_or (outside numbers (copies c)) 0 d

      copy : Contains (copies c) s
      copy = All-filter p (Contains (copies c)) (copies c) (All-contains_itself (copies c)) 0 d some

  kept : AcceptsNoLoose accepted pages loose found → is_clear accepted pages loose found ≡ true → KeepsLoose loose found found.candidates
  kept refused clear k d below has =
      by (copies c) (outside numbers (copies c)) refl refl (of_one (is_accepted (accepted_in accepted found)) clear)
      (of_one (λ x. not (is_loose x && is_accepted (accepted_in accepted found) x)) refused)
    where
      c : Checked
      c = get_or found.checked k d

      there : Contains found.checked c
      there = All-contains_itself found.checked k d below

      of_one : (p : Doubt → Bool) → list_all p (doubts_for accepted pages loose found) ≡ true →
          list_all p (first_doubt (loose_doubt c.owner) (copies c) (outside numbers (copies c))) ≡ true
      of_one p all =
          each_part p (loose_doubts_of found.all loose.frames numbers) found.checked there.0 c there.1 there.2
          (of_loose p accepted.last pages loose found all)

      by : (ss ts : List Standing) → copies c ≡ ss → outside numbers (copies c) ≡ ts →
          list_all (is_accepted (accepted_in accepted found)) (first_doubt (loose_doubt c.owner) ss ts) ≡ true →
          list_all (λ x. not (is_loose x && is_accepted (accepted_in accepted found) x)) (first_doubt (loose_doubt c.owner) ss ts) ≡ true →
          HasSafeLoose loose found found.candidates c
      by [] ts none stay all not_one = absurd (has none)
      by (s ∷ ss) (t ∷ ts) some stay all not_one =
          one_stays c there (let e : length (outside numbers (copies c)) ≡ suc (length ts) = ap length stay in omega (arith, e))
      by (s ∷ ss) [] some stay all not_one =
          absurd (clash (is_accepted (accepted_in accepted found) (loose_doubt c.owner s)) all not_one)

  -- without extents to reclaim any will do
  any_will_do : KeepsLoose loose found []
  any_will_do k d below has = by (copies c) refl
    where
      c : Checked
      c = get_or found.checked k d

      by : (ss : List Standing) → copies c ≡ ss → HasSafeLoose loose found [] c
      by [] none = absurd (has none)
      by (s ∷ ss) some =
          let copy : Contains (copies c) s = subst (λ (xs : List Standing). Contains xs s) (sym some) (0, omega arith, refl) in
          record {
            copy = s;
            among = copy;
            stays = λ j e within. absurd (omega (arith, within));
            unwritten = none_at_copy loose found c s (All-contains_itself found.checked k d below) copy;
          }

  -- If no loose copy is accepted, each locator with loose copies has one in no listed extent, where nothing is written.
  pub loose_kept : AcceptsNoLoose accepted pages loose found → KeepsLoose loose found (reclaimed accepted pages loose found)
  loose_kept refused = by (is_clear accepted pages loose found) refl
    where
      by : (b : Bool) → is_clear accepted pages loose found ≡ b → KeepsLoose loose found (if b then found.candidates else [])
      by true e = kept refused e
      by false e = any_will_do

  -- ---- crowded extents

  -- a crowded one among the candidates would make a doubt
  none_listed : AcceptsNoCrowded accepted pages loose found → is_clear accepted pages loose found ≡ true →
      is_any_gone found.all found.checked ≡ true → (e : ℕ) → Contains loose.crowded e → list_any (λ n. n == e) numbers ≡ false
  none_listed refused clear gone e there = by (list_any (λ n. n == e) numbers) refl
    where
      of_one : (p : Doubt → Bool) → list_all p (doubts_for accepted pages loose found) ≡ true → list_any (λ n. n == e) numbers ≡ true → p (Crowded e) ≡ true
      of_one p all listed =
          let now : Contains (crowded_now found.all loose.crowded found.checked) e =
          subst (λ (b : Bool). Contains (if b then loose.crowded else []) e) (sym gone) there in
          let own : Contains (crowded_doubt numbers e) (Crowded e) =
          subst (λ (b : Bool). Contains (if b then Crowded e ∷ [] else []) (Crowded e)) (sym listed) (0, omega arith, refl) in
          let doubted : Contains (crowded_doubts found.all loose.crowded found.checked found.candidates) (Crowded e) =
          Contains-flat_map (crowded_doubt numbers) (crowded_now found.all loose.crowded found.checked) e (Crowded e) now own in
          All-contains (λ (x : Doubt). p x ≡ true) (crowded_doubts found.all loose.crowded found.checked found.candidates) (Crowded e)
          (AllPass-from_list_all p (crowded_doubts found.all loose.crowded found.checked found.candidates) (of_crowded p accepted.last pages loose found all)) doubted

      both : (b : Bool) → b ≡ true → not (true && b) ≡ true → ⊥
      both true e f = false≢true f
      both false e f = false≢true e

      by : (b : Bool) → list_any (λ n. n == e) numbers ≡ b → list_any (λ n. n == e) numbers ≡ false
      by false is = is
      by true is =
          absurd
          (both (is_accepted (accepted_in accepted found) (Crowded e)) (of_one (is_accepted (accepted_in accepted found)) clear is)
          (of_one (λ x. not (is_crowded x && is_accepted (accepted_in accepted found) x)) refused is))

  -- If no crowded extent is accepted, none is listed while a payload is gone, and nothing is written there.
  pub crowded_kept : AcceptsNoCrowded accepted pages loose found → KeepsCrowded loose found (reclaimed accepted pages loose found)
  crowded_kept refused gone k d below = by (is_clear accepted pages loose found) refl
    where
      e : ℕ
      e = get_or loose.crowded k d

      there : Contains loose.crowded e
      there = All-contains_itself loose.crowded k d below

      by : (b : Bool) → is_clear accepted pages loose found ≡ b → IsLeftAlone loose found (if b then found.candidates else []) e
      by true clear = record {
        stays = others found.candidates e (none_listed refused clear gone e there);
        unwritten = none_in_crowded loose found gone e there;
      }
      by false doubt = record {
        stays = λ j a within. absurd (omega (arith, within));
        unwritten = none_in_crowded loose found gone e there;
      }
