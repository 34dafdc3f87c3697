-- Where no spare is accepted and nothing is in doubt, each locator that has a spare keeps one.
use Rattle.std.proofs.Common.{◌≡◌, ◌≢◌, ◌⊎◌, inl, inr, ◌<◌, ◌==◌, ◌&&◌, ◌||◌, ◌∷◌, [], ℕ, zero, suc, Bool, true, false, not, List, length, get_or, map, arith, refl, sym, ◌∙◌, ap, subst, if◌then◌else◌}
use Rattle.std.specs.List.{All, Contains, list_all, list_any}
use Rattle.std.proofs.lemmas.Bool.{eq-eqb, false≢true, or_right}
use Rattle.std.proofs.lemmas.List.Elements.{All-contains_itself, All-filter, filter_passes}
use Rattle.list_facts.proofs.Bools.{false_from_not}
use Rattle.scrub_frame.specs.declared.form.Form.TheVariants.{Plain}
use Rattle.scrub_super.specs.declared.pages.SuperblockPage.{SuperblockPage}
use Rattle.scrub_scan.specs.declared.standing.Standing.{Standing}
use Rattle.scrub_check.specs.declared.statuses.checked.Checked.{Checked}
use Rattle.scrub_check.specs.Candidates.{CandidateValue}
use Rattle.scrub_check.specs.Live.{has_sound_at}
use Rattle.scrub_check.specs.Spares.{spares_of}
use Rattle.scrub_loose.specs.Loose.{LooseValue}
use Rattle.scrub_found.specs.Scrubbed.{Scrubbed}
use Rattle.scrub_reclaim.specs.Doubts.{Acceptance, is_spare}
use Rattle.scrub_reclaim.specs.declared.doubts.Doubt.{Doubt}
use Rattle.scrub_reclaim.specs.Doubts.{first_doubt, is_accepted, is_at_risk, spare_doubt, spare_doubts_of, safe_spares}
use Rattle.scrub_reclaim.specs.Reclaimable.{AcceptsNoSpare, HasSafeSpare, KeepsSpares, accepted_in, doubts_for, is_clear, reclaimed}
use Rattle.scrub_reclaim.proofs.DoubtParts.{each_part, of_spares}

-- what is accepted isn't unaccepted
pub clash : (b : Bool) → (b && true) ≡ true → (not (true && b) && true) ≡ true → ⊥
clash true e f = false≢true f
clash false e f = false≢true e

-- the number of an extent is among those of all
pub numbered : (candidates : List CandidateValue) (k : ℕ) (d : CandidateValue) → k < length candidates →
    list_any (λ n. n == (get_or candidates k d).extent) (map (λ a. a.extent) candidates) ≡ true
numbered [] k d below = absurd (omega (arith, below))
numbered (a ∷ candidates) zero d below =
    ap (λ (t : Bool). t || list_any (λ n. n == a.extent) (map (λ b. b.extent) candidates)) (eq-eqb a.extent a.extent refl)
numbered (a ∷ candidates) (suc k) d below =
    or_right (a.extent == (get_or candidates k d).extent) (list_any (λ n. n == (get_or candidates k d).extent) (map (λ b. b.extent) candidates))
    (numbered candidates k d (omega (arith, below)))

-- so those that aren't among them are others
pub others : (candidates : List CandidateValue) (e : ℕ) → list_any (λ n. n == e) (map (λ a. a.extent) candidates) ≡ false →
    All (λ a. a.extent ≢ e) candidates
others candidates e none k d below same =
    false≢true (sym none ∙ subst (λ (n : ℕ). list_any (λ m. m == n) (map (λ a. a.extent) candidates) ≡ true) same (numbered candidates k d below))

module _ (accepted : Acceptance) (pages : List SuperblockPage) (loose : LooseValue) (found : Scrubbed)
    (refused : AcceptsNoSpare accepted pages loose found) where
  abbrev numbers : List ℕ
  numbers = map (λ a. a.extent) found.candidates

  -- one of those that stay
  one_stays : (c : Checked) → 0 < length (safe_spares found.checked numbers (spares_of found.all c)) → HasSafeSpare found found.candidates c
  one_stays c some = record {
    spare = s;
    among = All-filter p (Contains (spares_of found.all c)) (spares_of found.all c) (All-contains_itself (spares_of found.all c)) 0 d some;
    stays = by (has_sound_at found.checked s.extent s.offset) refl (filter_passes p (spares_of found.all c) 0 d some);
  }
    where
      p : Standing → Bool
      p = λ s. not (is_at_risk found.checked numbers s)

      d : Standing
      d = record { extent = 0; offset = 0; form = Plain; uuid = []; length = 0; digest = [] }

      s : Standing
      s = get_or (safe_spares found.checked numbers (spares_of found.all c)) 0 d

      by : (b : Bool) → has_sound_at found.checked s.extent s.offset ≡ b →
          not (not (has_sound_at found.checked s.extent s.offset) && list_any (λ n. n == s.extent) numbers) ≡ true →
          (has_sound_at found.checked s.extent s.offset ≡ true) ⊎ All (λ a. a.extent ≢ s.extent) found.candidates
      by true live passes = inl live
      by false dead passes =
          inr
          (others found.candidates s.extent
          (false_from_not (list_any (λ n. n == s.extent) numbers) (ap (λ (t : Bool). not (not t && list_any (λ n. n == s.extent) numbers)) (sym dead) ∙ passes)))

  kept : is_clear accepted pages loose found ≡ true → KeepsSpares found found.candidates
  kept clear k d below has = by (spares_of found.all c) (safe_spares found.checked numbers (spares_of found.all c)) refl refl (of_one (is_accepted (accepted_in accepted found)) clear)
      (of_one (λ x. not (is_spare x && is_accepted (accepted_in accepted found) x)) refused)
    where
      c : Checked
      c = get_or found.checked k d

      of_one : (p : Doubt → Bool) → list_all p (doubts_for accepted pages loose found) ≡ true →
          list_all p (first_doubt (spare_doubt c.owner) (spares_of found.all c) (safe_spares found.checked numbers (spares_of found.all c))) ≡ true
      of_one p all =
          let there : Contains found.checked c = All-contains_itself found.checked k d below in
          each_part p (spare_doubts_of found.all found.checked numbers) found.checked there.0 c there.1 there.2 (of_spares p accepted.last pages loose found all)

      by : (ss ts : List Standing) → spares_of found.all c ≡ ss → safe_spares found.checked numbers (spares_of found.all c) ≡ ts →
          list_all (is_accepted (accepted_in accepted found)) (first_doubt (spare_doubt c.owner) ss ts) ≡ true →
          list_all (λ x. not (is_spare x && is_accepted (accepted_in accepted found) x)) (first_doubt (spare_doubt c.owner) ss ts) ≡ true → HasSafeSpare found found.candidates c
      by [] ts none stay all not_one = absurd (has none)
      by (s ∷ ss) (t ∷ ts) some stay all not_one = one_stays c (let e : length (safe_spares found.checked numbers (spares_of found.all c)) ≡ suc (length ts) = ap length stay in omega (arith, e))
      by (s ∷ ss) [] some stay all not_one =
          absurd (clash (is_accepted (accepted_in accepted found) (spare_doubt c.owner s)) all not_one)

  -- without extents to reclaim any will do
  any_will_do : KeepsSpares found []
  any_will_do k d below has = by (spares_of found.all (get_or found.checked k d)) refl
    where
      by : (ss : List Standing) → spares_of found.all (get_or found.checked k d) ≡ ss → HasSafeSpare found [] (get_or found.checked k d)
      by [] none = absurd (has none)
      by (s ∷ ss) some = record {
        spare = s;
        among = subst (λ (xs : List Standing). Contains xs s) (sym some) (0, omega arith, refl);
        stays = inr (λ j e within. absurd (omega (arith, within)));
      }

  -- If no spare is accepted, each locator with spares has one that is live or in no listed extent.
  pub spares_kept : KeepsSpares found (reclaimed accepted pages loose found)
  spares_kept = by (is_clear accepted pages loose found) refl
    where
      by : (b : Bool) → is_clear accepted pages loose found ≡ b → KeepsSpares found (if b then found.candidates else [])
      by true e = kept e
      by false e = any_will_do
