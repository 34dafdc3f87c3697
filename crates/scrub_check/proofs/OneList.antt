-- The lists that follow from checked locators: there is one of shared places, one of broken shards, and at most one of candidates,
-- which is there if the scanned extents ascend.
use Rattle.std.proofs.Common.{◌≡◌, ◌&&◌, Bool, true, false, not, List, [], get_or, refl, filter_map}
use Rattle.std.specs.List.Sorted.{IsStrictlyIncreasing}
use Rattle.std.proofs.lemmas.List.Elements.{All-contains_itself}
use Rattle.std.proofs.lemmas.List.Sorted.{Contains-permutation, IsPermutation-sym, IsPermutation-trans}
use Rattle.list_facts.proofs.OneAnswers.{HasOneAnswer}
use Rattle.list_facts.proofs.Sorted.{same_if_strictly_sorted}
use Rattle.list_facts.proofs.Sorting.{some_sorted, sorted_once}
use Rattle.scrub_super.specs.Plan.{PlanValue}
use Rattle.scrub_scan.specs.Scanned.{Scanned}
use Rattle.scrub_scan.specs.AllFindings.{extent_numbers}
use Rattle.scrub_run.specs.declared.shard_id.ShardId.{ShardId}
use Rattle.scrub_merge.proofs.Identifiers.{id_cmp_total, id_cmp_exact}
use Rattle.scrub_check.specs.declared.lists.place.SharedPlace.{SharedPlace}
use Rattle.scrub_check.specs.declared.statuses.checked.Checked.{Checked}
use Rattle.scrub_check.specs.Candidates.{CandidateValue, AreCandidates}
use Rattle.scrub_check.specs.Checked.{AreBrokenShards}
use Rattle.scrub_check.specs.Shared.{AreShared}
use Rattle.scrub_check.specs.steps.BrokenShards.{broken_owner}
use Rattle.scrub_check.specs.steps.LocatorIndex.{reclaimable}
use Rattle.scrub_check.specs.steps.SoundPlaces.{sound_places, shared_by}
use Rattle.scrub_check.proofs.BrokenShards.{broken_found, sorted_by_id}
use Rattle.scrub_check.proofs.Reclaimable.{all_named, free_total, none_named}
use Rattle.scrub_check.proofs.SharedPlaces.{by_place_total, shared_found}
use Rattle.scrub_check.proofs.SortedPlaces.{count_named, place_exact, place_total}

-- checked locators have one list of shared places
pub the_shared : (checked : List Checked) → HasOneAnswer (AreShared checked)
the_shared checked =
    let starts = sound_places checked in
    let once = sorted_once place_total place_exact starts in
    let places : List SharedPlace = shared_by starts once.0 in
    let are : AreShared checked places =
    shared_found checked starts once.0 places (λ s. count_named checked s.extent s.offset) (record { rising = once.1; same = once.2 }) refl in
    record {
      answer = places;
      meets = are;
      only = λ others is.
          same_if_strictly_sorted by_place_total others places is.rising are.rising
          (λ i e lt. (are.exact (get_or others i e)).1 ((is.exact (get_or others i e)).0 (All-contains_itself others i e lt)))
          (λ i e lt. (is.exact (get_or places i e)).1 ((are.exact (get_or places i e)).0 (All-contains_itself places i e lt)));
    }

-- and one of broken shards
pub the_broken : (checked : List Checked) → HasOneAnswer (AreBrokenShards checked)
the_broken checked =
    let once = sorted_once id_cmp_total id_cmp_exact (filter_map broken_owner checked) in
    let ids : List ShardId = once.0 in
    let are : AreBrokenShards checked ids = broken_found checked ids (record { rising = once.1; same = once.2 }) in
    record {
      answer = ids;
      meets = are;
      only = λ others is.
          same_if_strictly_sorted id_cmp_total others ids (sorted_by_id others is.rising) once.1
          (λ i e lt. (are.exact (get_or others i e)).1 ((is.exact (get_or others i e)).0 (All-contains_itself others i e lt)))
          (λ i e lt. (is.exact (get_or ids i e)).1 ((are.exact (get_or ids i e)).0 (All-contains_itself ids i e lt)));
    }

-- ---- candidates

-- two lists of candidates are the same
pub one_list : (plan : PlanValue) (all : List Scanned) (checked : List Checked) (in_doubt : Bool) (cs ds : List CandidateValue) →
    AreCandidates plan all checked in_doubt cs → AreCandidates plan all checked in_doubt ds → cs ≡ ds
one_list plan all checked in_doubt cs ds h k =
    same_if_strictly_sorted free_total cs ds h.ordered k.ordered
    (λ i e lt. Contains-permutation cs ds (get_or cs i e) (IsPermutation-trans cs _ ds (IsPermutation-sym _ cs h.filtered) k.filtered) (All-contains_itself cs i e lt))
    (λ i e lt. Contains-permutation ds cs (get_or ds i e) (IsPermutation-trans ds _ cs (IsPermutation-sym _ ds k.filtered) h.filtered) (All-contains_itself ds i e lt))

-- with findings there is a list of candidates
pub some_candidates : (plan : PlanValue) (all : List Scanned) (checked : List Checked) (in_doubt : Bool) →
    IsStrictlyIncreasing (extent_numbers all) →
    (candidates : List CandidateValue) × AreCandidates plan all checked in_doubt candidates
some_candidates plan all checked in_doubt rising = by (plan.has_superblock && not in_doubt) refl
  where
    by : (b : Bool) → (plan.has_superblock && not in_doubt) ≡ b →
        (candidates : List CandidateValue) × AreCandidates plan all checked in_doubt candidates
    by false unknown = ([], none_named plan all checked in_doubt [] unknown refl)
    by true known =
        let found = reclaimable plan.geometry all checked in
        let cs = some_sorted free_total found in
        (cs.0, all_named plan all checked in_doubt found cs.0 known rising refl cs.1 cs.2)
