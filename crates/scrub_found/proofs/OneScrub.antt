-- What is found on an image is unique, and so are its planned extents.
use Rattle.std.proofs.Common.{◌≡◌, [], ℕ, List, Option, None, sym, ◌∙◌, ap}
use Rattle.list_facts.proofs.OneAnswers.{same_answer}
use Rattle.scrub_disk.specs.Image.{Image}
use Rattle.scrub_frame.specs.declared.locator.Locator.{Locator}
use Rattle.scrub_super.specs.Chosen.{Choice}
use Rattle.scrub_super.specs.Plan.{plan_of}
use Rattle.scrub_super.proofs.Laws.{one_choice_lem}
use Rattle.scrub_merge.proofs.Maps.{one_shard_map_lem}
use Rattle.scrub_check.specs.Candidates.{AreCandidates}
use Rattle.scrub_check.specs.Named.{named_locators}
use Rattle.scrub_check.proofs.CheckedLists.{one_list_of_checked}
use Rattle.scrub_check.proofs.OneList.{one_list, the_broken, the_shared}
use Rattle.scrub_check.proofs.IndexRuns.{one_list_of_runs, read_runs_are_runs}
use Rattle.scrub_found.specs.Takings.{ArePlannedExtents}
use Rattle.scrub_found.specs.Resets.{IsScrubbedBut}
use Rattle.scrub_found.specs.GivenRuns.{IsScrubbedFrom}
use Rattle.scrub_found.specs.Scrubbed.{Scrubbed, IsScrubbed, is_in_doubt}
use Rattle.scrub_found.proofs.OneReader.{one_reader}
use Rattle.scrub_found.proofs.GivenPlans.{the_plan_from}

-- On an image there is at most one record of all that is found, with the plan by given index runs, or by the choice as if given
-- extents had been reset.
pub one_scrub_from : (given : Option (List Locator)) (resets : List ℕ) (image : Image) (s t : Scrubbed) →
    IsScrubbedFrom given resets image s → IsScrubbedFrom given resets image t → s ≡ t
one_scrub_from given resets image s t x y = λ i. record {
  choice = choice i;
  plan = plan i;
  all = all i;
  read = read i;
  bindings = bindings i;
  checked = checked i;
  shared = shared i;
  broken = broken i;
  candidates = candidates i;
}
  where
    choice : s.choice ≡ t.choice
    choice = one_choice_lem image s.choice t.choice x.choice y.choice

    plan : s.plan ≡ t.plan
    plan = same_answer (the_plan_from given resets t.choice) s.plan t.plan (rw choice at x.plan) y.plan

    all : s.all ≡ t.all
    all = one_reader image t.plan s.all t.all (rw plan at x.all) y.all

    read : s.read ≡ t.read
    read = one_list_of_runs image t.plan s.read t.read (rw plan at x.read) y.read

    bindings : s.bindings ≡ t.bindings
    bindings = one_shard_map_lem t.read.runs s.bindings t.bindings (read_runs_are_runs image t.plan t.read y.read)
        (rw read at x.bindings) y.bindings

    checked : s.checked ≡ t.checked
    checked = one_list_of_checked image t.plan (named_locators t.plan.runs t.bindings) s.checked t.checked
        (rw (← bindings) (rw plan at x.checked)) y.checked

    shared : s.shared ≡ t.shared
    shared = same_answer (the_shared t.checked) s.shared t.shared (rw checked at x.shared) y.shared

    broken : s.broken ≡ t.broken
    broken = same_answer (the_broken t.checked) s.broken t.broken (rw checked at x.broken) y.broken

    same : AreCandidates s.plan s.all s.checked (is_in_doubt s.choice s.read) s.candidates →
        AreCandidates t.plan t.all t.checked (is_in_doubt t.choice t.read) s.candidates
    same h =
        rw (← read) (rw (← choice) (rw (← checked) (rw (← all) (rw plan at h))))

    candidates : s.candidates ≡ t.candidates
    candidates =
        one_list t.plan t.all t.checked (is_in_doubt t.choice t.read) s.candidates t.candidates (same x.candidates)
        y.candidates

-- The same by the choice.
pub one_scrub_but : (resets : List ℕ) (image : Image) (s t : Scrubbed) → IsScrubbedBut resets image s → IsScrubbedBut resets image t → s ≡ t
one_scrub_but = one_scrub_from None

-- On an image there is at most one record of all that is found.
pub one_scrub : (image : Image) (s t : Scrubbed) → IsScrubbed image s → IsScrubbed image t → s ≡ t
one_scrub = one_scrub_but []

-- and one list of planned extents
pub one_planned : (image : Image) (planned others : List ℕ) → ArePlannedExtents image planned →
    ArePlannedExtents image others → planned ≡ others
one_planned image planned others x y =
    x.are ∙ ap (λ (c : Choice). (plan_of c).planned) (one_choice_lem image x.choice y.choice x.chosen y.chosen) ∙ sym y.are
