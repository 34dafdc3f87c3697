-- Each image has all that a scan finds on it, also as if extents had been reset, and planned extents that can be taken.
use Rattle.std.proofs.Common.{◌≡◌, ◌∷◌, ◌++◌, [], ℕ, zero, suc, List, Option, None, IfSome, length, replicate, arith, refl, sym, ◌∙◌, ap, subst}
use Rattle.std.specs.List.Sorted.{IsPermutation, IsStrictlyIncreasing}
use Rattle.std.proofs.lemmas.List.{append-nil, length-replicate}
use Rattle.std.proofs.lemmas.List.Elements.{All-cons, All-replicate}
use Rattle.std.proofs.lemmas.List.Sorted.{IsPermutation-refl}
use Rattle.scrub_disk.specs.Image.{Image}
use Rattle.scrub_frame.specs.declared.locator.Locator.{Locator}
use Rattle.scrub_super.specs.Plan.{IsPlan, plan_of}
use Rattle.scrub_super.specs.steps.Limits.{AreRunLocators}
use Rattle.scrub_super.proofs.PlansFit.{plan_fits}
use Rattle.scrub_super.proofs.RecordsThere.{some_choice}
use Rattle.scrub_scan.specs.AllFindings.{extent_numbers}
use Rattle.scrub_scan.proofs.Existing.{some_all_findings}
use Rattle.scrub_merge.proofs.MapsThere.{some_shard_map}
use Rattle.scrub_check.specs.Named.{named_locators}
use Rattle.scrub_check.proofs.CheckedLists.{the_checked}
use Rattle.scrub_check.proofs.OneList.{some_candidates, the_broken, the_shared}
use Rattle.scrub_check.proofs.IndexRuns.{read_runs_are_runs, the_read_runs}
use Rattle.scrub_pool.specs.Passes.{one_list}
use Rattle.scrub_pool.specs.Takings.{TakingsValue}
use Rattle.scrub_found.specs.Takings.{ArePlannedExtents, AreTakingsBy}
use Rattle.scrub_found.specs.Resets.{IsScrubbedBut}
use Rattle.scrub_found.specs.GivenRuns.{IsScrubbedFrom}
use Rattle.scrub_found.specs.Scrubbed.{Scrubbed, is_in_doubt}
use Rattle.scrub_found.proofs.GivenPlans.{plan_from_fits, the_plan_from}

-- ---- all that is found

-- Each image has a record of all that is found on it, with the plan by given index runs that keep the limits of a plan's, or by the
-- choice as if any extents had been reset.
pub some_scrub_from : (given : Option (List Locator)) (resets : List ℕ) (image : Image) → IfSome given AreRunLocators →
    (s : Scrubbed) × IsScrubbedFrom given resets image s
some_scrub_from given resets image can =
    let choice = some_choice image in
    let plan = the_plan_from given resets choice.0 in
    let fits : IsPlan plan.answer = plan_from_fits given resets image choice.0 plan.answer can choice.1 plan.meets in
    let all = some_all_findings image plan.answer fits in
    let rising : IsStrictlyIncreasing (extent_numbers all.0) = rw all.1.extents fits.extents.rising in
    let read = the_read_runs image plan.answer in
    let bindings = some_shard_map read.answer.runs (read_runs_are_runs image plan.answer read.answer read.meets) in
    let checked = the_checked image plan.answer (named_locators plan.answer.runs bindings.0) in
    let shared = the_shared checked.answer in
    let broken = the_broken checked.answer in
    let candidates = some_candidates plan.answer all.0 checked.answer (is_in_doubt choice.0 read.answer) rising in (
      record {
        choice = choice.0;
        plan = plan.answer;
        all = all.0;
        read = read.answer;
        bindings = bindings.0;
        checked = checked.answer;
        shared = shared.answer;
        broken = broken.answer;
        candidates = candidates.0;
      },
      record {
        choice = choice.1;
        plan = plan.meets;
        all = all.1;
        read = read.meets;
        bindings = bindings.1;
        checked = checked.meets;
        shared = shared.meets;
        broken = broken.meets;
        candidates = candidates.1;
      },
    )

-- Each image has a record of all that is found on it, as if any extents had been reset.
pub some_scrub : (resets : List ℕ) (image : Image) → (s : Scrubbed) × IsScrubbedBut resets image s
some_scrub resets image = some_scrub_from None resets image tt

-- Each image has a list of the extents that a scrub scans.
pub some_planned_extents : (image : Image) → (planned : List ℕ) × ArePlannedExtents image planned
some_planned_extents image =
    let choice = some_choice image in
    ((plan_of choice.0).planned, record { choice = choice.0; chosen = choice.1; are = refl })

-- ---- takings

-- as many empty lists
abbrev none_taken : ℕ → List (List ℕ)
none_taken n = replicate n []

length-none_taken : (n : ℕ) → length (none_taken n) ≡ n
length-none_taken n = length-replicate n []

-- nothing is in them
nothing_in : (n : ℕ) → one_list (none_taken n) ≡ []
nothing_in zero = refl
nothing_in (suc n) = nothing_in n

-- Each image has takings of the caller and any number of workers.
pub some_takings : (image : Image) (workers : ℕ) → (takings : TakingsValue) × AreTakingsBy image workers takings
some_takings image workers =
    let choice = some_choice image in
    let fits : IsPlan (plan_of choice.0) = plan_fits image choice.0 (plan_of choice.0) choice.1 refl in
    let all : List ℕ = (plan_of choice.0).planned in
    let whole : all ++ one_list (none_taken workers) ≡ all = ap (λ (rest : List ℕ). all ++ rest) (nothing_in workers) ∙ append-nil all in (
      record { lists = all ∷ none_taken workers; counted = length all },
      record {
        planned = all;
        are_planned = record { choice = choice.0; chosen = choice.1; are = refl };
        members = omega (arith, length-none_taken workers);
        partition = record {
          rising =
              All-cons IsStrictlyIncreasing all (none_taken workers) fits.extents.rising
              (All-replicate IsStrictlyIncreasing workers [] (λ k here. absurd (omega (arith, here))));
          whole = subst (λ (xs : List ℕ). IsPermutation xs all) (sym whole) (IsPermutation-refl all);
        };
        counted = refl;
      },
    )
