-- By its plan an image has one list of index runs, and what was read of each.
use Rattle.std.proofs.Common.{◌≡◌, ℕ, zero, suc, Option, Some, None, List, [], ◌∷◌, length, map, arith, refl, sym, ◌∙◌, ap, subst}
use Rattle.std.specs.List.{AllZip, slice_get, zip}
use Rattle.std.proofs.lemmas.List.{length-map}
use Rattle.std.proofs.lemmas.Map.Made.{keys_of-zip}
use Rattle.std.proofs.lemmas.Option.{none-some, same_Some}
use Rattle.list_facts.proofs.OneAnswers.{HasOneAnswer, as_said, one_of_each, same_answer}
use Rattle.list_facts.proofs.Zips.{AllZip-zip_of_maps}
use Rattle.std.proofs.lemmas.Slice.Zip.{seconds-zip}
use Rattle.scrub_disk.specs.Image.{Image}
use Rattle.scrub_frame.specs.declared.locator.Locator.{Locator}
use Rattle.scrub_super.specs.Plan.{PlanValue}
use Rattle.scrub_run.specs.Entry.{EntryValue}
use Rattle.scrub_run.specs.Run.{IsRun}
use Rattle.scrub_run.proofs.RunsThere.{one_run_lem}
use Rattle.scrub_merge.specs.Binding.{Runs}
use Rattle.scrub_merge.specs.ShardMap.{AreRuns}
use Rattle.scrub_check.specs.declared.runs.RunState.{RunState}
use Rattle.scrub_check.specs.declared.runs.RunState.TheVariants.{Read, BadChunk, NotARun}
use Rattle.scrub_check.specs.Runs.{AreReadRuns, HasRunIn, NamesChunkIn, ReadRunsValue}
use Rattle.scrub_check.proofs.OneStatus.{one_in_plan}
use Rattle.scrub_check.proofs.Payloads.{same_payload}
use Rattle.scrub_check.proofs.StatusThere.{some_run_in}

-- ---- one list of runs

module _ (image : Image) (plan : PlanValue) (l : Locator) where
  -- a run of a locator is the payload of each chunk that it names
  run_of_named : (n m : NamesChunkIn image plan l) (es : List EntryValue) → IsRun n.chunk.payload es → IsRun m.chunk.payload es
  run_of_named n m es run = subst (λ b. IsRun b es) (same_payload image l n.pointer m.pointer n.chunk m.chunk) run

  -- at most one run, with what became of it
  one_run_in : (r q : Option (List EntryValue)) (s t : RunState) → HasRunIn image plan l r s → HasRunIn image plan l q t →
      (r ≡ q) × (s ≡ t)
  one_run_in (Some es) (Some fs) Read Read x y =
      (ap Some (one_run_lem y.0.chunk.payload es fs (run_of_named x.0 y.0 es x.1) y.1), refl)
  one_run_in (Some es) None Read NotARun x y = absurd (y.1 es (run_of_named x.0 y.0 es x.1))
  one_run_in (Some es) None Read (BadChunk t) x y = absurd (y.1 x.0)
  one_run_in None (Some fs) NotARun Read x y = absurd (x.1 fs (run_of_named y.0 x.0 fs y.1))
  one_run_in None None NotARun NotARun x y = (refl, refl)
  one_run_in None None NotARun (BadChunk t) x y = absurd (y.1 x.0)
  one_run_in None (Some fs) (BadChunk s) Read x y = absurd (x.1 y.0)
  one_run_in None None (BadChunk s) NotARun x y = absurd (x.1 y.0)
  one_run_in None None (BadChunk s) (BadChunk t) x y = (refl, ap BadChunk ((one_in_plan image plan l).one s t x.0 y.0))
  one_run_in (Some es) q NotARun t x y = absurd x
  one_run_in (Some es) q (BadChunk s) t x y = absurd x
  one_run_in None q Read t x y = absurd x
  one_run_in r (Some fs) s NotARun x y = absurd y
  one_run_in r (Some fs) s (BadChunk t) x y = absurd y
  one_run_in r None s Read x y = absurd y

  -- one run, with what became of it
  the_run_in : HasOneAnswer (λ (x : Option (List EntryValue) × RunState). HasRunIn image plan l x.0 x.1)
  the_run_in =
      let some = some_run_in image plan l in
      record {
        answer = (some.0, some.1);
        meets = some.2;
        only = λ x is. let same = one_run_in x.0 some.0 x.1 some.1 is some.2 in λ i. (same.0 i, same.1 i);
      }

-- By its plan an image has one list of read runs, with what became of each.
pub the_read_runs : (image : Image) (plan : PlanValue) → HasOneAnswer (AreReadRuns image plan)
the_read_runs image plan =
    as_said (λ ps. record { runs = map (λ p. p.0) ps; states = map (λ p. p.1) ps }) (λ r. zip r.runs r.states)
    (λ ps each. record {
      same = length-map ps (λ p. p.1) ∙ sym (length-map ps (λ p. p.0));
      each =
          AllZip-zip_of_maps (λ l p. HasRunIn image plan l p.0 p.1) (HasRunIn image plan) (λ p. p.0) (λ p. p.1) (λ l p is. is)
          plan.runs ps each;
    })
    (λ r are. are.each)
    (λ r are i. record { runs = keys_of-zip r.runs r.states are.same i; states = seconds-zip r.runs r.states are.same i })
    (one_of_each (the_run_in image plan) plan.runs)

pub one_list_of_runs : (image : Image) (plan : PlanValue) (r s : ReadRunsValue) → AreReadRuns image plan r →
    AreReadRuns image plan s → r ≡ s
one_list_of_runs image plan = same_answer (the_read_runs image plan)

-- the run of these entries is the payload of a chunk that a locator names by a plan
pub record IsNamedRun (image : Image) (plan : PlanValue) (es : List EntryValue) : Type 0 where
  pub locator : Locator
  pub names : NamesChunkIn image plan locator
  pub run : IsRun names.chunk.payload es

read_at : (image : Image) (plan : PlanValue) (es : List EntryValue) (ls : List Locator) (runs : Runs) (states : List RunState) (k : ℕ) →
    length states ≡ length runs → AllZip (λ l p. HasRunIn image plan l p.0 p.1) ls (zip runs states) →
    slice_get runs k ≡ Some (Some es) → IsNamedRun image plan es
read_at image plan es ls [] states k same each here = absurd (none-some (Some es) here)
read_at image plan es ls (r ∷ rs) [] k same each here = absurd (omega (arith, same))
read_at image plan es [] (r ∷ rs) (s ∷ ss) k same each here = absurd each
read_at image plan es (l ∷ ls) (r ∷ rs) (s ∷ ss) zero same each here =
    by s (subst (λ q. HasRunIn image plan l q s) (same_Some r (Some es) here) each.0)
  where
    by : (s : RunState) → HasRunIn image plan l (Some es) s → IsNamedRun image plan es
    by Read h = record { locator = l; names = h.0; run = h.1 }
    by (BadChunk status) h = absurd h
    by NotARun h = absurd h
read_at image plan es (l ∷ ls) (r ∷ rs) (s ∷ ss) (suc k) same each here =
    read_at image plan es ls rs ss k (omega (arith, same)) each.1 here

-- A run that was read is the payload of a chunk that some locator names by the plan.
pub read_of : (image : Image) (plan : PlanValue) (r : ReadRunsValue) → AreReadRuns image plan r →
    (k : ℕ) (es : List EntryValue) → slice_get r.runs k ≡ Some (Some es) → IsNamedRun image plan es
read_of image plan r x k es here = read_at image plan es plan.runs r.runs r.states k x.same x.each here

-- Each run that was read has the entries of a run.
pub read_runs_are_runs : (image : Image) (plan : PlanValue) (r : ReadRunsValue) → AreReadRuns image plan r →
    AreRuns r.runs
read_runs_are_runs image plan r x k es here = (read_of image plan r x k es here).run.entries_of_run
