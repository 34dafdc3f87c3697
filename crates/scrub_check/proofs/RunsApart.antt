-- What was read of an index run, with what became of it, says of each alone what is said of it, and nothing else.
use Rattle.std.proofs.Common.{◌≡◌, ℕ, Bool, true, false, List, Option, Some, None, MatchBool, MatchOption, refl, sym, ◌∙◌, ap, subst}
use Rattle.std.proofs.lemmas.Option.{none-some, same_Some}
use Rattle.std.proofs.lemmas.Slice.Zip.{AllZip-long}
use Rattle.list_facts.proofs.Zips.{AllZip-unzip, AllZip-zip}
use Rattle.scrub_disk.specs.Image.{Image}
use Rattle.scrub_frame.specs.declared.locator.Locator.{Locator}
use Rattle.scrub_super.specs.Plan.{PlanValue, pointer_of}
use Rattle.scrub_run.specs.Entry.{EntryValue}
use Rattle.scrub_run.specs.Run.{IsRun}
use Rattle.scrub_check.specs.declared.runs.RunState.{RunState}
use Rattle.scrub_check.specs.declared.runs.RunState.TheVariants.{Read, BadChunk, NotARun}
use Rattle.scrub_check.specs.declared.statuses.status.Status.{Status}
use Rattle.scrub_check.specs.declared.statuses.status.Status.TheVariants.{OutOfRange}
use Rattle.scrub_check.specs.Runs.{AreReadRuns, HasRunIn, NamesChunkIn, ReadRunsValue}
use Rattle.scrub_check.specs.Status.{NamesChunk, HasStatus, HasStatusInRetired, is_retired}
use Rattle.scrub_check.specs.steps.RunsApart.{AreReadApart, HasRunState, HasRunStateIn, IsLostInRetired, IsRunIn, IsRunOf, NamesRun}
use Rattle.scrub_check.proofs.Payloads.{same_payload}

-- ---- of one locator

module _ (image : Image) (plan : PlanValue) (l : Locator) where
  -- a run that a locator names is its chunk's payload
  run_there : (w : ℕ) (n : NamesChunk image w l) (entries : List EntryValue) → NamesRun image w l entries → IsRun n.payload entries
  run_there w n entries run = rw (same_payload image l w w run.names n) at run.run

  -- what was read
  pub run_alone : (run : Option (List EntryValue)) (state : RunState) → HasRunIn image plan l run state → IsRunIn image plan l run
  run_alone (Some entries) Read h = rw h.0.in_use (rw h.0.has_pointer (record { names = h.0.chunk; run = h.1 }))
  run_alone None NotARun h =
      rw h.0.in_use (rw h.0.has_pointer (λ entries run. h.1 entries (run_there h.0.pointer h.0.chunk entries run)))
  run_alone None (BadChunk status) h = by (is_retired plan l.extent) (pointer_of plan l.extent) refl refl
    where
      by : (b : Bool) (o : Option ℕ) → is_retired plan l.extent ≡ b → pointer_of plan l.extent ≡ o →
          MatchBool b (◌≡◌ {A = Option (List EntryValue)} None None) (MatchOption o (◌≡◌ {A = Option (List EntryValue)} None None) (λ w. IsRunOf image w l None))
      by true o x y = refl
      by false None x y = refl
      by false (Some w) x y = λ entries run. h.1 (record { in_use = x; pointer = w; has_pointer = y; chunk = run.names })
  run_alone (Some entries) (BadChunk status) h = absurd h
  run_alone (Some entries) NotARun h = absurd h
  run_alone None Read h = absurd h

  -- what became of it
  pub state_alone : (run : Option (List EntryValue)) (state : RunState) → HasRunIn image plan l run state →
      HasRunStateIn image plan l state
  state_alone (Some entries) Read h = rw h.0.in_use (rw h.0.has_pointer (entries, record { names = h.0.chunk; run = h.1 }))
  state_alone None NotARun h =
      rw h.0.in_use
      (rw h.0.has_pointer (h.0.chunk, λ entries run. h.1 entries (run_there h.0.pointer h.0.chunk entries run)))
  state_alone None (BadChunk status) h = by (is_retired plan l.extent) (pointer_of plan l.extent) refl refl h.0
    where
      by : (b : Bool) (o : Option ℕ) → is_retired plan l.extent ≡ b → pointer_of plan l.extent ≡ o →
          MatchBool b (HasStatusInRetired image l status) (MatchOption o (status ≡ OutOfRange) (λ w. HasStatus image w l status)) →
          MatchBool b (HasStatusInRetired image l status) (MatchOption o (BadChunk status ≡ BadChunk OutOfRange) (λ w. HasRunState image w l (BadChunk status)))
      by true o x y has = has
      by false None x y has = ap (λ (s : Status). BadChunk s) has
      by false (Some w) x y has = (has, λ n. h.1 (record { in_use = x; pointer = w; has_pointer = y; chunk = n }))
  state_alone (Some entries) (BadChunk status) h = absurd h
  state_alone (Some entries) NotARun h = absurd h
  state_alone None Read h = absurd h

  -- both together: under the pointer of an extent in use
  under : (w : ℕ) → is_retired plan l.extent ≡ false → pointer_of plan l.extent ≡ Some w → (run : Option (List EntryValue)) (state : RunState) →
      IsRunOf image w l run → HasRunState image w l state → HasRunIn image plan l run state
  under w free is (Some entries) Read r s = (record { in_use = free; pointer = w; has_pointer = is; chunk = r.names }, r.run)
  under w free is (Some entries) (BadChunk status) r s = absurd (s.1 r.names)
  under w free is (Some entries) NotARun r s = absurd (s.1 entries r)
  under w free is None Read r s = absurd (r s.0 s.1)
  under w free is None (BadChunk status) r s = (
    rw free (rw is s.0),
    λ n. s.1 (subst (λ v. NamesChunk image v l) (same_Some n.pointer w (sym n.has_pointer ∙ is)) n.chunk),
  )
  under w free is None NotARun r s = (
    record { in_use = free; pointer = w; has_pointer = is; chunk = s.0 },
    λ entries run. r entries (record { names = s.0; run = run }),
  )

  -- in an extent without one
  no_pointer : is_retired plan l.extent ≡ false → pointer_of plan l.extent ≡ None → (run : Option (List EntryValue)) (state : RunState) →
      run ≡ None → state ≡ BadChunk OutOfRange → HasRunIn image plan l run state
  no_pointer free none run state r s =
      rw r (rw s (rw free (rw none refl), λ (n : NamesChunkIn image plan l). none-some n.pointer (sym none ∙ n.has_pointer)))

  -- and in a retired one
  retired : is_retired plan l.extent ≡ true → (run : Option (List EntryValue)) (state : RunState) → run ≡ None →
      IsLostInRetired image l state → HasRunIn image plan l run state
  retired is run Read r s = absurd s
  retired is run NotARun r s = absurd s
  retired is run (BadChunk status) r s = rw r (rw is s, λ (n : NamesChunkIn image plan l). true_false (sym is ∙ n.in_use))
    where
      true_false : true ≡ false → ⊥
      true_false e = cc

  -- What was read of a run and what became of it, if each is right alone, are right together.
  pub together : (run : Option (List EntryValue)) (state : RunState) → IsRunIn image plan l run → HasRunStateIn image plan l state →
      HasRunIn image plan l run state
  together run state = by (is_retired plan l.extent) (pointer_of plan l.extent) refl refl
    where
      by : (b : Bool) (o : Option ℕ) → is_retired plan l.extent ≡ b → pointer_of plan l.extent ≡ o →
          MatchBool b (run ≡ None) (MatchOption o (run ≡ None) (λ w. IsRunOf image w l run)) →
          MatchBool b (IsLostInRetired image l state) (MatchOption o (state ≡ BadChunk OutOfRange) (λ w. HasRunState image w l state)) →
          HasRunIn image plan l run state
      by true o x y r s = retired x run state r s
      by false None x y r s = no_pointer x y run state r s
      by false (Some w) x y r s = under w x y run state r s

-- ---- of lists

-- what is said of runs together is said of each list
pub apart : (image : Image) (plan : PlanValue) (r : ReadRunsValue) → AreReadRuns image plan r → AreReadApart image plan r
apart image plan r x =
    let both =
    AllZip-unzip (HasRunIn image plan) (IsRunIn image plan) (HasRunStateIn image plan)
    (λ l run state h. (run_alone image plan l run state h, state_alone image plan l run state h)) plan.runs r.runs r.states x.same x.each in
    record { runs = both.0; states = both.1 }

-- and the other way round
pub read_runs_of : (image : Image) (plan : PlanValue) (r : ReadRunsValue) → AreReadApart image plan r → AreReadRuns image plan r
read_runs_of image plan r x = record {
  same =
      AllZip-long (HasRunStateIn image plan) plan.runs r.states x.states
      ∙ sym (AllZip-long (IsRunIn image plan) plan.runs r.runs x.runs);
  each = AllZip-zip (HasRunIn image plan) (IsRunIn image plan) (HasRunStateIn image plan) (together image plan) plan.runs r.runs r.states x.runs x.states;
}
