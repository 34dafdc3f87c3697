-- What is named on a disk is the same on another, if of each named locator its status, the run that it names and what became
-- of that carry over.
use Rattle.std.proofs.Common.{◌≡◌, ℕ, ◌+◌, Option, Some, None, List, [], ◌∷◌, ◌++◌, get_or, arith, sym, ◌∙◌, subst}
use Rattle.std.proofs.Math.Path.{ap₂}
use Rattle.std.specs.List.{All, AllZip, flat_map, zip}
use Rattle.std.proofs.lemmas.List.Elements.{All-cons, All-map, All-tail}
use Rattle.list_facts.proofs.OneAnswers.{same_answer}
use Rattle.list_facts.proofs.Zips.{AllZip-weaker}
use Rattle.scrub_disk.specs.Image.{Image}
use Rattle.scrub_frame.specs.declared.locator.Locator.{Locator}
use Rattle.scrub_super.specs.Plan.{PlanValue}
use Rattle.scrub_run.specs.Entry.{EntryValue}
use Rattle.scrub_run.specs.Run.{IsRun}
use Rattle.scrub_merge.proofs.Maps.{one_shard_map_lem}
use Rattle.scrub_check.specs.declared.named.Named.{Named}
use Rattle.scrub_check.specs.declared.named.Owner.TheVariants.{Run}
use Rattle.scrub_check.specs.declared.runs.RunState.{RunState}
use Rattle.scrub_check.specs.declared.runs.RunState.TheVariants.{Read, BadChunk, NotARun}
use Rattle.scrub_check.specs.declared.statuses.checked.Checked.{Checked}
use Rattle.scrub_check.specs.declared.statuses.status.Status.{Status}
use Rattle.scrub_check.specs.declared.statuses.status.Status.TheVariants.{Sound}
use Rattle.scrub_check.specs.Checked.{AreChecked, named_of}
use Rattle.scrub_check.specs.ChunkForms.{form_at}
use Rattle.scrub_check.specs.Named.{named_locators, named_by_runs, named_by_shard}
use Rattle.scrub_check.specs.Runs.{AreReadRuns, HasRunIn, NamesChunkIn}
use Rattle.scrub_check.specs.Status.{HasStatusIn}
use Rattle.scrub_check.proofs.OneList.{the_broken, the_shared}
use Rattle.scrub_found.specs.Resets.{IsScrubbedBut}
use Rattle.scrub_found.specs.Scrubbed.{Scrubbed}
use Rattle.scrub_check.proofs.CheckedLists.{one_list_of_checked}
use Rattle.scrub_check.proofs.IndexRuns.{one_list_of_runs, read_runs_are_runs}
use Rattle.scrub_reclaim.specs.Reset.{NameTheSame}

-- ---- lists

-- what holds of all named locators holds of those of the runs
of_runs : (K : Locator → Type 0) (k : ℕ) (ls : List Locator) (ns : List Named) →
    All (λ (n : Named). K n.locator) (named_by_runs k ls ++ ns) → All K ls
of_runs K k [] ns h = λ i d below. absurd (omega (arith, below))
of_runs K k (l ∷ ls) ns h =
    let P : Named → Type 0 = λ n. K n.locator in
    All-cons K l ls (h 0 (record { owner = Run k; locator = l }) (omega arith))
    (of_runs K (k + 1) ls ns (All-tail P (record { owner = Run k; locator = l }) (named_by_runs (k + 1) ls ++ ns) h))

-- ---- what carries over

-- by a plan the locator names a chunk with this payload
pub record NamesPayload (image : Image) (plan : PlanValue) (l : Locator) (payload : List ℕ) : Type 0 where
  pub names : NamesChunkIn image plan l
  pub has : names.chunk.payload ≡ payload

-- what is said of a locator by a plan of one image is said by a plan of the other: the chunk that it names, and no other, and
-- its status
pub record Carries (image other : Image) (old new : PlanValue) (l : Locator) : Type 0 where
  pub names : (n : NamesChunkIn image old l) → NamesPayload other new l n.chunk.payload
  pub no_other : NamesChunkIn other new l → NamesChunkIn image old l
  pub own : (s : Status) → HasStatusIn image old l s → HasStatusIn other new l s

-- so is its run, and what became of that
run_carries : {image other : Image} {old new : PlanValue} (l : Locator) → Carries image other old new l →
    (r : Option (List EntryValue)) (s : RunState) → HasRunIn image old l r s → HasRunIn other new l r s
run_carries l c (Some es) Read h =
    let n = c.names h.0 in (n.names, subst (λ (b : List ℕ). IsRun b es) (sym n.has) h.1)
run_carries l c None NotARun h =
    let n = c.names h.0 in (n.names, λ es r. h.1 es (subst (λ (b : List ℕ). IsRun b es) n.has r))
run_carries l c None (BadChunk s) h = (c.own s h.0, λ m. h.1 (c.no_other m))
run_carries l c (Some es) NotARun h = absurd h
run_carries l c (Some es) (BadChunk s) h = absurd h
run_carries l c None Read h = absurd h

module _ (resets others : List ℕ) (before after : Image) (found rest : Scrubbed) (x : IsScrubbedBut resets before found) (y : IsScrubbedBut others after rest)
    (has : rest.plan.has_superblock ≡ found.plan.has_superblock) (runs : rest.plan.runs ≡ found.plan.runs) (retired : rest.plan.retired ≡ found.plan.retired)
    (carry : All (λ (c : Checked). Carries before after found.plan rest.plan c.locator) found.checked)
    (forms : All (λ (c : Checked). c.status ≡ Sound → form_at rest.all c.locator ≡ form_at found.all c.locator) found.checked) where
  abbrev Same : Locator → Type 0
  Same l = Carries before after found.plan rest.plan l

  same_names : All (λ (n : Named). Same n.locator) (named_locators found.plan.runs found.bindings)
  same_names =
      subst (λ (ns : List Named). All (λ (n : Named). Same n.locator) ns) x.checked.same
      (All-map (λ (n : Named). Same n.locator) named_of found.checked carry)

  same_runs : All Same found.plan.runs
  same_runs = of_runs Same 0 found.plan.runs (flat_map named_by_shard found.bindings) same_names

  abbrev OfRun : Image → PlanValue → Locator → Option (List EntryValue) × RunState → Type 0
  OfRun image plan l p = HasRunIn image plan l p.0 p.1

  read_after : AreReadRuns after rest.plan found.read
  read_after = record {
    same = x.read.same;
    each =
        subst (λ (ls : List Locator). AllZip (OfRun after rest.plan) ls (zip found.read.runs found.read.states)) (sym runs)
        (AllZip-weaker (OfRun before found.plan) (OfRun after rest.plan) Same (λ l p c h. run_carries l c p.0 p.1 h) found.plan.runs (zip found.read.runs found.read.states) same_runs x.read.each);
  }

  read : rest.read ≡ found.read
  read = one_list_of_runs after rest.plan rest.read found.read y.read read_after

  bindings : rest.bindings ≡ found.bindings
  bindings =
      one_shard_map_lem found.read.runs rest.bindings found.bindings
      (read_runs_are_runs before found.plan found.read x.read) (rw read at y.bindings) x.bindings

  checked_after : AreChecked after rest.plan (named_locators rest.plan.runs rest.bindings) found.checked
  checked_after = record {
    same = x.checked.same ∙ ap₂ named_locators (sym runs) (sym bindings);
    statuses = λ i d below. (carry i d below).own (get_or found.checked i d).status (x.checked.statuses i d below);
  }

  checked : rest.checked ≡ found.checked
  checked =
      one_list_of_checked after rest.plan (named_locators rest.plan.runs rest.bindings) rest.checked found.checked y.checked
      checked_after

  -- so all that is named is the same
  pub named_alike : NameTheSame found rest
  named_alike = record {
    superblock = has;
    runs = runs;
    retired = retired;
    read = read;
    bindings = bindings;
    checked = checked;
    forms = forms;
    shared = same_answer (the_shared found.checked) rest.shared found.shared (rw checked at y.shared) x.shared;
    broken = same_answer (the_broken found.checked) rest.broken found.broken (rw checked at y.broken) x.broken;
  }
