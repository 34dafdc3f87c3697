-- What is found on small disks: one scanned extent, and nothing that is named.
use Rattle.std.proofs.Common.{◌≡◌, ◌<◌, ℕ, false, List, [], ◌∷◌, length, arith, refl, Some}
use Rattle.std.specs.List.Sorted.{IsStrictlySortedBy}
use Rattle.std.proofs.lemmas.Bool.{false≢true}
use Rattle.std.proofs.lemmas.List.Elements.{All-cons, All-nil}
use Rattle.std.proofs.lemmas.List.Sorted.{IsPermutation-refl}
use Rattle.std.proofs.lemmas.Option.{none-some}
use Rattle.scrub_super.specs.Plan.{PlanValue, plan_of, pointer_of}
use Rattle.scrub_scan.specs.declared.findings.Findings.{Findings}
use Rattle.scrub_scan.specs.AllFindings.{AreAllFindings}
use Rattle.scrub_scan.specs.Findings.{IsFindings}
use Rattle.scrub_scan.specs.Scanned.{Scanned}
use Rattle.scrub_merge.specs.Binding.{BindingValue, IsNewestBinding}
use Rattle.scrub_merge.specs.ShardMap.{IsShardMap}
use Rattle.scrub_check.specs.declared.statuses.checked.Checked.{Checked}
use Rattle.scrub_check.specs.Candidates.{AreCandidates, CandidateValue}
use Rattle.scrub_check.specs.Checked.{AreBrokenShards, AreChecked}
use Rattle.scrub_check.specs.Named.{named_locators}
use Rattle.scrub_check.specs.Runs.{AreReadRuns, ReadRunsValue}
use Rattle.scrub_check.specs.Shared.{AreShared}
use Rattle.scrub_check.specs.Status.{HasStatusIn}
use Rattle.scrub_reclaim.proofs.SmallDisks.{choice_of, disk, nothing, one_pad}

-- the plan
abbrev pub plan_under : ℕ → ℕ → PlanValue
plan_under n w = plan_of (choice_of n w)

-- what is scanned: extent 1 alone
abbrev pub scanned : ℕ → Findings → Scanned
scanned w f = record { extent = 1; pointer = w; findings = f }

-- Of a small disk extent 1 alone is scanned, with what is found there.
pub all_found : (n w : ℕ) (xs : List ℕ) (f : Findings) → IsFindings (disk n w xs) 1 w f →
    AreAllFindings (disk n w xs) (plan_under n w) (scanned w f ∷ [])
all_found n w xs f is = record {
  extents = refl;
  pointers = All-cons HasPointer (scanned w f) [] refl (All-nil HasPointer);
  findings = All-cons HasFindings (scanned w f) [] is (All-nil HasFindings);
}
  where
    HasPointer : Scanned → Type 0
    HasPointer g = pointer_of (plan_under n w) g.extent ≡ Some g.pointer

    HasFindings : Scanned → Type 0
    HasFindings g = IsFindings (disk n w xs) g.extent g.pointer g.findings

-- no run is named, so none is read
abbrev pub none_read : ReadRunsValue
none_read = record { runs = []; states = [] }

-- A small disk names no index run, so none is read.
pub no_runs : (n w : ℕ) (xs : List ℕ) → AreReadRuns (disk n w xs) (plan_under n w) none_read
no_runs n w xs = record { same = refl; each = tt }

-- The shard map of no runs has no bindings.
pub no_bindings : IsShardMap [] []
no_bindings = record {
  rising = λ i j d lt here. absurd (omega (arith, here));
  bound = All-nil (λ (b : BindingValue). 0 < length b.locators);
  newest = All-nil (IsNewestBinding []);
  all = λ b is some. absurd (none-some (Some is.entry.entries) is.entry.is_read);
}

-- Without runs and bindings no locator is named, so none is checked.
pub none_named : (n w : ℕ) (xs : List ℕ) → AreChecked (disk n w xs) (plan_under n w) (named_locators [] []) []
none_named n w xs = record {
  same = refl;
  statuses = All-nil (λ (c : Checked). HasStatusIn (disk n w xs) (plan_under n w) c.locator c.status);
}

-- Without locators no place is shared.
pub none_shared : AreShared [] []
unfolding IsStrictlySortedBy
none_shared = record {
  rising = tt;
  exact = λ s. ((λ there. absurd (omega (arith, there.1))), (λ h. absurd (omega (arith, h))));
}

-- Without locators no shard is broken.
pub none_broken : AreBrokenShards [] []
none_broken = record {
  rising = λ i j d lt here. absurd (omega (arith, here));
  exact = λ id. ((λ there. absurd (omega (arith, there.1))), (λ broken. absurd (false≢true broken)));
}

-- under the pointer 64 the extent may be reclaimed, and each byte is freed
abbrev pub all_free : CandidateValue
all_free = record { extent = 1; free = 64; chunks = [] }

-- Under the pointer 64 extent 1 is the one candidate, and all its 64 bytes are freed.
pub one_candidate : (n : ℕ) → AreCandidates (plan_under n 64) (scanned 64 one_pad ∷ []) [] false (all_free ∷ [])
unfolding IsStrictlySortedBy
one_candidate n = record { filtered = IsPermutation-refl (all_free ∷ []); ordered = (tt, tt) }

-- Under the pointer 0 there is no candidate.
pub no_candidate : (n : ℕ) → AreCandidates (plan_under n 0) (scanned 0 nothing ∷ []) [] false []
unfolding IsStrictlySortedBy
no_candidate n = record { filtered = IsPermutation-refl []; ordered = tt }
