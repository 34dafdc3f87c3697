-- The shard map of a list of index runs: the newest bindings that have a locator.
use Rattle.std.specs.Prelude.{◌≡◌, ◌<◌, List, All, AllPairs, Contains, length, Some, slice_get, ℕ}
use Rattle.scrub_run.specs.Entry.{EntryValue, IsBelow}
use Rattle.scrub_run.specs.Run.{AreEntries}
use Rattle.scrub_merge.specs.Binding.{BindingValue, Runs, IsNewestBinding}

-- bindings in strictly ascending order of identifier, each with a locator
pub record AreBindings (bindings : List BindingValue) : Type 0 where
  pub rising : AllPairs (λ b c. IsBelow b.id c.id) bindings
  pub bound : All (λ b. 0 < length b.locators) bindings

-- the shard map: the newest bindings of all identifiers whose newest binding has a locator, in strictly ascending order of
-- identifier; a shard whose newest entry deletes it is in no list, doubtful or not
pub record IsShardMap (runs : Runs) (bindings : List BindingValue) : Type 0 where
  pub rising : AllPairs (λ b c. IsBelow b.id c.id) bindings
  pub bound : All (λ b. 0 < length b.locators) bindings
  pub newest : All (IsNewestBinding runs) bindings
  pub all : (b : BindingValue) → IsNewestBinding runs b → 0 < length b.locators → Contains bindings b

-- each run that isn't lost has the entries of a run
abbrev pub AreRuns : Runs → Type 0
AreRuns runs = (k : ℕ) (entries : List EntryValue) → slice_get runs k ≡ Some (Some entries) → AreEntries entries
