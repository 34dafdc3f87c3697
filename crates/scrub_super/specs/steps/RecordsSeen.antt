-- Steps of the choice: the records on the pages seen so far, from the last page down.
use Rattle.std.specs.Prelude.{◌≡◌, ◌≢◌, ◌<◌, ◌≤◌, ◌+◌, ◌==◌, ◌↔◌, ℕ, List, false, Some, IsTrue, Contains, MatchOption}
use Rattle.std.specs.Prelude.{length as len}
use Rattle.std.specs.List.Sorted.{IsStrictlyIncreasing}
use Rattle.scrub_disk.specs.Image.{Image}
use Rattle.scrub_super.specs.declared.choosing.Newest.{Newest}
use Rattle.scrub_super.specs.declared.choosing.RecordsSeen.{RecordsSeen}
use Rattle.scrub_super.specs.Contents.{Contents}
use Rattle.scrub_super.specs.Chosen.{RecordStandsAt}

-- a valid record of this generation begins at page q
abbrev pub StandsFrom : Image → ℕ → ℕ → Type 0
StandsFrom image q n = (c : Contents) × RecordStandsAt image q c × (c.generation ≡ n)

-- the newest record on the pages from `low` on, in a tie the one on the lowest page, and whether there is a tie
pub record IsNewestFrom (stands : ℕ → ℕ → Type 0) (low : ℕ) (newest : Newest) : Type 0 where
  pub from : low ≤ newest.page
  pub there : stands newest.page newest.generation
  pub greatest : (q n : ℕ) → low ≤ q → stands q n → n ≤ newest.generation
  pub lowest : (q : ℕ) → low ≤ q → stands q newest.generation → newest.page ≤ q
  pub tied : IsTrue newest.tie ↔ ((q : ℕ) × (q ≢ newest.page) × (low ≤ q) × stands q newest.generation)

-- the pages from `low` on with a record, ascending
pub record ArePagesFrom (stands : ℕ → ℕ → Type 0) (low : ℕ) (pages : List ℕ) : Type 0 where
  pub rising : IsStrictlyIncreasing pages
  pub exact : (q : ℕ) → Contains pages q ↔ ((low ≤ q) × ((n : ℕ) × stands q n))

-- how many pages from `low` on have a record, and the newest of these records
pub record AreSeenFrom (stands : ℕ → ℕ → Type 0) (low : ℕ) (seen : RecordsSeen) : Type 0 where
  pub pages : List ℕ
  pub are : ArePagesFrom stands low pages
  pub records : seen.records ≡ len pages
  pub newest : MatchOption seen.newest ((q n : ℕ) → low ≤ q → ¬ stands q n) (IsNewestFrom stands low)

-- one more record was seen, on a lower page than those before
pub record AddsRecord (old new : RecordsSeen) (q n : ℕ) : Type 0 where
  pub records : new.records ≡ old.records + 1
  pub newest : MatchOption old.newest
      (new.newest ≡ Some (record { page = q; generation = n; tie = false }))
      (λ b. (n < b.generation → new.newest ≡ Some b)
      × (b.generation ≤ n → new.newest ≡ Some (record { page = q; generation = n; tie = n == b.generation })))
