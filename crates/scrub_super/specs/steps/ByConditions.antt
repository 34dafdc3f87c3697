-- The choice, and how new a record is, by conditions on all valid records of an image, as the code finds them.
use Rattle.std.specs.Prelude.{◌≡◌, ◌≢◌, ◌≤◌, ◌↔◌, ℕ, List, Option, Some, None, IsTrue, Contains}
use Rattle.std.specs.Prelude.{length as len}
use Rattle.std.specs.List.Sorted.{IsStrictlyIncreasing}
use Rattle.scrub_disk.specs.Image.{Image, unreadable_pages}
use Rattle.scrub_super.specs.declared.pages.Rank.{Rank}
use Rattle.scrub_super.specs.declared.pages.Rank.TheVariants.{Tie, Counts, Older}
use Rattle.scrub_super.specs.Contents.{Contents}
use Rattle.scrub_super.specs.Chosen.{Choice, RecordStandsAt}

-- no valid record has a greater generation
abbrev pub IsGreatest : Image → ℕ → Type 0
IsGreatest image n = (q : ℕ) (c : Contents) → RecordStandsAt image q c → c.generation ≤ n

-- the record that counts: the valid one of the greatest generation, and of those the one on the lowest page
pub record IsNewestRecord (image : Image) (q : ℕ) (c : Contents) : Type 0 where
  pub stands : RecordStandsAt image q c
  pub greatest : IsGreatest image c.generation
  pub lowest : (r : ℕ) (d : Contents) → RecordStandsAt image r d → d.generation ≡ c.generation → q ≤ r

-- the record that counts and its page, or nothing if no record is valid
abbrev pub IsChosen : Image → Option Contents → Option ℕ → Type 0
IsChosen image (Some c) (Some q) = IsNewestRecord image q c
IsChosen image None None = (q : ℕ) (c : Contents) → ¬ RecordStandsAt image q c
IsChosen image (Some c) None = ⊥
IsChosen image None (Some q) = ⊥

-- two pages have a valid record of the greatest generation
pub record IsTie (image : Image) : Type 0 where
  pub one : ℕ
  pub other : ℕ
  pub apart : one ≢ other
  pub contents : Contents
  pub contents_of_other : Contents
  pub stands : RecordStandsAt image one contents
  pub other_stands : RecordStandsAt image other contents_of_other
  pub same : contents_of_other.generation ≡ contents.generation
  pub greatest : IsGreatest image contents.generation

-- the pages with a valid record, ascending
pub record AreRecordPages (image : Image) (pages : List ℕ) : Type 0 where
  pub rising : IsStrictlyIncreasing pages
  pub exact : (q : ℕ) → Contains pages q ↔ ((c : Contents) × RecordStandsAt image q c)

-- each part of the choice is as it is in the image, by conditions on all valid records
pub record IsChoiceByConditions (image : Image) (choice : Choice) : Type 0 where
  pub geometry : choice.geometry ≡ image.geometry
  pub chosen : IsChosen image choice.superblock choice.page
  pub records : (pages : List ℕ) × AreRecordPages image pages × (choice.records ≡ len pages)
  pub tie : IsTrue choice.tie ↔ IsTie image
  pub bad_pages : choice.bad_pages ≡ unreadable_pages image 0

-- how new a record of a generation is: it has the greatest one and there is a tie, or it has it and there is none, or it
-- is older
abbrev pub IsRankByConditions : Image → ℕ → Rank → Type 0
IsRankByConditions image n Tie = IsGreatest image n × IsTie image
IsRankByConditions image n Counts = IsGreatest image n × ¬ IsTie image
IsRankByConditions image n Older = ¬ IsGreatest image n
