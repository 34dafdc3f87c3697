-- What follows from a disk's summary if it says that the disk is sound.
use Rattle.std.specs.Prelude.{◌≡◌, ℕ, Bool, true, false, List, Option, not}
use Rattle.std.specs.List.{list_all}
use Rattle.scrub_super.specs.declared.pages.SuperblockPage.{SuperblockPage}
use Rattle.scrub_super.specs.declared.pages.SuperblockPage.TheVariants.{Lost}
use Rattle.scrub_super.specs.Pages.{is_odd}
use Rattle.scrub_loose.specs.Loose.{LooseValue}
use Rattle.scrub_found.specs.Scrubbed.{Scrubbed, is_clean_disk}
use Rattle.scrub_listings.specs.Manifest.{is_whole}
use Rattle.scrub_reclaim.specs.declared.doubts.Doubt.{Doubt}
use Rattle.scrub_reclaim.specs.declared.doubts.Doubt.TheVariants.{Tail}
use Rattle.scrub_reclaim.specs.Doubts.{doubts}

-- the page is neither lost nor damaged nor stray
abbrev pub is_quiet : SuperblockPage → Bool
is_quiet Lost = false
is_quiet p = not (is_odd p)

-- the doubt is of a tail whose bytes can be read
abbrev pub is_tail : Doubt → Bool
is_tail (Tail extent first count) = true
is_tail _ = false

-- what is found is clean, nothing is missing of it, no page of extent 0 is lost, damaged or stray, and each doubt is a tail, also by the
-- generation of the last superblock that was written, if that is given
pub record IsAllRight (last : Option ℕ) (pages : List SuperblockPage) (loose : LooseValue) (found : Scrubbed) : Type 0 where
  pub clean : is_clean_disk found ≡ true
  pub whole : is_whole found ≡ true
  pub quiet : list_all is_quiet pages ≡ true
  pub tails : list_all is_tail (doubts last pages loose found) ≡ true
