-- The doubts of pages, by their kind as the code names it.
use Rattle.std.specs.Prelude.{ℕ, Option}
use Rattle.scrub_super.specs.declared.pages.SuperblockPage.{SuperblockPage}
use Rattle.scrub_reclaim.specs.declared.doubts.Doubt.{Doubt}
use Rattle.scrub_reclaim.specs.declared.doubting.PageDoubt.{PageDoubt}
use Rattle.scrub_reclaim.specs.declared.doubting.PageDoubt.TheVariants.{Lost, Damaged, Stray}
use Rattle.scrub_reclaim.specs.Doubts.{superblock_damaged, superblock_lost, superblock_stray}

-- the doubt of this kind that page q of extent 0 makes
abbrev pub page_doubt : PageDoubt → ℕ → SuperblockPage → Option Doubt
page_doubt Lost = superblock_lost
page_doubt Damaged = superblock_damaged
page_doubt Stray = superblock_stray
