-- What is said of the superblocks of a disk beside a text: which pages of extent 0 may have had a newer one, and that there is a tie.
use Rattle.std.specs.Prelude.{◌≡◌, ◌++◌, ◌∷◌, [], ℕ, Bool, List, Option, None, Some, if◌then◌else◌}
use Rattle.std.specs.List.{enumerate_from, filter_map}
use Rattle.scrub_disk.specs.Image.{Image}
use Rattle.scrub_frame.specs.declared.locator.Locator.{Locator}
use Rattle.scrub_super.specs.Chosen.{Choice, IsChoice}
use Rattle.scrub_super.specs.Pages.{AreSuperblockPages}
use Rattle.scrub_super.specs.declared.pages.SuperblockPage.{SuperblockPage}
use Rattle.scrub_super.specs.declared.pages.SuperblockPage.TheVariants.{Lost as LostPage, Damaged as DamagedPage}
use Rattle.scrub_listings.specs.declared.remarks.SuperblockRemark.{SuperblockRemark}
use Rattle.scrub_listings.specs.declared.remarks.SuperblockRemark.TheVariants.{Lost, Tie}

-- that page q can't be read or is damaged
abbrev pub page_remark : ℕ → SuperblockPage → Option SuperblockRemark
page_remark q LostPage = Some (Lost q)
page_remark q (DamagedPage kind) = Some (Lost q)
page_remark q _ = None

-- the same of all pages of extent 0, by ascending page
abbrev pub page_remarks : List SuperblockPage → List SuperblockRemark
page_remarks pages = filter_map (λ p. page_remark p.0 p.1) (enumerate_from 0 pages)

-- what is said of the superblocks, by whether there is a tie: that of the pages, and then that there is a tie
abbrev pub superblock_remarks : Bool → List SuperblockPage → List SuperblockRemark
superblock_remarks tie pages = page_remarks pages ++ (if tie then Tie ∷ [] else [])

-- what is said of the superblocks of an image
pub record AreSuperblockRemarks (image : Image) (remarks : List SuperblockRemark) : Type 0 where
  pub choice : Choice
  pub chosen : IsChoice image choice
  pub pages : List SuperblockPage
  pub held : AreSuperblockPages image pages
  pub remarks_are : remarks ≡ superblock_remarks choice.tie pages

-- what is said of the superblocks of an image by given index runs, which is nothing, or else by the superblock that counts
abbrev pub AreSaidFrom : Option (List Locator) → Image → List SuperblockRemark → Type 0
AreSaidFrom None image remarks = AreSuperblockRemarks image remarks
AreSaidFrom (Some runs) image remarks = remarks ≡ []
