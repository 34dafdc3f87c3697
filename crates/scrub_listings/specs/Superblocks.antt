-- The lines of the pages of extent 0: the superblocks, which of them counts, and what may have been one.
use Rattle.std.specs.Prelude.{◌≡◌, ◌++◌, ◌∷◌, ◌&&◌, [], ℕ, List, Bool, true, false, codes, not}
use Rattle.std.specs.Fmt.{decimal}
use Rattle.std.specs.List.{enumerate_from, flat_map, list_all, list_any}
use Rattle.scrub_disk.specs.Image.{Image}
use Rattle.scrub_scan.specs.Line.{spaced}
use Rattle.scrub_super.specs.declared.kind.RecordKind.{RecordKind}
use Rattle.scrub_super.specs.declared.pages.Rank.{Rank}
use Rattle.scrub_super.specs.declared.pages.Rank.TheVariants.{Tie, Counts, Older}
use Rattle.scrub_super.specs.declared.pages.SuperblockPage.{SuperblockPage}
use Rattle.scrub_super.specs.declared.pages.SuperblockPage.TheVariants.{Lost, Record, Damaged, Stray, Held}
use Rattle.scrub_super.specs.Pages.{AreSuperblockPages, magic_of}

-- the word for how new a record is: `tie`, `counts` or `older`
abbrev pub rank_text : Rank → List ℕ
rank_text Tie = codes "tie"
rank_text Counts = codes "counts"
rank_text Older = codes "older"

-- the line of a record on page q, with its line feed
abbrev pub record_line : ℕ → RecordKind → ℕ → Rank → List ℕ
record_line q kind generation rank =
    codes "record" ++ spaced (decimal q) ++ spaced (magic_of kind) ++ spaced (decimal generation) ++ spaced (rank_text rank) ++ 10 ∷ []

-- the line of page q with its line feed if the page has a stray byte, or else nothing
abbrev pub stray_line : ℕ → Bool → List ℕ
stray_line q true = codes "stray" ++ spaced (decimal q) ++ 10 ∷ []
stray_line q false = []

-- the lines of page q, each with its line feed: one if it is lost, damaged or stray, one or two if it is a record, or else none
abbrev pub superblock_line : ℕ → SuperblockPage → List ℕ
superblock_line q Lost = codes "lost" ++ spaced (decimal q) ++ 10 ∷ []
superblock_line q (Record kind generation to rank stray) = record_line q kind generation rank ++ stray_line q stray
superblock_line q (Damaged kind) = codes "damaged" ++ spaced (decimal q) ++ spaced (magic_of kind) ++ 10 ∷ []
superblock_line q Stray = stray_line q true
superblock_line q Held = []

-- the lines of the pages, by ascending page
abbrev pub superblock_lines : List SuperblockPage → List ℕ
superblock_lines pages = flat_map (λ x. superblock_line x.0 x.1) (enumerate_from 0 pages)

-- the page has the record that counts, and no other record has its generation
abbrev pub is_counting_page : SuperblockPage → Bool
is_counting_page (Record kind generation to Counts stray) = true
is_counting_page _ = false

-- the page has no line, or only the line of a record that ties with none
abbrev pub is_orderly_page : SuperblockPage → Bool
is_orderly_page (Record kind generation to Tie stray) = false
is_orderly_page (Record kind generation to Counts stray) = not stray
is_orderly_page (Record kind generation to Older stray) = not stray
is_orderly_page Held = true
is_orderly_page Lost = false
is_orderly_page (Damaged kind) = false
is_orderly_page Stray = false

-- one record counts, none ties, and no line is of anything but a record
abbrev pub are_clean_pages : List SuperblockPage → Bool
are_clean_pages pages = list_any is_counting_page pages && list_all is_orderly_page pages

-- the text is the lines of the pages of extent 0 of an image, and the truth value says whether they are clean
pub record IsSuperblockListing (image : Image) (text : List ℕ) (clean : Bool) : Type 0 where
  pub pages : List SuperblockPage
  pub are : AreSuperblockPages image pages
  pub text_is : text ≡ superblock_lines pages
  pub verdict : clean ≡ are_clean_pages pages
