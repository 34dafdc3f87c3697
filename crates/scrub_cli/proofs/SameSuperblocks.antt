-- What the pages of extent 0 hold rests on that extent alone: images of the same sizes with the same extent 0 have the same superblocks.
use Rattle.std.proofs.Common.{◌≡◌, ◌*◌, ℕ, Bool, true, false, List, Option, sym, subst, ◌∙◌, ap}
use Rattle.scrub_disk.specs.declared.geometry.Geometry.{Geometry}
use Rattle.scrub_disk.specs.Image.{AreBytesAt, Image, image_byte}
use Rattle.scrub_super.specs.declared.kind.RecordKind.{RecordKind}
use Rattle.scrub_super.specs.declared.pages.SuperblockPage.{SuperblockPage}
use Rattle.scrub_super.specs.declared.pages.SuperblockPage.TheVariants.{Lost, Record, Damaged, Stray, Held}
use Rattle.scrub_super.specs.Contents.{Contents}
use Rattle.scrub_super.specs.Record.{record_bytes}
use Rattle.scrub_super.specs.Chosen.{AreRecords, RecordStandsAt}
use Rattle.scrub_super.specs.Pages.{AreSuperblockPages, HasLooseLetters, HasStrayByte, IsHeldByte, IsRecordless, IsSuperblockPage}

-- the pages of a disk, each by extent and page
abbrev pub Pages : Type 0
Pages = ℕ → ℕ → Option (List ℕ)

-- an image of these sizes with these pages
abbrev disk : Geometry → Pages → Image
disk g pages = record { geometry = g; page = pages }

module _ (g : Geometry) where
  -- a valid record of one image is one of the other
  same_record : {a b : Pages} → a 0 ≡ b 0 → {q : ℕ} {c : Contents} → RecordStandsAt (disk g a) q c → RecordStandsAt (disk g b) q c
  same_record s {q} {c} h = record {
    within = h.within;
    contents = h.contents;
    stands = subst (λ (pages : ℕ → Option (List ℕ)). AreBytesAt (image_byte (disk g (λ e. pages)) 0) (q * g.page) (record_bytes g c)) s h.stands;
  }

  same_records : {a b : Pages} → a 0 ≡ b 0 → {records : List (ℕ × Contents)} → AreRecords (disk g a) records → AreRecords (disk g b) records
  same_records s h = record {
    rising = h.rising;
    exact = λ q c. (λ there. same_record s ((h.exact q c).0 there), λ stands. (h.exact q c).1 (same_record (sym s) stands));
  }

  same_held : {a b : Pages} → a 0 ≡ b 0 → {i : ℕ} → IsHeldByte (disk g a) i → IsHeldByte (disk g b) i
  same_held s h = record { start = h.start; contents = h.contents; stands = same_record s h.stands; from = h.from; to = h.to }

  same_stray : (a b : Pages) → a 0 ≡ b 0 → (q : ℕ) (bytes : List ℕ) (stray : Bool) → HasStrayByte (disk g a) q bytes stray →
      HasStrayByte (disk g b) q bytes stray
  same_stray a b s q bytes true h = λ all. h (λ k x is some. same_held (sym s) (all k x is some))
  same_stray a b s q bytes false h = λ k x is some. same_held s (h k x is some)

  same_recordless : {a b : Pages} → a 0 ≡ b 0 → {q : ℕ} {bytes : List ℕ} → IsRecordless (disk g a) q bytes → IsRecordless (disk g b) q bytes
  same_recordless s {q} h =
      record { readable = ap (λ at. at q) (sym s) ∙ h.readable; no_record = λ r. h.no_record (r.0, same_record (sym s) r.1) }

  same_letters : {a b : Pages} → a 0 ≡ b 0 → {q : ℕ} {bytes : List ℕ} {kind : RecordKind} → HasLooseLetters (disk g a) q bytes kind →
      HasLooseLetters (disk g b) q bytes kind
  same_letters s h = record { letters = h.letters; loose = λ held. h.loose (same_held (sym s) held) }

  same_page : (a b : Pages) → a 0 ≡ b 0 → (q : ℕ) (page : SuperblockPage) → IsSuperblockPage (disk g a) q page → IsSuperblockPage (disk g b) q page
  same_page a b s q Lost h = ap (λ at. at q) (sym s) ∙ h
  same_page a b s q (Record kind generation to rank stray) h =
      (h.0, same_record s h.1, h.2, h.3, h.4, (h.5.0, same_records s h.5.1, h.5.2), (h.6.0, ap (λ at. at q) (sym s) ∙ h.6.1, same_stray a b s q h.6.0 stray h.6.2))
  same_page a b s q (Damaged kind) h = (h.0, same_recordless s h.1, same_letters s h.2)
  same_page a b s q Stray h = (h.0, same_recordless s h.1, (λ kind l. h.2 kind (same_letters (sym s) l)), same_stray a b s q h.0 true h.3)
  same_page a b s q Held h = (h.0, same_recordless s h.1, (λ kind l. h.2 kind (same_letters (sym s) l)), same_stray a b s q h.0 false h.3)

  -- the list of what the pages of one image hold is that of the other
  pub same_superblock_pages : (a b : Pages) → a 0 ≡ b 0 → {pages : List SuperblockPage} → AreSuperblockPages (disk g a) pages →
      AreSuperblockPages (disk g b) pages
  same_superblock_pages a b s h = record { count = h.count; each = λ q page is. same_page a b s q page (h.each q page is) }
