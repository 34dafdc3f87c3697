-- The page can be read, and by its letters, unless they are held, and its bytes it is damaged, stray or held.
use Rattle.std.proofs.Common.{◌≡◌, ℕ, Bool, true, subst}
use Rattle.scrub_disk.specs.Image.{Image}
use Rattle.scrub_super.specs.declared.pages.SeenPage.{SeenPage}
use Rattle.scrub_super.specs.Pages.{HasRecord, HasStrayByte, IsRecordless}
use Rattle.scrub_super.specs.steps.PagesFound.{IsKnownOfPage}
use Rattle.scrub_super.proofs.pages.page_without_record.Goals as goal

recordless : {image : Image} {q : ℕ} {page : SeenPage} {held stray : Bool} (known : IsKnownOfPage image q page held stray) →
    page.is_readable ≡ true → ¬ HasRecord image q → IsRecordless image q known.seen.bytes
recordless known e none = record { readable = rw e at known.seen.readable; no_record = none }

pub returns-in-Some : goal.returns-in-Some
returns-in-Some c = λ image q known none. (
  known.seen.bytes,
  recordless known c.if-not-page.false none,
  rw c.in-Some.is at (c.loose_letters.ensures image q known.seen known.held_is),
)

pub returns-then-is_stray : goal.returns-then-is_stray
returns-then-is_stray c = λ image q known none. (
  known.seen.bytes,
  recordless known c.if-not-page.false none,
  rw c.in_default.is at (c.loose_letters.ensures image q known.seen known.held_is),
  subst (HasStrayByte image q known.seen.bytes) c.if-is_stray.true known.stray_is,
)

pub returns-else-is_stray : goal.returns-else-is_stray
returns-else-is_stray c = λ image q known none. (
  known.seen.bytes,
  recordless known c.if-not-page.false none,
  rw c.in_default.is at (c.loose_letters.ensures image q known.seen known.held_is),
  subst (HasStrayByte image q known.seen.bytes) c.if-is_stray.false known.stray_is,
)
