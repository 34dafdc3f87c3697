-- What is said follows from the choice and the pages of extent 0.
use Rattle.scrub_listings.proofs.scanning.scan_by_superblock.Goals as goal

pub returns-clause-remarks : goal.returns-clause-remarks
returns-clause-remarks g c = record {
  choice = c.in_ok-chosen.chosen;
  chosen = c.in_ok-chosen.ensures.choice;
  pages = c.in_ok-chosen.pages.items;
  held = c.in_ok-chosen.ensures.pages;
  remarks_are = rw c.deref.ensures.value at c.in_ok-remarks.ensures;
}
