-- What was found on all pages is the choice.
use Rattle.std.proofs.Common.{◌∙◌}
use Rattle.scrub_super.proofs.BytesFromPages.{choice_found, choice_of_none, no_superblock, unreadable_by_marks}
use Rattle.scrub_super.proofs.choosing.choice_of.Goals.{in_default-via-in-Some+in_default, in_default-via-in_default}
use Rattle.scrub_super.proofs.choosing.choice_of.Goals as goal

pub returns-in-Some-Some : goal.returns-in-Some-Some
returns-in-Some-Some g c =
    rw (c.by.ensures, c.geometry-geometry.ensures)
    (choice_found c.requires.found c.in-Some-Some.is-0 c.in-Some-Some.is-1
    ((rw c.deref.ensures.value at c.in_ok-bad_pages.ensures) ∙ unreadable_by_marks c.requires))

pub returns : goal.returns
returns g c =
    let unreadable = (rw c.deref.ensures.value at c.in_ok-bad_pages.ensures) ∙ unreadable_by_marks c.requires in
    rw (c.without.ensures, c.geometry-geometry.ensures)
    (elim c.in_default.branch [
      | in_default-via-in-Some+in_default w ↦ absurd (no_superblock c.requires.found unreadable w.in_default.is-0 w.in_default.is-1)
      | in_default-via-in_default w ↦ choice_of_none c.requires.found unreadable w.in_default.is-0
    ])
