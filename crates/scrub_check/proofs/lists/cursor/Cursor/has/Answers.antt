use Rattle.std.proofs.Common.{◌∙◌, refl, get_or}
use Rattle.scrub_check.specs.declared.places.chunk_at.ChunkAt.{ChunkAt}
use Rattle.scrub_check.specs.steps.Places.{chunk_at_cmp}
use Rattle.scrub_check.proofs.SortedPlaces.{place_ties}
use Rattle.scrub_check.proofs.PartedPlaces.{found_first, found_nowhere}
use Rattle.scrub_check.proofs.lists.cursor.Cursor.has.Goals as goal

pub returns-then-self-clause-stands : goal.returns-then-self-clause-stands
returns-then-self-clause-stands c =
    let starts = c.args.self.now.starts.now in
    let none : ChunkAt = record { extent = 0; offset = 0 } in
    let n = c.first_from-self.result in
    c.eq.ensures
    ∙ place_ties (get_or starts n none) c.args.start
    ∙ found_first starts c.args.start none n (chunk_at_cmp (get_or starts n none) c.args.start) c.requires.sorted
    c.first_from-self.ensures c.if-self.true refl

pub returns-else-self-clause-stands : goal.returns-else-self-clause-stands
returns-else-self-clause-stands c =
    found_nowhere c.args.self.now.starts.now c.args.start c.first_from-self.result c.requires.sorted c.first_from-self.ensures
    c.if-self.false
