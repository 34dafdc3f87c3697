use Rattle.std.proofs.Common.{◌≡◌, ◌∙◌, rules}
use Rattle.std.specs.List.Sorted.{IsSorted}
use Rattle.std.proofs.lemmas.List.Sorted.{IsPermutation-refl}
use Rattle.scrub_check.specs.steps.Places.{chunk_at_cmp}
use Rattle.scrub_check.proofs.Distinct.{distinct_made}
use Rattle.scrub_check.proofs.SortedPlaces.{place_total, place_exact, place_ties}
use Rattle.scrub_check.proofs.lists.sound_places.SoundPlaces.distinct.Goals as goal

pub returns : goal.returns
returns c =
    let starts = c.args.self.now in
    let read : c.deref.result.now ≡ starts = search rules in
    let sorted : IsSorted chunk_at_cmp starts = search rules in
    let copied : c.in_ok-starts.starts.items ≡ starts =
    c.in_ok-starts.ensures.items_if_clones_equal (λ x y same. search rules) ∙ read in
    distinct_made place_total place_exact place_ties starts c.in_ok-starts.starts.items c.dedup.new.self.items
    (rw copied (IsPermutation-refl starts))
    (rw copied sorted) c.dedup.ensures.filtered
