-- One more page after ranges of neighbouring pages, as the code joins it.
use Rattle.std.specs.Prelude.{◌+◌, ◌==◌, ℕ, List, [], ◌∷◌, if◌then◌else◌}
use Rattle.scrub_reclaim.specs.declared.page_ranges.PageRange.{PageRange}

-- a page after ranges: the last page of the last range if it follows that range directly, or else a range of its own
abbrev pub joined_with : List PageRange → ℕ → List PageRange
joined_with [] q = record { first = q; last = q } ∷ []
joined_with (r ∷ []) q = if r.last + 1 == q then record { first = r.first; last = q } ∷ [] else r ∷ record { first = q; last = q } ∷ []
joined_with (r ∷ s ∷ rs) q = r ∷ joined_with (s ∷ rs) q
