-- The text of a list of items, and the outcome of the items.
use Rattle.std.specs.Prelude.{◌≡◌, ℕ, List, [], ◌∷◌, ◌++◌}
use Rattle.std.specs.List.{list_all}
use Rattle.scrub_found.specs.Scrubbed.{is_clean_item}
use Rattle.scrub_scan.specs.declared.item.Item.{Item}
use Rattle.scrub_scan.specs.Extent.{Extent}
use Rattle.scrub_scan.specs.Line.{line_of}
use Rattle.scrub_scan.specs.Tiling.{IsTiling}
use Rattle.scrub_cli.specs.declared.process.outcome.Outcome.{Outcome}
use Rattle.scrub_cli.specs.Outcome.{outcome_of}

-- the line of each item, each with a line feed
abbrev pub lines_of : List Item → List ℕ
lines_of [] = []
lines_of (item ∷ items) = line_of item ++ 10 ∷ lines_of items

-- the answer for an extent: the lines of its tiling, and whether each item is clean
pub record IsListing (extent : Extent) (text : List ℕ) (outcome : Outcome) : Type 0 where
  pub items : List Item
  pub tiled : IsTiling extent items
  pub spelled : text ≡ lines_of items
  pub ended : outcome ≡ outcome_of (list_all is_clean_item items)
