-- What is asked for, to be searched.
use Rattle.std.specs.Prelude.{◌≡◌, ℕ, List, [], ◌∷◌, All, Contains, map}
use Rattle.std.specs.List.{filter}
use Rattle.std.specs.List.Sorted.{IsPermutation, IsSorted}
use Rattle.std.specs.Ordering.{nat_cmp}
use Rattle.scrub_scan.specs.declared.standing.Standing.{Standing}
use Rattle.scrub_check.specs.declared.lists.spares.Content.{Content}
use Rattle.scrub_check.specs.declared.statuses.checked.Checked.{Checked}
use Rattle.scrub_check.specs.Spares.{content_cmp, content_named, is_wanted}
use Rattle.scrub_disk.specs.Image.{Image}
use Rattle.scrub_loose.specs.Copies.{is_gone_by}
use Rattle.scrub_loose.specs.Loose.{LooseValue}
use Rattle.scrub_loose.specs.steps.Search.{AreFoundIn}
use Rattle.scrub_loose.specs.declared.asked.Asked.{Asked}

-- contents in their order, and their lengths in theirs
pub record IsAsked (a : Asked) : Type 0 where
  pub contents : IsSorted content_cmp a.contents.items
  pub lengths : IsSorted nat_cmp a.lengths.items
  pub has : All (λ c. Contains a.lengths.items c.length) a.contents.items

-- what those of these named locators ask for whose payloads are gone, each as often as one does
abbrev pub AreAsked : List Standing → List Checked → List Content → Type 0
AreAsked spares checked contents = IsPermutation (map content_named (filter (is_gone_by spares) checked)) contents

-- what is found of these contents in these extents: all of it, or nothing if there are none
abbrev pub IsSearchedFor : List Content → Image → List ℕ → LooseValue → Type 0
IsSearchedFor [] image es v = v ≡ record { frames = []; crowded = [] }
IsSearchedFor (c ∷ contents) image es v = AreFoundIn (is_wanted (c ∷ contents)) image es v
