-- The chunks of a disk at their places, and which of them are orphans or twins.
use Rattle.std.specs.Prelude.{ℕ, not, nat_lt, Option, Some, None, List}
use Rattle.std.specs.Str.{bytes_eq}
use Rattle.std.specs.List.{filter, filter_map, flat_map, count_by}
use Rattle.scrub_scan.specs.declared.item.Item.{Item}
use Rattle.scrub_scan.specs.declared.item.Item.TheVariants.{Chunk}
use Rattle.scrub_scan.specs.Scanned.{Scanned}
use Rattle.scrub_check.specs.declared.lists.place.Place.{Place}
use Rattle.scrub_check.specs.declared.statuses.checked.Checked.{Checked}
use Rattle.scrub_check.specs.Live.{sound_at}

-- an item of extent e as the place of its chunk, if it is one
abbrev pub place_of : ℕ → Item → Option Place
place_of e (Chunk form start stop uuid length digest) = Some (record { extent = e; offset = start; length = length; uuid = uuid })
place_of e _ = None

-- the places of the chunks of all scanned extents, in the order of extents and items
abbrev pub chunks : List Scanned → List Place
chunks all = flat_map (λ f. filter_map (place_of f.extent) f.findings.items) all

-- the chunks to whose place no sound locator points
abbrev pub orphans : List Scanned → List Checked → List Place
orphans all checked = filter (λ p. not (nat_lt 0 (sound_at checked p.extent p.offset))) (chunks all)

-- the chunks whose UUID another chunk has too
abbrev pub twins : List Scanned → List Place
twins all = filter (λ p. nat_lt 1 (count_by (λ other. bytes_eq other.uuid p.uuid) (chunks all))) (chunks all)
