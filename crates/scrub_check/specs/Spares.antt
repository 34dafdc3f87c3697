-- Spare copies: chunks whose payload has the length and the digest that a dangling locator asks for. An empty payload needs none.
use Rattle.std.specs.Prelude.{◌≡◌, ◌==◌, ◌&&◌, ℕ, Bool, Option, Some, None, List, [], Contains, nat_lt, map, if◌then◌else◌}
use Rattle.std.specs.Str.{bytes_eq}
use Rattle.std.specs.declared.cmp.Ordering.{Ordering}
use Rattle.std.specs.Ordering.{nat_cmp, ordering_then, is_eq}
use Rattle.std.specs.Cmp.Lexicographic.{slice_cmp}
use Rattle.std.specs.List.{count_by, filter, filter_map, flat_map}
use Rattle.std.specs.List.Sorted.{IsPermutation, IsSortedByKey}
use Rattle.scrub_frame.specs.declared.locator.Locator.{Locator}
use Rattle.scrub_scan.specs.declared.item.Item.{Item}
use Rattle.scrub_scan.specs.declared.item.Item.TheVariants.{Chunk}
use Rattle.scrub_scan.specs.declared.standing.Standing.{Standing}
use Rattle.scrub_scan.specs.Scanned.{Scanned}
use Rattle.scrub_check.specs.declared.lists.spares.Content.{Content}
use Rattle.scrub_check.specs.declared.statuses.checked.Checked.{Checked}
use Rattle.scrub_check.specs.Checked.{is_dangling}

-- ---- what a spare is

-- an item of extent e as the frame at its start, if it is a chunk
abbrev pub frame_of_item : ℕ → Item → Option Standing
frame_of_item e (Chunk form start stop uuid length digest) = Some (record { extent = e; offset = start; form = form; uuid = uuid; length = length; digest = digest })
frame_of_item e _ = None

-- the chunks of an extent as frames, in the order of its items
abbrev pub frames_in : Scanned → List Standing
frames_in f = filter_map (frame_of_item f.extent) f.findings.items

-- the chunks of all scanned extents as frames, in the order of extents and items
abbrev pub frames : List Scanned → List Standing
frames all = flat_map frames_in all

-- the payload of the frame has the digest and the length that the locator asks for
abbrev pub is_copy_of : Locator → Standing → Bool
is_copy_of l s = bytes_eq s.digest l.digest && (s.length == l.length)

-- the chunks that have what the locator asks for, in the order of extents and items
abbrev pub copies_of : List Scanned → Locator → List Standing
copies_of all l = filter (is_copy_of l) (frames all)

-- a named locator asks for spares: it dangles, and its payload isn't empty
abbrev pub asks_for_spares : Checked → Bool
asks_for_spares c = is_dangling c.status && nat_lt 0 c.locator.length

-- the spares of a named locator: if it asks for some, the chunks that have what it asks for
abbrev pub spares_of : List Scanned → Checked → List Standing
spares_of all c = if asks_for_spares c then copies_of all c.locator else []

-- the same among some chunks
abbrev pub spares_by : List Standing → Checked → List Standing
spares_by found c = if asks_for_spares c then filter (is_copy_of c.locator) found else []

-- the spares of each of the named locators are among these chunks, in their order
abbrev pub AreSpares : List Scanned → List Checked → List Standing → Type 0
AreSpares all checked found = (c : Checked) → Contains checked c → spares_by found c ≡ spares_of all c

-- ---- how they are found

-- the digest and the length of a payload
abbrev pub content_of : Standing → Content
content_of s = record { digest = s.digest; length = s.length }

-- what a locator asks for
abbrev pub content_named : Checked → Content
content_named c = record { digest = c.locator.digest; length = c.locator.length }

-- the order of contents: by digest, and then by length
abbrev pub content_cmp : Content → Content → Ordering
content_cmp a b = ordering_then (slice_cmp nat_cmp a.digest b.digest) (nat_cmp a.length b.length)

-- what some named locators ask for, each as often as one does, in some order
abbrev pub AreWanted : List Checked → List Content → Type 0
AreWanted checked wanted = IsPermutation (map content_named (filter asks_for_spares checked)) wanted

-- the frame's payload is among these
abbrev pub is_wanted : List Content → Standing → Bool
is_wanted wanted s = nat_lt 0 (count_by (λ other. is_eq (content_cmp other (content_of s))) wanted)

-- frames sorted by the contents of their payloads
abbrev pub AreByContent : List Standing → Type 0
AreByContent found = IsSortedByKey content_of content_cmp found

-- for each locator the same frames have what it asks for, in the same order
abbrev pub HaveTheSameCopies : List Standing → List Standing → Type 0
HaveTheSameCopies found others = (l : Locator) → filter (is_copy_of l) others ≡ filter (is_copy_of l) found
