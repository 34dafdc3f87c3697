-- How the code compares the bytes of a page.
use Rattle.std.specs.Prelude.{◌≡◌, ◌<◌, ◌≤◌, ◌==◌, ◌&&◌, ◌||◌, ℕ, Bool, true, false, not, nat_lt, Option, Some, None, MatchOption, max, slice_index, slice_index_or, if◌then◌else◌}
use Rattle.std.specs.Option.{option_map_or}
use Rattle.scrub_disk.specs.declared.buffered_extent.BufferedExtent.{BufferedExtent}
use Rattle.scrub_disk.specs.Image.{Image, image_byte}
use Rattle.scrub_super.specs.declared.pages.SuperblockPage.{SuperblockPage}
use Rattle.scrub_super.specs.declared.pages.SuperblockPage.TheVariants.{Record}

-- two bytes are the same, or neither can be read
abbrev pub is_same_byte : Option ℕ → Option ℕ → Bool
is_same_byte None None = true
is_same_byte (Some a) (Some b) = a == b
is_same_byte _ _ = false

-- both bytes can be read, and the later one is zero
abbrev pub is_zeroed : Option ℕ → Option ℕ → Bool
is_zeroed (Some a) (Some b) = b == 0
is_zeroed _ _ = false

-- the byte of place p may change: it isn't in front of the room's place, and is before `to` or zero now
abbrev pub may_change : Option ℕ → ℕ → ℕ → Option ℕ → Option ℕ → Bool
may_change room to p old new = option_map_or (λ place. not (nat_lt p place) && (nat_lt p to || is_zeroed old new)) room false

-- the byte of place p changed, and may not
abbrev pub is_refused : Option ℕ → ℕ → ℕ → Option ℕ → Option ℕ → Bool
is_refused room to p old new = not (is_same_byte old new) && not (may_change room to p old new)

-- the byte at a place of an extent that was read, in a page of this number, if that page could be read
abbrev pub byte_at : BufferedExtent → ℕ → ℕ → Option ℕ
byte_at extent page place = if slice_index_or extent.readable.items page false then Some (slice_index extent.bytes.items place) else None

-- the byte at a place of page `page` of two extents that were read is refused
abbrev pub is_refused_at : BufferedExtent → BufferedExtent → Option ℕ → ℕ → ℕ → ℕ → Bool
is_refused_at old new room to page place = is_refused room to place (byte_at old page place) (byte_at new page place)

-- the byte of place p of an extent is refused
abbrev pub is_refused_in : Image → Image → Option ℕ → ℕ → ℕ → ℕ → Bool
is_refused_in before after room to x p = is_refused room to p (image_byte before x p) (image_byte after x p)

-- the first place from `low` on and below `high` that passes a test, if there is one
abbrev pub IsFirstWithin : ℕ → ℕ → (ℕ → Bool) → Option ℕ → Type 0
IsFirstWithin low high test first =
    MatchOption first ((p : ℕ) → low ≤ p → p < high → test p ≡ false)
    (λ p. (low ≤ p) × (p < high) × (test p ≡ true) × ((q : ℕ) → low ≤ q → q < p → test q ≡ false))

-- the least place from `low` on and below `high` of which something holds, if there is one
abbrev pub IsLeastWithin : ℕ → ℕ → (ℕ → Type 0) → Option ℕ → Type 0
IsLeastWithin low high P least =
    MatchOption least ((p : ℕ) → low ≤ p → p < high → ¬ P p)
    (λ p. (low ≤ p) × (p < high) × P p × ((q : ℕ) → low ≤ q → q < p → ¬ P q))

-- how far records reach with a page: to the end of the record that begins on it, if that is farther
abbrev pub reach_with : ℕ → SuperblockPage → ℕ
reach_with reach (Record kind generation to rank stray) = max reach to
reach_with reach _ = reach
