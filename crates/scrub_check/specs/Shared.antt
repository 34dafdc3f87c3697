-- Places that several sound named locators point to.
use Rattle.std.specs.Prelude.{◌≡◌, ◌≤◌, ◌↔◌, List, Contains}
use Rattle.std.specs.Ordering.{nat_cmp, ordering_then}
use Rattle.std.specs.List.Sorted.{IsStrictlySortedBy}
use Rattle.scrub_check.specs.declared.lists.place.SharedPlace.{SharedPlace}
use Rattle.scrub_check.specs.declared.statuses.checked.Checked.{Checked}
use Rattle.scrub_check.specs.Live.{sound_at}

-- the shared places, strictly ascending by extent and then by place: exactly those to which two or more sound locators
-- point, and so many as each says
pub record AreShared (checked : List Checked) (places : List SharedPlace) : Type 0 where
  pub rising : IsStrictlySortedBy (λ (a b : SharedPlace). ordering_then (nat_cmp a.extent b.extent) (nat_cmp a.offset b.offset)) places
  pub exact : (s : SharedPlace) → Contains places s ↔ ((s.count ≡ sound_at checked s.extent s.offset) × (2 ≤ s.count))
