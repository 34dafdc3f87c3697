-- What a list is once it is sorted and each of its elements is left once.
use Rattle.std.specs.Prelude.{◌↔◌, List, Contains}
use Rattle.std.specs.declared.cmp.Ordering.{Ordering}
use Rattle.std.specs.List.Sorted.{IsStrictlySortedBy}

-- the elements of a list, each once, ascending
pub record AreDistinct {X : Type 0} (cmp : X → X → Ordering) (xs once : List X) : Type 0 where
  pub rising : IsStrictlySortedBy cmp once
  pub same : (x : X) → Contains once x ↔ Contains xs x
