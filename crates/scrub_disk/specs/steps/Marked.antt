-- Steps of loading: what is said while named or lost pages are marked.
use Rattle.std.specs.Prelude.{◌≡◌, ◌<◌, ℕ, Bool, true, false, List, slice_index_or, None, ◌⊎◌, All, Contains}
use Rattle.scrub_disk.specs.Image.{Image}
use Rattle.scrub_disk.specs.BytesAndMarks.{page_number}

-- the pages that were named are unreadable, and each page is one of these or as it was
pub record MarksAll (old new : Image) (named : List (ℕ × ℕ)) : Type 0 where
  pub geometry : new.geometry ≡ old.geometry
  pub marked : All (λ at. new.page at.0 at.1 ≡ None) named
  pub others : (e q : ℕ) → e < old.geometry.extents → q < old.geometry.pages →
      (new.page e q ≡ old.page e q) ⊎ ((new.page e q ≡ None) × Contains named (e, q))

-- each marked page among the first `count` pages of the disk is unreadable, and each other page is as it was
pub record MarksLost (marks : List Bool) (count : ℕ) (old new : Image) : Type 0 where
  pub geometry : new.geometry ≡ old.geometry
  pub lost : (e q : ℕ) → e < old.geometry.extents → q < old.geometry.pages → page_number old.geometry e q < count →
      slice_index_or marks (page_number old.geometry e q) false ≡ true → new.page e q ≡ None
  pub kept : (e q : ℕ) → e < old.geometry.extents → q < old.geometry.pages →
      (page_number old.geometry e q < count → slice_index_or marks (page_number old.geometry e q) false ≡ false) →
      new.page e q ≡ old.page e q
