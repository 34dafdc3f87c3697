-- Places for the results of planned extents, each with a result or none yet.
use Rattle.std.specs.Prelude.{◌≡◌, ℕ, All, List, [], ◌∷◌, true, Option, Some, None, IfSome, map}
use Rattle.std.specs.List.{AllZip, filter_map, list_all}
use Rattle.std.specs.Option.{is_some}
use Rattle.scrub_disk.specs.Image.{Image}
use Rattle.scrub_super.specs.Plan.{PlanValue, pointer_of}
use Rattle.scrub_scan.specs.declared.extent_result.ExtentResult.{ExtentResult}
use Rattle.scrub_scan.specs.Scanned.{Scanned, result_image, scanned}

-- what is in those places that have something
abbrev pub held_in : {X : Type 0} → List (Option X) → List X
held_in slots = filter_map (λ slot. slot) slots

-- each place has something
abbrev pub AreFull : {X : Type 0} → List (Option X) → Type 0
AreFull slots = list_all is_some slots ≡ true

module _ {D : Type 0} {s : _} where
  -- the result is of extent e of this image, under the plan's write pointer
  pub record IsPlannedResult (image : Image) (plan : PlanValue) (e : ℕ) (r : ExtentResult D s) : Type 0 where
    pub image_is : result_image r ≡ image
    pub extent_is : r.extent ≡ e
    pub pointer_is : pointer_of plan e ≡ Some r.pointer

  -- one place for each planned extent, in their order, which has that extent's result if any
  abbrev pub AreSlots : Image → PlanValue → List (Option (ExtentResult D s)) → Type 0
  AreSlots image plan slots = AllZip (λ e slot. IfSome slot (λ r. IsPlannedResult image plan e r)) plan.planned slots

  -- the source of the first of some results, or None if there are none
  abbrev pub first_source : List (ExtentResult D s) → Option D
  first_source [] = None
  first_source (r ∷ rs) = Some r.source.now

  -- all of some results are of one image
  abbrev pub AreOfOneImage : List (ExtentResult D s) → Type 0
  AreOfOneImage results = (image : Image) × All (λ r. result_image r ≡ image) results

  -- what was found, of the places that have a result
  abbrev pub scanned_in : List (Option (ExtentResult D s)) → List Scanned
  scanned_in slots = map (λ (r : ExtentResult D s). scanned r) (held_in slots)
