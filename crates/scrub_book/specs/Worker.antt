-- What a worker took and found, as contracts see it.
use Rattle.std.specs.Prelude.{◌≡◌, ◌++◌, ℕ, List, Option}
use Rattle.std.specs.Option.{option_to_list}
use Rattle.scrub_scan.specs.declared.extent_result.ExtentResult.{ExtentResult}
use Rattle.scrub_book.specs.Extents.{extents_in}
use Rattle.scrub_book.specs.declared.worker_core.WorkerCore.{WorkerCore}
use Rattle.scrub_book.specs.declared.retired.Retired.{Retired}

module _ {D : Type 0} {s : _} where
  -- the extent that a worker took last, while it has no result of it
  abbrev pub held_by : WorkerCore D s → Option ℕ
  held_by core = core.held

  -- the extents that a worker took, in that order
  abbrev pub taken_by : WorkerCore D s → List ℕ
  taken_by core = core.taken.items

  -- the results of a worker, in the order of its extents
  abbrev pub results_of : WorkerCore D s → List (ExtentResult D s)
  results_of core = core.results.items

  -- for how many extents, from the held one on, a worker has room
  abbrev pub spare_of : WorkerCore D s → ℕ
  spare_of core = core.spare

  -- each extent that a worker took has its result, in that order, but for the one that it holds
  abbrev pub HasResults : WorkerCore D s → Type 0
  HasResults core = taken_by core ≡ extents_in (results_of core) ++ option_to_list (held_by core)

  -- the extents that a retired worker took, in that order
  abbrev pub retired_taken : Retired D s → List ℕ
  retired_taken r = r.taken.items

  -- the results of a retired worker, in the order of its extents
  abbrev pub retired_results : Retired D s → List (ExtentResult D s)
  retired_results r = r.results.items
