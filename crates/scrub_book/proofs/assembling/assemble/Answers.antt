use Rattle.std.proofs.Common.{◌≡◌, ◌++◌, ◌∷◌, ◌∙◌, [], ℕ, List, Some, map, sum_by, ap, arith, append-nil, sym}
use Rattle.std.specs.List.Sorted.{IsPermutation}
use Rattle.std.specs.Vec.Iter.{into_iter_items}
use Rattle.std.proofs.lemmas.List.{nil_from_length}
use Rattle.std.proofs.lemmas.List.Elements.{All-head, All-rest}
use Rattle.std.proofs.lemmas.List.Sorted.{sum_by-IsPermutation}
use Rattle.scrub_super.specs.Plan.{pointer_of}
use Rattle.scrub_scan.specs.declared.extent_result.ExtentResult.{ExtentResult}
use Rattle.scrub_scan.specs.Scanned.{Scanned, result_image, scanned}
use Rattle.scrub_scan.specs.AllFindings.{extent_numbers}
use Rattle.scrub_book.specs.Extents.{extents_in}
use Rattle.scrub_book.proofs.Arrivals.{numbers_shown, one_more_came, next_planned, next_first, all_came, not_refused}
use Rattle.scrub_book.proofs.assembling.assemble.Goals as goal

-- the results that arrived are of the planned extents
each_of : {D : Type 0} {s : _} (planned : List ℕ) (rs : List (ExtentResult D s)) →
    IsPermutation (extents_in rs) planned → (f : ℕ → ℕ) →
    sum_by f (extent_numbers (map (λ (r : ExtentResult D s). scanned r) rs)) ≡ sum_by f planned
each_of {D} {s} planned rs each f =
    ap (sum_by f) (numbers_shown rs) ∙ sym (sum_by-IsPermutation f (extents_in rs) planned each)

-- the next result
next_of : {D : Type 0} {s : _} (all : List Scanned) (came : List Scanned) (rs rest : List (ExtentResult D s)) (r : ExtentResult D s) →
    rs ≡ r ∷ rest →
    IsPermutation all (came ++ map (λ (x : ExtentResult D s). scanned x) rs) →
    IsPermutation all (came ++ scanned r ∷ map (λ (x : ExtentResult D s). scanned x) rest)
next_of {D} {s} all came rs rest r is so_far = rw is at so_far

-- no more results
none_of : {D : Type 0} {s : _} (all : List Scanned) (came : List Scanned) (rs : List (ExtentResult D s)) → rs ≡ [] →
    IsPermutation all (came ++ map (λ (x : ExtentResult D s). scanned x) rs) → IsPermutation all came
none_of {D} {s} all came rs is so_far =
    rw (← (append-nil came)) (rw is at so_far)

pub add-requires-clause-pointer : goal.add-requires-clause-pointer
add-requires-clause-pointer g c κs within = λ there.
    let inv = c.loop-found.invariant in
    rw inv.plan
    (All-head (λ (r : ExtentResult g.row.D.Denot g.D.PageSource). pointer_of c.args.book.plan r.extent ≡ Some r.pointer) c.in-Some.found _ (rw c.in-Some.ensures.steps.0 at inv.pointers))

pub loop-found-preserved : goal.loop-found-preserved
loop-found-preserved g c =
    let inv = c.loop-found.invariant in
    let all = map (λ (r : ExtentResult g.row.D.Denot g.D.PageSource). scanned r) c.args.arrived.items in
    let added = c.in-Ok.ensures.added in record {
      source = added.source ∙ inv.source;
      plan = added.plan ∙ inv.plan;
      came =
          one_more_came all c.loop-found.book.came _ c.add.new.self.came (scanned c.in-Some.found)
          (next_of all c.loop-found.book.came _ _ c.in-Some.found c.in-Some.ensures.steps.0 inv.came) added.came;
      images =
          All-rest
          (λ (r : ExtentResult g.row.D.Denot g.D.PageSource). result_image r ≡ g.D.PageSource.image c.args.book.source)
          c.in-Some.found _ _ c.in-Some.ensures.steps.0 inv.images;
      pointers =
          All-rest
          (λ (r : ExtentResult g.row.D.Denot g.D.PageSource). pointer_of c.args.book.plan r.extent ≡ Some r.pointer)
          c.in-Some.found _ _ c.in-Some.ensures.steps.0 inv.pointers;
    }

-- each result that arrived is of a planned extent, and is added once
pub unreachable-requires : goal.unreachable-requires
unreachable-requires g c =
    let inv = c.loop-found.invariant in
    let book = c.loop-found.book in
    let all = map (λ (r : ExtentResult g.row.D.Denot g.D.PageSource). scanned r) c.args.arrived.items in
    let each = each_of c.args.book.plan.planned c.args.arrived.items c.requires.each in
    let next = next_of all book.came _ _ c.in-Some.found c.in-Some.ensures.steps.0 inv.came in
    let rising = rw inv.plan at c.add.ensures.rising in
    not_refused book c.in-Some.found c.in-Err.field-0
    (rw inv.plan (next_planned c.args.book.plan.planned all each book.came _ (scanned c.in-Some.found) next))
    (next_first c.args.book.plan.planned all each book.came _ (scanned c.in-Some.found) rising next)
    c.in-Err.ensures.refused

-- at the end each was added
pub unreachable-requires-in-Err-finish : goal.unreachable-requires-in-Err-finish
unreachable-requires-in-Err-finish g c =
    let inv = c.loop-found.invariant in
    let book = c.loop-found.book in
    let all = map (λ (r : ExtentResult g.row.D.Denot g.D.PageSource). scanned r) c.args.arrived.items in
    let each = each_of c.args.book.plan.planned c.args.arrived.items c.requires.each in
    c.in-Err-finish.ensures.back.1
    (rw inv.plan (all_came c.args.book.plan.planned all each book.came (none_of all book.came _ (nil_from_length (into_iter_items c.loop-found.found-iterator) (omega (arith, c.in-None.ensures.steps.0))) inv.came)))

pub returns-clause-arrived : goal.returns-clause-arrived
returns-clause-arrived g c =
    let all = map (λ (r : ExtentResult g.row.D.Denot g.D.PageSource). scanned r) c.args.arrived.items in
    rw c.in-Ok-finish.ensures.all.1
    (none_of all c.loop-found.book.came _ (nil_from_length (into_iter_items c.loop-found.found-iterator) (omega (arith, c.in-None.ensures.steps.0))) c.loop-found.invariant.came)
