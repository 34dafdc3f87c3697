-- The results of all extents but the last, and that of the last.
use Rattle.std.proofs.Common.{◌≡◌, ◌<◌, ◌-◌, ◌++◌, ◌∷◌, ◌∙◌, [], List, ℕ, zero, suc, Some, Bool, true, false, nat_eq, ap, arith, drop, get_or, length, sym, take}
use Rattle.std.proofs.Math.ListN.{drop_of_length-le}
use Rattle.std.proofs.Math.Seq.{drop-cons}
use Rattle.std.proofs.lemmas.List.{get_or-take, length-take, map-append, take-append-drop}
use Rattle.std.proofs.lemmas.List.Elements.{All-push}
use Rattle.scrub_super.specs.Plan.{pointer_of}
use Rattle.scrub_scan.specs.Scanned.{result_image, scanned}
use Rattle.scrub_scan.specs.steps.Pages.{target_of}
use Rattle.scrub_scan.proofs.Gathering.{grows_none, grows_then}
use Rattle.scrub_scan.proofs.Seals.{collected_grown}
use Rattle.scrub_scan.proofs.group.+scan_group.Goals as goal

differ : false ≡ true → ⊥
differ e = cc

some_left : (n : ℕ) (r : Bool) → r ≡ nat_eq n 0 → r ≡ false → 0 < n
some_left zero r says none = absurd (differ (sym none ∙ says))
some_left (suc n) r says none = omega arith

-- all but the last, and the last
with_last : (xs : List ℕ) → 0 < length xs → take (length xs - 1) xs ++ get_or xs (length xs - 1) 0 ∷ [] ≡ xs
with_last xs some =
    let n = length xs - 1 in
    let rest : drop n xs ≡ get_or xs n 0 ∷ [] =
    drop-cons xs n 0 (omega (arith, some)) ∙ ap (λ ys. get_or xs n 0 ∷ ys) (drop_of_length-le xs {i = suc n} (omega (arith, some))) in
    ap (λ ys. take n xs ++ ys) (sym rest) ∙ take-append-drop n xs

pub returns-then-is_empty-clause-grows : goal.returns-then-is_empty-clause-grows
returns-then-is_empty-clause-grows g t c = grows_none c.args.workspace.now.payloads

pub tile_first-requires-clause-planned : goal.tile_first-requires-clause-planned
tile_first-requires-clause-planned g t c = λ κs within.
    let xs = c.args.extents.now in
    c.requires.planned (length xs - 1) 0 (let some = some_left (length xs) c.is_empty.result c.is_empty.ensures c.if-is_empty.false in omega (arith, some))

pub scan_group-requires-clause-planned : goal.scan_group-requires-clause-planned
scan_group-requires-clause-planned g t c = λ κs within k d lt.
    let xs = c.args.extents.now in
    let n = length xs - 1 in
    let size = length-take n xs in
    rw (get_or-take n xs k d (omega (arith, size, lt))) (c.requires.planned k d (omega (arith, size, lt)))

pub finish-requires-clause-left : goal.finish-requires-clause-left
finish-requires-clause-left g t c = λ κs within.
    let image = g.D.PageSource.image c.args.disk.now in
    let tiled = c.in_ok-tiled.tiled in
    collected_grown (target_of image tiled.target) tiled.place c.tile_first.new.workspace.payloads c.scan_group.new.workspace.payloads tiled.collected
    (rw c.count_reads-counted.ensures.source at c.in_ok-tiled.ensures.collected) c.in_ok-results.ensures.grows

pub returns-clause-images : goal.returns-clause-images
returns-clause-images g t c =
    let image = g.D.PageSource.image c.args.disk.now in
    rw c.in_ok-push.ensures.items
    (All-push (λ r. result_image r ≡ image) c.in_ok-results.results.items c.in_ok-finish.field-0 c.in_ok-results.ensures.images
    c.in_ok-finish.ensures.image)

pub returns-clause-extents : goal.returns-clause-extents
returns-clause-extents g t c =
    let xs = c.args.extents.now in
    let found = c.in_ok-finish.field-0 in
    let last : (scanned found).extent ≡ get_or xs (length xs - 1) 0 = c.in_ok-finish.ensures.extent ∙ c.in_ok-tiled.ensures.extent in
    rw c.in_ok-push.ensures.items
    (map-append (λ r. (scanned r).extent) c.in_ok-results.results.items (found ∷ [])
    ∙ ap (λ (ys : List ℕ). ys ++ (scanned found).extent ∷ []) c.in_ok-results.ensures.extents
    ∙ ap (λ e. take (length xs - 1) xs ++ e ∷ []) last ∙ with_last xs (some_left (length xs) c.is_empty.result c.is_empty.ensures c.if-is_empty.false))

pub returns-clause-pointers : goal.returns-clause-pointers
returns-clause-pointers g t c =
    let plan = c.args.plan.now in
    let found = c.in_ok-finish.field-0 in
    rw c.in_ok-push.ensures.items
    (All-push (λ r. pointer_of plan (scanned r).extent ≡ Some (scanned r).pointer) c.in_ok-results.results.items found
    c.in_ok-results.ensures.pointers
    (ap (pointer_of plan) (c.in_ok-finish.ensures.extent ∙ c.in_ok-tiled.ensures.extent)
    ∙ c.in_ok-tiled.ensures.pointer ∙ ap Some (sym c.in_ok-finish.ensures.pointer)))

pub returns-clause-grows : goal.returns-clause-grows
returns-clause-grows g t c =
    let p = c.tile_first.new.workspace.payloads in
    let q = c.scan_group.new.workspace.payloads in
    grows_then c.args.workspace.now.payloads p c.finish.new.workspace.payloads c.in_ok-tiled.ensures.grows
    (grows_then p q c.finish.new.workspace.payloads c.in_ok-results.ensures.grows c.in_ok-finish.ensures.grows)
