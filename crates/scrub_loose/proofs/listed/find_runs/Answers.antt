-- The runs are those of each extent, and their places those in extent 0.
use Rattle.std.proofs.Common.{◌≡◌, ◌&&◌, ◌∙◌, Bool, List, ap, arith, length, map, subst, sym}
use Rattle.std.specs.Prelude.{IsTrue, ◌↔◌}
use Rattle.std.specs.List.{list_all}
use Rattle.std.proofs.lemmas.List.{length-map}
use Rattle.list_facts.proofs.Slices.{take_of_refilled}
use Rattle.scrub_scan.specs.Extent.{Extent}
use Rattle.scrub_loose.specs.declared.outer.FoundRun.{FoundRun}
use Rattle.scrub_loose.specs.Listed.{AreListedRuns, ListedValue}
use Rattle.scrub_loose.specs.Outer.{AreFoundRuns, IsReadableDisk, IsReadableExtent}
use Rattle.scrub_loose.specs.steps.Naming.{AreSortedRuns, AreListedBefore}
use Rattle.scrub_loose.specs.steps.Walk.{AreWalked, WalkedValue}
use Rattle.scrub_loose.proofs.Naming.{listed_all, order_found}
use Rattle.scrub_loose.proofs.ReadablePages.{readable_disk, whole_marks}
use Rattle.scrub_loose.proofs.RunsFound.{runs_of_disk}
use Rattle.scrub_loose.proofs.listed.find_runs.Goals as goal
use Rattle.scrub_loose.proofs.listed.find_runs.Goals.{then-is_whole, else-is_whole}

pub add_places-requires-clause-order : goal.add_places-requires-clause-order
add_places-requires-clause-order g c =
    let image = g.D.PageSource.image c.args.disk.now in
    let vs = c.in_ok-runs.runs.items in
    let found =
    runs_of_disk image c.in_ok-each.each.items c.in_ok-found.found.items c.in_ok-each.ensures
    (λ es rising walked.
    c.in_ok-found.ensures image es rising (subst (λ (ws : List WalkedValue). AreWalked image es ws) (sym c.deref.ensures.value) walked)) in
    subst AreSortedRuns (sym c.deref_mut.ensures.value)
    (order_found image vs (subst (AreFoundRuns image) (sym (c.in_ok-runs.ensures.runs ∙ c.deref-2.ensures.value)) found))

pub returns-clause-runs : goal.returns-clause-runs
returns-clause-runs g c =
    let image = g.D.PageSource.image c.args.disk.now in
    let vs = c.in_ok-runs.runs.items in
    let ws = c.add_places.new.listed in
    let run : ListedValue → FoundRun = λ v. v.run in
    let found =
    runs_of_disk image c.in_ok-each.each.items c.in_ok-found.found.items c.in_ok-each.ensures
    (λ es rising walked.
    c.in_ok-found.ensures image es rising (subst (λ (us : List WalkedValue). AreWalked image es us) (sym c.deref.ensures.value) walked)) in
    let same : map (λ (v : ListedValue). v.run) ws ≡ map (λ (v : ListedValue). v.run) vs =
    c.in_ok-add_places.ensures.runs ∙ ap (λ (us : List ListedValue). map (λ (v : ListedValue). v.run) us) c.deref_mut.ensures.value in
    let size : c.in_ok-runs.runs.len ≡ length ws =
    omega (arith, c.in_ok-runs.runs.ok.0, ap (λ (rs : List FoundRun). length rs) same, length-map ws run, length-map vs run) in
    subst (AreListedRuns image) (sym (take_of_refilled c.in_ok-runs.runs.len ws vs size))
    (listed_all image vs ws (subst (AreFoundRuns image) (sym (c.in_ok-runs.ensures.runs ∙ c.deref-2.ensures.value)) found) same
    (subst (λ (x : Extent). AreListedBefore x x.pointer ws) c.in_ok-first.ensures.same c.in_ok-add_places.ensures.places))

pub returns-clause-readable : goal.returns-clause-readable
returns-clause-readable g c =
    let image = g.D.PageSource.image c.args.disk.now in
    let each = c.in_ok-each.each.items in
    let all : Bool = list_all (λ (v : WalkedValue). v.is_readable) each in
    let first =
    subst (λ (b : Bool). IsTrue b ↔ IsReadableExtent image 0) (sym c.is_whole.ensures)
    (whole_marks image 0 c.in_ok-first.first.readable.items c.in_ok-first.ensures.marks) in
    let walked = c.in_ok-each.ensures in
    let is = readable_disk image walked.0 each c.is_whole.result walked.1 walked.2 first in
    elim c.if-is_whole.branch [
      | then-is_whole w ↦
          subst (λ (b : Bool). IsTrue b ↔ IsReadableDisk image)
          (ap (λ (t : Bool). t && all) w.if-is_whole.true
          ∙ sym
          (w.is_readable-is ∙ w.are_readable-is_readable.ensures
          ∙ ap (λ (vs : List WalkedValue). list_all (λ (v : WalkedValue). v.is_readable) vs) w.deref-then-is_whole.ensures.value))
          is
      | else-is_whole w ↦
          subst (λ (b : Bool). IsTrue b ↔ IsReadableDisk image)
          (ap (λ (t : Bool). t && all) w.if-is_whole.false ∙ sym (w.is_readable-is ∙ w.if-is_whole.false))
          is
    ]
