use Rattle.std.proofs.Common.{Some, None, ℕ, List, Option, length, ◌≡◌, ◌<◌, arith, map, rules, subst, sym, ap, ◌∙◌, IfSome, IfNone, slice_index}
use Rattle.std.specs.List.{Contains}
use Rattle.std.specs.List.Sorted.{IsStrictlyIncreasing}
use Rattle.std.specs.Option.{option_map_or}
use Rattle.std.proofs.lemmas.List.Sorted.{answers_always}
use Rattle.list_facts.proofs.Searches.{searched_by_number}
use Rattle.scrub_scan.specs.declared.extent_result.ExtentResult.{ExtentResult}
use Rattle.scrub_scan.specs.AllFindings.{extent_numbers}
use Rattle.scrub_scan.specs.Slots.{AreFull, scanned_in}
use Rattle.scrub_scan.proofs.Slots.{slot_numbers, slot_count}
use Rattle.scrub_scan.proofs.all_findings.position_of.Goals as goal

-- what was found among the slots was found among their results
moved_found : {D : Type 0} {s : _} (slots : List (Option (ExtentResult D s))) (e : ℕ) (o : Option ℕ) → AreFull slots →
    IfSome o (λ i. (i < length slots) × (slice_index (map (λ slot. option_map_or (λ r. r.extent) slot 0) slots) i ≡ e)) →
    IfSome o (λ i. (i < length (scanned_in slots)) × (slice_index (extent_numbers (scanned_in slots)) i ≡ e))
moved_found slots e None full h = tt
moved_found slots e (Some i) full h =
    (omega (arith, h.0, slot_count slots full), ap (λ ns. slice_index ns i) (sym (slot_numbers slots full)) ∙ h.1)

pub returns : goal.returns
returns g c =
    let facts = c.binary_search_by_key.ensures in
    let slots = c.args.slots.now in
    let number = λ (slot : Option (ExtentResult g.row.D.Denot g.D.PageSource)). option_map_or (λ r. r.extent) slot 0 in
    let by_key = facts.position number (answers_always _ _ _ (λ f a r h called. search rules)) in
    let rising =
    subst (λ (ns : List ℕ). IsStrictlyIncreasing ns) (sym (slot_numbers slots c.requires.full)) c.requires.rising in
    let there = searched_by_number number slots rising c.args.extent c.binary_search_by_key.result facts.bound by_key in
    record {
      found = moved_found slots c.args.extent c.ok.result c.requires.full (rw c.ok.ensures.value there.0);
      none =
          subst (λ (ns : List ℕ). IfNone c.ok.result (¬ Contains ns c.args.extent)) (slot_numbers slots c.requires.full)
          (rw c.ok.ensures.value there.1);
    }
