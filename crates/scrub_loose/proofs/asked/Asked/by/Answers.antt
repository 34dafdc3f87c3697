-- The length of each content is among the lengths, in their order.
use Rattle.std.proofs.Common.{◌≡◌, ◌∙◌, ℕ, List, ap, get_or, map, subst, sym}
use Rattle.std.specs.List.{Contains}
use Rattle.std.proofs.lemmas.List.Elements.{Contains-get_or}
use Rattle.std.proofs.lemmas.List.Sorted.{Contains-permutation}
use Rattle.list_facts.proofs.Elements.{Contains-map}
use Rattle.scrub_check.specs.declared.lists.spares.Content.{Content}
use Rattle.scrub_loose.proofs.asked.Asked.by.Goals as goal

pub returns-clause-asked : goal.returns-clause-asked
returns-clause-asked c =
    let size : Content → ℕ = λ d. d.length in
    let contents = c.sort.new.self.items in
    let lengths : c.in_ok-lengths.lengths.items ≡ map size contents = c.in_ok-lengths.ensures ∙ ap (map size) c.deref.ensures.value in
    record {
      contents = c.in_ok-sort.ensures.sorted;
      lengths = c.in_ok-sort-2.ensures.sorted;
      has = λ k d below.
          Contains-permutation c.in_ok-lengths.lengths.items c.sort-2.new.self.items (get_or contents k d).length c.in_ok-sort-2.ensures.permutation
          (subst (λ (ns : List ℕ). Contains ns (get_or contents k d).length) (sym lengths)
          (Contains-map size contents (get_or contents k d) (Contains-get_or contents k d below)));
    }
