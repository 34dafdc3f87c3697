-- The search finds the length if it is there.
use Rattle.std.proofs.Common.{◌==◌, ◌∙◌, ap, nat_cmp, subst, sym}
use Rattle.std.specs.Cmp.{nat_cmp_total}
use Rattle.std.specs.List.{list_any}
use Rattle.std.specs.List.Sorted.{IsSorted}
use Rattle.list_facts.proofs.Orders.{is_eq-nat_cmp}
use Rattle.scrub_loose.proofs.AskedContents.{found_in_order}
use Rattle.scrub_loose.proofs.asked.Asked.has_length.Goals as goal

pub returns : goal.returns
returns c =
    let n = c.args.length in
    c.is_ok.ensures.value
    ∙ found_in_order nat_cmp_total c.deref.result.now n (λ m. m == n) c.binary_search.result (λ m. is_eq-nat_cmp m n)
    (subst (IsSorted nat_cmp) (sym c.deref.ensures.value) c.requires.lengths) c.binary_search.ensures.bound c.binary_search.ensures.position
    ∙ ap (list_any (λ m. m == n)) c.deref.ensures.value
