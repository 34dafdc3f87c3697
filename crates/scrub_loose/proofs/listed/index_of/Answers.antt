-- The search finds the run at a place if there is one.
use Rattle.std.proofs.Common.{ℕ, rules}
use Rattle.std.proofs.lemmas.List.Sorted.{answers_always}
use Rattle.scrub_loose.specs.Listed.{ListedValue}
use Rattle.scrub_loose.proofs.Naming.{searched_place}
use Rattle.scrub_loose.proofs.listed.index_of.Goals as goal

pub returns : goal.returns
returns c =
    let facts = c.binary_search_by_key.ensures in
    let vs = c.args.listed.now in
    let l = c.args.locator.now in
    let place : ListedValue → ℕ × ℕ = λ v. (v.run.frame.extent, v.run.frame.offset) in
    let by_key = facts.position place (answers_always _ _ _ (λ f a r h called. search rules)) in
    let is = searched_place vs l c.binary_search_by_key.result c.requires facts.bound by_key in
    record {
      found = rw c.ok.ensures.value is.found;
      there = rw c.ok.ensures.value is.there;
      none = rw c.ok.ensures.value is.none;
    }
