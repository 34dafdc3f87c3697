-- The frames that are kept are the loose copies, and the kept crowded extents those that are closed.
use Rattle.std.proofs.Common.{◌≡◌, ◌==◌, ℕ, List, subst}
use Rattle.std.specs.List.{list_any}
use Rattle.std.specs.List.Sorted.{IsPermutation}
use Rattle.std.proofs.lemmas.Result.{IfOk-weaker}
use Rattle.scrub_reclaim.specs.Room.{is_closed}
use Rattle.scrub_reclaim.specs.steps.KeptCopies.{closed_by}
use Rattle.scrub_reclaim.proofs.LooseDoubts.{closed_are}
use Rattle.scrub_reclaim.proofs.closed.closed_extents.Goals as goal

pub returns : goal.returns
returns c all checked loose kept =
    let numbers : List ℕ = c.in_ok-numbers_of.field-0.items in
    let are : numbers ≡ closed_by c.args.copies.now = c.in_ok-numbers_of.ensures in
    IfOk-weaker c.of.result (λ (s : List ℕ). IsPermutation numbers s) (λ (s : List ℕ). (e : ℕ) → list_any (λ n. n == e) s ≡ is_closed all loose checked e)
    (λ s same e. closed_are all checked loose c.args.copies.now kept e s (subst (λ (ns : List ℕ). IsPermutation ns s) are same))
    c.of.ensures
