-- One more result of a worker; one more member of a crew.
use Rattle.std.proofs.Common.{◌≡◌, Some, ◌+◌, ◌++◌, ◌∷◌, ℕ, List, [], None, length, sum_by, arith, ap}
use Rattle.std.proofs.lemmas.List.Sums.{sum_by-append, sum_by-cons}
use Rattle.list_facts.proofs.Elements.{All-one_more, length_of_one_more}
use Rattle.scrub_disk.specs.Image.{Image}
use Rattle.scrub_super.specs.Plan.{PlanValue, pointer_of}
use Rattle.scrub_scan.specs.declared.extent_result.ExtentResult.{ExtentResult}
use Rattle.scrub_scan.specs.Scanned.{result_image}
use Rattle.scrub_book.specs.Worker.{held_by, results_of}
use Rattle.scrub_pool.specs.declared.crew.Member.{Member}
use Rattle.scrub_pool.specs.steps.Working.{AreResults, AreDone}

-- a crew with one more member counts the sum of both
pub counted_more : {D : Type 0} {s : _} (p q r a b t : ℕ) (xs ys : List (Member D s)) (m : Member D s) →
    ys ≡ xs ++ m ∷ [] → AreDone p a xs →
    (held_by m.core ≡ None) × (q ≡ 1) × (b ≡ length (results_of m.core)) → r ≡ p + q → t ≡ a + b → AreDone r t ys
counted_more p q r a b t xs ys m is done one parts amounts =
    let total : sum_by (λ n. length (results_of n.core)) ys ≡ sum_by (λ n. length (results_of n.core)) (xs ++ m ∷ []) = ap (λ (l : List _). sum_by (λ n. length (results_of n.core)) l) is in (
      omega (arith, length_of_one_more xs ys m is, done.0, one.1, parts),
      omega (
        arith,
        total,
        sum_by-append (λ n. length (results_of n.core)) xs (m ∷ []),
        sum_by-cons (λ n. length (results_of n.core)) m [],
        done.1,
        one.2,
        amounts,
      ),
      All-one_more (λ n. held_by n.core ≡ None) xs ys m is done.2 one.0,
    )

-- one more result of this image
pub results_push : {D : Type 0} {s : _} (image : Image) (plan : PlanValue) (xs ys : List (ExtentResult D s)) (r : ExtentResult D s) (e : ℕ) →
    ys ≡ xs ++ r ∷ [] → AreResults image plan xs →
    result_image r ≡ image → r.extent ≡ e → pointer_of plan e ≡ Some r.pointer → AreResults image plan ys
results_push image plan xs ys r e is are of number pointer = (
  All-one_more (λ x. result_image x ≡ image) xs ys r is are.0 of,
  All-one_more (λ x. pointer_of plan x.extent ≡ Some x.pointer) xs ys r is are.1 (rw number pointer),
)
