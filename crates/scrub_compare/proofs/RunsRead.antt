-- What is safe has lost no index run.
use Rattle.std.proofs.Common.{◌≡◌, ◌+◌, ◌++◌, ◌∷◌, [], ℕ, List, Some, None, codes, is_none, length, arith, refl, ap}
use Rattle.std.specs.List.{AllZip, count_by, enumerate_from, filter_map, flat_map, zip}
use Rattle.list_facts.proofs.Elements.{both_nil}
use Rattle.scrub_disk.specs.Image.{Image}
use Rattle.scrub_frame.specs.declared.locator.Locator.{Locator}
use Rattle.scrub_super.specs.Plan.{PlanValue}
use Rattle.scrub_merge.specs.Binding.{Runs}
use Rattle.scrub_scan.specs.Line.{spaced}
use Rattle.scrub_check.specs.declared.runs.RunState.{RunState}
use Rattle.scrub_check.specs.declared.runs.RunState.TheVariants.{Read, BadChunk, NotARun}
use Rattle.scrub_check.specs.Runs.{HasRunIn}
use Rattle.scrub_listings.specs.Manifest.{lost_run_count}
use Rattle.scrub_reclaim.specs.declared.doubts.Doubt.{Doubt}
use Rattle.scrub_reclaim.specs.Doubts.{choice_doubts, doubt_text, page_doubts, run_doubts, run_lost, superblock_lost}
use Rattle.scrub_compare.specs.Compare.{AreCompared, Compared, firm_doubts, firm_line, firm_lines}
use Rattle.scrub_compare.proofs.Safe.{HasNoLine, some_text}

-- each element has a text, so that without a text there is none
none_said : {X : Type 0} (f : X → List ℕ) (xs : List X) → ((x : X) → f x ≡ [] → ⊥) → flat_map f xs ≡ [] → xs ≡ []
none_said f [] some none = refl
none_said f (x ∷ xs) some none = absurd (some x (both_nil (f x) (flat_map f xs) none).0)

-- without a doubt of a run none is lost
none_lost : (image : Image) (plan : PlanValue) (n : ℕ) (ls : List Locator) (runs : Runs) (states : List RunState) →
    length states ≡ length runs → AllZip (λ l x. HasRunIn image plan l x.0 x.1) ls (zip runs states) →
    filter_map (λ s. run_lost s.0 s.1) (enumerate_from n states) ≡ [] → count_by is_none runs ≡ 0
none_lost image plan n ls [] states long each none = refl
none_lost image plan n ls (r ∷ runs) [] long each none = absurd (omega (arith, long))
none_lost image plan n [] (r ∷ runs) (s ∷ states) long each none = absurd each
none_lost image plan n (l ∷ ls) (None ∷ runs) (Read ∷ states) long each none = absurd each.0
none_lost image plan n (l ∷ ls) (None ∷ runs) (NotARun ∷ states) long each none =
    let none_there : length (filter_map (λ s. run_lost s.0 s.1) (enumerate_from n (NotARun ∷ states))) ≡ 0 = ap (λ (ds : List Doubt). length ds) none in
    absurd (omega (arith, none_there))
none_lost image plan n (l ∷ ls) (None ∷ runs) (BadChunk t ∷ states) long each none =
    let none_there : length (filter_map (λ s. run_lost s.0 s.1) (enumerate_from n (BadChunk t ∷ states))) ≡ 0 = ap (λ (ds : List Doubt). length ds) none in
    absurd (omega (arith, none_there))
none_lost image plan n (l ∷ ls) (Some es ∷ runs) (Read ∷ states) long each none =
    let rest : count_by is_none runs ≡ 0 = none_lost image plan (n + 1) ls runs states (omega (arith, long)) each.1 none in
    omega (arith, rest)
none_lost image plan n (l ∷ ls) (Some es ∷ runs) (NotARun ∷ states) long each none = absurd each.0
none_lost image plan n (l ∷ ls) (Some es ∷ runs) (BadChunk t ∷ states) long each none = absurd each.0

-- Without a line no index run of the earlier image is lost.
pub no_run_lost : (resets : List ℕ) (before after : Image) (c : Compared) → AreCompared resets before after c → HasNoLine resets c →
    lost_run_count c.before ≡ 0
no_run_lost resets before after c are none =
    none_lost before c.before.plan 0 c.before.plan.runs c.before.read.runs c.before.read.states are.scrubbed_before.read.same are.scrubbed_before.read.each front.1
  where
    lines : (firm_lines (codes "before") c.pages c.before ≡ []) × (firm_lines (codes "after") c.pages_now c.after ≡ [])
    lines = both_nil (firm_lines (codes "before") c.pages c.before) (firm_lines (codes "after") c.pages_now c.after) none.doubts

    doubts : firm_doubts c.pages c.before ≡ []
    doubts =
        none_said (firm_line (codes "before")) (firm_doubts c.pages c.before)
        (λ d empty. some_text (codes "doubt") (spaced (codes "before") ++ spaced (doubt_text d) ++ 10 ∷ []) (omega arith) empty) lines.0

    front : (choice_doubts c.before.choice ++ page_doubts superblock_lost c.pages ≡ []) × (run_doubts c.before.read.states ≡ [])
    front = both_nil (choice_doubts c.before.choice ++ page_doubts superblock_lost c.pages) (run_doubts c.before.read.states) doubts
