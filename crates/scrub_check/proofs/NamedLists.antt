-- The list of named locators, as it grows.
use Rattle.std.proofs.Common.{◌≡◌, ◌<◌, ◌≤◌, ◌+◌, ℕ, zero, suc, List, [], ◌∷◌, ◌++◌, length, map, take, get_or, arith, refl, sym, ◌∙◌, ap}
use Rattle.std.proofs.lemmas.List.{take_more, length-take-le, append_assoc, map-append}
use Rattle.std.proofs.lemmas.Grind.{flat_map-append}
use Rattle.std.proofs.lemmas.List.{append-nil}
use Rattle.scrub_frame.specs.declared.locator.Locator.{Locator}
use Rattle.std.specs.List.{flat_map}
use Rattle.scrub_run.specs.declared.shard_id.ShardId.{ShardId}
use Rattle.scrub_merge.specs.Binding.{BindingValue}
use Rattle.scrub_check.specs.declared.named.Owner.TheVariants.{Run, Shard}
use Rattle.scrub_check.specs.declared.named.Named.{Named}
use Rattle.scrub_check.specs.Named.{named_by_runs, named_by_shard}

-- a locator of a run, by the run's number
abbrev pub run_named : ℕ → Locator → Named
run_named k l = record { owner = Run k; locator = l }

one_run_more : (k : ℕ) (ls : List Locator) (l : Locator) →
    named_by_runs k (ls ++ l ∷ []) ≡ named_by_runs k ls ++ run_named (k + length ls) l ∷ []
one_run_more k [] l = ap (λ n. run_named n l ∷ []) (let e : k ≡ k + 0 = omega arith in e)
one_run_more k (x ∷ ls) l =
    ap (λ ns. run_named k x ∷ ns) (one_run_more (k + 1) ls l)
    ∙ ap (λ n. run_named k x ∷ (named_by_runs (k + 1) ls ++ run_named n l ∷ []))
    (let e : k + 1 + length ls ≡ k + suc (length ls) = omega arith in e)

-- one more run is named
pub runs_more : (ls : List Locator) (i : ℕ) (d : Locator) (old new : List Named) → i < length ls →
    old ≡ named_by_runs 0 (take i ls) →
    new ≡ old ++ record { owner = Run i; locator = get_or ls i d } ∷ [] → new ≡ named_by_runs 0 (take (i + 1) ls)
runs_more ls i d old new below is grown =
    grown
    ∙ ap (λ ns. ns ++ run_named i (get_or ls i d) ∷ []) is
    ∙ ap (λ n. named_by_runs 0 (take i ls) ++ run_named n (get_or ls i d) ∷ [])
    (let e : i ≡ 0 + length (take i ls) = omega (arith, length-take-le i ls (omega (arith, below))) in e)
    ∙ sym (one_run_more 0 (take i ls) (get_or ls i d))
    ∙ ap (λ xs. named_by_runs 0 xs) (sym (take_more ls i d below))

-- one more locator of a shard
pub shard_more : (old : List Named) (id : ShardId) (ls : List Locator) (i : ℕ) (d : Locator) (named new : List Named) →
    i < length ls →
    named ≡ old ++ map (λ l. record { owner = Shard id; locator = l }) (take i ls) →
    new ≡ named ++ record { owner = Shard id; locator = get_or ls i d } ∷ [] →
    new ≡ old ++ map (λ l. record { owner = Shard id; locator = l }) (take (i + 1) ls)
shard_more old id ls i d named new below is grown =
    let name : Locator → Named = λ l. record { owner = Shard id; locator = l } in
    grown
    ∙ ap (λ ns. ns ++ name (get_or ls i d) ∷ []) is
    ∙ append_assoc old (map name (take i ls)) (name (get_or ls i d) ∷ [])
    ∙ ap (λ ns. old ++ ns)
    (sym (map-append name (take i ls) (get_or ls i d ∷ [])) ∙ ap (λ xs. map name xs) (sym (take_more ls i d below)))

-- one more binding
pub bindings_more : (old : List Named) (bs : List BindingValue) (i : ℕ) (d : BindingValue) (named new : List Named) →
    i < length bs →
    named ≡ old ++ flat_map named_by_shard (take i bs) → new ≡ named ++ named_by_shard (get_or bs i d) →
    new ≡ old ++ flat_map named_by_shard (take (i + 1) bs)
bindings_more old bs i d named new below is grown =
    grown
    ∙ ap (λ ns. ns ++ named_by_shard (get_or bs i d)) is
    ∙ append_assoc old (flat_map named_by_shard (take i bs)) (named_by_shard (get_or bs i d))
    ∙ ap (λ ns. old ++ ns)
    (sym (flat_map-append named_by_shard (take i bs) (get_or bs i d ∷ []) ∙ ap (λ ns. flat_map named_by_shard (take i bs) ++ ns) (append-nil (named_by_shard (get_or bs i d)))) ∙ ap (λ xs. flat_map named_by_shard xs) (sym (take_more bs i d below)))

-- the runs come first
pub run_at : (ls : List Locator) (rest : List Named) (k i : ℕ) (d : Named) (e : Locator) → i < length ls →
    (get_or (named_by_runs k ls ++ rest) i d).locator ≡ get_or ls i e
run_at [] rest k i d e below = absurd (omega (arith, below))
run_at (l ∷ ls) rest k zero d e below = refl
run_at (l ∷ ls) rest k (suc i) d e below = run_at ls rest (k + 1) i d e (omega (arith, below))

-- as many names as runs are there at least
pub runs_first : (ls : List Locator) (rest : List Named) (k : ℕ) → length ls ≤ length (named_by_runs k ls ++ rest)
runs_first [] rest k = omega arith
runs_first (l ∷ ls) rest k = let more = runs_first ls rest (k + 1) in omega (arith, more)
