-- What holds of all doubts holds of those of each kind.
use Rattle.std.proofs.Common.{◌≡◌, ◌<◌, ◌++◌, ◌∷◌, [], ◌&&◌, ℕ, zero, suc, Bool, true, List, Option, length, get_or, subst, arith, refl}
use Rattle.std.proofs.Math.Path.{ap₂}
use Rattle.std.specs.List.{flat_map, list_all}
use Rattle.std.proofs.lemmas.Bool.{and_parts}
use Rattle.scrub_super.specs.declared.pages.SuperblockPage.{SuperblockPage}
use Rattle.scrub_loose.specs.Loose.{LooseValue}
use Rattle.scrub_found.specs.Scrubbed.{Scrubbed}
use Rattle.scrub_reclaim.specs.declared.doubts.Doubt.{Doubt}
use Rattle.scrub_reclaim.specs.Doubts.{choice_doubts, crowded_doubts, doubts, last_doubts, loose_doubts, page_doubts, run_doubts, spare_doubts, superblock_damaged, superblock_lost, superblock_stray, tail_doubts, tail_lost_doubts}

-- both parts pass
pub split : {X : Type 0} (p : X → Bool) (xs ys : List X) → list_all p (xs ++ ys) ≡ true → (list_all p xs ≡ true) × (list_all p ys ≡ true)
split p [] ys e = (refl, e)
split p (x ∷ xs) ys e =
    let parts = and_parts (p x) (list_all p (xs ++ ys)) e in
    let rest = split p xs ys parts.1 in
    (ap₂ (λ (a b : Bool). a && b) parts.0 rest.0, rest.1)

-- what is made of each element passes
pub each_part : {X Y : Type 0} (p : Y → Bool) (f : X → List Y) (xs : List X) (k : ℕ) (x : X) → k < length xs → get_or xs k x ≡ x →
    list_all p (flat_map f xs) ≡ true → list_all p (f x) ≡ true
each_part p f [] k x below is e = absurd (omega (arith, below))
each_part p f (y ∷ ys) zero x below is e = subst (λ v. list_all p (f v) ≡ true) is (split p (f y) (flat_map f ys) e).0
each_part p f (y ∷ ys) (suc k) x below is e = each_part p f ys k x (omega (arith, below)) is (split p (f y) (flat_map f ys) e).1

module _ (p : Doubt → Bool) (last : Option ℕ) (pages : List SuperblockPage) (loose : LooseValue) (found : Scrubbed)
    (all : list_all p (doubts last pages loose found) ≡ true) where
  abbrev page : ℕ
  page = found.plan.geometry.page

  abbrev first : List Doubt
  first = choice_doubts found.choice

  abbrev by_last : List Doubt
  by_last = last_doubts found.choice last

  abbrev lost : List Doubt
  lost = page_doubts superblock_lost pages

  abbrev damaged : List Doubt
  damaged = page_doubts superblock_damaged pages

  abbrev stray : List Doubt
  stray = page_doubts superblock_stray pages

  abbrev runs : List Doubt
  runs = run_doubts found.read.states

  abbrev spares : List Doubt
  spares = spare_doubts found.all found.checked found.candidates

  abbrev copies : List Doubt
  copies = loose_doubts found.all loose.frames found.checked found.candidates

  abbrev crowded : List Doubt
  crowded = crowded_doubts found.all loose.crowded found.checked found.candidates

  abbrev tails : List Doubt
  tails = flat_map tail_doubts found.all

  abbrev front : List Doubt
  front = first ++ by_last ++ lost ++ damaged ++ stray ++ runs

  to_crowded : list_all p (front ++ spares ++ copies ++ crowded) ≡ true
  to_crowded =
      (split p (front ++ spares ++ copies ++ crowded) tails (split p (front ++ spares ++ copies ++ crowded ++ tails) (flat_map (tail_lost_doubts page) found.all) all).0).0

  to_copies : list_all p (front ++ spares ++ copies) ≡ true
  to_copies = (split p (front ++ spares ++ copies) crowded to_crowded).0

  -- If `p` holds of all doubts, it holds of those that crowded extents make.
  pub of_crowded : list_all p crowded ≡ true
  of_crowded = (split p (front ++ spares ++ copies) crowded to_crowded).1

  -- If `p` holds of all doubts, it holds of those that loose copies make.
  pub of_loose : list_all p copies ≡ true
  of_loose = (split p (front ++ spares) copies to_copies).1

  -- If `p` holds of all doubts, it holds of those that spares make.
  pub of_spares : list_all p spares ≡ true
  of_spares = (split p front spares (split p (front ++ spares) copies to_copies).0).1

  -- If `p` holds of all doubts, it holds of that of the last superblock.
  pub of_last : list_all p by_last ≡ true
  of_last =
      let to_front : list_all p front ≡ true = (split p front spares (split p (front ++ spares) copies to_copies).0).0 in
      let to_stray = (split p (first ++ by_last ++ lost ++ damaged ++ stray) runs to_front).0 in
      let to_damaged = (split p (first ++ by_last ++ lost ++ damaged) stray to_stray).0 in
      let to_lost = (split p (first ++ by_last ++ lost) damaged to_damaged).0 in
      (split p first by_last (split p (first ++ by_last) lost to_lost).0).1
