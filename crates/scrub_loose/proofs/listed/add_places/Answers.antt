-- One more place, of a run's locator or of none.
use Rattle.std.proofs.Common.{◌≡◌, ◌+◌, ◌++◌, ◌∷◌, ◌∙◌, [], ℕ, List, ap, arith, get_or, length, map, set, subst, sym}
use Rattle.std.proofs.lemmas.List.{get_or_default}
use Rattle.scrub_loose.specs.Listed.{ListedValue}
use Rattle.scrub_loose.specs.steps.Held.{extent_held}
use Rattle.scrub_loose.specs.steps.Naming.{AreSortedRuns, AreListedBefore}
use Rattle.scrub_loose.proofs.Naming.{listed_more, listed_same, order_same, runs_same}
use Rattle.scrub_loose.proofs.listed.add_places.Goals as goal
use Rattle.scrub_loose.proofs.listed.add_places.Goals.{in-Some+in_ok-add-in-Some, in-None}

pub loop-place-preserved : goal.loop-place-preserved
loop-place-preserved c =
    let x = extent_held c.args.inside.now in
    let n = c.loop-place.place in
    let vs = c.loop-place.listed in
    let before = c.loop-place.invariant in
    elim c.match-named_at.branch [
      | in-Some+in_ok-add-in-Some w ↦
          let i = w.in-Some.index in
          let u = w.add.new.self in
          let low = w.in-Some.ensures.found in
          let item = get_or_default vs i w.index-listed-index.result u low in
          let run : u.run ≡ (get_or vs i u).run = w.in_ok-add-in-Some.ensures.run ∙ ap (λ (v : ListedValue). v.run) item in
          let places : u.places ≡ (get_or vs i u).places ++ n ∷ [] =
          w.in_ok-add-in-Some.ensures.places ∙ ap (λ (v : ListedValue). v.places ++ n ∷ []) item in
          let same = runs_same vs i u run in
          record {
            order = subst AreSortedRuns (sym w.listed-is) (order_same vs (set vs i u) same before.order);
            runs = ap (λ (ws : List ListedValue). map (λ (v : ListedValue). v.run) ws) w.listed-is ∙ same ∙ before.runs;
            places =
                subst (λ (ws : List ListedValue). AreListedBefore x (n + 1) ws) (sym w.listed-is)
                (listed_more x n vs i u before.order low run places w.in-Some.ensures.there before.places);
          }
      | in-None w ↦
          record {
            order = subst AreSortedRuns (sym w.listed-is) before.order;
            runs = ap (λ (ws : List ListedValue). map (λ (v : ListedValue). v.run) ws) w.listed-is ∙ before.runs;
            places =
                subst (λ (ws : List ListedValue). AreListedBefore x (n + 1) ws) (sym w.listed-is)
                (listed_same x n vs w.in-None.ensures.none before.places);
          }
    ]

pub returns-clause-places : goal.returns-clause-places
returns-clause-places c =
    let x = c.args.inside.now in
    let all : c.loop-place.place ≡ length x.bytes.items =
    omega (arith, c.loop-place-test.false, c.len-place-end.ensures, x.bytes.ok.0) in
    subst (λ (n : ℕ). AreListedBefore (extent_held x) n c.loop-place.listed) all c.loop-place.invariant.places
