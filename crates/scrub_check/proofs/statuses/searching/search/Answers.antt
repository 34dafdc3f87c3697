use Rattle.std.proofs.Common.{◌≡◌, ◌<◌, ◌-◌, ◌+◌, ◌/◌, ℕ, List, length, get_or, arith, ◌∙◌, ap}
use Rattle.scrub_check.proofs.StartSearch.{lies_above, lies_below, lies_nowhere, halves_more, few_steps}
use Rattle.scrub_check.proofs.statuses.searching.search.Goals as goal

-- the count of the places that were shown fits a word, since it is at most 64
pub start-other-requires-clause-counts : goal.start-other-requires-clause-counts
start-other-requires-clause-counts g c =
    let few = few_steps (length (g.S.ShowsStarts.starts c.args.among.now)) (g.S.ShowsStarts.shown c.loop-low.among) (c.loop-low.high - c.loop-low.low) 64 c.loop-low.invariant.halves c.loop-low.invariant.counted in
    omega (arith, few)

-- the place in the middle is too low
pub loop-low-preserved-then-other-start-2 : goal.loop-low-preserved-then-other-start-2
loop-low-preserved-then-other-start-2 g c =
    let l = c.loop-low in
    let places = g.S.ShowsStarts.starts c.args.among.now in
    let middle = l.low + (l.high - l.low) / 2 in
    let at : c.start-other.result ≡ get_or places middle 0 =
    c.start-other.ensures.start ∙ ap (λ (xs : List ℕ). get_or xs middle 0) l.invariant.same in
    let less : c.start-other.result < c.args.start = c.if-other-start-2.true in
    let some = c.loop-low-test.true in
    let more = c.start-other.ensures.one_more in
    record {
      same = c.start-other.ensures.same ∙ l.invariant.same;
      within =
          lies_above places c.args.start l.low l.high middle c.requires.rising l.invariant.within (omega (arith, some))
          (omega arith) (omega (arith, at, less));
      halves = rw more
          (halves_more (length places) (g.S.ShowsStarts.shown l.among) (l.high - l.low) (l.high - (middle + 1)) l.invariant.halves (omega (arith, some)) (omega (arith, some)));
      whole = λ none. absurd (omega (arith, more, none));
      counted = l.invariant.counted;
    }

-- it is too high
pub loop-low-preserved : goal.loop-low-preserved
loop-low-preserved g c =
    let l = c.loop-low in
    let places = g.S.ShowsStarts.starts c.args.among.now in
    let middle = l.low + (l.high - l.low) / 2 in
    let at : c.start-other.result ≡ get_or places middle 0 =
    c.start-other.ensures.start ∙ ap (λ (xs : List ℕ). get_or xs middle 0) l.invariant.same in
    let differ = c.if-other-start.false in
    let above = c.if-other-start-2.false in
    let some = c.loop-low-test.true in
    let more = c.start-other.ensures.one_more in
    record {
      same = c.start-other.ensures.same ∙ l.invariant.same;
      within =
          lies_below places c.args.start l.low l.high middle c.requires.rising l.invariant.within (omega (arith, some))
          (omega arith) (omega (arith, at, differ, above));
      halves = rw more
          (halves_more (length places) (g.S.ShowsStarts.shown l.among) (l.high - l.low) (middle - l.low) l.invariant.halves (omega (arith, some)) (omega (arith, some)));
      whole = λ none. absurd (omega (arith, more, none));
      counted = l.invariant.counted;
    }

-- no place is left
pub returns-clause-found : goal.returns-clause-found
returns-clause-found g c =
    lies_nowhere (g.S.ShowsStarts.starts c.args.among.now) c.args.start c.loop-low.low c.loop-low.high
    c.loop-low.invariant.within (omega (arith, c.loop-low-test.false))
