use Rattle.std.proofs.Common.{◌≡◌, ◌∙◌, arith, ap, sym, get_or, true, false, is_lt}
use Rattle.std.proofs.lemmas.List.{get_or_default}
use Rattle.scrub_check.specs.declared.places.chunk_at.ChunkAt.{ChunkAt}
use Rattle.scrub_check.specs.steps.Places.{chunk_at_cmp}
use Rattle.scrub_check.proofs.PartedPlaces.{less_lies_before, before_more}
use Rattle.scrub_check.proofs.lists.cursor.first_from.Goals as goal

pub returns-then-not-is_lt : goal.returns-then-not-is_lt
returns-then-not-is_lt c =
    let starts = c.args.starts.now in
    let s = c.args.start in
    let none : ChunkAt = record { extent = 0; offset = 0 } in
    let known : is_lt (chunk_at_cmp (get_or starts c.loop-at.at none) s) ≡ false =
    ap is_lt (sym c.cmp.ensures) ∙ sym c.is_lt.ensures ∙ c.if-not-is_lt.true in
    record {
      within = omega (arith, c.loop-at-test.true);
      before = c.loop-at.invariant;
      next = λ d inside. ap (λ (t : ChunkAt). is_lt (chunk_at_cmp t s)) (get_or_default starts c.loop-at.at d none inside) ∙ known;
    }

pub loop-at-preserved : goal.loop-at-preserved
loop-at-preserved c =
    let starts = c.args.starts.now in
    let s = c.args.start in
    let none : ChunkAt = record { extent = 0; offset = 0 } in
    let known : is_lt (chunk_at_cmp (get_or starts c.loop-at.at none) s) ≡ true =
    ap is_lt (sym c.cmp.ensures) ∙ sym c.is_lt.ensures ∙ c.if-not-is_lt.false in
    before_more starts c.loop-at.at s.extent s.offset none c.loop-at-test.true c.loop-at.invariant
    (less_lies_before (get_or starts c.loop-at.at none) s known)

pub returns : goal.returns
returns c =
    let starts = c.args.starts.now in
    record {
      within = omega arith;
      before = λ k d lt. c.loop-at.invariant k d (omega (arith, lt, c.loop-at-test.false));
      next = λ d inside. absurd (omega (arith, inside));
    }
