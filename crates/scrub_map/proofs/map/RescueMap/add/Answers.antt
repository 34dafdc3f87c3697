use Rattle.std.proofs.Common.{refl}
use Rattle.std.proofs.lemmas.Bool.{not-false, not-true}
use Rattle.scrub_map.proofs.Keeping.{GapsGrow, below_more, grow_none, grow_one, kept_more, kept_same, none_empty, none_unread}
use Rattle.scrub_map.proofs.map.RescueMap.add.Goals as goal
use Rattle.scrub_map.proofs.map.RescueMap.add.Goals.{then-not-block-via-then-not-block, then-not-block-via-else-not-block+then-block-eq0, then-self-block+in_ok-push, else-self-block}

pub returns-then-not-block-clause-kept : goal.returns-then-not-block-clause-kept
returns-then-not-block-clause-kept c = λ blocks. kept_same c.args.self.now blocks c.args.block (elim c.then-not-block.branch [
  | then-not-block-via-then-not-block w ↦
      none_unread c.args.block (not-true c.args.block.is_rescued w.if-not-block.true)
  | then-not-block-via-else-not-block+then-block-eq0 w ↦ none_empty c.args.block w.if-block-eq0.true
])

grows : (c : goal.After-self-2-1) →
    GapsGrow c.args.self.now.gaps.items c.if-self-block.self.1.0.items c.args.self.now.end c.args.block.position
grows c = elim c.if-self-block.branch [
  | then-self-block+in_ok-push w ↦ rw w.self-is (grow_one _ _ _ w.in_ok-push.ensures.items)
  | else-self-block w ↦ rw w.self-is (grow_none _ _ _ _ refl w.if-self-block.false)
]

pub returns-clause-kept : goal.returns-clause-kept
returns-clause-kept c =
    kept_more c.args.self.now _ _ c.args.block (not-false c.args.block.is_rescued c.if-not-block.false)
    c.requires.ordered c.requires.below refl (grows c)

pub returns-clause-below : goal.returns-clause-below
returns-clause-below c = below_more c.args.self.now _ c.args.block c.requires.ordered c.requires.below (grows c)
