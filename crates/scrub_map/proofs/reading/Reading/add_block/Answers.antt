use Rattle.std.proofs.Common.{refl}
use Rattle.scrub_map.proofs.MapLines.{no_block, other_block, read_block}
use Rattle.scrub_map.proofs.reading.Reading.add_block.Goals as goal

pub returns-in_default-clause-bad : goal.returns-in_default-clause-bad
returns-in_default-clause-bad c = (
  refl,
  λ lines line e. no_block lines line _ _ e c.requires.said c.requires.behind (λ block is _. c.in_default.ensures block is),
)

pub returns-then-block-self-clause-bad : goal.returns-then-block-self-clause-bad
returns-then-block-self-clause-bad c = (
  refl,
  λ lines line e. no_block lines line _ _ e c.requires.said c.requires.behind (other_block _ _ _ c.in-Some.ensures c.if-block-self.true),
)

pub returns-clause-read : goal.returns-clause-read
returns-clause-read c = λ lines line e.
    read_block lines line _ c.in-Some.block _ _ e c.requires.said c.requires.behind c.in-Some.ensures
    c.if-block-self.false c.requires.behind refl c.in_ok-add.ensures.kept
