-- The readable bytes end with the first lost block, or with all.
use Rattle.std.proofs.Common.{arith, ◌*◌, inl, inr}
use Rattle.std.proofs.lemmas.Bool.{cases_lt}
use Rattle.scrub_super.proofs.UnknownSizesSteps.{end_at_block, end_with_bytes}
use Rattle.scrub_super.proofs.unknown_sizes.search.readable_end.Goals as goal

pub returns-then-lost-block : goal.returns-then-lost-block
returns-then-lost-block c =
    end_at_block c.requires.marks c.requires.within c.loop-block.invariant c.loop-block.auto.block
    c.if-lost-block.true
    (elim (cases_lt c.args.offset (c.loop-block.block * 512)) [
      | inl ahead ↦ inr (omega (arith, c.max.ensures, ahead), omega (arith, ahead))
      | inr past ↦ inl (omega (arith, c.max.ensures, past), past)
    ])

pub returns : goal.returns
returns c = end_with_bytes c.requires.marks c.requires.within c.loop-block.invariant c.loop-block-test.false
