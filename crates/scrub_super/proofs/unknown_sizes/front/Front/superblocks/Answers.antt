-- What is found in the bytes and blocks of the front.
use Rattle.scrub_super.proofs.FoundByOwnSizes.{found_in_front}
use Rattle.scrub_super.proofs.unknown_sizes.front.Front.superblocks.Goals as goal

pub returns : goal.returns
returns c = λ raw lacking fails failures front.
    found_in_front raw lacking fails failures front
    (rw (c.deref.ensures.value, c.deref-2.ensures.value) at c.in_ok-records.ensures)
    (rw c.deref-3.ensures.value at c.in_ok-lost.ensures)
