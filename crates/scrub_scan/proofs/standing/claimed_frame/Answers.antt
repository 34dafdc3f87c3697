-- What the scanner says of its target is so of the extent under this pointer.
use Rattle.list_facts.proofs.Options.{IfNone-from_match, IfSome-from_match}
use Rattle.scrub_scan.proofs.standing.claimed_frame.Goals as goal

pub returns-clause-found : goal.returns-clause-found
returns-clause-found g c =
    rw (← c.new-target.ensures.pointer)
    (rw (c.count_reads-counted.ensures.source, c.new-target.ensures.extent) at (IfSome-from_match _ _ c.claimed_head.result c.claimed_head.ensures.claimed))

pub returns-clause-none : goal.returns-clause-none
returns-clause-none g c =
    rw (← c.new-target.ensures.pointer)
    (rw (c.count_reads-counted.ensures.source, c.new-target.ensures.extent) at (IfNone-from_match _ _ c.claimed_head.result c.claimed_head.ensures.claimed))
