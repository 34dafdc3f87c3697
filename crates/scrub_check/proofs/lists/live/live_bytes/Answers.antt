use Rattle.std.proofs.Common.{ℕ, refl}
use Rattle.scrub_check.proofs.Sizes.{not_scanned}
use Rattle.scrub_check.proofs.lists.live.live_bytes.Goals as goal

pub returns-in-None : goal.returns-in-None
returns-in-None g c =
    let none : ℕ = 0 in
    rw (not_scanned c.args.all.now.extents c.args.extent c.in-None.ensures.none) refl
