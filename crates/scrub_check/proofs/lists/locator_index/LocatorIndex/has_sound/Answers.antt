use Rattle.std.proofs.Common.{ℕ, nat_lt, ap}
use Rattle.scrub_check.proofs.SortedPlaces.{found_sound}
use Rattle.scrub_check.proofs.lists.locator_index.LocatorIndex.has_sound.Goals as goal

pub returns : goal.returns
returns c checked locators =
    found_sound checked c.args.self.now.sound c.args.extent c.args.offset (nat_lt 0 c.count.result) locators.sound
    (ap (λ (n : ℕ). nat_lt 0 n) c.count.ensures)
