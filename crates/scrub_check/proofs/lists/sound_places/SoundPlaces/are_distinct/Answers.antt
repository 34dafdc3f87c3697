use Rattle.std.proofs.Common.{◌≡◌, rules}
use Rattle.scrub_check.proofs.lists.sound_places.SoundPlaces.are_distinct.Goals as goal

pub returns : goal.returns
returns c =
    let read : c.deref.result.now ≡ c.args.self.now = search rules in
    rw read at c.rises_strictly.ensures
