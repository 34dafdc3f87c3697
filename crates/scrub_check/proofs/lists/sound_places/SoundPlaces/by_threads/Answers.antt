use Rattle.std.specs.List.Sorted.{IsPermutation}
use Rattle.std.proofs.lemmas.Result.{IfOk-weaker}
use Rattle.scrub_check.specs.steps.SoundPlaces.{AreSoundPlaces}
use Rattle.scrub_check.proofs.SortedPlaces.{sound_in_order}
use Rattle.scrub_check.proofs.lists.sound_places.SoundPlaces.by_threads.Goals as goal

pub returns : goal.returns
returns g c =
    IfOk-weaker c.of_starts.result (λ sound. IsPermutation c.in_ok-starts.starts.items sound) (λ sound. AreSoundPlaces c.args.checked.now sound)
    (λ sound same. sound_in_order c.args.checked.now sound (rw c.in_ok-starts.ensures at same)) c.of_starts.ensures
