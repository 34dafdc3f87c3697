-- Named locators, the sound ones apart from the others.
use Rattle.std.specs.Prelude.{◌≡◌, List, Option, map, not}
use Rattle.std.specs.List.{filter}
use Rattle.scrub_disk.specs.Image.{Image}
use Rattle.scrub_super.specs.Plan.{PlanValue}
use Rattle.scrub_check.specs.declared.named.Named.{Named}
use Rattle.scrub_check.specs.declared.places.chunk_at.ChunkAt.{ChunkAt}
use Rattle.scrub_check.specs.declared.statuses.checked.Checked.{Checked}
use Rattle.scrub_check.specs.declared.statuses.sound_and_others.SoundAndOthers.{SoundAndOthers}
use Rattle.scrub_check.specs.declared.statuses.status.Status.{Status}
use Rattle.scrub_check.specs.Checked.{AreChecked, is_sound, named_of}
use Rattle.scrub_check.specs.steps.Open.{AreKnownBefore}
use Rattle.scrub_check.specs.steps.SoundPlaces.{sound_places}

-- the checked locators that aren't sound, in their order
abbrev pub unsound : List Checked → List Checked
unsound checked = filter (λ c. not (is_sound c.status)) checked

-- some named locators apart: the places of the sound ones; and the others, with what is known of them before their places
-- are read; each in the order of the locators
pub record AreApart (image : Image) (plan : PlanValue) (names : List Named) (sound : List ChunkAt) (others : List Named) (known : List (Option Status)) : Type 0 where
  pub checked : List Checked
  pub are : AreChecked image plan names checked
  pub sound_are : sound ≡ sound_places checked
  pub others_are : others ≡ map named_of (unsound checked)
  pub known_are : AreKnownBefore image plan others known

-- the same as the code keeps them
abbrev pub IsApart : Image → PlanValue → List Named → SoundAndOthers → Type 0
IsApart image plan names a = AreApart image plan names a.sound.items a.others.items a.known.items
