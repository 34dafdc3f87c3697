-- Each doubt but a tail would make it unclean, or is of an odd page.
use Rattle.scrub_reclaim.proofs.SoundDisks.{sound_is_clean, sound_is_clear, sound_is_held, sound_is_right, sound_is_whole}
use Rattle.scrub_reclaim.proofs.sound_disks.a_sound_disk_is_all_right.Goals as goal

pub returns-clause-found : goal.returns-clause-found
returns-clause-found c = sound_is_right

pub returns-clause-clean : goal.returns-clause-clean
returns-clause-clean c = sound_is_clean

pub returns-clause-whole : goal.returns-clause-whole
returns-clause-whole c = sound_is_whole

pub returns-clause-held : goal.returns-clause-held
returns-clause-held c = sound_is_held

pub returns-clause-clear : goal.returns-clause-clear
returns-clause-clear c = sound_is_clear
