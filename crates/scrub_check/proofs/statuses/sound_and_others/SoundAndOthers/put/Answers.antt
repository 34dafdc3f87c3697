-- It is put to the sound ones, or to the others.
use Rattle.std.proofs.Common.{◌≡◌, ◌∙◌, Option, Some, sym, subst}
use Rattle.std.proofs.lemmas.Bool.{false≢true}
use Rattle.scrub_check.specs.declared.statuses.status.Status.{Status}
use Rattle.scrub_check.specs.declared.statuses.status.Status.TheVariants.{Sound}
use Rattle.scrub_check.specs.steps.Open.{IsKnownBefore}
use Rattle.scrub_check.proofs.SoundAndOthers.{other_more, sound_more}
use Rattle.scrub_check.proofs.statuses.sound_and_others.SoundAndOthers.put.Goals as goal

pub returns-then-is_known_sound : goal.returns-then-is_known_sound
returns-then-is_known_sound c = λ image plan named start told.
    let sound : c.args.known ≡ Some Sound = c.is_known_sound.ensures.0 c.if-is_known_sound.true in
    sound_more image plan named c.args.one c.args.self.now.sound.items c.push.new.self.items c.args.self.now.others.items c.args.self.now.known.items start
    (subst (λ (k : Option Status). IsKnownBefore image plan c.args.one k) sound told)
    (rw c.named_by.ensures at c.in_ok-push.ensures.items)

pub returns : goal.returns
returns c = λ image plan named start told.
    other_more image plan named c.args.one c.args.known c.args.self.now.sound.items c.args.self.now.others.items c.push-2.new.self.items
    c.args.self.now.known.items c.push-3.new.self.items start
    (λ sound. false≢true (sym c.if-is_known_sound.false ∙ c.is_known_sound.ensures.1 sound)) told c.in_ok-push-2.ensures.items c.in_ok-push-3.ensures.items
