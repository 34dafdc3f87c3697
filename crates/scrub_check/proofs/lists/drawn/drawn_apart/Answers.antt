-- What is drawn from the others is what is drawn from all.
use Rattle.std.proofs.Common.{◌≡◌, ◌∙◌, ap, List}
use Rattle.scrub_check.specs.declared.statuses.checked.Checked.{Checked}
use Rattle.scrub_check.specs.Checked.{dangling, hidden}
use Rattle.scrub_check.specs.steps.SoundAndOthers.{unsound}
use Rattle.scrub_check.proofs.SortedPlaces.{sound_in_order}
use Rattle.scrub_check.proofs.SoundAndOthers.{barred_within, broken_within, dangling_within, hidden_within, others_checked}
use Rattle.scrub_check.proofs.lists.drawn.drawn_apart.Goals as goal

pub returns : goal.returns
returns g c = λ named x.
    let image = g.D.PageSource.image c.args.scan.now.disk.now in
    let plan = c.args.scan.now.plan.now in
    let same : c.in_ok-checked.checked.items ≡ unsound x.checked =
    others_checked image plan named _ _ _ c.in_ok-checked.checked.items x c.in_ok-checked.ensures in
    record {
      checked = x.checked;
      are = x.are;
      lists = record {
        locators_are = record {
          sound = sound_in_order x.checked _ (rw x.sound_are at c.in_ok-of_starts.ensures);
          barred = barred_within x.checked _ (rw (c.deref.ensures.value, same) at c.in_ok-barred_extents.ensures);
        };
        dangling_are = c.in_ok-dangling.ensures ∙ ap dangling (c.deref-2.ensures.value ∙ same) ∙ dangling_within x.checked;
        hidden_are = c.in_ok-hidden.ensures ∙ ap hidden (c.deref-3.ensures.value ∙ same) ∙ hidden_within x.checked;
        broken_are = broken_within x.checked _ (rw (c.deref-4.ensures.value, same) at c.in_ok-broken_shards.ensures);
      };
    }
