-- The room, the write pointers and the first byte are those of the definitions.
use Rattle.std.proofs.Common.{◌≡◌, ◌++◌, ℕ, Option, ap, subst, sym, ◌∙◌}
use Rattle.std.specs.Prelude.{string_bytes}
use Rattle.scrub_compare.specs.Written.{IsLeastNumber, IsWrittenIn, pointer_in, room_of_extent}
use Rattle.scrub_compare.specs.Compare.{lines_of_extent}
use Rattle.scrub_compare.proofs.ExtentLines.{on_ok, pointer_is}
use Rattle.scrub_compare.proofs.extents.append_extent.Goals as goal

pub returns : goal.returns
returns g c checked barred =
    let before = g.D.PageSource.image c.args.before.now in
    let after = g.E.PageSource.image c.args.after.now in
    let found_before = c.args.found_before.now in
    let x = c.args.extent in
    let room : c.room_of_extent-room.result ≡ room_of_extent found_before.scan.plan.geometry found_before.scan.all.extents checked x =
    c.room_of_extent-room.ensures checked barred ∙ ap (λ h. room_of_extent h found_before.scan.all.extents checked x) c.geometry.ensures in
    let old : c.pointer-old.result ≡ pointer_in found_before.scan.plan x = sym (pointer_is found_before.scan.plan x c.pointer-old.result c.pointer-old.ensures.value) in
    let new : c.pointer-new.result ≡ pointer_in c.args.plan.now x = sym (pointer_is c.args.plan.now x c.pointer-new.result c.pointer-new.ensures.value) in
    on_ok c.append_lines.result _ _ c.append_lines.ensures (λ same. (
      c.in_ok-first.first,
      subst (λ (o : Option ℕ). IsLeastNumber (IsWrittenIn before after o (pointer_in c.args.plan.now x) x) c.in_ok-first.first) room
          (subst (λ (w : ℕ). IsLeastNumber (IsWrittenIn before after c.room_of_extent-room.result w x) c.in_ok-first.first) new c.in_ok-first.ensures),
      same ∙ (λ i. string_bytes c.args.text.now ++ lines_of_extent c.args.resets.now (room i) x (old i) (new i) c.in_ok-first.first),
    ))
