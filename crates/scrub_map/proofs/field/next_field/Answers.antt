use Rattle.std.proofs.Common.{refl}
use Rattle.scrub_map.proofs.FieldCuts.{empty_is, field_behind, filled_is, nothing_behind}
use Rattle.scrub_map.proofs.field.next_field.Goals as goal

pub returns-then-is_empty : goal.returns-then-is_empty
returns-then-is_empty c =
    nothing_behind _ _ _ c.blanks_before.ensures.value refl (empty_is _ _ c.is_empty.ensures c.if-is_empty.true)

pub returns : goal.returns
returns c =
    rw (c.split_at.ensures.front, c.split_at.ensures.back)
    (field_behind _ _ _ _ c.blanks_before.ensures.value refl (filled_is _ _ c.is_empty.ensures c.if-is_empty.false) c.field_length.ensures.value)
