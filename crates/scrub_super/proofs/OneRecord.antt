-- Bytes begin with one record at most.
use Rattle.std.proofs.Common.{◌≡◌, ℕ, List, arith, sym, ◌∙◌}
use Rattle.scrub_disk.specs.declared.geometry.Geometry.{Geometry}
use Rattle.scrub_frame.proofs.Locators.{same_locators}
use Rattle.scrub_super.specs.Contents.{Contents}
use Rattle.scrub_super.specs.Record.{BeginsWithRecord}
use Rattle.scrub_super.proofs.Listed.{pointers_in, small_pointers, small_listed, same_numbers, same_listed}
use Rattle.scrub_super.proofs.RecordParts.{record_parts, known_parts, is_head, record_head}

-- bytes begin with one record at most
pub one_record_lem : (g : Geometry) (x : List ℕ) (c d : Contents) → BeginsWithRecord g x c → BeginsWithRecord g x d →
    c ≡ d
one_record_lem g x c d h k =
    let heads = record_head (is_head k) h in
    let p = known_parts (is_head k) h in
    let q = record_parts k in
    let pointers : c.pointers ≡ d.pointers =
    same_numbers _ _ (small_pointers (pointers_in h.contents)) (small_pointers (pointers_in k.contents))
    (omega (arith, h.contents.pointer_count, k.contents.pointer_count))
    (sym p.pointers_are ∙ q.pointers_are) in
    let retired : c.retired ≡ d.retired =
    same_listed _ _ heads.2 (small_listed g _ h.contents.retired) (small_listed g _ k.contents.retired)
    (sym p.retired_are ∙ q.retired_are) in
    let runs : c.runs ≡ d.runs =
    same_locators _ _ h.contents.each_run k.contents.each_run heads.1 (sym p.runs_are ∙ q.runs_are) in
    λ i. record { generation = heads.0 i; pointers = pointers i; retired = retired i; runs = runs i }
