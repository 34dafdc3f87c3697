-- Kind, generation and end of the record, by its head.
use Rattle.std.proofs.Common.{◌≡◌, ◌<◌, ◌+◌, ◌*◌, ◌^◌, ℕ, arith, ◌∙◌, ap, length}
use Rattle.std.proofs.Math.Nat.{mul-le-mul_right}
use Rattle.scrub_disk.specs.declared.geometry.Geometry.{Geometry}
use Rattle.scrub_super.specs.Contents.{Contents}
use Rattle.scrub_super.specs.Record.{AreContents}
use Rattle.scrub_super.specs.steps.RecordRead.{digest_place, kind_by}
use Rattle.scrub_super.proofs.Found.{kind_counted}
use Rattle.scrub_super.proofs.Fronts.{head_sizes}
use Rattle.scrub_super.proofs.Listed.{count_in, few_listed, small_count}
use Rattle.scrub_super.proofs.RecordParts.{length_record}
use Rattle.scrub_super.proofs.pages.PageRecord.of.Goals as goal

-- a record on any page ends before byte 2^64
end_fits : {g : Geometry} {s : Contents} → AreContents g s → (page size body : ℕ) → page < 2 ^ 32 → size < 2 ^ 32 →
    body ≡ digest_place g (length s.runs) (count_in s) → page * size + body + 32 < 2 ^ 64
end_fits {g} {s} h page size body hp hs is =
    omega (
      arith,
      hs,
      is,
      head_sizes (count_in s),
      few_listed g s.retired h.retired,
      h.run_count,
      g.extents_most,
      mul-le-mul_right {m = page} {n = 4294967295} size (omega (arith, hp)),
    )

pub body_len-requires-clause-small : goal.body_len-requires-clause-small
body_len-requires-clause-small c =
    rw c.head_of-head.ensures (small_count c.args.geometry c.args.superblock.now.retired c.requires.retired)

pub overflow_add-result : goal.overflow_add-result
overflow_add-result c =
    omega (
      arith,
      end_fits c.requires c.args.page c.page.result c.body_len.result (omega (arith, c.ranges.page)) (omega (arith, c.page.type_inv))
          (rw c.head_of-head.ensures at c.body_len.ensures),
    )

pub overflow_add-result-2 : goal.overflow_add-result-2
overflow_add-result-2 c =
    omega (
      arith,
      end_fits c.requires c.args.page c.page.result c.body_len.result (omega (arith, c.ranges.page)) (omega (arith, c.page.type_inv))
          (rw c.head_of-head.ensures at c.body_len.ensures),
    )

pub returns : goal.returns
returns c = record {
  kind = c.of.ensures ∙ ap (λ h. kind_by h.retired) c.head_of-head.ensures ∙ kind_counted c.args.superblock.now.retired;
  generation = ap (λ h. h.generation) c.head_of-head.ensures;
  to =
      omega (
        arith,
        length_record c.requires,
        rw c.head_of-head.ensures at c.body_len.ensures,
        ap (λ n. c.args.page * n) c.page.ensures,
      );
}
