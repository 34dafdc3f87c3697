-- Other bytes are there, or some can't be read.
use Rattle.std.proofs.Common.{arith, sym, ◌∙◌, subst, [], ◌∷◌, ℕ, ◌≡◌, length}
use Rattle.std.proofs.lemmas.Bool.{false≢true}
use Rattle.std.proofs.lemmas.List.{length-take-le}
use Rattle.std.proofs.lemmas.Slice.Eq.{bytes_eq-Decides}
use Rattle.scrub_disk.specs.Image.{image_byte, AreBytesAt}
use Rattle.scrub_scan.specs.Extent.{HasGap}
use Rattle.scrub_scan.proofs.FrameBytes.{no_gap_in, same_bytes}
use Rattle.scrub_scan.proofs.ReadPages.{reads_fewer}
use Rattle.scrub_scan.proofs.scanner.Scanner.has_bytes.Goals as goal

pub returns-then-not-fill-clause-found : goal.returns-then-not-fill-clause-found
returns-then-not-fill-clause-found g c =
    let at = image_byte (g.D.PageSource.image c.args.disk.now) c.args.target.now.extent in (
      λ yes. absurd (false≢true yes),
      λ stands.
          absurd
          (no_gap_in at c.args.place c.args.wanted.now stands
          (subst (λ (n : ℕ). HasGap at c.args.place n) (length-take-le (length c.args.wanted.now) _ (omega arith)) (rw c.if-not-fill.true at c.fill.ensures.filled))),
    )

pub returns-clause-found : goal.returns-clause-found
returns-clause-found g c =
    let at = image_byte (g.D.PageSource.image c.args.disk.now) c.args.target.now.extent in
    let filled : AreBytesAt at c.args.place c.fill.new.out = rw c.if-not-fill.false at c.fill.ensures.filled in (
      λ equal.
          let same : c.fill.new.out ≡ c.args.wanted.now =
          (bytes_eq-Decides c.fill.new.out c.args.wanted.now).0 (sym c.eq.ensures ∙ equal) in
          rw same at filled,
      λ stands.
          let same : c.fill.new.out ≡ c.args.wanted.now =
          same_bytes at c.args.place c.fill.new.out c.args.wanted.now
          (omega (arith, length-take-le {A = ℕ} (length c.args.wanted.now) (0 ∷ 0 ∷ 0 ∷ 0 ∷ 0 ∷ 0 ∷ 0 ∷ 0 ∷ 0 ∷ 0 ∷ 0 ∷ 0 ∷ 0 ∷ 0 ∷ 0 ∷ 0 ∷ 0 ∷ 0 ∷ []) (omega arith)))
          filled stands in
          c.eq.ensures ∙ (bytes_eq-Decides c.fill.new.out c.args.wanted.now).1 same,
    )

pub returns-then-not-fill-clause-reads : goal.returns-then-not-fill-clause-reads
returns-then-not-fill-clause-reads g c =
    reads_fewer 2 2 _ _ _ _ (omega arith)
    (λ near. (near.0, omega (arith, near.1, length-take-le {A = ℕ} (length c.args.wanted.now) (0 ∷ 0 ∷ 0 ∷ 0 ∷ 0 ∷ 0 ∷ 0 ∷ 0 ∷ 0 ∷ 0 ∷ 0 ∷ 0 ∷ 0 ∷ 0 ∷ 0 ∷ 0 ∷ 0 ∷ 0 ∷ []) (omega arith))))
    c.fill.ensures.reads

pub returns-clause-reads : goal.returns-clause-reads
returns-clause-reads g c =
    reads_fewer 2 2 _ _ _ _ (omega arith)
    (λ near. (near.0, omega (arith, near.1, length-take-le {A = ℕ} (length c.args.wanted.now) (0 ∷ 0 ∷ 0 ∷ 0 ∷ 0 ∷ 0 ∷ 0 ∷ 0 ∷ 0 ∷ 0 ∷ 0 ∷ 0 ∷ 0 ∷ 0 ∷ 0 ∷ 0 ∷ 0 ∷ 0 ∷ []) (omega arith))))
    c.fill.ensures.reads
