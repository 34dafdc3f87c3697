-- The run of readable pages that ends with the last byte's page begins in front of the bytes, or there is a gap.
use Rattle.std.proofs.Common.{◌≡◌, ◌+◌, ◌-◌, ◌*◌, ◌/◌, ◌∙◌, arith, get_or, inl, inr}
use Rattle.std.proofs.lemmas.Bool.{cases_lt, le-leb, leb-true}
use Rattle.std.proofs.lemmas.List.{get_or_default}
use Rattle.scrub_loose.proofs.BytesInMemory.{lost_if, page_there, readable_if}
use Rattle.scrub_loose.proofs.held.HeldExtent.is_readable.Goals as goal

pub returns : goal.returns
returns c =
    let h = c.args.self.now in
    let is = c.requires.held in
    let p = c.args.place in
    let n = c.args.count in
    let at : c.index.result.now ≡ get_or h.since.items ((p + n - 1) / h.page) 0 =
    c.index.ensures
    ∙ get_or_default h.since.items ((p + n - 1) / h.page) c.index.result.now 0
    (omega (arith, page_there h.page h.bytes.items h.readable.items is.positive is.size h.since.items is.since p n c.requires.some c.requires.within, is.since.count)) in (
      λ le.
          readable_if h.page h.bytes.items h.readable.items is.positive is.size h.since.items is.since p n c.requires.some c.requires.within
          (rw at at (leb-true (c.index.result.now * h.page) p le)),
      λ whole. elim (cases_lt p (c.index.result.now * h.page)) [
        | inl less ↦
            absurd
            (whole
            (lost_if h.page h.bytes.items h.readable.items is.positive is.size h.since.items is.since p n c.requires.some c.requires.within (rw at at less)))
        | inr le ↦ le-leb (c.index.result.now * h.page) p le
      ],
    )
