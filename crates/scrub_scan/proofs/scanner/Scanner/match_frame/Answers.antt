-- One more page has passed, or there is no frame.
use Rattle.std.proofs.Common.{arith, sym, ap, ◌∙◌, ◌≡◌, ◌<◌, ◌≤◌, ◌+◌, ◌*◌, ◌/◌, ◌-◌, length, min, Some}
use Rattle.std.proofs.lemmas.Nat.{div_below}
use Rattle.list_facts.proofs.Arithmetic.{div_of_next_row, div_rises, div_up_to_next_row}
use Rattle.scrub_frame.specs.Frame.{frame_overhead}
use Rattle.scrub_scan.specs.Extent.{bound_above}
use Rattle.scrub_scan.specs.steps.Pages.{target_of, last_page}
use Rattle.scrub_scan.proofs.Asked.{one_more, ends_later}
use Rattle.scrub_scan.proofs.ReadPages.{read_fewer, read_next}
use Rattle.scrub_scan.proofs.scanner.Scanner.match_frame.Goals as goal

pub loop-place-preserved : goal.loop-place-preserved
loop-place-preserved g c =
    let x = target_of (g.D.PageSource.image c.args.disk.now) c.args.target.now in
    let t = c.args.target.now in
    let inv = c.loop-place.invariant in
    let stop : c.bound-place.result ≡ bound_above x c.loop-place.place =
    c.bound-place.ensures.bound (g.D.PageSource.image c.args.disk.now) c.requires.target in
    let more = c.in-More.ensures.answer c.args.start inv.passes in
    let below : c.bound-place.result < t.pointer = omega (arith, stop, more.1) in
    record {
      scans = c.feed_page.ensures.scans;
      near = c.feed_page.ensures.reads.near ∙ inv.near;
      below = below;
      passes = rw stop more.0;
      asked = λ near.
          let from : c.args.start / t.page ≤ c.loop-place.place / t.page =
          div_rises c.args.start c.loop-place.place t.page t.positive (omega (arith, inv.passes.here)) in
          let next : c.bound-place.result / t.page ≡ c.loop-place.place / t.page + 1 =
          div_of_next_row c.loop-place.place t.pointer t.page c.bound-place.result t.positive c.bound-place.ensures.value
          below in
          let calls = one_more c.args.self.now.pages.asked c.feed_page.new.self.pages.asked c.loop-place.self.pages.asked (c.args.start / t.page) (c.loop-place.place / t.page) from (inv.asked near) c.feed_page.ensures.reads.asked
          (λ same. c.feed_page.ensures.reads.known (ap (λ h. h.number) inv.near ∙ near ∙ ap Some same)) in
          omega (arith, calls, next, from);
      read = λ h.
          let next : c.bound-place.result / t.page ≡ c.loop-place.place / t.page + 1 =
          div_of_next_row c.loop-place.place t.pointer t.page c.bound-place.result t.positive c.bound-place.ensures.value
          below in
          rw next
          (read_next c.feed_page.new.self.pages (c.loop-place.place / t.page) c.feed_page.ensures.loaded (c.feed_page.ensures.reads.read (c.loop-place.place / t.page) (inv.read h)));
    }

pub returns-in-No-clause-found : goal.returns-in-No-clause-found
returns-in-No-clause-found g c = c.in-No.ensures.answer c.args.start c.loop-place.invariant.passes

pub returns-in-Whole-clause-reads : goal.returns-in-Whole-clause-reads
returns-in-Whole-clause-reads g c = record {
  near = c.feed_page.ensures.reads.near ∙ c.loop-place.invariant.near;
  asked = λ near.
      let x = target_of (g.D.PageSource.image c.args.disk.now) c.args.target.now in
      let t = c.args.target.now in
      let inv = c.loop-place.invariant in
      let found = (c.in-Whole.ensures.answer c.args.start inv.passes).0 in
      let later : c.loop-place.place < c.args.start + length found.payload + frame_overhead c.in-Whole.form =
      ends_later x c.args.start c.loop-place.place c.loop-place.self.matcher c.in-Whole.form c.in-Whole.uuid found.payload
      inv.passes found.frame in
      let from : c.args.start / t.page ≤ c.loop-place.place / t.page =
      div_rises c.args.start c.loop-place.place t.page t.positive (omega (arith, inv.passes.here)) in
      let last : c.loop-place.place / t.page ≤ last_page t c.args.start c.in-Whole.form c.in-Whole.length =
      div_rises c.loop-place.place (c.args.start + c.in-Whole.length + frame_overhead c.in-Whole.form - 1) t.page
      t.positive (omega (arith, later, found.size)) in
      let calls = one_more c.args.self.now.pages.asked c.feed_page.new.self.pages.asked c.loop-place.self.pages.asked (c.args.start / t.page) (c.loop-place.place / t.page) from (inv.asked near) c.feed_page.ensures.reads.asked
      (λ same. c.feed_page.ensures.reads.known (ap (λ h. h.number) inv.near ∙ near ∙ ap Some same)) in
      omega (arith, calls, last);
  read = λ h.
      let image = g.D.PageSource.image c.args.disk.now in
      let t = c.args.target.now in
      let r = c.loop-place.place / t.page in
      let inv = c.loop-place.invariant in
      let ends = (c.in-Whole.ensures.answer c.args.start inv.passes).1 in
      let stop : bound_above (target_of image t) c.loop-place.place ≡ min t.pointer ((r + 1) * t.page) =
      ap (λ p. min t.pointer ((c.loop-place.place / p + 1) * p)) (sym c.requires.target.page) in
      let behind = c.args.start + c.in-Whole.length + frame_overhead c.in-Whole.form in
      read_fewer c.feed_page.new.self.pages (r + 1) (behind / t.page)
      (div_up_to_next_row c.loop-place.place behind t.page t.positive (omega (arith, ends, stop)))
      (read_next c.feed_page.new.self.pages r c.feed_page.ensures.loaded (c.feed_page.ensures.reads.read r (inv.read h)));
}

pub returns-in-No-clause-reads : goal.returns-in-No-clause-reads
returns-in-No-clause-reads g c = record {
  near = c.feed_page.ensures.reads.near ∙ c.loop-place.invariant.near;
  asked = λ near.
      let image = g.D.PageSource.image c.args.disk.now in
      let t = c.args.target.now in
      let inv = c.loop-place.invariant in
      let from : c.args.start / t.page ≤ c.loop-place.place / t.page =
      div_rises c.args.start c.loop-place.place t.page t.positive (omega (arith, inv.passes.here)) in
      let calls = one_more c.args.self.now.pages.asked c.feed_page.new.self.pages.asked c.loop-place.self.pages.asked (c.args.start / t.page) (c.loop-place.place / t.page) from (inv.asked near) c.feed_page.ensures.reads.asked
      (λ same. c.feed_page.ensures.reads.known (ap (λ h. h.number) inv.near ∙ near ∙ ap Some same)) in
      let size : image.geometry.pages * t.page ≡ image.geometry.pages * image.geometry.page =
      ap (λ p. image.geometry.pages * p) c.requires.target.page in
      let q : c.loop-place.place / t.page < image.geometry.pages =
      div_below c.loop-place.place t.page image.geometry.pages t.positive
      (omega (arith, size, c.requires.target.in_extent, inv.below)) in
      omega (arith, calls, q);
  read = λ h.
      let t = c.args.target.now in
      let inv = c.loop-place.invariant in
      read_fewer c.feed_page.new.self.pages (c.loop-place.place / t.page) (c.args.start / t.page)
      (div_rises c.args.start c.loop-place.place t.page t.positive (omega (arith, inv.passes.here)))
      (c.feed_page.ensures.reads.read (c.loop-place.place / t.page) (inv.read h));
}
