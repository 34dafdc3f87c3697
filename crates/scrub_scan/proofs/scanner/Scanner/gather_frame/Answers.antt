-- One more page has passed, the frame has ended, or a page of it can't be read.
use Rattle.std.proofs.Common.{arith, ap, subst, ℕ, ◌∙◌, ◌≡◌, ◌<◌, ◌≤◌, ◌+◌, ◌*◌, ◌/◌, ◌-◌, ◌++◌, length, take, min, Some}
use Rattle.std.proofs.lemmas.Nat.{div_below}
use Rattle.list_facts.proofs.Arithmetic.{div_of_next_row, div_rises, div_up_to_next_row}
use Rattle.scrub_disk.specs.Image.{AreBytesAt}
use Rattle.scrub_frame.specs.Frame.{head_size, seal_size, frame_overhead}
use Rattle.scrub_frame.proofs.Frames.{overhead}
use Rattle.scrub_scan.specs.steps.Pages.{target_of, last_page}
use Rattle.scrub_scan.proofs.Asked.{one_more}
use Rattle.scrub_scan.proofs.ReadPages.{read_fewer, read_next}
use Rattle.scrub_scan.proofs.Passing.{gap_byte}
use Rattle.scrub_scan.proofs.FrameBytes.{no_gap}
use Rattle.scrub_scan.proofs.Claims.{only_frame, claimed_frame}
use Rattle.scrub_scan.proofs.Gathering.{payload_more, seal_read}
use Rattle.scrub_scan.proofs.scanner.Scanner.gather_frame.Goals as goal

pub returns-in_default-clause-found : goal.returns-in_default-clause-found
returns-in_default-clause-found g c = λ messages held.
    let image = g.D.PageSource.image c.args.disk.now in
    let t = c.args.target.now in
    let x = target_of image t in
    let h = c.args.head.now in
    let inv = c.loop-place.invariant in
    let so_far = inv.gathered messages held in (
      λ f u b k.
          let same = only_frame x c.args.start h c.requires.claimed f u b k in
          let round : frame_overhead h.form ≡ frame_overhead f = ap frame_overhead same.0 in
          no_gap x c.args.start (length b + frame_overhead f) f u b k (omega arith)
          (record {
            place = c.loop-place.place;
            low = inv.low;
            high = omega (arith, inv.below, c.frame_bytes.ensures.value, round, same.2);
            unreadable = gap_byte image t.extent c.loop-place.place c.load_far.new.self.page c.load_far.ensures.held.size
                (c.in_default.ensures.gap image t.extent c.load_far.ensures.held);
          }),
      c.cancel.ensures messages so_far.0 so_far.1,
    )

pub returns-then-end-stop-clause-found : goal.returns-then-end-stop-clause-found
returns-then-end-stop-clause-found g c = λ messages held.
    let image = g.D.PageSource.image c.args.disk.now in
    let t = c.args.target.now in
    let x = target_of image t in
    let h = c.args.head.now in
    let inv = c.loop-place.invariant in
    let so_far = inv.gathered messages held in
    let sealed = c.args.start + head_size in
    let first = c.args.start + c.payload_start.result in
    let stand = c.in-Some.ensures.bytes image t.extent c.load_far.ensures.held in
    let more = payload_more x.byte c.loop-place.place c.bound-stop.result first (first + h.length) so_far.0 c.in-Some.part.now c.bytes_between.result.now
    c.in-Some.ensures.size (omega arith) stand so_far.2 so_far.3 c.bytes_between.ensures in
    let payload = so_far.0 ++ c.bytes_between.result.now in
    let size : h.length ≡ length payload =
    omega (arith, overhead h.form, more.0, c.if-end-stop.true, c.frame_bytes.ensures.value, c.payload_start.ensures.value) in
    let whole : min (c.loop-place.place + length c.in-Some.part.now) first - sealed ≡ seal_size h.form =
    omega (arith, overhead h.form, c.in-Some.ensures.size, c.if-end-stop.true, c.frame_bytes.ensures.value, c.payload_start.ensures.value) in
    record {
      payload = payload;
      size = size;
      frame = λ agrees.
          claimed_frame x c.args.start h (take (seal_size h.form) c.put_between.new.out) payload c.requires.claimed size
          (seal_read h.form payload c.put_between.new.out (omega arith) agrees)
          (rw whole at (c.put_between.ensures.put x.byte stand inv.sealed))
          (subst (λ (q : ℕ). AreBytesAt x.byte (c.args.start + q) payload) c.payload_start.ensures.value more.1);
      gathers =
          c.in_ok-end.ensures.ended messages payload (c.in_ok-append.ensures.appended messages so_far.0 so_far.1);
    }

pub loop-place-preserved : goal.loop-place-preserved
loop-place-preserved g c =
    let image = g.D.PageSource.image c.args.disk.now in
    let t = c.args.target.now in
    let x = target_of image t in
    let h = c.args.head.now in
    let inv = c.loop-place.invariant in
    let first = c.args.start + c.payload_start.result in
    let sealed = c.args.start + head_size in
    let stand = c.in-Some.ensures.bytes image t.extent c.load_far.ensures.held in
    let below : c.bound-stop.result < t.pointer =
    omega (arith, c.if-end-stop.false, c.frame_bytes.ensures.value, c.requires.claimed.fits) in
    let next : c.bound-stop.result / t.page ≡ c.loop-place.place / t.page + 1 =
    div_of_next_row c.loop-place.place t.pointer t.page c.bound-stop.result t.positive c.bound-stop.ensures.value below in
    record {
      scans = record { pages = c.load_far.ensures.held; gap = inv.scans.gap };
      near = c.load_far.ensures.reads.near ∙ inv.near;
      low = omega (arith, inv.low, c.bound-stop.ensures.above);
      below = c.if-end-stop.false;
      gathered = λ messages held.
          let so_far = inv.gathered messages held in
          let more = payload_more x.byte c.loop-place.place c.bound-stop.result first (first + h.length) so_far.0 c.in-Some.part.now c.bytes_between.result.now
          c.in-Some.ensures.size (omega arith) stand so_far.2 so_far.3 c.bytes_between.ensures in (
            so_far.0 ++ c.bytes_between.result.now,
            c.in_ok-append.ensures.appended messages so_far.0 so_far.1,
            more.0,
            more.1,
          );
      sealed =
          subst (λ (q : ℕ). AreBytesAt x.byte sealed (take (min q first - sealed) c.put_between.new.out)) c.in-Some.ensures.size
          (c.put_between.ensures.put x.byte stand inv.sealed);
      asked = λ near.
          let from : c.args.start / t.page ≤ c.loop-place.place / t.page =
          div_rises c.args.start c.loop-place.place t.page t.positive inv.low in
          let calls = one_more c.args.self.now.pages.asked c.load_far.new.self.asked c.loop-place.self.pages.asked (c.args.start / t.page) (c.loop-place.place / t.page) from (inv.asked near) c.load_far.ensures.reads.asked
          (λ same. c.load_far.ensures.reads.known (ap (λ p. p.number) inv.near ∙ near ∙ ap Some same)) in
          omega (arith, calls, next, from);
      read = λ held.
          rw next
          (read_next c.load_far.new.self (c.loop-place.place / t.page) c.load_far.ensures.loaded (c.load_far.ensures.reads.read (c.loop-place.place / t.page) (inv.read held)));
    }

pub returns-in_default-clause-reads : goal.returns-in_default-clause-reads
returns-in_default-clause-reads g c = record {
  near = c.load_far.ensures.reads.near ∙ c.loop-place.invariant.near;
  asked = λ near.
      let image = g.D.PageSource.image c.args.disk.now in
      let t = c.args.target.now in
      let inv = c.loop-place.invariant in
      let from : c.args.start / t.page ≤ c.loop-place.place / t.page =
      div_rises c.args.start c.loop-place.place t.page t.positive inv.low in
      let calls = one_more c.args.self.now.pages.asked c.load_far.new.self.asked c.loop-place.self.pages.asked (c.args.start / t.page) (c.loop-place.place / t.page) from (inv.asked near) c.load_far.ensures.reads.asked
      (λ same. c.load_far.ensures.reads.known (ap (λ p. p.number) inv.near ∙ near ∙ ap Some same)) in
      let size : image.geometry.pages * t.page ≡ image.geometry.pages * image.geometry.page =
      ap (λ p. image.geometry.pages * p) c.requires.target.page in
      let q : c.loop-place.place / t.page < image.geometry.pages =
      div_below c.loop-place.place t.page image.geometry.pages t.positive
      (omega (arith, size, c.requires.target.in_extent, inv.below, c.frame_bytes.ensures.value, c.requires.claimed.fits)) in
      omega (arith, calls, q);
  read = λ h.
      let t = c.args.target.now in
      let inv = c.loop-place.invariant in
      read_fewer c.load_far.new.self (c.loop-place.place / t.page) (c.args.start / t.page)
      (div_rises c.args.start c.loop-place.place t.page t.positive inv.low)
      (c.load_far.ensures.reads.read (c.loop-place.place / t.page) (inv.read h));
}

pub returns-then-end-stop-clause-reads : goal.returns-then-end-stop-clause-reads
returns-then-end-stop-clause-reads g c = record {
  near = c.load_far.ensures.reads.near ∙ c.loop-place.invariant.near;
  asked = λ near.
      let t = c.args.target.now in
      let h = c.args.head.now in
      let inv = c.loop-place.invariant in
      let from : c.args.start / t.page ≤ c.loop-place.place / t.page =
      div_rises c.args.start c.loop-place.place t.page t.positive inv.low in
      let last : c.loop-place.place / t.page ≤ last_page t c.args.start h.form h.length =
      div_rises c.loop-place.place (c.args.start + h.length + frame_overhead h.form - 1) t.page
      t.positive (omega (arith, inv.below, c.frame_bytes.ensures.value)) in
      let calls = one_more c.args.self.now.pages.asked c.load_far.new.self.asked c.loop-place.self.pages.asked (c.args.start / t.page) (c.loop-place.place / t.page) from (inv.asked near) c.load_far.ensures.reads.asked
      (λ same. c.load_far.ensures.reads.known (ap (λ p. p.number) inv.near ∙ near ∙ ap Some same)) in
      omega (arith, calls, last);
  read = λ h.
      let t = c.args.target.now in
      let head = c.args.head.now in
      let r = c.loop-place.place / t.page in
      let inv = c.loop-place.invariant in
      let behind = c.args.start + head.length + frame_overhead head.form in
      read_fewer c.load_far.new.self (r + 1) (behind / t.page)
      (div_up_to_next_row c.loop-place.place behind t.page t.positive
      (omega (arith, c.if-end-stop.true, c.frame_bytes.ensures.value, c.bound-stop.ensures.one_page)))
      (read_next c.load_far.new.self r c.load_far.ensures.loaded (c.load_far.ensures.reads.read r (inv.read h)));
}
