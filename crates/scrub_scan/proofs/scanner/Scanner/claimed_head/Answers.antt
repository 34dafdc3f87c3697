-- Why there is no frame: its head can't be read or isn't one, it claims too much or a page that can't be read, or what
-- closes it isn't there.
use Rattle.std.proofs.Common.{arith, sym, ◌∙◌, ℕ, List, ◌≡◌, ◌<◌, ◌≤◌, ◌+◌, ◌-◌, ◌*◌, ◌/◌, ◌++◌, take, ap, Some}
use Rattle.list_facts.proofs.Arithmetic.{below_next_row, div_is, place_in_row}
use Rattle.scrub_frame.specs.Frame.{head_size, mark, close_size, payload_start, frame_overhead}
use Rattle.scrub_frame.proofs.Frames.{overhead}
use Rattle.scrub_scan.specs.steps.Pages.{target_of, last_page}
use Rattle.scrub_scan.proofs.ReadPages.{reads_fewer, reads_both}
use Rattle.std.proofs.lemmas.Bool.{true≢false}
use Rattle.std.proofs.Math.Nat.{div-mul-le_self}
use Rattle.std.proofs.lemmas.List.{length-take}
use Rattle.scrub_scan.proofs.Passing.{gap_byte}
use Rattle.scrub_scan.proofs.FrameBytes.{no_gap, claimed_frame, has_magic, close_stands}
use Rattle.scrub_scan.proofs.scanner.Scanner.claimed_head.Goals as goal
use Rattle.scrub_scan.proofs.scanner.Scanner.claimed_head.Goals.{then-room-size-via-then-room-size, then-room-size-via-else-room-size+then-has_gap}

pub returns-then-not-fill-clause-claimed : goal.returns-then-not-fill-clause-claimed
returns-then-not-fill-clause-claimed g c = λ f u b k.
    no_gap (target_of (g.D.PageSource.image c.args.disk.now) c.args.target.now) c.args.start head_size f u b k
    (omega (arith, overhead f)) (rw c.if-not-fill.true at c.fill.ensures.filled)

pub returns-in_default-clause-claimed : goal.returns-in_default-clause-claimed
returns-in_default-clause-claimed g c = λ f u b k.
    c.in_default.ensures.none f
    (has_magic (target_of (g.D.PageSource.image c.args.disk.now) c.args.target.now) c.args.start f u b c.fill.new.out k (omega arith) (rw c.if-not-fill.false at c.fill.ensures.filled))

-- what closes the frame, as the code cuts it out
closes : (all w : List ℕ) (size n : ℕ) → n ≡ size → take size all ≡ w → take n all ≡ w
closes all w size n is all_is = ap (λ j. take j all) is ∙ all_is

pub returns-then-room-size-clause-claimed : goal.returns-then-room-size-clause-claimed
returns-then-room-size-clause-claimed g c = λ f u b k.
    let image = g.D.PageSource.image c.args.disk.now in
    let x = target_of image c.args.target.now in
    let form = c.in-Some.head.form in
    let n = c.in-Some.head.length in
    let page = c.args.target.now.page in
    let e = c.args.target.now.extent in
    let same =
    claimed_frame x c.args.start f u b form c.in-Some.head.uuid c.fill.new.out n k (omega arith)
    (rw c.if-not-fill.false at c.fill.ensures.filled) (omega arith) (omega arith) c.in-Some.ensures.found in
    let size : c.frame_bytes-size.result ≡ n + frame_overhead form = c.frame_bytes-size.ensures.value in
    elim c.then-room-size.branch [
      | then-room-size-via-then-room-size w ↦ omega (arith, w.if-room-size.true, same.1, same.0.fits, size)
      | then-room-size-via-else-room-size+then-has_gap w ↦
          let gap = w.has_gap.ensures.found w.if-has_gap.true in
          let none = rw gap.1 at c.fill.ensures.scans.gap in
          let here =
          place_in_row gap.0 c.args.start (c.args.start + c.frame_bytes-size.result) page c.args.target.now.positive
          (omega (arith, overhead form, size)) gap.2 gap.3 in
          no_gap x c.args.start (n + frame_overhead form) form c.in-Some.head.uuid b same.0 (omega (arith, same.1))
          (record {
            place = here.0;
            low = here.1;
            high = omega (arith, here.2, size);
            unreadable = gap_byte image e here.0 page c.requires.target.page (ap (λ q. image.page e q) here.3 ∙ none);
          })
    ]

pub returns-then-not-has_bytes-clause-claimed : goal.returns-then-not-has_bytes-clause-claimed
returns-then-not-has_bytes-clause-claimed g c = λ f u b k.
    let x = target_of (g.D.PageSource.image c.args.disk.now) c.args.target.now in
    let form = c.in-Some.head.form in
    let v = c.in-Some.head.uuid in
    let n = c.in-Some.head.length in
    let place = c.args.start + c.frame_bytes-size.result - c.close_bytes-close.result in
    let same =
    claimed_frame x c.args.start f u b form v c.fill.new.out n k (omega arith)
    (rw c.if-not-fill.false at c.fill.ensures.filled) (omega arith) (omega arith) c.in-Some.ensures.found in
    let wanted : take c.close_bytes-close.result c.close.result ≡ v ++ mark form =
    closes c.close.result (v ++ mark form) (close_size form) c.close_bytes-close.result
    c.close_bytes-close.ensures.value c.close.ensures in
    true≢false
    (sym (c.has_bytes.ensures.found.1 (rw wanted
    (close_stands x c.args.start place form v b same.0 (omega (arith, overhead form, same.1, c.frame_bytes-size.ensures.value, c.close_bytes-close.ensures.value))))) ∙ c.if-not-has_bytes.true)

-- some of the reads were made
pub returns-then-not-fill-clause-reads : goal.returns-then-not-fill-clause-reads
returns-then-not-fill-clause-reads g c = reads_fewer 2 4 _ _ _ _ (omega arith) (λ no. absurd no) c.fill.ensures.reads

pub returns-in_default-clause-reads : goal.returns-in_default-clause-reads
returns-in_default-clause-reads g c = reads_fewer 2 4 _ _ _ _ (omega arith) (λ no. absurd no) c.fill.ensures.reads

pub returns-then-room-size-clause-reads : goal.returns-then-room-size-clause-reads
returns-then-room-size-clause-reads g c = reads_fewer 2 4 _ _ _ _ (omega arith) (λ no. absurd no) c.fill.ensures.reads

pub returns-then-not-has_bytes-clause-reads : goal.returns-then-not-has_bytes-clause-reads
returns-then-not-has_bytes-clause-reads g c =
    reads_both 2 2 _ _ _ _ _ _ (λ no. absurd no) (λ no. absurd no) c.fill.ensures.reads c.has_bytes.ensures.reads

pub returns-clause-reads : goal.returns-clause-reads
returns-clause-reads g c =
    let t = c.args.target.now in
    let form = c.in-Some.head.form in
    let n = c.in-Some.head.length in
    let q = c.args.start / t.page in
    let place = c.args.start + c.frame_bytes-size.result - c.close_bytes-close.result in
    let size : c.frame_bytes-size.result ≡ n + frame_overhead form = c.frame_bytes-size.ensures.value in
    let end : last_page t c.args.start form n ≤ q → c.args.start + n + frame_overhead form - 1 < (q + 1) * t.page =
    λ last. below_next_row (c.args.start + n + frame_overhead form - 1) q t.page t.positive last in
    reads_both 2 2 _ _ _ _ _ _
    (λ here. (here.1, omega (arith, overhead form, end here.0)))
    (λ here.
    let page : place / t.page ≡ q =
    div_is q place t.page t.positive
    (omega (arith, overhead form, div-mul-le_self c.args.start t.page, size, c.close_bytes-close.ensures.value))
    (omega (arith, overhead form, end here.0, size, c.close_bytes-close.ensures.value)) in
    let next : (place / t.page + 1) * t.page ≡ (q + 1) * t.page = ap (λ i. (i + 1) * t.page) page in (
      ap (λ h. h.number) c.fill.ensures.reads.near ∙ here.1 ∙ ap Some (sym page),
      omega (arith, overhead form, next, end here.0, size, c.close_bytes-close.ensures.value, length-take c.close_bytes-close.result c.close.result),
    ))
    c.fill.ensures.reads c.has_bytes.ensures.reads

pub returns-clause-claimed : goal.returns-clause-claimed
returns-clause-claimed g c =
    let x = target_of (g.D.PageSource.image c.args.disk.now) c.args.target.now in
    let form = c.in-Some.head.form in
    let v = c.in-Some.head.uuid in
    let n = c.in-Some.head.length in
    let wanted : take c.close_bytes-close.result c.close.result ≡ v ++ mark form =
    closes c.close.result (v ++ mark form) (close_size form) c.close_bytes-close.result
    c.close_bytes-close.ensures.value c.close.ensures in
    record {
      sixteen = omega arith;
      short = omega arith;
      head_stands = rw c.in-Some.ensures.found at (rw c.if-not-fill.false at c.fill.ensures.filled);
      fits = omega (arith, c.if-room-size.false, c.frame_bytes-size.ensures.value);
      close_stands =
          rw
          (← (let e : c.args.start + c.frame_bytes-size.result - c.close_bytes-close.result ≡ c.args.start + n + payload_start form = omega (arith, overhead form, c.frame_bytes-size.ensures.value, c.close_bytes-close.ensures.value) in e))
          (rw wanted at (c.has_bytes.ensures.found.0 c.if-not-has_bytes.false));
    }
