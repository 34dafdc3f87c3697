-- One more read.
use Rattle.std.proofs.Common.{rules, arith, ◌≡◌, ◌≤◌, ◌<◌, ◌+◌, ◌-◌, ◌*◌, ◌^◌, ◌++◌, ◌∙◌, ap, sym, ℕ, length, length-append, length-drop, min}
use Rattle.std.proofs.lemmas.List.{length-take-le, with_items_is}
use Rattle.std.proofs.Math.Nat.{mul-le-mul_left, mul-le-mul_right}
use Rattle.scrub_disk.specs.declared.geometry.Geometry.{Geometry}
use Rattle.scrub_disk.proofs.PartsRead.{more_pages_read}
use Rattle.scrub_disk.proofs.RawImages.{read_on_more}
use Rattle.scrub_disk.proofs.parted_loading.read_into_block.Goals as goal

-- pages of a disk end within 2^63 bytes
in_range : (g : Geometry) (page at n many : ℕ) → page ≡ g.page → at + n ≤ g.pages * g.extents → many ≡ n * page →
    at * page + many < 2 ^ 63
in_range g page at n many same within few =
    let rows : g.page * (at + n) ≤ g.page * (g.pages * g.extents) = mul-le-mul_left g.page within in
    rw (few, same) (omega (arith, rows, g.total_fits))

-- the reads for some more pages
more_reads : (page own done n len count a b c : ℕ) → own ≡ page → len ≡ n → done + n ≤ count → b ≤ a + (page + 1) * done →
    c ≤ b + (own + 1) * len → (c ≤ a + (page + 1) * (done + n)) × (c ≤ a + (page + 1) * count)
more_reads page own done n len count a b c same all fits before more =
    let more' : c ≤ b + (page + 1) * n = rw (same, all) at more in
    let rows : (page + 1) * (done + n) ≤ (page + 1) * count = mul-le-mul_left (page + 1) fits in
    (omega (arith, before, more'), omega (arith, before, more', rows))

pub read_pages-requires-clause-in_range : goal.read_pages-requires-clause-in_range
read_pages-requires-clause-in_range g c =
    let d = c.args.division in
    let n = c.min-pages.result in
    let page : c.page-page.result ≡ d.geometry.page = search rules in
    let done : c.len-in-loop-alloc-2.result ≡ length c.loop-alloc.marks.items = search rules in
    let left : n ≡ min d.at_once (c.args.count - length c.loop-alloc.marks.items) = search rules in
    let fits : n * d.geometry.page ≤ d.at_once * d.geometry.page = mul-le-mul_right d.geometry.page (omega (arith, left)) in
    let own : n * c.page-page.result ≡ n * d.geometry.page = ap (λ m. n * m) page in
    in_range d.geometry c.page-page.result (c.args.first + c.len-in-loop-alloc-2.result) n _ page
    (omega (arith, left, done, c.loop-alloc.invariant.within, c.requires.in_disk))
    (length-take-le (n * c.page-page.result) c.loop-alloc.buffer (omega (arith, fits, own, c.loop-alloc.invariant.room)))

pub returns-in_err-stored-clause-reads : goal.returns-in_err-stored-clause-reads
returns-in_err-stored-clause-reads g c =
    let n = c.min-pages.result in
    let page : c.page-page.result ≡ c.args.division.geometry.page = search rules in
    let left : n ≡ min c.args.division.at_once (c.args.count - length c.loop-alloc.marks.items) = search rules in
    let asked : length c.deref_mut.result.now ≡ n = ap length c.deref_mut.ensures.value ∙ (let made : length c.in_ok-unreadable.unreadable.items ≡ n = search rules in made) in
    (more_reads c.args.division.geometry.page c.page-page.result (length c.loop-alloc.marks.items) n (length c.deref_mut.result.now)
    c.args.count _ _ _ page asked
    (omega (arith, left, c.loop-alloc.invariant.within)) c.loop-alloc.invariant.reads c.read_pages.ensures.reads).1

pub returns-in_err-extend_from_slice-clause-reads : goal.returns-in_err-extend_from_slice-clause-reads
returns-in_err-extend_from_slice-clause-reads g c =
    let n = c.min-pages.result in
    let page : c.page-page.result ≡ c.args.division.geometry.page = search rules in
    let left : n ≡ min c.args.division.at_once (c.args.count - length c.loop-alloc.marks.items) = search rules in
    let asked : length c.deref_mut.result.now ≡ n = ap length c.deref_mut.ensures.value ∙ (let made : length c.in_ok-unreadable.unreadable.items ≡ n = search rules in made) in
    (more_reads c.args.division.geometry.page c.page-page.result (length c.loop-alloc.marks.items) n (length c.deref_mut.result.now)
    c.args.count _ _ _ page asked
    (omega (arith, left, c.loop-alloc.invariant.within)) c.loop-alloc.invariant.reads c.read_pages.ensures.reads).1

pub loop-alloc-preserved : goal.loop-alloc-preserved
loop-alloc-preserved g c =
    let d = c.args.division in
    let n = c.min-pages.result in
    let old = c.loop-alloc.marks.items in
    let page : c.page-page.result ≡ d.geometry.page = search rules in
    let left : n ≡ min d.at_once (c.args.count - length old) = search rules in
    let within : length old + n ≤ c.args.count = omega (arith, left, c.loop-alloc.invariant.within) in
    let made : length c.in_ok-unreadable.unreadable.items ≡ n = search rules in
    let kept : length c.read_pages.new.unreadable ≡ length c.in_ok-unreadable.unreadable.items = search rules in
    let marked : c.deref.result.now ≡ c.read_pages.new.unreadable =
    c.deref.ensures.value ∙ with_items_is c.in_ok-unreadable.unreadable c.read_pages.new.unreadable (kept ∙ sym c.in_ok-unreadable.unreadable.ok.0) in
    let every : c.extend_from_slice.new.self.items ≡ old ++ c.deref.result.now = search rules in
    let total : length c.extend_from_slice.new.self.items ≡ length old + n =
    ap length every ∙ length-append old c.deref.result.now ∙ ap (λ m. length old + m) (ap length marked ∙ kept ∙ made) in
    let fits : n * d.geometry.page ≤ d.at_once * d.geometry.page = mul-le-mul_right d.geometry.page (omega (arith, left)) in
    let own : n * c.page-page.result ≡ n * d.geometry.page = ap (λ m. n * m) page in
    let bytes : length c.read_pages.new.bytes ≡ n * d.geometry.page =
    c.read_pages.auto.bytes
    ∙ length-take-le (n * c.page-page.result) c.loop-alloc.buffer (omega (arith, fits, own, c.loop-alloc.invariant.room)) ∙ own in
    let both =
    more_pages_read (g.R.RawImage.bytes c.args.raw.now) (g.R.RawImage.bytes c.loop-alloc.raw) (g.R.RawImage.fails c.args.raw.now) c.args.first
    (c.args.first + c.len-in-loop-alloc-2.result) d.geometry.page (length old) n
    (g.R.RawImage.failures c.loop-alloc.raw - g.R.RawImage.failures c.args.raw.now)
    (g.R.RawImage.failures c.read_pages.new.raw - g.R.RawImage.failures c.loop-alloc.raw)
    (g.R.RawImage.failures c.read_pages.new.raw - g.R.RawImage.failures c.args.raw.now)
    c.loop-alloc.block c.add_pages.new.self c.read_pages.new.bytes old c.read_pages.new.unreadable c.deref.result.now
    c.extend_from_slice.new.self.items
    (omega (arith, d.geometry.page_least)) c.loop-alloc.invariant.image.same_bytes
    (let done : c.len-in-loop-alloc-2.result ≡ length old = search rules in omega (arith, done))
    (omega (arith, c.loop-alloc.invariant.image.counted, c.read_pages.ensures.image.counted))
    c.loop-alloc.invariant.size (let e : length old ≡ length old = omega arith in e) bytes (kept ∙ made) marked every
    (rw page at c.in_ok-stored.ensures.added) c.loop-alloc.invariant.read
    (rw page at c.read_pages.ensures.read) (rw (page, c.loop-alloc.invariant.image.same_fails) at c.read_pages.ensures.lost) in
    record {
      image = read_on_more c.loop-alloc.invariant.image c.read_pages.ensures.image;
      reads = rw total
          ((more_reads d.geometry.page c.page-page.result (length old) n (length c.deref_mut.result.now) c.args.count _ _ _ page
          (ap length c.deref_mut.ensures.value ∙ made) within c.loop-alloc.invariant.reads c.read_pages.ensures.reads).0);
      room =
          length-append c.read_pages.new.bytes _
          ∙ omega (arith, bytes, own, fits, length-drop (n * c.page-page.result) c.loop-alloc.buffer, c.loop-alloc.invariant.room);
      within = omega (arith, total, within);
      pages = rw page at c.in_ok-stored.ensures.pages;
      stored = rw page at c.in_ok-stored.ensures.stored;
      few = omega (arith, c.in_ok-stored.ensures.few, c.loop-alloc.invariant.few, total, ap length marked, kept, made);
      size = both.0 ∙ ap (λ m. m * d.geometry.page) (sym total);
      read = both.1;
    }
