-- The pages before that of the pointer are known by the tiling; and one more page.
use Rattle.std.proofs.Common.{arith, sym, ap, ◌∙◌, ◌≡◌, ◌≤◌, ◌+◌, ◌*◌, ◌/◌, ◌++◌, ◌∷◌, [], max, not, is_none, inl}
use Rattle.std.proofs.Math.Nat.{mul-le-mul_left, div-mul-le_self}
use Rattle.list_facts.proofs.Filters.{filter_range-no, filter_range-yes}
use Rattle.scrub_disk.specs.Image.{image_byte, extent_bytes}
use Rattle.scrub_scan.specs.Findings.{unreadable_below}
use Rattle.scrub_scan.proofs.LostItems.{lost_pages_listed}
use Rattle.scrub_scan.proofs.ReadPages.{read_next, all_read, pages_before}
use Rattle.scrub_scan.proofs.Tails.{tail_none, tail_later}
use Rattle.scrub_scan.proofs.tail.tail_and_lost_pages.Goals as goal
use Rattle.scrub_scan.proofs.tail.tail_and_lost_pages.Goals.{then-not-load_near+in_ok-push, else-not-load_near}

pub loop-page-init : goal.loop-page-init
loop-page-init g c =
    let image = g.D.PageSource.image c.args.disk.now in
    let t = c.args.target.now in
    let at = image_byte image t.extent in
    let size = extent_bytes image.geometry in
    record {
      held = c.requires.held;
      read = c.requires.read;
      bad_pages =
          c.in_ok-bad_pages.ensures
          ∙ lost_pages_listed image t c.geometry.ensures.whole_pages c.requires.target c.args.items.now c.requires.tiling;
      tail =
          tail_later at t.pointer t.pointer (max t.pointer (t.pointer / t.page * t.page)) size 0 _
          (omega (arith, div-mul-le_self t.pointer t.page)) (tail_none at t.pointer size c.requires.target.in_extent);
      asked = omega arith;
    }

pub loop-page-preserved : goal.loop-page-preserved
loop-page-preserved g c =
    let image = g.D.PageSource.image c.args.disk.now in
    let t = c.args.target.now in
    let pages : c.pages-page-end.result ≡ image.geometry.pages =
    c.pages-page-end.ensures ∙ ap (λ x. x.pages) c.geometry.ensures.value in
    let next : c.loop-page.page + 1 ≤ image.geometry.pages = omega (arith, pages, c.loop-page-test.true) in
    let room : image.geometry.page * (c.loop-page.page + 1) ≤ image.geometry.page * image.geometry.pages =
    mul-le-mul_left image.geometry.page next in
    let same : (c.loop-page.page + 1) * t.page ≡ (c.loop-page.page + 1) * image.geometry.page =
    ap (λ p. (c.loop-page.page + 1) * p) c.requires.target.page in
    record {
      held = c.load_near.ensures.held;
      read =
          read_next c.load_near.new.self c.loop-page.page (inl c.load_near.ensures.number)
          (c.load_near.ensures.read c.loop-page.page c.loop-page.invariant.read);
      bad_pages = elim c.if-not-load_near.branch [
        | then-not-load_near+in_ok-push w ↦
            ap (λ v. v.items) w.bad_pages-is ∙ w.in_ok-push.ensures.items
            ∙ ap (λ xs. xs ++ c.loop-page.page ∷ []) c.loop-page.invariant.bad_pages
            ∙ sym
            (filter_range-yes (λ q. is_none (image.page t.extent q)) c.loop-page.page (c.load_near.ensures.readable ∙ ap not w.if-not-load_near.true))
        | else-not-load_near w ↦
            ap (λ v. v.items) w.bad_pages-is ∙ c.loop-page.invariant.bad_pages
            ∙ sym
            (filter_range-no (λ q. is_none (image.page t.extent q)) c.loop-page.page (c.load_near.ensures.readable ∙ ap not w.if-not-load_near.false))
      ];
      tail =
          c.tail_more-tail.ensures image (extent_bytes image.geometry) c.requires.target c.load_near.ensures.held
          c.loop-page.invariant.tail (omega (arith, room, same));
      asked = omega (
        arith,
        c.loop-page.invariant.asked,
        c.load_near.ensures.asked c.loop-page.pages.asked (record { most = omega arith; unread = λ _. omega arith }),
      );
    }

pub returns-clause-each : goal.returns-clause-each
returns-clause-each g c =
    let image = g.D.PageSource.image c.args.disk.now in
    let pages : c.pages-page-end.result ≡ image.geometry.pages =
    c.pages-page-end.ensures ∙ ap (λ x. x.pages) c.geometry.ensures.value in
    let last : c.loop-page.page ≡ image.geometry.pages =
    omega (
      arith,
      c.loop-page-test.false,
      c.loop-page.auto.page-end,
      pages,
      pages_before image c.args.target.now c.requires.target,
    ) in
    all_read c.loop-page.pages image.geometry.pages (omega (arith, image.geometry.pages_most))
    (rw last at c.loop-page.invariant.read)

pub returns-clause-bad_pages : goal.returns-clause-bad_pages
returns-clause-bad_pages g c =
    let image = g.D.PageSource.image c.args.disk.now in
    let pages : c.pages-page-end.result ≡ image.geometry.pages =
    c.pages-page-end.ensures ∙ ap (λ x. x.pages) c.geometry.ensures.value in
    let last : c.loop-page.page ≡ image.geometry.pages =
    omega (
      arith,
      c.loop-page-test.false,
      c.loop-page.auto.page-end,
      pages,
      pages_before image c.args.target.now c.requires.target,
    ) in
    c.loop-page.invariant.bad_pages ∙ ap (unreadable_below image c.args.target.now.extent) last
