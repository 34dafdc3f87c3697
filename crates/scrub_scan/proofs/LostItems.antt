-- The unreadable pages that follow from a tiling: those whose ends its lost items reach.
use Rattle.std.proofs.Common.{◌≡◌, ◌<◌, ◌≤◌, ◌+◌, ◌-◌, ◌*◌, ◌/◌, ◌++◌, ℕ, List, [], ◌∷◌, true, false, cond, length, is_none, arith, refl, sym, ◌∙◌, ap, inl, inr, Option, Some, None, All, append_assoc}
use Rattle.std.specs.List.{filter_map, cons_option}
use Rattle.std.proofs.Math.Nat.{mul-le-mul_left, div-mul-le_self}
use Rattle.std.proofs.lemmas.Bool.{cases_lt, lt-ltb, le-ltb}
use Rattle.std.proofs.lemmas.Nat.{le-div, div_below}
use Rattle.std.proofs.lemmas.Option.{none-some}
use Rattle.std.proofs.lemmas.List.{append-nil}
use Rattle.std.proofs.lemmas.List.Elements.{All-head, All-tail}
use Rattle.list_facts.proofs.Arithmetic.{div_rises, div_up_to_next_row, place_in_row}
use Rattle.list_facts.proofs.Filters.{filter_range-none_more, filter_range-yes}
use Rattle.scrub_disk.specs.Image.{Image, image_byte, extent_bytes, HasWholePages}
use Rattle.scrub_frame.specs.Frame.{frame_of, frame_overhead}
use Rattle.scrub_frame.proofs.Frames.{length-frame, overhead}
use Rattle.scrub_scan.specs.declared.item.Item.{Item}
use Rattle.scrub_scan.specs.declared.item.Item.TheVariants.{Chunk, Pad, Torn, Noise, Lost}
use Rattle.scrub_scan.specs.declared.pages.Target.{Target}
use Rattle.scrub_scan.specs.Extent.{bound_above}
use Rattle.scrub_scan.specs.Item.{start_of, stop_of, IsItem}
use Rattle.scrub_scan.specs.Findings.{unreadable_below, lost_page}
use Rattle.scrub_scan.specs.steps.Pages.{IsTarget, target_of}
use Rattle.scrub_scan.specs.Tiling.{Joins, IsTiling}
use Rattle.scrub_scan.proofs.BytesAt.{page_byte}
use Rattle.scrub_scan.proofs.Passing.{gap_byte}
use Rattle.scrub_scan.proofs.Tilings.{advances}

-- a page with a readable byte can be read
readable_page : (image : Image) (e i page : ℕ) → page ≡ image.geometry.page → ¬ (image_byte image e i ≡ None) →
    is_none (image.page e (i / page)) ≡ false
readable_page image e i page same there = by_page (image.page e (i / page)) refl
  where
    by_page : (r : Option (List ℕ)) → image.page e (i / page) ≡ r → is_none r ≡ false
    by_page None none = absurd (there (gap_byte image e i page same none))
    by_page (Some bytes) is = refl

-- a page of the extent with an unreadable byte can't
unreadable_page : (image : Image) (e i page : ℕ) → HasWholePages image → page ≡ image.geometry.page →
    e < image.geometry.extents → i < extent_bytes image.geometry → image_byte image e i ≡ None →
    is_none (image.page e (i / page)) ≡ true
unreadable_page image e i page whole same disk within gap =
    ap (λ p. is_none (image.page e (i / p))) same
    ∙ page_byte image e i (image.page e (i / image.geometry.page)) whole disk within refl gap

module _ (image : Image) (t : Target) (whole : HasWholePages image) (is : IsTarget image t) where
  -- if each page from one place up to another can be read, no unreadable page is added
  pages_readable : (a b : ℕ) → a ≤ b →
      ((q : ℕ) → a / t.page ≤ q → q < b / t.page → is_none (image.page t.extent q) ≡ false) →
      unreadable_below image t.extent (b / t.page) ≡ unreadable_below image t.extent (a / t.page) ++ []
  pages_readable a b up readable =
      let rises : a / t.page ≤ b / t.page = div_rises a b t.page t.positive up in
      let e : a / t.page + (b / t.page - a / t.page) ≡ b / t.page = omega (arith, rises) in
      ap (unreadable_below image t.extent) (sym e)
      ∙ filter_range-none_more (λ q. is_none (image.page t.extent q)) (a / t.page) (b / t.page - a / t.page)
      (λ q low high. readable q low (omega (arith, high, e)))
      ∙ sym (append-nil (unreadable_below image t.extent (a / t.page)))

  -- so also if a part up to a bound begins with a readable byte
  one_readable : (a b : ℕ) → a ≤ b → b ≤ (a / t.page + 1) * t.page → ¬ (image_byte image t.extent a ≡ None) →
      unreadable_below image t.extent (b / t.page) ≡ unreadable_below image t.extent (a / t.page) ++ []
  one_readable a b up within there =
      pages_readable a b up (λ q low high.
      let same : a / t.page ≡ q = omega (arith, low, high, div_up_to_next_row a b t.page t.positive within) in
      ap (λ k. is_none (image.page t.extent k)) (sym same) ∙ readable_page image t.extent a t.page is.page there)

  -- a bound of the extent, in the target's own page size
  bound_at : (a b : ℕ) → b ≡ bound_above (target_of image t) a → b ≤ (a / t.page + 1) * t.page
  bound_at a b h =
      let same : (a / image.geometry.page + 1) * image.geometry.page ≡ (a / t.page + 1) * t.page =
      ap (λ p. (a / p + 1) * p) (sym is.page) in
      omega (arith, h, same)

  -- the unreadable pages up to the end of an item, and those up to its start
  lost_in_item : (item : Item) → IsItem (target_of image t) item →
      unreadable_below image t.extent (stop_of item / t.page) ≡ unreadable_below image t.extent (start_of item / t.page) ++ cons_option (lost_page t.page item) []
  lost_in_item (Chunk f start stop u n digest) h =
      let size : length (frame_of f u h.fits.0) ≡ frame_overhead f + length h.fits.0 =
      length-frame f u h.fits.0 h.fits.1.has_frame.sixteen in
      pages_readable start stop (omega (arith, overhead f, h.fits.2)) (λ q low high.
      let last : q ≤ (stop - 1) / t.page = le-div q (stop - 1) t.page t.positive
      (let next : q + 1 ≤ stop / t.page = omega (arith, high) in omega (arith, mul-le-mul_left t.page next, div-mul-le_self stop t.page, t.positive)) in
      let here = place_in_row q start stop t.page t.positive (omega (arith, overhead f, h.fits.2)) low last in
      let j : start + (here.0 - start) ≡ here.0 = omega (arith, here.1) in
      ap (λ r. is_none (image.page t.extent r)) (sym here.3)
      ∙ readable_page image t.extent here.0 t.page is.page (λ none.
      none-some _
      (sym none ∙ ap (image_byte image t.extent) (sym j) ∙ h.fits.1.stands (here.0 - start) (omega (arith, here.1, here.2, h.fits.2, size)))))
  lost_in_item (Pad start stop) h =
      let up = advances (target_of image t) (Pad start stop) (omega (arith, t.positive, is.page)) h in
      one_readable start stop (omega (arith, up.0)) (bound_at start stop h.fits.0)
      (λ none. none-some _ (sym none ∙ h.fits.2 start (omega arith) (omega (arith, up.0, h.fits.0))))
  lost_in_item (Torn start stop) h =
      let up = advances (target_of image t) (Torn start stop) (omega (arith, t.positive, is.page)) h in
      one_readable start stop (omega (arith, up.0)) (bound_at start stop h.fits.0) h.fits.2
  lost_in_item (Noise start stop) h =
      let up = advances (target_of image t) (Noise start stop) (omega (arith, t.positive, is.page)) h in
      one_readable start stop (omega (arith, up.0)) (bound_at start stop h.fits.0) h.fits.2
  lost_in_item (Lost start stop) h =
      let up = advances (target_of image t) (Lost start stop) (omega (arith, t.positive, is.page)) h in
      let next = div_up_to_next_row start stop t.page t.positive (bound_at start stop h.fits.0) in
      let rises = div_rises start stop t.page t.positive (omega (arith, up.0)) in
      elim (cases_lt (start / t.page) (stop / t.page)) [
        | inl passed ↦
            let e : stop / t.page ≡ start / t.page + 1 = omega (arith, passed, next) in
            ap (unreadable_below image t.extent) e
            ∙ filter_range-yes (λ q. is_none (image.page t.extent q)) (start / t.page)
            (unreadable_page image t.extent start t.page whole is.page is.in_extents (omega (arith, h.below, is.in_extent)) h.fits.2)
            ∙ ap
            (λ b. unreadable_below image t.extent (start / t.page) ++ cons_option (cond b (Some (start / t.page)) None) [])
            (sym (lt-ltb (start / t.page) (stop / t.page) passed))
        | inr stays ↦
            let e : stop / t.page ≡ start / t.page = omega (arith, stays, rises) in
            ap (unreadable_below image t.extent) e
            ∙ sym (append-nil (unreadable_below image t.extent (start / t.page)))
            ∙ ap
            (λ b. unreadable_below image t.extent (start / t.page) ++ cons_option (cond b (Some (start / t.page)) None) [])
            (sym (le-ltb (start / t.page) (stop / t.page) stays))
      ]

  -- and up to the end of all items that join from a place
  lost_in_items : (a w : ℕ) (items : List Item) → Joins a w items → All (IsItem (target_of image t)) items →
      unreadable_below image t.extent (w / t.page) ≡ unreadable_below image t.extent (a / t.page) ++ filter_map (lost_page t.page) items
  lost_in_items a w [] joined each =
      ap (λ k. unreadable_below image t.extent (k / t.page)) (sym joined)
      ∙ sym (append-nil (unreadable_below image t.extent (a / t.page)))
  lost_in_items a w (item ∷ items) joined each =
      lost_in_items (stop_of item) w items joined.1 (All-tail (IsItem (target_of image t)) item items each)
      ∙ ap (λ known. known ++ filter_map (lost_page t.page) items)
      (lost_in_item item (All-head (IsItem (target_of image t)) item items each) ∙ ap (λ k. unreadable_below image t.extent (k / t.page) ++ cons_option (lost_page t.page item) []) joined.0)
      ∙ append_assoc (unreadable_below image t.extent (a / t.page)) (cons_option (lost_page t.page item) [])
      (filter_map (lost_page t.page) items)
      ∙ ap (λ more. unreadable_below image t.extent (a / t.page) ++ more)
      (joined_option (lost_page t.page item) (filter_map (lost_page t.page) items))
    where
      joined_option : (o : Option ℕ) (xs : List ℕ) → cons_option o [] ++ xs ≡ cons_option o xs
      joined_option None xs = refl
      joined_option (Some x) xs = refl

  -- the lost items of a tiling give the unreadable pages before that of the pointer
  pub lost_pages_listed : (items : List Item) → IsTiling (target_of image t) items →
      filter_map (lost_page t.page) items ≡ unreadable_below image t.extent (t.pointer / t.page)
  lost_pages_listed items h =
      sym
      (lost_in_items 0 t.pointer items h.joined h.each ∙ ap (λ k. unreadable_below image t.extent k ++ filter_map (lost_page t.page) items) (none_before t.page t.positive))
    where
      none_before : (p : ℕ) → 0 < p → 0 / p ≡ 0
      none_before p positive =
          let below : 0 / p < 1 = div_below 0 p 1 positive (omega (arith, positive)) in
          omega (arith, below)
