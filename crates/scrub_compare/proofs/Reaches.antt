-- How far the records of extent 0 reach, and the first byte there that changed and may not, page by page.
use Rattle.std.proofs.Common.{◌≡◌, ◌<◌, ◌≤◌, ◌+◌, ◌*◌, ◌-◌, ◌/◌, ℕ, [], false, Option, Some, None, max, arith, refl, sym, ◌∙◌, ap, subst}
use Rattle.std.proofs.lemmas.Option.{none-some}
use Rattle.scrub_disk.specs.declared.buffered_extent.BufferedExtent.{BufferedExtent}
use Rattle.scrub_disk.specs.declared.geometry.Geometry.{Geometry}
use Rattle.scrub_disk.specs.Buffered.{IsBuffered}
use Rattle.scrub_disk.specs.Image.{Image, extent_bytes}
use Rattle.scrub_disk.proofs.PagesRead.{page_fits}
use Rattle.scrub_super.specs.declared.pages.SuperblockPage.{SuperblockPage}
use Rattle.scrub_super.specs.declared.pages.SuperblockPage.TheVariants.{Lost, Record, Damaged, Stray, Held}
use Rattle.scrub_super.specs.Pages.{HasRecord, IsHeldByte, IsSuperblockPage}
use Rattle.scrub_super.specs.steps.PagesFound.{IsRecordReach}
use Rattle.scrub_super.proofs.PageLaws.{readable_of}
use Rattle.scrub_super.proofs.PageSteps.{below_held, held_below, reach_kept, reach_more}
use Rattle.scrub_compare.specs.Written.{IsWrittenInRecords}
use Rattle.scrub_compare.specs.steps.Changes.{IsFirstWithin, IsLeastWithin, is_refused_at, is_refused_in, reach_with}
use Rattle.scrub_compare.proofs.ChangedBytes.{page_of_place, record_unwritten_if, record_written_if, refused_read}
use Rattle.scrub_compare.proofs.Least.{tested}

-- ---- one page more

module _ (image : Image) (q : ℕ) where
  -- no record begins on an unreadable page
  lost_none : image.page 0 q ≡ None → HasRecord image q → ⊥
  lost_none lost (c, stands) = none-some [] (sym lost ∙ readable_of {bytes = []} false lost stands)

  -- how far records reach with this page
  pub reach_page : (held : SuperblockPage) → IsSuperblockPage image q held → {reach : ℕ} → IsRecordReach image q reach →
      IsRecordReach image (q + 1) (reach_with reach held)
  reach_page Lost is so_far = reach_kept so_far (lost_none is)
  reach_page (Record kind generation to rank stray) is {reach} so_far =
      reach_more so_far {new = max reach to} {f = record { kind = kind; generation = generation; to = to }} refl
      (is.0, is.1, record { kind = is.2; generation = is.3; to = is.4 })
  reach_page (Damaged kind) is so_far = reach_kept so_far is.1.no_record
  reach_page Stray is so_far = reach_kept so_far is.1.no_record
  reach_page Held is so_far = reach_kept so_far is.1.no_record

-- ---- the first byte of a page

module _ (before after : Image) (sizes : after.geometry ≡ before.geometry) (old new : BufferedExtent)
    (was : IsBuffered before 0 old.bytes.items old.readable.items) (is : IsBuffered after 0 new.bytes.items new.readable.items) where
  -- The first byte of a page of extent 0 that is refused is the first that changed and may not.
  pub record_page_least : (page size reach : ℕ) (r : Option ℕ) → size ≡ after.geometry.page → page < after.geometry.pages →
      IsRecordReach after (page + 1) reach →
      IsFirstWithin (page * size) (page * size + size) (is_refused_at old new (Some 0) reach page) r →
      IsLeastWithin (page * after.geometry.page) (page * after.geometry.page + after.geometry.page) (IsWrittenInRecords before after) r
  record_page_least page size reach r same inside reached first =
      tested (page * per) (page * per + per) (is_refused_at old new (Some 0) reach page) (IsWrittenInRecords before after) r
      (λ p low high refused. record_written_if before after p reach (held p low high) (below p low high) (sym (number p low high) ∙ refused))
      (λ p low high passed. record_unwritten_if before after p reach (held p low high) (below p low high) (sym (number p low high) ∙ passed))
      (subst (λ (n : ℕ). IsFirstWithin (page * n) (page * n + n) (is_refused_at old new (Some 0) reach page) r) same first)
    where
      per : ℕ
      per = after.geometry.page

      fits : page * per + per ≤ extent_bytes before.geometry
      fits =
          page_fits per page after.geometry.pages (extent_bytes before.geometry) inside
          (ap (λ (g : Geometry). extent_bytes g) (sym sizes))

      number : (p : ℕ) → page * per ≤ p → p < page * per + per →
          is_refused_at old new (Some 0) reach page p ≡ is_refused_in before after (Some 0) reach 0 p
      number p low high =
          ap (λ (q : ℕ). is_refused_at old new (Some 0) reach q p)
          (sym (ap (λ (g : Geometry). p / g.page) (sym sizes) ∙ page_of_place page per p low high))
          ∙ refused_read before after sizes 0 old new was is (Some 0) reach p (omega (arith, high, fits))

      place : (p : ℕ) → page * per ≤ p → page * per + (p - page * per) ≡ p
      place p low = omega (arith, low)

      held : (p : ℕ) → page * per ≤ p → p < page * per + per → p < reach → IsHeldByte after p
      held p low high less =
          subst (λ (n : ℕ). IsHeldByte after n) (place p low)
          (held_below page reached (p - page * per) (omega (arith, less, place p low)))

      below : (p : ℕ) → page * per ≤ p → p < page * per + per → IsHeldByte after p → p < reach
      below p low high here =
          let less : page * per + (p - page * per) < reach =
          below_held page reached (p - page * per) (omega (arith, low, high))
          (subst (λ (n : ℕ). IsHeldByte after n) (sym (place p low)) here) in
          omega (arith, less, place p low)
