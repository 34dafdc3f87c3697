-- Two images have one text of what became of them, and one verdict, since each part is determined by them.
use Rattle.std.proofs.Common.{◌≡◌, ◌+◌, [], ℕ, Bool, List, Option, get_or, arith, sym, ◌∙◌, ap}
use Rattle.std.proofs.lemmas.List.{same_lists}
use Rattle.std.proofs.lemmas.Option.{slice_get-get_or}
use Rattle.scrub_disk.specs.Image.{Image}
use Rattle.scrub_super.proofs.PageLaws.{one_list_of_pages}
use Rattle.scrub_loose.proofs.OneLoose.{one_loose}
use Rattle.scrub_found.specs.Scrubbed.{Scrubbed}
use Rattle.scrub_found.proofs.OneScrub.{one_scrub, one_scrub_but}
use Rattle.scrub_compare.specs.Written.{AreFirstWritten, IsWrittenIn, IsWrittenInRecords, pointer_in, room_at}
use Rattle.scrub_compare.specs.Compare.{AreCompared, Compared, IsComparison, comparison_text, is_safe}
use Rattle.scrub_compare.proofs.BoundIds.{one_list_of_ids}
use Rattle.scrub_compare.proofs.Least.{one_least}

one_list_of_firsts : (before after : Image) (found_before found_after : Scrubbed) (xs ys : List (Option ℕ)) → AreFirstWritten before after found_before found_after xs →
    AreFirstWritten before after found_before found_after ys → xs ≡ ys
one_list_of_firsts before after found_before found_after xs ys a b =
    same_lists xs ys (omega (arith, a.count, b.count))
    (λ k d below.
    one_least (IsWrittenIn before after (room_at found_before (k + 1)) (pointer_in found_after.plan (k + 1)) (k + 1)) (get_or xs k d) (get_or ys k d)
    (a.each k (get_or xs k d) (slice_get-get_or xs k d below))
    (b.each k (get_or ys k d) (slice_get-get_or ys k d (omega (arith, below, a.count, b.count)))))

module _ (resets : List ℕ) (before after : Image) where
  one_compared : (c d : Compared) → AreCompared resets before after c → AreCompared resets before after d → c ≡ d
  one_compared c d x y = λ i. record {
    before = found_before i;
    after = found_after i;
    after_resets = found_after_resets i;
    loose = loose i;
    loose_now = loose_now i;
    pages = one_list_of_pages before c.pages d.pages x.pages y.pages i;
    pages_now = one_list_of_pages after c.pages_now d.pages_now x.pages_now y.pages_now i;
    first = one_least (IsWrittenInRecords before after) c.first d.first x.first y.first i;
    firsts = firsts i;
    ids = ids i;
  }
    where
      found_before : c.before ≡ d.before
      found_before = one_scrub before c.before d.before x.scrubbed_before y.scrubbed_before

      found_after : c.after ≡ d.after
      found_after = one_scrub after c.after d.after x.scrubbed_after y.scrubbed_after

      found_after_resets : c.after_resets ≡ d.after_resets
      found_after_resets = one_scrub_but resets after c.after_resets d.after_resets x.scrubbed_after_resets y.scrubbed_after_resets

      loose : c.loose ≡ d.loose
      loose = one_loose [] before d.before.plan c.loose d.loose (rw found_before at x.loose) y.loose

      loose_now : c.loose_now ≡ d.loose_now
      loose_now = one_loose resets after d.after_resets.plan c.loose_now d.loose_now (rw found_after_resets at x.loose_now) y.loose_now

      firsts : c.firsts ≡ d.firsts
      firsts =
          one_list_of_firsts before after d.before d.after c.firsts d.firsts (rw (found_before, found_after) at x.firsts) y.firsts

      ids : c.ids ≡ d.ids
      ids =
          one_list_of_ids d.before.bindings d.after_resets.bindings c.ids d.ids (rw (found_before, found_after_resets) at x.ids) y.ids

  -- Two images have at most one comparison with the same resets, and one verdict.
  pub one_comparison_lem : (a b : List ℕ) (v w : Bool) → IsComparison resets before after a v →
      IsComparison resets before after b w → (a ≡ b) × (v ≡ w)
  one_comparison_lem a b v w x y =
      let same = one_compared x.compared y.compared x.are y.are in
      (x.text_is ∙ ap (comparison_text resets) same ∙ sym y.text_is, x.verdict ∙ ap (is_safe resets) same ∙ sym y.verdict)
