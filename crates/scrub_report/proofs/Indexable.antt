-- The recovered index is a run, since the bindings are few enough for one.
use Rattle.std.proofs.Common.{Bool, not, List, [], ◌∷◌, map, zero, suc, arith, refl}
use Rattle.std.specs.List.{AllPairs, filter}
use Rattle.std.proofs.lemmas.List.{length-map}
use Rattle.std.proofs.lemmas.List.Elements.{All-filter, All-map}
use Rattle.std.proofs.lemmas.List.Filters.{length-filter_both}
use Rattle.std.proofs.lemmas.List.Kept.{AllPairs-filter}
use Rattle.scrub_disk.specs.Image.{Image}
use Rattle.scrub_run.specs.Entry.{EntryValue, IsBelow}
use Rattle.scrub_run.specs.Run.{AreEntries, RisesById}
use Rattle.scrub_run.specs.steps.Parts.{IsEntry}
use Rattle.scrub_merge.specs.Binding.{BindingValue}
use Rattle.scrub_check.specs.Checked.{is_broken}
use Rattle.scrub_report.specs.Index.{index_entries}
use Rattle.scrub_found.specs.Scrubbed.{Scrubbed, IsScrubbed}
use Rattle.scrub_found.proofs.FewBindings.{countable, entries_are, indexed}

-- ---- the index is a run

indexed_rise : (bs : List BindingValue) → AllPairs (λ b c. IsBelow b.id c.id) bs → RisesById (map indexed bs)
indexed_rise [] rising i j d order here = absurd (omega (arith, here))
indexed_rise (b ∷ bs) rising i zero d order here = absurd (omega (arith, order))
indexed_rise (b ∷ bs) rising zero (suc j) d order here =
    All-map (λ (e : EntryValue). IsBelow b.id e.id) indexed bs
    (λ k c hk. rising zero (suc k) c (omega arith) (omega (arith, hk))) j d (omega (arith, here))
indexed_rise (b ∷ bs) rising (suc i) (suc j) d order here =
    indexed_rise bs (λ k l c before within. rising (suc k) (suc l) c (omega (arith, before)) (omega (arith, within))) i
    j d (omega (arith, order)) (omega (arith, here))

abbrev is_kept : Scrubbed → BindingValue → Bool
is_kept s b = not (is_broken s.checked b.id)

-- The recovered index has the entries of a run: few enough, and by ascending identifier.
pub index_run : (image : Image) (s : Scrubbed) → IsScrubbed image s → AreEntries (index_entries s.checked s.bindings)
index_run image s x = record {
  count =
      let all = length-filter_both (is_kept s) (λ b. not (is_kept s b)) (λ b. refl) s.bindings in
      omega (arith, countable [] image s x, all, length-map (filter (is_kept s) s.bindings) indexed);
  each =
      All-map IsEntry indexed (filter (is_kept s) s.bindings)
      (All-filter (is_kept s) (λ b. IsEntry (indexed b)) s.bindings (entries_are [] image s x));
  rising =
      indexed_rise (filter (is_kept s) s.bindings)
      (AllPairs-filter (λ b c. IsBelow b.id c.id) (is_kept s) s.bindings x.bindings.rising);
}
