-- The order of identifiers, and lists of entries that rise.
use Rattle.std.proofs.Common.{◌≡◌, ◌-◌, Bool, true, IsTrue, ◌↔◌, Some, List, length, get_or, All, arith, refl, sym, ◌∙◌, ap, inl, inr}
use Rattle.std.proofs.lemmas.Bool.{cases_lt, false≢true}
use Rattle.std.proofs.lemmas.List.{get_or_default}
use Rattle.std.specs.Cmp.Lexicographic.{slice_cmp, slice_partial_cmp, lists_agrees, nat_list_cmp_total}
use Rattle.std.specs.Ordering.{nat_cmp, is_lt, is_some_and}
use Rattle.std.specs.declared.cmp.Ordering.{Ordering}
use Rattle.std.specs.declared.cmp.Ordering.TheVariants.{Less, Equal, Greater}
use Rattle.scrub_run.specs.declared.shard_id.ShardId.{ShardId}
use Rattle.scrub_run.specs.Entry.{EntryValue, IsBelow}
use Rattle.scrub_run.specs.Run.{RisesById}

-- what `<` on two identifiers means
pub below_decided : (a b : ShardId) (answer : Bool) → answer ≡ is_some_and is_lt (slice_partial_cmp (λ x y. Some (nat_cmp x y)) a.0 b.0) → IsTrue answer ↔ IsBelow a b
below_decided a b answer e = (λ h. less (slice_cmp nat_cmp a.0 b.0) (sym decided ∙ h), λ h. decided ∙ ap is_lt h)
  where
    decided : answer ≡ is_lt (slice_cmp nat_cmp a.0 b.0)
    decided = e ∙ ap (is_some_and is_lt) (lists_agrees (λ x y. refl) a.0 b.0)

    less : (o : Ordering) → is_lt o ≡ true → o ≡ Less
    less Less h = refl
    less Equal h = absurd (false≢true h)
    less Greater h = absurd (false≢true h)

pub IsBelow-trans : (a b c : ShardId) → IsBelow a b → IsBelow b c → IsBelow a c
IsBelow-trans a b c h k = nat_list_cmp_total.trans a.0 b.0 c.0 h k

-- an identifier above the last of entries that rise is above them all
pub above_all : (xs : List EntryValue) (last : EntryValue) (id : ShardId) → RisesById xs → last ≡ get_or xs (length xs - 1) last → IsBelow last.id id → All (λ e. IsBelow e.id id) xs
above_all xs last id rising is below k d hk = elim (cases_lt k (length xs - 1)) [
  | inl before ↦ IsBelow-trans (get_or xs k d).id last.id id
      (rw at_end at (rising k (length xs - 1) d before (omega arith))) below
  | inr at_last ↦
      let e : k ≡ length xs - 1 = omega arith in
      let same : get_or xs k d ≡ last = ap (λ j. get_or xs j d) e ∙ at_end in
      rw same below
]
  where
    at_end : get_or xs (length xs - 1) d ≡ last
    at_end = get_or_default xs (length xs - 1) d last (omega (arith, hk)) ∙ sym is
