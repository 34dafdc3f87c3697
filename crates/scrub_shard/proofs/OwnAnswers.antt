-- If no extent is retired, the answers by the superblock's own list of index runs are as those by the superblock.
use Rattle.std.proofs.Common.{◌≡◌, ◌<◌, [], ℕ, Bool, true, false, List, None, Some, length, map, get_or, arith, refl, sym, ◌∙◌, ap, subst}
use Rattle.std.specs.List.{All}
use Rattle.std.proofs.lemmas.Bool.{false≢true}
use Rattle.std.proofs.lemmas.List.{length-map}
use Rattle.std.proofs.lemmas.List.Elements.{All-contains, All-contains_itself}
use Rattle.std.proofs.lemmas.Option.{none-some, same_Some}
use Rattle.scrub_disk.specs.Image.{Image}
use Rattle.scrub_frame.specs.declared.locator.Locator.{Locator}
use Rattle.scrub_super.specs.Plan.{PlanValue}
use Rattle.scrub_run.specs.declared.shard_id.ShardId.{ShardId}
use Rattle.scrub_merge.proofs.Maps.{bindings_of}
use Rattle.scrub_merge.specs.Binding.{BindingValue}
use Rattle.scrub_check.specs.declared.named.Named.{Named}
use Rattle.scrub_check.specs.declared.runs.RunState.TheVariants.{Read}
use Rattle.scrub_check.specs.declared.statuses.checked.Checked.{Checked}
use Rattle.scrub_check.specs.Checked.{AreChecked, named_of}
use Rattle.scrub_check.specs.Named.{named_by_shard}
use Rattle.scrub_check.specs.Status.{HasStatusIn}
use Rattle.scrub_loose.specs.Anywhere.{IsCrowded}
use Rattle.scrub_loose.specs.Loose.{AreLoose, LooseValue}
use Rattle.scrub_shard.specs.Bytes.{BytesValue}
use Rattle.scrub_shard.specs.Shard.{AreAlike, HaveContentsOf, HaveContentsOfEntryFrom, IsAnswerIn, IsBoundBy, IsEntryAnswer, IsMapped, IsMappedFrom, IsOnNoExtent, IsShardAnswer, IsShardAnswerFrom, Mapped, first_lost, is_payload_lost}
use Rattle.scrub_shard.specs.declared.shard.ShardAnswer.{ShardAnswer}
use Rattle.scrub_shard.specs.declared.shard.ShardAnswer.TheVariants.{NoSuchShard, PayloadLost, Found}
use Rattle.scrub_shard.proofs.ByRuns.{is_lost, on_none}
use Rattle.scrub_shard.proofs.Contents.{bytes_are_asked_for}
use Rattle.scrub_shard.proofs.Lost.{same_place}
use Rattle.scrub_shard.proofs.OneAnswer.{one_bound, one_mapped}
use Rattle.scrub_shard.proofs.OwnList.{same_bindings, same_locator}

same_test : (a b : Bool) → (a ≡ true → b ≡ true) → (b ≡ true → a ≡ true) → a ≡ b
same_test true b there back = sym (there refl)
same_test false true there back = absurd (false≢true (back refl))
same_test false false there back = refl

-- ---- answers

module _ (image : Image) (m : Mapped) (mapped : IsMapped image m) (read : All (λ s. s ≡ Read) m.read.states)
    (sparse : (e : ℕ) → IsCrowded image e → ⊥) (none : m.plan.retired ≡ []) (own : Mapped) (listed : IsMappedFrom (Some m.plan.runs) image own) where
  own_none : own.plan.retired ≡ []
  own_none = ap (λ (p : PlanValue). p.retired) listed.plan

  -- the same payloads are lost
  same_losses : (b : BindingValue) (xs ys : List Checked) (v w : LooseValue) → AreChecked image m.plan (named_by_shard b) xs →
      AreChecked image own.plan (named_by_shard b) ys → AreLoose [] image m.plan v → AreLoose [] image own.plan w →
      first_lost m.all v.frames xs ≡ first_lost own.all w.frames ys
  same_losses b xs ys v w mine theirs are also =
      same_place (is_payload_lost m.all v.frames) (is_payload_lost own.all w.frames) xs ys size each
    where
      same : map named_of xs ≡ map named_of ys
      same = mine.same ∙ sym theirs.same

      size : length xs ≡ length ys
      size = sym (length-map xs named_of) ∙ ap (λ (ns : List Named). length ns) same ∙ length-map ys named_of

      each : (k : ℕ) (d : Checked) → k < length xs →
          is_payload_lost m.all v.frames (get_or xs k d) ≡ is_payload_lost own.all w.frames (get_or ys k d)
      each k d below =
          let x : Checked = get_or xs k d in
          let y : Checked = get_or ys k d in
          let locators : x.locator ≡ y.locator = same_locator xs ys k d same below in
          let x_status : HasStatusIn image m.plan x.locator x.status =
          All-contains (λ (c : Checked). HasStatusIn image m.plan c.locator c.status) xs x mine.statuses (All-contains_itself xs k d below) in
          let y_status : HasStatusIn image own.plan y.locator y.status =
          All-contains (λ (c : Checked). HasStatusIn image own.plan c.locator c.status) ys y theirs.statuses
          (All-contains_itself ys k d (omega (arith, size, below))) in
          same_test (is_payload_lost m.all v.frames x) (is_payload_lost own.all w.frames y)
          (λ lost.
          is_lost (Some m.plan.runs) image own listed w also y y_status
          (subst (λ (l : Locator). IsOnNoExtent image l) locators (on_none None image m mapped v are x x_status none sparse lost)))
          (λ lost.
          is_lost None image m mapped v are x x_status
          (subst (λ (l : Locator). IsOnNoExtent image l) (sym locators)
          (on_none (Some m.plan.runs) image own listed w also y y_status own_none sparse lost)))

  -- an entry of the one map is that of the other
  in_own : (id : ShardId) (b : BindingValue) → IsBoundBy m.bindings id b → IsBoundBy own.bindings id b
  in_own id b bound = subst (λ (bs : List BindingValue). IsBoundBy bs id b) (sym (same_bindings image m own mapped listed read)) bound

  in_mine : (id : ShardId) (b : BindingValue) → IsBoundBy own.bindings id b → IsBoundBy m.bindings id b
  in_mine id b bound = subst (λ (bs : List BindingValue). IsBoundBy bs id b) (same_bindings image m own mapped listed read) bound

  -- the same payload is the first that is lost, or none is
  same_firsts : (id : ShardId) (b c : BindingValue) (r s : ShardAnswer) → IsBoundBy m.bindings id b → IsBoundBy own.bindings id c →
      (x : IsEntryAnswer image m.plan m.all b r) → (y : IsEntryAnswer image own.plan own.all c s) →
      first_lost m.all x.loose.frames x.own ≡ first_lost own.all y.loose.frames y.own
  same_firsts id b c r s bound also x y =
      let entries : c ≡ b = one_bound m.bindings id c b (bindings_of mapped.bindings) (in_mine id c also) bound in
      same_losses b x.own y.own x.loose y.loose x.checked
      (subst (λ (v : BindingValue). AreChecked image own.plan (named_by_shard v) y.own) entries y.checked) x.are_loose y.are_loose

-- The answers are alike.
pub are_alike : (image : Image) (m : Mapped) → IsMapped image m → All (λ s. s ≡ Read) m.read.states → ((e : ℕ) → IsCrowded image e → ⊥) →
    m.plan.retired ≡ [] → (id : ShardId) (a b : ShardAnswer) → IsShardAnswer image id a → IsShardAnswerFrom (Some m.plan.runs) image id b →
    AreAlike m id a b
are_alike image m mapped read sparse none id a b x y = by a b mine y.answer
  where
    is_m : x.found ≡ m
    is_m = one_mapped None image x.found m x.mapped mapped

    mine : IsAnswerIn image m id a
    mine = subst (λ (n : Mapped). IsAnswerIn image n id a) is_m x.answer

    contents_of : (f : BytesValue) → IsShardAnswer image id (Found f) → (v : BindingValue) → IsBoundBy m.bindings id v → HaveContentsOf v.locators f.bytes
    contents_of f z v bound =
        let c : HaveContentsOfEntryFrom None image id f.bytes = bytes_are_asked_for None image id f z in
        let there : IsBoundBy m.bindings id c.entry =
        subst (λ (n : Mapped). IsBoundBy n.bindings id c.entry) (one_mapped None image c.found m c.mapped mapped) c.bound in
        subst (λ (w : BindingValue). HaveContentsOf w.locators f.bytes)
        (one_bound m.bindings id c.entry v (bindings_of mapped.bindings) there bound) c.contents

    other_contents : (g : BytesValue) → IsShardAnswerFrom (Some m.plan.runs) image id (Found g) → (v : BindingValue) → IsBoundBy m.bindings id v →
        HaveContentsOf v.locators g.bytes
    other_contents g z v bound =
        let c : HaveContentsOfEntryFrom (Some m.plan.runs) image id g.bytes = bytes_are_asked_for (Some m.plan.runs) image id g z in
        let there : IsBoundBy m.bindings id c.entry = in_mine image m mapped read sparse none c.found c.mapped id c.entry c.bound in
        subst (λ (w : BindingValue). HaveContentsOf w.locators g.bytes)
        (one_bound m.bindings id c.entry v (bindings_of mapped.bindings) there bound) c.contents

    by : (r s : ShardAnswer) → IsAnswerIn image m id r →
        IsAnswerIn image y.found id s → AreAlike m id r s
    by NoSuchShard NoSuchShard p q = tt
    by NoSuchShard (PayloadLost k) p q = absurd (p q.0 (in_mine image m mapped read sparse none y.found y.mapped id q.0 q.1))
    by NoSuchShard (Found g) p q = absurd (p q.0 (in_mine image m mapped read sparse none y.found y.mapped id q.0 q.1))
    by (PayloadLost n) NoSuchShard p q = absurd (q p.0 (in_own image m mapped read sparse none y.found y.mapped id p.0 p.1))
    by (Found f) NoSuchShard p q = absurd (q p.0 (in_own image m mapped read sparse none y.found y.mapped id p.0 p.1))
    by (PayloadLost n) (PayloadLost k) p q =
        same_Some n k
        (sym p.2.answer ∙ same_firsts image m mapped read sparse none y.found y.mapped id p.0 q.0 (PayloadLost n) (PayloadLost k) p.1 q.1 p.2 q.2 ∙ q.2.answer)
    by (PayloadLost n) (Found g) p q =
        absurd (none-some n
        (sym q.2.answer.0 ∙ sym (same_firsts image m mapped read sparse none y.found y.mapped id p.0 q.0 (PayloadLost n) (Found g) p.1 q.1 p.2 q.2) ∙ p.2.answer))
    by (Found f) (PayloadLost k) p q =
        absurd (none-some k
        (sym p.2.answer.0 ∙ same_firsts image m mapped read sparse none y.found y.mapped id p.0 q.0 (Found f) (PayloadLost k) p.1 q.1 p.2 q.2 ∙ q.2.answer))
    by (Found f) (Found g) p q = record {
      entry = p.0;
      bound = p.1;
      contents = contents_of f (record { found = m; mapped = mapped; answer = p }) p.0 p.1;
      other_contents = other_contents g (record { found = y.found; mapped = y.mapped; answer = q }) p.0 p.1;
      same_doubt =
          q.2.answer.2
          ∙ ap (λ (v : BindingValue). v.doubtful)
          (one_bound m.bindings id q.0 p.0 (bindings_of mapped.bindings) (in_mine image m mapped read sparse none y.found y.mapped id q.0 q.1) p.1)
          ∙ sym p.2.answer.2;
    }
