-- The index runs of the superblock that counts, given as its own list: the shard map is the same, and each shard that has bytes has bytes.
use Rattle.std.proofs.Common.{◌≡◌, ◌<◌, ◌≤◌, ◌-◌, ◌*◌, ◌==◌, ◌∷◌, [], ℕ, Bool, true, false, List, Option, None, Some, length, map, get_or, replicate, slice_get, if◌then◌else◌, arith, refl, sym, ◌∙◌, ap, subst}
use Rattle.std.specs.List.{All, AllZip, Contains, zip}
use Rattle.std.proofs.lemmas.Bool.{false≢true}
use Rattle.std.proofs.lemmas.Bool.Decides.{nat_tests}
use Rattle.std.proofs.lemmas.List.{get_or-map, get_or-replicate, length-map, length-replicate}
use Rattle.std.proofs.lemmas.List.Elements.{All-contains, All-contains_itself, All-head, All-tail}
use Rattle.std.proofs.lemmas.Option.{none-some, slice_get-get_or}
use Rattle.scrub_disk.specs.declared.geometry.Geometry.{Geometry}
use Rattle.scrub_disk.specs.Image.{Image, extent_bytes}
use Rattle.scrub_frame.specs.declared.locator.Locator.{Locator}
use Rattle.scrub_super.specs.GivenRuns.{plan_listing}
use Rattle.scrub_super.specs.Plan.{IsPlan, PlanValue, pointer_of}
use Rattle.scrub_super.specs.steps.Limits.{AreRunLocators}
use Rattle.scrub_super.proofs.PlansFit.{plan_fits}
use Rattle.scrub_run.specs.declared.shard_id.ShardId.{ShardId}
use Rattle.scrub_run.specs.Entry.{EntryValue}
use Rattle.scrub_merge.specs.Binding.{BindingValue, Runs}
use Rattle.scrub_merge.proofs.Maps.{bindings_of, one_shard_map_lem}
use Rattle.scrub_check.specs.declared.named.Named.{Named}
use Rattle.scrub_check.specs.declared.runs.RunState.{RunState}
use Rattle.scrub_check.specs.declared.runs.RunState.TheVariants.{Read, NotARun}
use Rattle.scrub_check.specs.declared.statuses.checked.Checked.{Checked}
use Rattle.scrub_check.specs.declared.statuses.status.Status.{Status}
use Rattle.scrub_check.specs.Checked.{AreChecked, is_dangling, named_of}
use Rattle.scrub_check.specs.Named.{named_by_shard}
use Rattle.scrub_check.specs.Runs.{HasRunIn, NamesChunkIn}
use Rattle.scrub_check.specs.Status.{HasStatusIn, is_retired}
use Rattle.scrub_check.proofs.Payloads.{lost_in, read_in, within}
use Rattle.scrub_check.proofs.IndexRuns.{one_list_of_runs, read_runs_are_runs}
use Rattle.scrub_loose.specs.Anywhere.{IsCrowded}
use Rattle.scrub_shard.specs.Bytes.{BytesValue}
use Rattle.scrub_shard.specs.Shard.{HasBytesByOwnList, HaveContentsOf, HaveContentsOfEntryFrom, IsBoundBy, IsEntryAnswer, IsMapped, IsMappedFrom, IsShardAnswer, IsShardAnswerFrom, IsOnNoExtent, Mapped, first_lost, is_payload_lost}
use Rattle.scrub_shard.specs.declared.shard.ShardAnswer.{ShardAnswer}
use Rattle.scrub_shard.specs.declared.shard.ShardAnswer.TheVariants.{NoSuchShard, PayloadLost, Found}
use Rattle.scrub_shard.proofs.ByRuns.{is_lost, on_none}
use Rattle.scrub_shard.proofs.Contents.{bytes_are_asked_for}
use Rattle.scrub_shard.proofs.Existing.{some_shard_answer}
use Rattle.scrub_shard.proofs.Lost.{first_passes, none_passes, not_dangling}
use Rattle.scrub_shard.proofs.OneAnswer.{one_bound, one_mapped}

-- ---- chunks that are named

-- by the plan that lists runs, each extent's pointer is at its end
full_pointer : (g : Geometry) (runs : List Locator) (e : ℕ) → 1 ≤ e → e < g.extents → pointer_of (plan_listing g runs) e ≡ Some (extent_bytes g)
full_pointer g runs e first below =
    ap (λ (b : Bool). if b then None else slice_get (replicate (g.extents - 1) (g.page * g.pages)) (e - 1)) other
    ∙ slice_get-get_or (replicate (g.extents - 1) (g.page * g.pages)) (e - 1) 0
    (let size : length (replicate (g.extents - 1) (g.page * g.pages)) ≡ g.extents - 1 = length-replicate (g.extents - 1) (g.page * g.pages) in
    omega (arith, size, first, below))
    ∙ ap (λ (n : ℕ). Some n) (get_or-replicate (g.extents - 1) (e - 1) (g.page * g.pages) 0 (omega (arith, first, below)))
  where
    other : (e == 0) ≡ false
    other = grind (arith, nat_tests)

module _ (image : Image) (m own : Mapped) (mapped : IsMapped image m) (listed : IsMappedFrom (Some m.plan.runs) image own) where
  plan_is : own.plan ≡ plan_listing image.geometry m.plan.runs
  plan_is = listed.plan ∙ ap (λ (g : Geometry). plan_listing g m.plan.runs) listed.choice.geometry

  -- a chunk that is named by the superblock's plan is named under the pointer at the end
  named_by_own : (l : Locator) → NamesChunkIn image m.plan l → NamesChunkIn image own.plan l
  named_by_own l n = record {
    in_use = ap (λ (p : PlanValue). is_retired p l.extent) plan_is;
    pointer = extent_bytes image.geometry;
    has_pointer =
        ap (λ (p : PlanValue). pointer_of p l.extent) plan_is
        ∙ full_pointer image.geometry m.plan.runs l.extent n.chunk.found.can.in_range.from_one n.chunk.found.can.in_range.in_disk;
    chunk = record {
      payload = n.chunk.payload;
      found = record {
        can = record {
          in_range = n.chunk.found.can.in_range;
          below = n.chunk.found.can.in_range.in_extent;
          readable = n.chunk.found.can.readable;
        };
        form = n.chunk.found.form;
        frame = within image l.extent n.pointer l.offset n.chunk.found.form l.uuid n.chunk.payload n.chunk.found.frame;
      };
      length = n.chunk.length;
      digest = n.chunk.digest;
    };
  }

  -- ---- the shard map

  read_run : (l : Locator) (run : Option (List EntryValue)) (state : RunState) → state ≡ Read → HasRunIn image m.plan l run state →
      HasRunIn image own.plan l run state
  unfolding named_by_own
  read_run l run state is h =
      subst (λ (s : RunState). HasRunIn image own.plan l run s) (sym is)
      (by run (subst (λ (s : RunState). HasRunIn image m.plan l run s) is h))
    where
      by : (r : Option (List EntryValue)) → HasRunIn image m.plan l r Read → HasRunIn image own.plan l r Read
      by None x = absurd x
      by (Some entries) x = (named_by_own l x.0, x.1)

  read_runs : (ls : List Locator) (runs : Runs) (states : List RunState) → All (λ s. s ≡ Read) states →
      AllZip (λ (l : Locator) x. HasRunIn image m.plan l x.0 x.1) ls (zip runs states) →
      AllZip (λ (l : Locator) x. HasRunIn image own.plan l x.0 x.1) ls (zip runs states)
  read_runs [] [] states read each = tt
  read_runs [] (r ∷ rs) [] read each = tt
  read_runs [] (r ∷ rs) (s ∷ ss) read each = absurd each
  read_runs (l ∷ ls) [] states read each = absurd each
  read_runs (l ∷ ls) (r ∷ rs) [] read each = absurd each
  read_runs (l ∷ ls) (r ∷ rs) (s ∷ ss) read each = (
    read_run l r s (All-head (λ (t : RunState). t ≡ Read) s ss read) each.0,
    read_runs ls rs ss (All-tail (λ (t : RunState). t ≡ Read) s ss read) each.1,
  )

  -- the runs are read as they were
  pub same_runs : All (λ s. s ≡ Read) m.read.states → own.read ≡ m.read
  same_runs read =
      one_list_of_runs image own.plan own.read m.read listed.read
      (record {
        same = mapped.read.same;
        each =
            subst (λ (ls : List Locator). AllZip (λ (l : Locator) x. HasRunIn image own.plan l x.0 x.1) ls (zip m.read.runs m.read.states))
            (sym (ap (λ (p : PlanValue). p.runs) listed.plan))
            (read_runs m.plan.runs m.read.runs m.read.states read mapped.read.each);
      })

  -- so the shard map is the same
  pub same_bindings : All (λ s. s ≡ Read) m.read.states → own.bindings ≡ m.bindings
  same_bindings read =
      one_shard_map_lem m.read.runs own.bindings m.bindings (read_runs_are_runs image m.plan m.read mapped.read)
      (rw (same_runs read) at listed.bindings) mapped.bindings

  -- ---- statuses

  -- a sound or hidden locator names a chunk
  not_unnamed : (l : Locator) (s : Status) → is_dangling s ≡ false → HasStatusIn image m.plan l s → (NamesChunkIn image m.plan l → ⊥) → ⊥
  not_unnamed l s sound status unnamed =
      unnamed
      (read_in image m.plan l s None NotARun (not_dangling s sound) status
      (λ entries holds. unnamed (read_in image m.plan l s (Some entries) Read (not_dangling s sound) status holds).0)).0

  -- so it is sound or hidden
  pub keeps_status : (l : Locator) (s t : Status) → HasStatusIn image m.plan l s → HasStatusIn image own.plan l t → is_dangling s ≡ false →
      is_dangling t ≡ false
  keeps_status l s t before after sound = by (is_dangling t) refl
    where
      by : (b : Bool) → is_dangling t ≡ b → is_dangling t ≡ false
      by false e = e
      by true e =
          absurd (not_unnamed l s sound before
          (λ n.
          (lost_in image own.plan l t (λ is. false≢true (sym (ap is_dangling is) ∙ e)) (λ is. false≢true (sym (ap is_dangling is) ∙ e)) after).1
          (named_by_own l n)))

-- ---- shards

-- the same locator at the same place
pub same_locator : (xs ys : List Checked) (k : ℕ) (c : Checked) → map named_of xs ≡ map named_of ys → k < length xs →
    (get_or xs k c).locator ≡ (get_or ys k c).locator
same_locator xs ys k c same below =
    let size : length xs ≡ length ys = sym (length-map xs named_of) ∙ ap (λ (ns : List Named). length ns) same ∙ length-map ys named_of in
    ap (λ (n : Named). n.locator)
    (sym (get_or-map named_of xs k c (named_of c) below) ∙ ap (λ (ns : List Named). get_or ns k (named_of c)) same
    ∙ get_or-map named_of ys k c (named_of c) (omega (arith, size, below)))

module _ (image : Image) (m : Mapped) (mapped : IsMapped image m) (read : All (λ s. s ≡ Read) m.read.states)
    (sparse : (e : ℕ) → IsCrowded image e → ⊥) where
  -- by the own list the shard of an entry that has bytes has bytes
  pub has_bytes : (id : ShardId) (f : BytesValue) → IsShardAnswer image id (Found f) → HasBytesByOwnList image m id f
  has_bytes id f x = by a.0 a.1
    where
      can : AreRunLocators m.plan.runs
      can = let fits : IsPlan m.plan = plan_fits image m.choice m.plan mapped.choice mapped.plan in fits.located

      a : (r : ShardAnswer) × IsShardAnswerFrom (Some m.plan.runs) image id r
      a = some_shard_answer (Some m.plan.runs) image id can

      is_m : x.found ≡ m
      is_m = one_mapped None image x.found m x.mapped mapped

      b : BindingValue
      b = x.answer.0

      bound : IsBoundBy m.bindings id b
      bound = subst (λ (n : Mapped). IsBoundBy n.bindings id x.answer.0) is_m x.answer.1

      of_entry : IsEntryAnswer image m.plan m.all b (Found f)
      of_entry = subst (λ (n : Mapped). IsEntryAnswer image n.plan n.all x.answer.0 (Found f)) is_m x.answer.2

      contents : HaveContentsOf b.locators f.bytes
      contents =
          let c : HaveContentsOfEntryFrom None image id f.bytes = bytes_are_asked_for None image id f x in
          let there : IsBoundBy m.bindings id c.entry = subst (λ (n : Mapped). IsBoundBy n.bindings id c.entry) (one_mapped None image c.found m c.mapped mapped) c.bound in
          subst (λ (v : BindingValue). HaveContentsOf v.locators f.bytes)
          (one_bound m.bindings id c.entry b (bindings_of mapped.bindings) there bound) c.contents

      -- an entry by the own list is this one
      same_entry : (own : Mapped) → IsMappedFrom (Some m.plan.runs) image own → (v : BindingValue) → IsBoundBy own.bindings id v → v ≡ b
      same_entry own listed v there =
          one_bound m.bindings id v b (bindings_of mapped.bindings)
          (subst (λ (bs : List BindingValue). IsBoundBy bs id v) (same_bindings image m own mapped listed read) there) bound

      lost_there : (own : Mapped) → IsMappedFrom (Some m.plan.runs) image own → (number : ℕ) → IsEntryAnswer image own.plan own.all b (PayloadLost number) → ⊥
      lost_there own listed number y = among y.own y.checked y.answer
        where
          among : (cs : List Checked) → AreChecked image own.plan (named_by_shard b) cs → first_lost own.all y.loose.frames cs ≡ Some number → ⊥
          among [] checked first = none-some number first
          among (c ∷ cs) checked first =
              let at = first_passes (is_payload_lost own.all y.loose.frames) (c ∷ cs) number c first in
              let one : Checked = get_or (c ∷ cs) number c in
              let here : Contains (c ∷ cs) one = All-contains_itself (c ∷ cs) number c at.0 in
              let status : HasStatusIn image own.plan one.locator one.status =
              All-contains (λ (d : Checked). HasStatusIn image own.plan d.locator d.status) (c ∷ cs) one checked.statuses here in
              let gone : IsOnNoExtent image one.locator =
              on_none (Some m.plan.runs) image own listed y.loose y.are_loose one status (ap (λ (p : PlanValue). p.retired) listed.plan) sparse at.1 in
              let same : map named_of (c ∷ cs) ≡ map named_of of_entry.own = checked.same ∙ sym of_entry.checked.same in
              let size : length (c ∷ cs) ≡ length of_entry.own =
              sym (length-map (c ∷ cs) named_of) ∙ ap (λ (ns : List Named). length ns) same ∙ length-map of_entry.own named_of in
              let below : number < length of_entry.own = omega (arith, size, at.0) in
              let mine : Checked = get_or of_entry.own number c in
              let mine_there : Contains of_entry.own mine = All-contains_itself of_entry.own number c below in
              let mine_status : HasStatusIn image m.plan mine.locator mine.status =
              All-contains (λ (d : Checked). HasStatusIn image m.plan d.locator d.status) of_entry.own mine of_entry.checked.statuses mine_there in
              let lost : is_payload_lost m.all of_entry.loose.frames mine ≡ true =
              is_lost None image m mapped of_entry.loose of_entry.are_loose mine mine_status
              (subst (λ (l : Locator). IsOnNoExtent image l) (same_locator (c ∷ cs) of_entry.own number c same at.0) gone) in
              false≢true
              (sym (none_passes (is_payload_lost m.all of_entry.loose.frames) of_entry.own of_entry.answer.0 number c below) ∙ lost)

      by : (r : ShardAnswer) → IsShardAnswerFrom (Some m.plan.runs) image id r → HasBytesByOwnList image m id f
      by NoSuchShard y =
          absurd (y.answer b
          (subst (λ (bs : List BindingValue). IsBoundBy bs id b) (sym (same_bindings image m y.found mapped y.mapped read)) bound))
      by (PayloadLost number) y =
          absurd (lost_there y.found y.mapped number
          (subst (λ (v : BindingValue). IsEntryAnswer image y.found.plan y.found.all v (PayloadLost number)) (same_entry y.found y.mapped y.answer.0 y.answer.1) y.answer.2))
      by (Found o) y = record {
        other = o;
        answer = y;
        alike = record {
          entry = b;
          bound = bound;
          contents = contents;
          other_contents =
              let c : HaveContentsOfEntryFrom (Some m.plan.runs) image id o.bytes = bytes_are_asked_for (Some m.plan.runs) image id o y in
              subst (λ (v : BindingValue). HaveContentsOf v.locators o.bytes) (same_entry c.found c.mapped c.entry c.bound) c.contents;
          same_doubt =
              y.answer.2.answer.2 ∙ ap (λ (v : BindingValue). v.doubtful) (same_entry y.found y.mapped y.answer.0 y.answer.1)
              ∙ sym of_entry.answer.2;
        };
      }
