-- There is one answer for each shard of an image, since what is found on it up to its shard map is unique.
use Rattle.std.proofs.Common.{◌≡◌, ◌<◌, ◌∷◌, [], ℕ, Bool, true, false, List, MatchBool, Option, length, get_or, arith, inl, inr, refl, sym, ◌∙◌, ap, subst}
use Rattle.std.specs.List.{Contains, flat_map}
use Rattle.std.proofs.lemmas.Bool.{cases_lt}
use Rattle.std.proofs.lemmas.List.{get_or_default}
use Rattle.std.proofs.lemmas.Option.{none-some, same_Some}
use Rattle.list_facts.proofs.Zips.{AllZip-same_seconds}
use Rattle.list_facts.proofs.OneAnswers.{same_answer}
use Rattle.scrub_disk.specs.Image.{Image, extent_bytes}
use Rattle.scrub_frame.specs.declared.locator.Locator.{Locator}
use Rattle.scrub_super.proofs.Laws.{one_choice_lem}
use Rattle.scrub_scan.specs.declared.standing.Standing.{Standing}
use Rattle.scrub_scan.specs.Extent.{extent_of}
use Rattle.scrub_scan.specs.steps.OneFrame.{one_frame_at}
use Rattle.scrub_scan.specs.Scanned.{Scanned}
use Rattle.scrub_run.specs.declared.shard_id.ShardId.{ShardId}
use Rattle.scrub_run.specs.Entry.{IsBelow}
use Rattle.scrub_merge.specs.Binding.{BindingValue}
use Rattle.scrub_merge.specs.ShardMap.{AreBindings}
use Rattle.scrub_merge.proofs.Identifiers.{not_below_itself}
use Rattle.scrub_merge.proofs.Maps.{bindings_of, one_shard_map_lem}
use Rattle.scrub_check.specs.declared.statuses.checked.Checked.{Checked}
use Rattle.scrub_check.specs.Checked.{is_dangling}
use Rattle.scrub_check.specs.ChunkRun.{HasPayloadThere}
use Rattle.scrub_check.specs.Named.{named_by_shard}
use Rattle.scrub_loose.specs.Loose.{LooseValue, copies_for}
use Rattle.scrub_loose.proofs.OneLoose.{one_loose}
use Rattle.scrub_check.proofs.Payloads.{one_payload}
use Rattle.scrub_check.proofs.CheckedLists.{one_list_of_checked}
use Rattle.scrub_check.proofs.IndexRuns.{one_list_of_runs, read_runs_are_runs}
use Rattle.scrub_found.proofs.GivenPlans.{the_plan_from}
use Rattle.scrub_found.proofs.OneReader.{one_reader}
use Rattle.scrub_shard.specs.Bytes.{BytesValue}
use Rattle.scrub_shard.specs.Shard.{AreBytesFor, HasFirstPayload, IsAnswerBy, IsAnswerIn, IsEntryAnswer, IsBoundBy, IsMappedFrom, IsPayloadFor, IsShardAnswerFrom, Mapped, asks_for_nothing}
use Rattle.scrub_shard.specs.declared.shard.ShardAnswer.{ShardAnswer}
use Rattle.scrub_shard.specs.declared.shard.ShardAnswer.TheVariants.{NoSuchShard, PayloadLost, Found}

-- ---- what is found

-- each part is determined by those before it
pub one_mapped : (given : Option (List Locator)) (image : Image) (s t : Mapped) → IsMappedFrom given image s → IsMappedFrom given image t → s ≡ t
one_mapped given image s t x y = λ i. record {
  choice = choice i;
  plan = plan i;
  all = all i;
  read = read i;
  bindings = bindings i;
}
  where
    choice : s.choice ≡ t.choice
    choice = one_choice_lem image s.choice t.choice x.choice y.choice

    plan : s.plan ≡ t.plan
    plan = same_answer (the_plan_from given [] t.choice) s.plan t.plan (rw choice at x.plan) y.plan

    all : s.all ≡ t.all
    all = one_reader image t.plan s.all t.all (rw plan at x.all) y.all

    read : s.read ≡ t.read
    read = one_list_of_runs image t.plan s.read t.read (rw plan at x.read) y.read

    bindings : s.bindings ≡ t.bindings
    bindings = one_shard_map_lem t.read.runs s.bindings t.bindings (read_runs_are_runs image t.plan t.read y.read)
        (rw read at x.bindings) y.bindings

-- two entries of a shard are one
pub one_bound : (bindings : List BindingValue) (id : ShardId) (b c : BindingValue) → AreBindings bindings → IsBoundBy bindings id b →
    IsBoundBy bindings id c → b ≡ c
one_bound bindings id b c are x y = by x.among y.among
  where
    below : (i j : ℕ) (d e : BindingValue) → i < j → j < length bindings → get_or bindings i d ≡ d → get_or bindings j e ≡ e →
        d.id ≡ id → e.id ≡ id → ⊥
    below i j d e less within is also own other =
        let step : IsBelow (get_or bindings i d).id (get_or bindings j d).id = are.rising i j d less within in
        let second : get_or bindings j d ≡ e = get_or_default bindings j d e within ∙ also in
        let both : IsBelow d.id e.id =
        subst (λ (v : BindingValue). IsBelow d.id v.id) second (subst (λ (v : BindingValue). IsBelow v.id (get_or bindings j d).id) is step) in
        not_below_itself id
        (subst (λ (k : ShardId). IsBelow id k) other (subst (λ (k : ShardId). IsBelow k e.id) own both))

    by : Contains bindings b → Contains bindings c → b ≡ c
    by (i, within, is) (j, inside, also) = elim (cases_lt i j) [
      | inl less ↦ absurd (below i j b c less inside is also x.named y.named)
      | inr le ↦ elim (cases_lt j i) [
        | inl more ↦ absurd (below j i c b more within also is y.named x.named)
        | inr ge ↦
            let same : i ≡ j = omega (arith, le, ge) in
            sym is ∙ ap (λ (k : ℕ). get_or bindings k b) same ∙ get_or_default bindings j b c inside ∙ also
      ]
    ]

-- ---- the bytes

one_first : (image : Image) (copies : List Standing) (a b : List ℕ) → HasFirstPayload image copies a → HasFirstPayload image copies b → a ≡ b
one_first image [] a b x y = absurd x
one_first image (s ∷ ss) a b x y =
    (one_frame_at (extent_of image s.extent (extent_bytes image.geometry)) s.offset s.form s.uuid a s.form s.uuid b x.frame.frame y.frame.frame).2

module _ (image : Image) (all : List Scanned) (loose : List Standing) where
  pub one_payload_for : (c : Checked) (a b : List ℕ) → IsPayloadFor image all loose c a → IsPayloadFor image all loose c b → a ≡ b
  one_payload_for c a b = asked (asks_for_nothing c.locator)
    where
      by : (t : Bool) → MatchBool t (HasFirstPayload image (copies_for all loose c) a) (HasPayloadThere image c.locator a) →
          MatchBool t (HasFirstPayload image (copies_for all loose c) b) (HasPayloadThere image c.locator b) → a ≡ b
      by true x y = one_first image (copies_for all loose c) a b x y
      by false x y = one_payload image c.locator a b x y

      asked : (t : Bool) →
          MatchBool t (a ≡ [])
          (MatchBool (is_dangling c.status) (HasFirstPayload image (copies_for all loose c) a) (HasPayloadThere image c.locator a)) →
          MatchBool t (b ≡ [])
          (MatchBool (is_dangling c.status) (HasFirstPayload image (copies_for all loose c) b) (HasPayloadThere image c.locator b)) → a ≡ b
      asked true x y = x ∙ sym y
      asked false x y = by (is_dangling c.status) x y

  one_bytes : (own : List Checked) (a b : List ℕ) → AreBytesFor image all loose own a → AreBytesFor image all loose own b → a ≡ b
  one_bytes own a b x y =
      x.joined ∙ ap (flat_map (λ (p : List ℕ). p)) (AllZip-same_seconds (IsPayloadFor image all loose) one_payload_for own x.payloads y.payloads x.each y.each) ∙ sym y.joined

same_found : (a b : BytesValue) → a.bytes ≡ b.bytes → a.is_doubtful ≡ b.is_doubtful → a ≡ b
same_found a b bytes doubt = λ i. record { bytes = bytes i; is_doubtful = doubt i }

-- ---- the answer

one_by : (image : Image) (all : List Scanned) (loose : List Standing) (doubtful : Bool) (own : List Checked) (a b : ShardAnswer) →
    IsAnswerBy image all loose doubtful own a → IsAnswerBy image all loose doubtful own b → a ≡ b
one_by image all loose doubtful own NoSuchShard b x y = absurd x
one_by image all loose doubtful own (PayloadLost n) NoSuchShard x y = absurd y
one_by image all loose doubtful own (PayloadLost n) (PayloadLost m) x y = ap (λ (k : ℕ). PayloadLost k) (same_Some n m (sym x ∙ y))
one_by image all loose doubtful own (PayloadLost n) (Found g) x y = absurd (none-some n (sym y.0 ∙ x))
one_by image all loose doubtful own (Found f) NoSuchShard x y = absurd y
one_by image all loose doubtful own (Found f) (PayloadLost n) x y = absurd (none-some n (sym x.0 ∙ y))
one_by image all loose doubtful own (Found f) (Found g) x y =
    ap (λ (v : BytesValue). Found v) (same_found f g (one_bytes image all loose own f.bytes g.bytes x.1 y.1) (x.2 ∙ sym y.2))

one_of_entry : (given : Option (List Locator)) (image : Image) (m : Mapped) (id : ShardId) (a b : ShardAnswer) (v w : BindingValue) → IsMappedFrom given image m →
    IsBoundBy m.bindings id v → IsEntryAnswer image m.plan m.all v a → IsBoundBy m.bindings id w → IsEntryAnswer image m.plan m.all w b → a ≡ b
one_of_entry given image m id a b v w mapped bound x also y =
    let same : w ≡ v = one_bound m.bindings id w v (bindings_of mapped.bindings) also bound in
    let z : IsEntryAnswer image m.plan m.all v b = subst (λ (u : BindingValue). IsEntryAnswer image m.plan m.all u b) same y in
    let own : z.own ≡ x.own = one_list_of_checked image m.plan (named_by_shard v) z.own x.own z.checked x.checked in
    let loose : z.loose ≡ x.loose = one_loose [] image m.plan z.loose x.loose z.are_loose x.are_loose in
    one_by image m.all x.loose.frames v.doubtful x.own a b x.answer
    (subst (λ (cs : List Checked). IsAnswerBy image m.all x.loose.frames v.doubtful cs b) own
    (subst (λ (u : LooseValue). IsAnswerBy image m.all u.frames v.doubtful z.own b) loose z.answer))

one_in : (given : Option (List Locator)) (image : Image) (m : Mapped) (id : ShardId) (a b : ShardAnswer) → IsMappedFrom given image m → IsAnswerIn image m id a →
    IsAnswerIn image m id b → a ≡ b
one_in given image m id NoSuchShard NoSuchShard mapped x y = refl
one_in given image m id NoSuchShard (PayloadLost n) mapped x y = absurd (x y.0 y.1)
one_in given image m id NoSuchShard (Found g) mapped x y = absurd (x y.0 y.1)
one_in given image m id (PayloadLost n) NoSuchShard mapped x y = absurd (y x.0 x.1)
one_in given image m id (Found f) NoSuchShard mapped x y = absurd (y x.0 x.1)
one_in given image m id (PayloadLost n) (PayloadLost k) mapped x y =
    one_of_entry given image m id (PayloadLost n) (PayloadLost k) x.0 y.0 mapped x.1 x.2 y.1 y.2
one_in given image m id (PayloadLost n) (Found g) mapped x y =
    one_of_entry given image m id (PayloadLost n) (Found g) x.0 y.0 mapped x.1 x.2 y.1 y.2
one_in given image m id (Found f) (PayloadLost k) mapped x y =
    one_of_entry given image m id (Found f) (PayloadLost k) x.0 y.0 mapped x.1 x.2 y.1 y.2
one_in given image m id (Found f) (Found g) mapped x y = one_of_entry given image m id (Found f) (Found g) x.0 y.0 mapped x.1 x.2 y.1 y.2

-- An image has at most one answer for a shard.
pub one_answer : (given : Option (List Locator)) (image : Image) (id : ShardId) (a b : ShardAnswer) → IsShardAnswerFrom given image id a →
    IsShardAnswerFrom given image id b → a ≡ b
one_answer given image id a b x y =
    let same : x.found ≡ y.found = one_mapped given image x.found y.found x.mapped y.mapped in
    one_in given image y.found id a b y.mapped (subst (λ (m : Mapped). IsAnswerIn image m id a) same x.answer) y.answer
