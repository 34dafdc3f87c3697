-- There is an answer for each shard of an image, and so there is an archive of all of them.
use Rattle.std.proofs.Common.{◌≡◌, ◌⊎◌, ◌<◌, ◌∷◌, [], ℕ, Bool, true, false, List, MatchBool, Option, Some, None, IfSome, Contains, length, map, refl, arith, ap, inl, inr}
use Rattle.std.specs.Bool.{⊤}
use Rattle.std.specs.List.{All, AllZip, flat_map, position}
use Rattle.std.proofs.lemmas.List.Elements.{All-cons, All-head, All-nil, All-tail}
use Rattle.list_facts.proofs.OneAnswers.{HasOneAnswer}
use Rattle.list_facts.proofs.Decisions.{some_element}
use Rattle.scrub_disk.specs.Image.{Image}
use Rattle.scrub_frame.specs.declared.locator.Locator.{Locator}
use Rattle.scrub_super.specs.steps.Limits.{AreRunLocators}
use Rattle.scrub_scan.specs.declared.standing.Standing.{Standing}
use Rattle.scrub_scan.specs.Standing.{Stands}
use Rattle.scrub_run.specs.declared.shard_id.ShardId.{ShardId}
use Rattle.scrub_merge.specs.Binding.{BindingValue}
use Rattle.scrub_merge.proofs.MapsThere.{decided_id}
use Rattle.scrub_check.specs.declared.statuses.checked.Checked.{Checked}
use Rattle.scrub_check.specs.Checked.{AreChecked, is_dangling}
use Rattle.scrub_check.specs.ChunkRun.{HasPayloadThere, StandsThere}
use Rattle.scrub_check.specs.Named.{named_by_shard}
use Rattle.scrub_check.specs.Spares.{frames}
use Rattle.scrub_check.specs.WholeScan.{IsWholeScan}
use Rattle.scrub_check.proofs.CheckedLists.{the_checked}
use Rattle.scrub_loose.specs.Copies.{CopiesValue, copies_by}
use Rattle.scrub_loose.specs.Loose.{AreLoose, LooseValue}
use Rattle.scrub_loose.proofs.LooseThere.{some_loose}
use Rattle.scrub_found.specs.GivenRuns.{IsScrubbedFrom}
use Rattle.scrub_found.specs.Scrubbed.{Scrubbed}
use Rattle.scrub_found.proofs.Existing.{some_scrub_from}
use Rattle.scrub_found.proofs.GivenPlans.{plan_from_fits, whole_from}
use Rattle.scrub_listings.proofs.OneListing.{some_said}
use Rattle.scrub_shard.specs.Archive.{Answered, IsWholeArchiveFrom, all_remarks, archive_of, archive_members}
use Rattle.scrub_shard.specs.PartialArchive.{IsArchiveFrom, IsParted, IsPartialArchiveFrom, Parted, archive_of_files, files_of, partial_remarks}
use Rattle.scrub_shard.specs.Shard.{HasFirstPayload, IsAnswerIn, IsEntryAnswer, IsMappedFrom, IsShardAnswerFrom, Mapped, asks_for_nothing}
use Rattle.scrub_shard.specs.steps.Archive.{IsPartBy}
use Rattle.scrub_shard.specs.steps.Payloads.{AreReadable, HasPayloadUnlessLost, HasPayloadLeft, IsAnswerWith, IsPayloadBy, is_lost_by}
use Rattle.scrub_shard.specs.declared.archiving.Remark.{Remark}
use Rattle.scrub_shard.specs.declared.shard.ShardAnswer.{ShardAnswer}
use Rattle.scrub_shard.specs.declared.shard.ShardAnswer.TheVariants.{NoSuchShard, PayloadLost, Found}
use Rattle.scrub_shard.proofs.Answered.{answer_of, answered_in}
use Rattle.scrub_shard.proofs.Joined.{HasItsCopies}
use Rattle.scrub_shard.proofs.Lost.{all_can_be_read, all_left, loose_frames_stand}
use Rattle.scrub_shard.proofs.Parts.{parts_for}

-- ---- payloads

-- what is made of each element that meets a condition
each_some : {A B : Type 0} (K : A → Type 0) (R : A → B → Type 0) → ((a : A) → K a → (b : B) × R a b) → (xs : List A) → All K xs →
    (ys : List B) × AllZip R xs ys
each_some K R one [] all = ([], tt)
each_some K R one (x ∷ xs) all =
    let first = one x (All-head K x xs all) in
    let rest = each_some K R one xs (All-tail K x xs all) in
    (first.0 ∷ rest.0, (first.1, rest.1))

payload_left : (image : Image) (found : CopiesValue) (c : Checked) → HasPayloadLeft image found c →
    (payload : List ℕ) × IsPayloadBy image found c payload
payload_left image found c = asked (asks_for_nothing c.locator)
  where
    first : (ss : List Standing) → 0 < length ss → All (Stands image) ss → (payload : List ℕ) × HasFirstPayload image ss payload
    first [] some stand = absurd (omega (arith, some))
    first (s ∷ ss) some stand = let there = All-head (Stands image) s ss stand in (there.payload, there.has)

    by : (b : Bool) → MatchBool b (AreReadable image (copies_by found c)) (StandsThere image c.locator) →
        (payload : List ℕ) × MatchBool b (HasFirstPayload image (copies_by found c) payload) (HasPayloadThere image c.locator payload)
    by true h = first (copies_by found c) h.some h.stand
    by false h = (h.stands.payload, record { form = h.form; has = h.stands.has })

    asked : (b : Bool) →
        MatchBool b (Unit {0})
        (MatchBool (is_dangling c.status) (AreReadable image (copies_by found c)) (StandsThere image c.locator)) →
        (payload : List ℕ) × MatchBool b (payload ≡ [])
        (MatchBool (is_dangling c.status) (HasFirstPayload image (copies_by found c) payload) (HasPayloadThere image c.locator payload))
    asked true h = ([], refl)
    asked false h = by (is_dangling c.status) h

-- the answer by locators that can be read unless they are lost
some_answer_with : (image : Image) (found : CopiesValue) (doubtful : Bool) (own : List Checked) → All (HasPayloadUnlessLost image found) own →
    (a : ShardAnswer) × IsAnswerWith image found doubtful own a
some_answer_with image found doubtful own readable = by (position (is_lost_by found) own) refl
  where
    by : (o : Option ℕ) → position (is_lost_by found) own ≡ o → (a : ShardAnswer) × IsAnswerWith image found doubtful own a
    by (Some n) e = (PayloadLost n, e)
    by None e =
        let payloads = each_some (HasPayloadLeft image found) (IsPayloadBy image found) (payload_left image found) own (all_left image found own readable e) in (
          Found (record { bytes = flat_map (λ p. p) payloads.0; is_doubtful = doubtful }),
          (e, record { payloads = payloads.0; each = payloads.1; joined = refl }, refl),
        )

-- the payload of a locator that can be read unless it is lost
part_with : (image : Image) (found : CopiesValue) (c : Checked) → HasPayloadUnlessLost image found c → (o : Option (List ℕ)) × IsPartBy image found c o
part_with image found c readable = by (is_lost_by found c) refl
  where
    by : (b : Bool) → is_lost_by found c ≡ b → (o : Option (List ℕ)) × IsPartBy image found c o
    by true e = (None, e)
    by false e = let left = payload_left image found c (readable e) in (Some left.0, (e, left.1))

-- ---- the answer

module _ (given : Option (List Locator)) (can : IfSome given AreRunLocators) (image : Image) (s : Scrubbed) (is : IsScrubbedFrom given [] image s) where
  -- what is found up to the shard map
  abbrev mapped : Mapped
  mapped = record { choice = s.choice; plan = s.plan; all = s.all; read = s.read; bindings = s.bindings }

  are_mapped : IsMappedFrom given image mapped
  are_mapped = record { choice = is.choice; plan = is.plan; all = is.all; read = is.read; bindings = is.bindings }

  whole : IsWholeScan image s.plan s.all
  whole = whole_from given [] s.choice s.plan image s.all is.choice is.plan is.all

  loose : (v : LooseValue) × AreLoose [] image s.plan v
  loose = some_loose [] image s.plan (plan_from_fits given [] image s.choice s.plan can is.choice is.plan)

  -- the copies of all locators
  abbrev copies : CopiesValue
  copies = record { spares = frames s.all; loose = loose.0.frames; crowded = [] }

  module _ (b : BindingValue) where
    own : HasOneAnswer (AreChecked image s.plan (named_by_shard b))
    own = the_checked image s.plan (named_by_shard b)

    same : All (HasItsCopies s.all loose.0.frames copies) own.answer
    same k d here = refl

    readable : All (HasPayloadUnlessLost image copies) own.answer
    readable = all_can_be_read image s.plan s.all loose.0.frames copies own.answer whole (loose_frames_stand image s.plan loose.0 loose.1) own.meets.statuses same

    some_answer_of : (a : ShardAnswer) × IsEntryAnswer image s.plan s.all b a
    some_answer_of =
        let answer = some_answer_with image copies b.doubtful own.answer readable in
        (answer.0, answer_of image s.plan s.all loose.0 copies b own.answer answer.0 loose.1 own.meets same answer.1)

    some_parted : (p : Parted) × IsParted image s.plan s.all b p
    some_parted =
        let parts = each_some (HasPayloadUnlessLost image copies) (IsPartBy image copies) (part_with image copies) own.answer readable in (
          record { id = b.id; parts = parts.0; is_doubtful = b.doubtful },
          record {
            named = refl;
            doubtful = refl;
            own = own.answer;
            checked = own.meets;
            loose = loose.0;
            are_loose = loose.1;
            each = parts_for image s.all loose.0.frames copies own.answer parts.0 same parts.1;
          },
        )

  some_answer_in : (id : ShardId) → (a : ShardAnswer) × IsAnswerIn image mapped id a
  some_answer_in id = by (some_element (λ (b : BindingValue). b.id ≡ id) (λ b. decided_id b.id id) s.bindings)
    where
      by : ((b : BindingValue) × Contains s.bindings b × (b.id ≡ id)) ⊎ ((b : BindingValue) → Contains s.bindings b → b.id ≡ id → ⊥) →
          (a : ShardAnswer) × IsAnswerIn image mapped id a
      by (inl (b, among, named)) =
          let a = some_answer_of b in (a.0, answered_in image mapped id b a.0 (record { among = among; named = named }) a.1)
      by (inr none) = (NoSuchShard, λ b bound. none b bound.among bound.named)

-- Each image has an answer for each shard.
pub some_shard_answer : (given : Option (List Locator)) (image : Image) (id : ShardId) → IfSome given AreRunLocators →
    (a : ShardAnswer) × IsShardAnswerFrom given image id a
some_shard_answer given image id can =
    let s = some_scrub_from given [] image can in
    let a = some_answer_in given can image s.0 s.1 id in
    (a.0, record { found = mapped given can image s.0 s.1; mapped = are_mapped given can image s.0 s.1; answer = a.1 })

-- ---- all shards

-- the answers for the shards of some bindings
answers_for : (given : Option (List Locator)) → Image → IfSome given AreRunLocators → List BindingValue → List Answered
answers_for given image can bs = map (λ b. record { id = b.id; answer = (some_shard_answer given image b.id can).0 }) bs

answers_are : (given : Option (List Locator)) (image : Image) (can : IfSome given AreRunLocators) (bs : List BindingValue) →
    (map (λ a. a.id) (answers_for given image can bs) ≡ map (λ b. b.id) bs) ×
    All (λ a. IsShardAnswerFrom given image a.id a.answer) (answers_for given image can bs)
unfolding answers_for
answers_are given image can [] = (refl, All-nil (λ a. IsShardAnswerFrom given image a.id a.answer))
answers_are given image can (b ∷ bs) =
    let rest = answers_are given image can bs in
    let one = some_shard_answer given image b.id can in (
      ap (λ is. b.id ∷ is) rest.0,
      All-cons (λ a. IsShardAnswerFrom given image a.id a.answer) (record { id = b.id; answer = one.0 }) (answers_for given image can bs) one.1 rest.1,
    )

some_whole : (given : Option (List Locator)) (image : Image) → IfSome given AreRunLocators →
    (tar : List ℕ) × (remarks : List Remark) × IsWholeArchiveFrom given image tar remarks
some_whole given image can =
    let s = some_scrub_from given [] image can in
    let answers = answers_for given image can s.0.bindings in
    let are = answers_are given image can s.0.bindings in
    let superblocks = some_said given image in (
      archive_of (archive_members answers),
      all_remarks (mapped given can image s.0 s.1) superblocks.0 answers,
      record {
        found = mapped given can image s.0 s.1;
        mapped = are_mapped given can image s.0 s.1;
        answers = answers;
        answered = record { ids = are.0; each = are.1 };
        tar_is = refl;
        superblocks = superblocks.0;
        said_of_superblocks = superblocks.1;
        remarks_are = refl;
      },
    )

some_partial : (given : Option (List Locator)) (image : Image) → IfSome given AreRunLocators →
    (tar : List ℕ) × (remarks : List Remark) × IsPartialArchiveFrom given image tar remarks
some_partial given image can =
    let s = some_scrub_from given [] image can in
    let shards =
    each_some (λ (b : BindingValue). ⊤) (IsParted image s.0.plan s.0.all) (λ b any. some_parted given can image s.0 s.1 b) s.0.bindings (λ k d below. tt) in
    let superblocks = some_said given image in (
      archive_of_files (flat_map files_of shards.0),
      partial_remarks (mapped given can image s.0 s.1) superblocks.0 shards.0,
      record {
        found = mapped given can image s.0 s.1;
        mapped = are_mapped given can image s.0 s.1;
        shards = shards.0;
        parted = shards.1;
        tar_is = refl;
        superblocks = superblocks.0;
        said_of_superblocks = superblocks.1;
        remarks_are = refl;
      },
    )

-- Each image has an archive of its shards, and what is said beside it.
pub some_archive : (given : Option (List Locator)) (partial : Bool) (image : Image) → IfSome given AreRunLocators →
    (tar : List ℕ) × (remarks : List Remark) × IsArchiveFrom given partial image tar remarks
some_archive given false image can = some_whole given image can
some_archive given true image can = some_partial given image can
