-- The bytes of a shard have the contents that its entry asks for.
use Rattle.std.proofs.Common.{◌≡◌, ◌==◌, ◌&&◌, ◌∷◌, [], ℕ, Bool, true, false, List, MatchBool, Option, map, length, if◌then◌else◌, arith, refl, sym, ◌∙◌, ap, subst}
use Rattle.std.proofs.Math.Path.{ap₂}
use Rattle.std.specs.List.{All, AllZip, filter}
use Rattle.std.specs.Str.{bytes_eq}
use Rattle.std.proofs.lemmas.Bool.{and_parts, eq-eqb}
use Rattle.std.proofs.lemmas.Bool.Decides.{nat_tests}
use Rattle.std.proofs.lemmas.List.Elements.{All-append, All-head, All-nil, filter_passes}
use Rattle.std.proofs.lemmas.Slice.Eq.{bytes_eq-Decides}
use Rattle.sha2.specs.Sha256.{sha256}
use Rattle.list_facts.proofs.Elements.{nil_has_no_first, same_behind_first, same_first}
use Rattle.scrub_disk.specs.Image.{Image}
use Rattle.scrub_frame.specs.declared.locator.Locator.{Locator}
use Rattle.scrub_scan.specs.declared.standing.Standing.{Standing}
use Rattle.scrub_scan.specs.Scanned.{Scanned}
use Rattle.scrub_run.specs.declared.shard_id.ShardId.{ShardId}
use Rattle.scrub_check.specs.declared.named.Named.{Named}
use Rattle.scrub_check.specs.declared.named.Owner.TheVariants.{Shard}
use Rattle.scrub_check.specs.declared.statuses.checked.Checked.{Checked}
use Rattle.scrub_check.specs.Checked.{is_dangling, named_of}
use Rattle.scrub_check.specs.ChunkRun.{HasPayloadThere}
use Rattle.scrub_check.specs.Spares.{asks_for_spares, copies_of, frames, is_copy_of, spares_of}
use Rattle.scrub_loose.specs.Loose.{copies_for, is_gone, loose_of}
use Rattle.scrub_shard.specs.Bytes.{BytesValue}
use Rattle.scrub_shard.specs.Shard.{HasContentOf, HasFirstPayload, HaveContentsOfEntryFrom, IsPayloadFor, IsShardAnswerFrom, asks_for_nothing}
use Rattle.scrub_shard.specs.declared.shard.ShardAnswer.TheVariants.{Found}

-- ---- the contents of a payload

pub equal : (a b : ℕ) → (a == b) ≡ true → a ≡ b
equal a b e = grind (arith, nat_tests)

-- a copy of what a locator asks for has its length and its digest
pub copy_has : (l : Locator) (s : Standing) → is_copy_of l s ≡ true → (s.digest ≡ l.digest) × (s.length ≡ l.length)
copy_has l s e =
    let parts = and_parts (bytes_eq s.digest l.digest) (s.length == l.length) e in
    ((bytes_eq-Decides s.digest l.digest).0 parts.0, equal s.length l.length parts.1)

-- and what has both is one
pub copy_from : (l : Locator) (s : Standing) → (s.length ≡ l.length) × (s.digest ≡ l.digest) → is_copy_of l s ≡ true
copy_from l s same =
    ap₂ (λ (a b : Bool). a && b) ((bytes_eq-Decides s.digest l.digest).1 same.1) (eq-eqb s.length l.length same.0)

-- each copy of a locator has what it asks for
copies_have : (all : List Scanned) (loose : List Standing) (c : Checked) → All (λ s. is_copy_of c.locator s ≡ true) (copies_for all loose c)
copies_have all loose c =
    All-append Is (spares_of all c) (loose_of all loose c) (of_spares (asks_for_spares c)) (of_loose (is_gone all c))
  where
    Is : Standing → Type 0
    Is s = is_copy_of c.locator s ≡ true

    of_spares : (b : Bool) → All Is (if b then copies_of all c.locator else [])
    of_spares true = filter_passes (is_copy_of c.locator) (frames all)
    of_spares false = All-nil Is

    of_loose : (b : Bool) → All Is (if b then filter (is_copy_of c.locator) loose else [])
    of_loose true = filter_passes (is_copy_of c.locator) loose
    of_loose false = All-nil Is

first_content : (image : Image) (l : Locator) (ss : List Standing) (payload : List ℕ) → All (λ s. is_copy_of l s ≡ true) ss →
    HasFirstPayload image ss payload → HasContentOf l payload
first_content image l [] payload copies has = absurd has
first_content image l (s ∷ ss) payload copies has =
    let copy = copy_has l s (All-head (λ (t : Standing). is_copy_of l t ≡ true) s ss copies) in
    record { length_is = sym has.frame.length ∙ copy.1; digest_is = sym has.frame.digest ∙ copy.0 }

-- no bytes have the content of a locator that asks for none
of_nothing : (l : Locator) (payload : List ℕ) → asks_for_nothing l ≡ true → payload ≡ [] → HasContentOf l payload
of_nothing l payload asks none =
    let parts = and_parts (l.length == 0) (bytes_eq l.digest (sha256 [])) asks in
    record {
      length_is = ap (λ (p : List ℕ). length p) none ∙ sym (equal l.length 0 parts.0);
      digest_is = ap (λ (p : List ℕ). sha256 p) none ∙ sym ((bytes_eq-Decides l.digest (sha256 [])).0 parts.1);
    }

pub content : (image : Image) (all : List Scanned) (loose : List Standing) (c : Checked) (payload : List ℕ) →
    IsPayloadFor image all loose c payload → HasContentOf c.locator payload
content image all loose c payload = asked (asks_for_nothing c.locator) refl
  where
    by : (b : Bool) → MatchBool b (HasFirstPayload image (copies_for all loose c) payload) (HasPayloadThere image c.locator payload) →
        HasContentOf c.locator payload
    by true has = first_content image c.locator (copies_for all loose c) payload (copies_have all loose c) has
    by false has = record { length_is = sym has.has.frame.length; digest_is = sym has.has.frame.digest }

    asked : (b : Bool) → asks_for_nothing c.locator ≡ b →
        MatchBool b (payload ≡ [])
        (MatchBool (is_dangling c.status) (HasFirstPayload image (copies_for all loose c) payload) (HasPayloadThere image c.locator payload)) →
        HasContentOf c.locator payload
    asked true nothing none = of_nothing c.locator payload nothing none
    asked false some has = by (is_dangling c.status) has

-- ---- the locators of an entry

abbrev pub named_by : ShardId → List Locator → List Named
named_by id ls = map (λ l. record { owner = Shard id; locator = l }) ls

pub contents : (image : Image) (all : List Scanned) (loose : List Standing) (id : ShardId) (own : List Checked) (ls : List Locator)
    (ps : List (List ℕ)) → map named_of own ≡ named_by id ls → AllZip (IsPayloadFor image all loose) own ps → AllZip HasContentOf ls ps
contents image all loose id [] [] ps same each = each
contents image all loose id [] (l ∷ ls) ps same each = absurd (nil_has_no_first _ _ same)
contents image all loose id (c ∷ cs) [] ps same each = absurd (nil_has_no_first _ _ (sym same))
contents image all loose id (c ∷ cs) (l ∷ ls) [] same each = each
contents image all loose id (c ∷ cs) (l ∷ ls) (p ∷ ps) same each = (
  subst (λ (m : Locator). HasContentOf m p) (ap (λ (n : Named). n.locator) (same_first _ _ _ _ same)) (content image all loose c p each.0),
  contents image all loose id cs ls ps (same_behind_first _ _ _ _ same) each.1,
)

-- ---- the law

-- The bytes of a shard have the lengths and digests that its entry in the shard map asks for.
pub bytes_are_asked_for : (given : Option (List Locator)) (image : Image) (id : ShardId) (found : BytesValue) →
    IsShardAnswerFrom given image id (Found found) → HaveContentsOfEntryFrom given image id found.bytes
bytes_are_asked_for given image id found x =
    let b = x.answer.0 in
    let of_entry = x.answer.2 in
    let bytes = of_entry.answer.1 in
    record {
      found = x.found;
      mapped = x.mapped;
      entry = b;
      bound = x.answer.1;
      contents = record {
        payloads = bytes.payloads;
        each =
            contents image x.found.all of_entry.loose.frames b.id of_entry.own b.locators bytes.payloads of_entry.checked.same
            bytes.each;
        joined = bytes.joined;
      };
    }
