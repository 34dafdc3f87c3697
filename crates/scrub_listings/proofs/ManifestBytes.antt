-- In images of bytes what a manifest says of a locator shows who names it, its digest, and the form of its chunk or the place and the
-- best copy.
use Rattle.std.proofs.Common.{◌≡◌, ◌<◌, ◌+◌, ◌++◌, ◌∷◌, ◌&&◌, [], ℕ, Bool, true, false, not, Option, Some, None, Result, Ok, Err, List, length, map, drop, get_or, arith, refl, sym, ◌∙◌, ap, subst, inl, inr, if◌then◌else◌}
use Rattle.std.specs.Prelude.{codes, slice_index}
use Rattle.std.specs.Str.{bytes_eq}
use Rattle.std.specs.List.{All, flat_map}
use Rattle.std.proofs.Math.Path.{ap₂}
use Rattle.std.proofs.Math.Seq.{drop-append_seam, take-append_seam}
use Rattle.std.proofs.lemmas.Bool.{cases_lt}
use Rattle.std.proofs.lemmas.List.{get_or_past}
use Rattle.std.proofs.lemmas.List.Elements.{All-contains, All-drop, All-from_get_or, All-head, All-tail, All-take}
use Rattle.hex.specs.Hex.{IsBytes, decode_of, encode_lower}
use Rattle.hex.specs.declared.error.FromHexError.{FromHexError}
use Rattle.hex.proofs.HexLemmas.{decode_of-encode_lower}
use Rattle.byteorder.specs.Endian.{big_bytes}
use Rattle.sha2.specs.Sha256.{sha256}
use Rattle.list_facts.proofs.Elements.{All-flat_map_parts}
use Rattle.scrub_disk.specs.Image.{Image}
use Rattle.scrub_frame.specs.declared.form.Form.{Form}
use Rattle.scrub_frame.specs.declared.form.Form.TheVariants.{Plain, Sealed}
use Rattle.scrub_frame.specs.declared.locator.Locator.{Locator}
use Rattle.scrub_frame.specs.Frame.{head, mark, seal}
use Rattle.scrub_frame.specs.Locator.{locator_bytes}
use Rattle.scrub_scan.proofs.FrameBytes.{parts_stand}
use Rattle.scrub_scan.specs.Extent.{extent_of, FrameAt}
use Rattle.scrub_scan.specs.Scanned.{Scanned}
use Rattle.scrub_scan.specs.declared.standing.Standing.{Standing}
use Rattle.scrub_run.specs.declared.shard_id.ShardId.{ShardId}
use Rattle.scrub_run.specs.Entry.{EntryValue}
use Rattle.scrub_run.specs.Run.{IsRun, run_bytes, run_magic}
use Rattle.scrub_run.specs.steps.Parts.{entry_bytes, run_body}
use Rattle.scrub_merge.specs.Binding.{BindingValue, IsNewestBinding}
use Rattle.scrub_check.specs.declared.named.Named.{Named}
use Rattle.scrub_check.specs.declared.named.Owner.{Owner}
use Rattle.scrub_check.specs.declared.named.Owner.TheVariants.{Shard}
use Rattle.scrub_check.specs.declared.statuses.checked.Checked.{Checked}
use Rattle.scrub_check.specs.Checked.{is_hidden, is_sound, named_of}
use Rattle.scrub_check.specs.ChunkForms.{form_at}
use Rattle.scrub_loose.specs.Loose.{best_of}
use Rattle.scrub_loose.specs.declared.copies.BestCopy.{BestCopy}
use Rattle.scrub_loose.specs.declared.copies.BestCopy.TheVariants.{Nowhere, Loose, Spare}
use Rattle.scrub_check.specs.Status.{FindsFrame, NamesChunk}
use Rattle.scrub_found.specs.Resets.{IsScrubbedBut}
use Rattle.scrub_found.specs.Scrubbed.{Scrubbed}
use Rattle.scrub_found.specs.Texts.{owner_text}
use Rattle.scrub_check.proofs.IndexRuns.{read_of}
use Rattle.scrub_listings.specs.Manifest.{HeldValue, HoldsBytes, TraitsValue, all_held, all_traits, copy_word, held_locator, of_shards, traits}
use Rattle.scrub_listings.proofs.ManifestTexts.{HasSmallNumbers, IsSmall, after_are_words, after_is, after_text, after_words, number_back, number_of, small}
use Rattle.scrub_listings.proofs.ShardLines.{of_each_shard}
use Rattle.scrub_listings.proofs.Words.{line_is, words_back, words_of}

abbrev AreBytes : List ℕ → Type 0
AreBytes xs = All (λ b. b < 256) xs

-- ---- parts of bytes

front_bytes : (xs ys : List ℕ) → AreBytes (xs ++ ys) → AreBytes xs
front_bytes xs ys all = subst AreBytes (take-append_seam xs ys) (All-take (λ b. b < 256) (length xs) (xs ++ ys) all)

back_bytes : (xs ys : List ℕ) → AreBytes (xs ++ ys) → AreBytes ys
back_bytes xs ys all = subst AreBytes (drop-append_seam xs ys) (All-drop (λ b. b < 256) (length xs) (xs ++ ys) all)

-- ---- a run of bytes

payload_bytes : (image : Image) (w : ℕ) (l : Locator) (f : Form) (u b : List ℕ) → HoldsBytes image →
    l.extent < image.geometry.extents → FrameAt (extent_of image l.extent w) l.offset f u b → AreBytes b
payload_bytes image w l f u b bytes in_disk h =
    let parts = head f u (length b) ++ (seal f b ++ (b ++ (u ++ mark f))) in
    front_bytes b (u ++ mark f)
    (back_bytes (seal f b) (b ++ (u ++ mark f))
    (back_bytes (head f u (length b)) (seal f b ++ (b ++ (u ++ mark f)))
    (All-from_get_or (λ c. c < 256) parts 0 (λ k within. bytes l.extent (l.offset + k) (slice_index parts k) in_disk (parts_stand h k within)))))

-- an entry of bytes: its identifier, and the digest of each of its locators
record HasBytes (e : EntryValue) : Type 0 where
  id : AreBytes e.id.0
  digests : All (λ (l : Locator). AreBytes l.digest) e.locators

locator_digest : (l : Locator) → AreBytes (locator_bytes l) → AreBytes l.digest
locator_digest l all =
    back_bytes l.uuid l.digest
    (back_bytes (big_bytes 4 l.length) (l.uuid ++ l.digest)
    (back_bytes (big_bytes 4 l.offset) (big_bytes 4 l.length ++ (l.uuid ++ l.digest))
    (back_bytes (big_bytes 4 l.extent) (big_bytes 4 l.offset ++ (big_bytes 4 l.length ++ (l.uuid ++ l.digest))) all)))

entry_has : (e : EntryValue) → AreBytes (entry_bytes e) → HasBytes e
entry_has e all =
    let behind : AreBytes (length e.locators ∷ flat_map locator_bytes e.locators) = back_bytes e.id.0 (length e.locators ∷ flat_map locator_bytes e.locators) all in
    let each : All (λ l. AreBytes (locator_bytes l)) e.locators =
    All-flat_map_parts (λ b. b < 256) locator_bytes e.locators (All-tail (λ b. b < 256) (length e.locators) (flat_map locator_bytes e.locators) behind) in
    record {
      id = front_bytes e.id.0 (length e.locators ∷ flat_map locator_bytes e.locators) all;
      digests = λ k d below. locator_digest (get_or e.locators k d) (each k d below);
    }

run_has : (image : Image) (w : ℕ) (l : Locator) (es : List EntryValue) → HoldsBytes image → (n : NamesChunk image w l) →
    IsRun n.payload es → All HasBytes es
run_has image w l es bytes n run =
    let f : FindsFrame image w l l.uuid n.payload = n.found in
    let payload : AreBytes n.payload = payload_bytes image w l f.form l.uuid n.payload bytes f.can.in_range.in_disk f.frame in
    let whole : AreBytes (run_bytes es) = subst AreBytes run.spelled payload in
    let entries : AreBytes (flat_map entry_bytes es) =
    back_bytes (big_bytes 4 (length es)) (flat_map entry_bytes es)
    (back_bytes run_magic (big_bytes 4 (length es) ++ flat_map entry_bytes es) (front_bytes (run_body es) (sha256 (run_body es)) whole)) in
    let each = All-flat_map_parts (λ b. b < 256) entry_bytes es entries in
    λ k d below. entry_has (get_or es k d) (each k d below)

binding_has : (resets : List ℕ) (image : Image) (s : Scrubbed) → IsScrubbedBut resets image s → HoldsBytes image → (b : BindingValue) →
    IsNewestBinding s.read.runs b → HasBytes (record { id = b.id; locators = b.locators })
binding_has resets image s x bytes b is =
    let found = read_of image s.plan s.read x.read b.run is.entry.entries is.entry.is_read in
    All-contains HasBytes is.entry.entries (record { id = b.id; locators = b.locators })
    (run_has image found.names.pointer found.locator is.entry.entries bytes found.names.chunk found.run) is.entry.among

-- ---- the named locators

-- a name of a shard, of bytes
record IsByteName (n : Named) : Type 0 where
  id : ShardId
  owner : n.owner ≡ Shard id
  of_bytes : AreBytes id.0
  digest : AreBytes n.locator.digest

checked_of_bytes : (resets : List ℕ) (image : Image) (s : Scrubbed) → IsScrubbedBut resets image s → HoldsBytes image →
    All (λ c. IsByteName (named_of c)) (of_shards s.checked)
checked_of_bytes resets image s x bytes =
    of_each_shard IsByteName s.plan.runs s.bindings s.checked x.checked.same
    (λ k d below.
    let has = binding_has resets image s x bytes (get_or s.bindings k d) (x.bindings.newest k d below) in
    λ j l here. record { id = (get_or s.bindings k d).id; owner = refl; of_bytes = has.id; digest = has.digests j l here })

-- ---- texts of bytes

as_bytes : (xs : List ℕ) → AreBytes xs → IsBytes xs
as_bytes xs all i = elim (cases_lt i (length xs)) [
  | inl below ↦ all i 0 below
  | inr past ↦ subst (λ b. b < 256) (sym (get_or_past xs i 0 past)) (omega arith)
]

abbrev bytes_in : Result (List ℕ) FromHexError → List ℕ
bytes_in (Ok bytes) = bytes
bytes_in (Err e) = []

-- the bytes that a text of hexadecimal digits writes
abbrev bytes_of : List ℕ → List ℕ
bytes_of digits = bytes_in (decode_of digits)

hex_back : (xs : List ℕ) → AreBytes xs → bytes_of (encode_lower xs) ≡ xs
hex_back xs bytes = ap bytes_in (decode_of-encode_lower xs (as_bytes xs bytes))

-- the owner by its text, which is that of a shard
abbrev owner_of : List ℕ → Owner
owner_of text = Shard (record { 0 = bytes_of (drop 6 text) })

-- ---- what follows a status

-- the form by its word
abbrev form_of : List ℕ → Option Form
form_of u = if bytes_eq u (codes "plain") then Some Plain else (if bytes_eq u (codes "sealed") then Some Sealed else None)

-- the best copy by its word
abbrev best_of_word : List ℕ → BestCopy
best_of_word u = if bytes_eq u (codes "none") then Nowhere else (if bytes_eq u (codes "loose") then Loose else Spare)

best_back : (best : BestCopy) → best_of_word (copy_word best) ≡ best
best_back Nowhere = refl
best_back Loose = refl
best_back Spare = refl

-- a form, a place and a best copy, each only where a manifest says it
abbrev SaidAfter : Type 0
SaidAfter = Option Form × Option (ℕ × ℕ) × Option BestCopy

abbrev if_said : Bool → Bool → Option Form → ℕ × ℕ → BestCopy → SaidAfter
if_said sound hides form place best =
    (if sound then form else None, if sound then None else Some place, if not sound && not hides then Some best else None)

-- what the words of a text that begins with a space say
abbrev said_after : Bool → Bool → List (List ℕ) → SaidAfter
said_after sound hides ws =
    if_said sound hides (form_of (get_or ws 1 [])) (number_of (get_or ws 1 []), number_of (get_or ws 2 [])) (best_of_word (get_or ws 4 []))

after_back : (sound hides : Bool) (form : Option Form) (best : BestCopy) (l : Locator) → HasSmallNumbers l →
    said_after sound hides (words_of (after_text sound hides form best l)) ≡ if_said sound hides form (l.extent, l.offset) best
after_back sound hides form best l small =
    let ws = after_words sound hides form best l in
    ap (said_after sound hides)
    (ap words_of (after_is sound hides form best l ∙ sym (line_is [] ws)) ∙ words_back [] ws (refl, after_are_words sound hides form best l))
    ∙ by sound hides form
  where
    by : (b h : Bool) (f : Option Form) → said_after b h ([] ∷ after_words b h f best l) ≡ if_said b h f (l.extent, l.offset) best
    by true h None = refl
    by true h (Some Plain) = refl
    by true h (Some Sealed) = refl
    by false true f = λ i. (None, Some (number_back l.extent small.extent i, number_back l.offset small.offset i), None)
    by false false f = λ i. (None, Some (number_back l.extent small.extent i, number_back l.offset small.offset i), Some (best_back best i))

-- ---- what a manifest says of a locator

-- The traits by what is said.
abbrev pub traits_of : HeldValue → TraitsValue
traits_of h =
    let after = said_after (is_sound h.status) (is_hidden h.status) (words_of h.after) in
    record { owner = owner_of h.owner; length = h.length; digest = bytes_of h.digest; status = h.status; form = after.0; place = after.1; best = after.2 }

traits_back : (all : List Scanned) (loose : List Standing) (c : Checked) → IsByteName (named_of c) → HasSmallNumbers c.locator →
    traits_of (held_locator all loose c) ≡ traits all loose c
traits_back all loose c name small =
    let owner : owner_of (owner_text c.owner) ≡ c.owner =
    ap (λ (o : Owner). owner_of (owner_text o)) name.owner ∙ (λ i. Shard (record { 0 = hex_back name.id.0 name.of_bytes i })) ∙ sym name.owner in
    let after = after_back (is_sound c.status) (is_hidden c.status) (form_at all c.locator) (best_of all loose c) c.locator small in
    λ i. record {
      owner = owner i;
      length = c.locator.length;
      digest = hex_back c.locator.digest name.digest i;
      status = c.status;
      form = (after i).0;
      place = (after i).1;
      best = (after i).2;
    }

-- In an image of bytes what a manifest says of the shards' locators shows their traits.
pub shown_traits : (resets : List ℕ) (image : Image) (s : Scrubbed) (loose : List Standing) → IsScrubbedBut resets image s → HoldsBytes image →
    map traits_of (all_held s loose) ≡ all_traits s loose
shown_traits resets image s loose x bytes =
    each (of_shards s.checked) (checked_of_bytes resets image s x bytes) (small resets image s x)
  where
    each : (cs : List Checked) → All (λ c. IsByteName (named_of c)) cs → All IsSmall cs →
        map traits_of (map (held_locator s.all loose) cs) ≡ map (traits s.all loose) cs
    each [] names sizes = refl
    each (c ∷ cs) names sizes =
        ap₂ (λ (t : TraitsValue) (ts : List TraitsValue). t ∷ ts)
        (traits_back s.all loose c (All-head (λ d. IsByteName (named_of d)) c cs names) (All-head IsSmall c cs sizes))
        (each cs (All-tail (λ d. IsByteName (named_of d)) c cs names) (All-tail IsSmall c cs sizes))
