-- A payload that is gathered piece by piece, and digests that are put in later.
use Rattle.std.proofs.Common.{◌≡◌, ◌<◌, ◌≤◌, ◌+◌, ◌-◌, ℕ, zero, suc, List, All, [], ◌++◌, ◌∷◌, refl, subst, slice_set, slice_index_or, Bool, true, false, length, take, drop, min, slice_index, arith, sym, ◌∙◌, ap, inl, inr, Option, Some, length-append, append_assoc, append-nil, length-drop, map}
use Rattle.std.proofs.Math.Seq.{drop-append_seam, get_or-append_right, take-append_seam}
use Rattle.std.proofs.lemmas.Bool.{cases_lt}
use Rattle.std.proofs.lemmas.Option.{same_Some}
use Rattle.std.proofs.lemmas.List.{get_or_append_left, get_or-take, get_or-drop, length-map, length-take-le, map-append, take_at, take_all}
use Rattle.std.specs.List.{slice_range}
use Rattle.std.proofs.lemmas.List.Elements.{All-head, All-tail}
use Rattle.sha2.specs.Sha256.{sha256}
use Rattle.sha_lanes.specs.declared.batch.Batch.{Batch}
use Rattle.scrub_disk.specs.Image.{AreBytesAt}
use Rattle.scrub_frame.specs.declared.form.Form.{Form}
use Rattle.scrub_frame.specs.declared.form.Form.TheVariants.{Plain, Sealed}
use Rattle.scrub_frame.specs.Frame.{digest_size, seal, seal_size}
use Rattle.scrub_scan.specs.declared.item.Item.{Item}
use Rattle.scrub_scan.specs.declared.item.Item.TheVariants.{Chunk, Pad, Torn, Noise, Lost}
use Rattle.scrub_scan.specs.declared.payloads.Payloads.{Payloads}
use Rattle.scrub_scan.specs.Item.{start_of, stop_of}
use Rattle.scrub_scan.specs.steps.Gathering.{Grows, Has, IsAdded, seal_in, with_digest, settled_one, settled}

-- the payload so far, with the bytes of one more part that belong to it
pub payload_more : (at : ℕ → Option ℕ) (place stop first last : ℕ) (next part piece : List ℕ)
    → place + length part ≡ stop → first ≤ last → AreBytesAt at place part
    → length next ≡ min place last - first → AreBytesAt at first next
    → piece ≡ slice_range part (min (length part) (first - place)) (min (length part) (last - place))
    → (length (next ++ piece) ≡ min stop last - first) × AreBytesAt at first (next ++ piece)
payload_more at place stop first last next part piece ends order part_is size next_is piece_is =
    let a = min (length part) (first - place) in
    let z = min (length part) (last - place) in
    let long : length piece ≡ z - a =
    ap length piece_is ∙ length-take-le (z - a) (drop a part) (omega (arith, length-drop a part)) in (
      omega (arith, length-append next piece, long, size, ends, order),
      λ k lt. elim (cases_lt k (length next)) [
        | inl front ↦ next_is k front ∙ ap Some (sym (get_or_append_left next piece 0 k front))
        | inr behind ↦
            let j = k - length next in
            let below : j < z - a = omega (arith, lt, behind, long, length-append next piece) in
            let here : first + k ≡ place + (a + j) = omega (arith, below, behind, size, order) in
            let read : slice_index piece j ≡ slice_index part (a + j) =
            ap (λ (xs : List ℕ). slice_index xs j) piece_is ∙ get_or-take (z - a) (drop a part) j 0 below ∙ get_or-drop a part j 0 in
            ap at here ∙ part_is (a + j) (omega arith) ∙ ap Some (sym (get_or-append_right next piece k 0 behind ∙ read))
      ],
    )

-- the same, put after what a list has from before
pub put_more : (at : ℕ → Option ℕ) (place first last done : ℕ) (out new part piece : List ℕ) → first ≤ last
    → last ≤ first + length out → done ≡ min place last - first → AreBytesAt at place part
    → piece ≡ slice_range part (min (length part) (first - place)) (min (length part) (last - place))
    → new ≡ take done out ++ (piece ++ drop (done + length piece) out)
    → AreBytesAt at first (take (min place last - first) out)
    → AreBytesAt at first (take (min (place + length part) last - first) new)
put_more at place first last done out new part piece order room done_is part_is piece_is new_is so_far =
    let size : length (take done out) ≡ done = length-take-le done out (omega (arith, done_is, room)) in
    let more = payload_more at place (place + length part) first last (take done out) part piece refl order part_is
    (omega (arith, size, done_is)) (subst (λ n. AreBytesAt at first (take n out)) (sym done_is) so_far) piece_is in
    let long : min (place + length part) last - first ≡ length (take done out ++ piece) = omega (arith, more.0) in
    rw (ap (take (min (place + length part) last - first))
    (new_is ∙ sym (append_assoc (take done out) piece (drop (done + length piece) out)))
    ∙ take_at (take done out ++ piece) (drop (done + length piece) out) (min (place + length part) last - first) (sym long))
    more.1

-- the seal that was read is the frame's, if it is the payload's digest
pub seal_read : (form : Form) (payload bytes : List ℕ) → length bytes ≡ digest_size
    → seal_in form (sha256 payload) ≡ seal_in form bytes → take (seal_size form) bytes ≡ seal form payload
seal_read Plain payload bytes size agrees = refl
seal_read Sealed payload bytes size agrees =
    take_all digest_size bytes (omega (arith, size)) ∙ sym (same_Some (sha256 payload) bytes agrees)

-- ---- digests that are put in later

-- a digest is no part of where an item is
pub same_places : (item : Item) (digest : List ℕ) → (start_of (with_digest item digest) ≡ start_of item) × (stop_of (with_digest item digest) ≡ stop_of item)
same_places (Chunk form start stop uuid n old) digest = (refl, refl)
same_places (Pad start stop) digest = (refl, refl)
same_places (Torn start stop) digest = (refl, refl)
same_places (Noise start stop) digest = (refl, refl)
same_places (Lost start stop) digest = (refl, refl)

-- no item is added or taken away
pub length-settled_one : (items : List Item) (i : ℕ) (digest : List ℕ) → length (settled_one items i digest) ≡ length items
length-settled_one [] i digest = refl
length-settled_one (item ∷ items) zero digest = refl
length-settled_one (item ∷ items) (suc i) digest = ap suc (length-settled_one items i digest)

pub length-settled : (items : List Item) (pending : List ℕ) (payloads : List (List ℕ)) → length (settled items pending payloads) ≡ length items
length-settled items [] payloads = refl
length-settled items (i ∷ pending) [] = refl
length-settled items (i ∷ pending) (payload ∷ payloads) =
    length-settled (settled_one items i (sha256 payload)) pending payloads ∙ length-settled_one items i (sha256 payload)

settled_one_push : (items : List Item) (item : Item) (i : ℕ) (digest : List ℕ) → i < length items
    → settled_one (items ++ item ∷ []) i digest ≡ settled_one items i digest ++ item ∷ []
settled_one_push [] item i digest lt = absurd (omega arith)
settled_one_push (first ∷ items) item zero digest lt = refl
settled_one_push (first ∷ items) item (suc i) digest lt = ap (λ rest. first ∷ rest) (settled_one_push items item i digest (omega arith))

settled_one_last : (items : List Item) (item : Item) (digest : List ℕ)
    → settled_one (items ++ item ∷ []) (length items) digest ≡ items ++ with_digest item digest ∷ []
settled_one_last [] item digest = refl
settled_one_last (first ∷ items) item digest = ap (λ rest. first ∷ rest) (settled_one_last items item digest)

-- an item after those of these numbers
settled_push : (items : List Item) (item : Item) (pending : List ℕ) (payloads : List (List ℕ))
    → All (λ i. i < length items) pending
    → settled (items ++ item ∷ []) pending payloads ≡ settled items pending payloads ++ item ∷ []
settled_push items item [] payloads within = refl
settled_push items item (i ∷ pending) [] within = refl
settled_push items item (i ∷ pending) (payload ∷ payloads) within =
    let d = sha256 payload in
    let rest : All (λ j. j < length (settled_one items i d)) pending =
    rw (length-settled_one items i d) (All-tail (λ j. j < length items) i pending within) in
    ap (λ xs. settled xs pending payloads) (settled_one_push items item i d (All-head (λ j. j < length items) i pending within))
    ∙ settled_push (settled_one items i d) item pending payloads rest

-- one more digest
pub settled_more : (items : List Item) (pending : List ℕ) (payloads : List (List ℕ)) (i : ℕ) (payload : List ℕ)
    → length pending ≡ length payloads
    → settled items (pending ++ i ∷ []) (payloads ++ payload ∷ []) ≡ settled_one (settled items pending payloads) i (sha256 payload)
settled_more items [] [] i payload same = refl
settled_more items [] (p ∷ payloads) i payload same = absurd (omega arith)
settled_more items (j ∷ pending) [] i payload same = absurd (omega arith)
settled_more items (j ∷ pending) (p ∷ payloads) i payload same =
    settled_more (settled_one items j (sha256 p)) pending payloads i payload (omega arith)

-- as the code writes it
pub settled_one_is : (items : List Item) (i : ℕ) (item : Item) (digest : List ℕ) → i < length items
    → slice_index_or items i item ≡ item → slice_set items i (with_digest item digest) ≡ settled_one items i digest
settled_one_is [] i item digest lt is = absurd (omega arith)
settled_one_is (first ∷ items) zero item digest lt is = ap (λ x. with_digest x digest ∷ items) (sym is)
settled_one_is (first ∷ items) (suc i) item digest lt is = ap (λ rest. first ∷ rest) (settled_one_is items i item digest (omega arith) is)

-- ---- payloads that are added

-- payloads to which one was added, or none
pub added_to : (p : Payloads) (batch : Batch) (all : List (List ℕ)) (h : Has p all) (gathered : Bool) (known : Type 0) (digest : List ℕ)
    → IsAdded gathered known digest h.rest batch → (more : List (List ℕ)) × Has (record p { batch = batch }) (all ++ more)
added_to p batch all h true known digest added =
    let b = added.0 in (
      b ∷ [],
      record {
        hashed = h.hashed;
        rest = h.rest ++ b ∷ [];
        all_are = ap (λ (xs : List (List ℕ)). xs ++ b ∷ []) h.all_are ∙ append_assoc h.hashed h.rest (b ∷ []);
        digests = h.digests;
        gathers = added.2;
      },
    )
added_to p batch all h false known digest added = (
  [],
  record { hashed = h.hashed; rest = h.rest; all_are = append-nil all ∙ h.all_are; digests = h.digests; gathers = added.1 },
)

-- payloads that stay as they are
pub grows_none : (p : Payloads) → Grows p p
grows_none p = λ all h. ([], subst (Has p) (sym (append-nil all)) h)

-- and that grow twice
pub grows_then : (p q r : Payloads) → Grows p q → Grows q r → Grows p r
grows_then p q r first then = λ all h.
    let one = first all h in
    let two = then (all ++ one.0) one.1 in
    (one.0 ++ two.0, subst (Has r) (append_assoc all one.0 two.0) two.1)

-- the digests of the payloads between others
pub digests_between : (before payloads after digests : List (List ℕ)) (first count : ℕ)
    → digests ≡ map sha256 (before ++ (payloads ++ after)) → first ≡ length before → count ≡ length payloads
    → take count (drop first digests) ≡ map sha256 payloads
digests_between before payloads after digests first count all start size =
    let front : first ≡ length (map sha256 before) = start ∙ sym (length-map before sha256) in
    let long : count ≡ length (map sha256 payloads) = size ∙ sym (length-map payloads sha256) in
    let parts : digests ≡ map sha256 before ++ (map sha256 payloads ++ map sha256 after) =
    all ∙ map-append sha256 before (payloads ++ after) ∙ ap (λ (xs : List (List ℕ)). map sha256 before ++ xs) (map-append sha256 payloads after) in
    let behind : drop first digests ≡ map sha256 payloads ++ map sha256 after =
    ap (drop first) parts ∙ ap (λ n. drop n (map sha256 before ++ (map sha256 payloads ++ map sha256 after))) front
    ∙ drop-append_seam (map sha256 before) (map sha256 payloads ++ map sha256 after) in
    ap (take count) behind ∙ ap (λ n. take n (map sha256 payloads ++ map sha256 after)) long
    ∙ take-append_seam (map sha256 payloads) (map sha256 after)

-- one more item, whose payload was added or whose digest was known
pub record SettledMore (items : List Item) (later : List ℕ) (new : Payloads) (before : List (List ℕ)) (so_far : List Item) (item done : Item) : Type 0 where
  pub payloads : List (List ℕ)
  pub has : Has new (before ++ payloads)
  pub count : length later ≡ length payloads
  pub settled_is : settled (items ++ item ∷ []) later payloads ≡ so_far ++ done ∷ []

-- One more item is settled with its digest, whether its payload was added or the digest was known.
pub settled_next : (items : List Item) (pending later : List ℕ) (before payloads : List (List ℕ)) (p : Payloads) (batch : Batch)
    (has : Has p (before ++ payloads)) (item : Item) (gathered : Bool) (digest : List ℕ)
    → length pending ≡ length payloads → All (λ i. i < length items) pending
    → (gathered ≡ true → later ≡ pending ++ length items ∷ []) → (gathered ≡ false → later ≡ pending)
    → IsAdded gathered (with_digest item digest ≡ item) digest has.rest batch
    → SettledMore items later (record p { batch = batch }) before (settled items pending payloads) item (with_digest item digest)
unfolding added_to
settled_next items pending later before ps p batch has item true digest count within more same added =
    let b = added.0 in
    let n : length items ≡ length (settled items pending ps) = sym (length-settled items pending ps) in
    record {
      payloads = ps ++ b ∷ [];
      has =
          subst (Has (record p { batch = batch })) (append_assoc before ps (b ∷ []))
          (added_to p batch (before ++ ps) has true (with_digest item digest ≡ item) digest added).1;
      count = omega (arith, ap length (more refl), length-append pending (length items ∷ []), length-append ps (b ∷ []), count);
      settled_is =
          ap (λ l. settled (items ++ item ∷ []) l (ps ++ b ∷ [])) (more refl)
          ∙ settled_more (items ++ item ∷ []) pending ps (length items) b count
          ∙ ap (λ xs. settled_one xs (length items) (sha256 b)) (settled_push items item pending ps within)
          ∙ ap (λ i. settled_one (settled items pending ps ++ item ∷ []) i (sha256 b)) n
          ∙ settled_one_last (settled items pending ps) item (sha256 b)
          ∙ sym (ap (λ d. settled items pending ps ++ with_digest item d ∷ []) added.1);
    }
settled_next items pending later before ps p batch has item false digest count within more same added =
    record {
      payloads = ps;
      has =
          subst (Has (record p { batch = batch })) (append-nil (before ++ ps))
          (added_to p batch (before ++ ps) has false (with_digest item digest ≡ item) digest added).1;
      count = ap length (same refl) ∙ count;
      settled_is =
          ap (λ l. settled (items ++ item ∷ []) l ps) (same refl) ∙ settled_push items item pending ps within
          ∙ sym (ap (λ x. settled items pending ps ++ x ∷ []) added.0);
    }
