-- The parts of bytes that begin with a frame, and when bytes begin with one. Throughout, x and y are bytes,
-- f and g forms, u and v UUIDs, b and c payloads, n and m lengths of payloads.
use Rattle.std.proofs.Common.{◌≡◌, ◌<◌, ◌≤◌, ◌+◌, ◌^◌, ℕ, List, [], ◌∷◌, ◌++◌, length, take, drop, get_or, arith, refl, sym, ◌∙◌, ap, append_assoc, length-append, length-drop, take-append-drop}
use Rattle.std.proofs.lemmas.List.{take_at, take-take, take_all, length-take-le, append-nil, drop_all}
use Rattle.std.specs.Array.{IsFirstChunk}
use Rattle.byteorder.specs.Endian.{big_bytes, big_number}
use Rattle.sha2.specs.Sha256.{sha256}
use Rattle.sha2.proofs.Facts256.{length-sha256}
use Rattle.list_facts.proofs.Slices.{part-rest, part_at}
use Rattle.scrub_frame.specs.declared.form.Form.{Form}
use Rattle.scrub_frame.specs.declared.form.Form.TheVariants.{Plain, Sealed}
use Rattle.scrub_frame.specs.Frame.{magic, head, head_size, seal, seal_size, mark, payload_start, close_size, frame_overhead, frame_of, HasFrame, BeginsWithFrame, BeginsWithNoFrame, digest_size}
use Rattle.scrub_frame.specs.Matching.{form_in}
use Rattle.scrub_frame.proofs.Bytes.{bytes-number_at, bytes-injective}

-- ---- forms

-- the two bytes of a magic
pub length-magic : (f : Form) → length (magic f) ≡ 2
length-magic Plain = refl
length-magic Sealed = refl

-- the first two bytes, where a magic comes first
pub magic-first : (f : Form) (y : List ℕ) → take 2 (magic f ++ y) ≡ magic f
magic-first f y = take_at (magic f) y 2 (length-magic f)

-- how long a seal is
pub length-seal : (f : Form) (b : List ℕ) → length (seal f b) ≡ seal_size f
length-seal Plain b = refl
length-seal Sealed b = length-sha256 b

-- the seal is the first bytes of the payload's digest, none or all
pub seal-digest : (f : Form) (b : List ℕ) → seal f b ≡ take (seal_size f) (sha256 b)
seal-digest Plain b = refl
seal-digest Sealed b = sym (take_all digest_size (sha256 b) (omega (arith, length-sha256 b)))

-- a seal is at most a whole digest
pub seal_size-few : (f : Form) → seal_size f ≤ digest_size
seal_size-few Plain = omega arith
seal_size-few Sealed = omega arith

-- how long what closes a frame is
pub length-close : (f : Form) (u : List ℕ) → length u ≡ 16 → length (u ++ mark f) ≡ close_size f
length-close f u lu = omega (arith, length-append u (mark f), lu)

-- ---- heads

-- how long a head is
pub length-head : (f : Form) (u : List ℕ) (n : ℕ) → length (head f u n) ≡ 6 + length u
length-head f u n =
    omega (arith, length-magic f, length-append (magic f) (u ++ big_bytes 4 n), length-append u (big_bytes 4 n))

-- the form in a head
pub form-in_head : (f : Form) (u : List ℕ) (n : ℕ) → form_in (head f u n) ≡ f
form-in_head Plain u n = refl
form-in_head Sealed u n = refl

-- two heads with the same bytes have the same form, UUID and length
pub head-injective : (f g : Form) (u v : List ℕ) (n m : ℕ) → length u ≡ 16 → length v ≡ 16 → n < 2 ^ 32 → m < 2 ^ 32 →
    head f u n ≡ head g v m → (f ≡ g) × (u ≡ v) × (n ≡ m)
head-injective f g u v n m lu lv hn hm same = (
  sym (form-in_head f u n) ∙ ap form_in same ∙ form-in_head g v m,
  sym (part_at (magic f) u (big_bytes 4 n) 2 16 (length-magic f) lu) ∙ ap (λ t. take 16 (drop 2 t)) same
      ∙ part_at (magic g) v (big_bytes 4 m) 2 16 (length-magic g) lv,
  bytes-injective n m hn hm (sym (size f u n lu) ∙ ap (λ t. take 4 (drop 18 t)) same ∙ size g v m lv),
)
  where
    size : (h : Form) (w : List ℕ) (k : ℕ) → length w ≡ 16 → take 4 (drop 18 (head h w k)) ≡ big_bytes 4 k
    size h w k lw =
        let e : head h w k ≡ (magic h ++ w) ++ (big_bytes 4 k ++ []) = sym (append_assoc (magic h) w (big_bytes 4 k)) in
        ap (λ t. take 4 (drop 18 t)) e
        ∙ part_at (magic h ++ w) (big_bytes 4 k) [] 18 4 (omega (arith, length-magic h, length-append (magic h) w, lw)) refl

-- the first two of twenty-two bytes
pub first_two : (y : List ℕ) → length y ≡ head_size → take 2 y ≡ get_or y 0 0 ∷ get_or y 1 0 ∷ []
first_two [] m = absurd (omega (arith, m))
first_two (p ∷ []) m = absurd (omega (arith, m))
first_two (p ∷ q ∷ ys) m = refl

-- twenty-two bytes that begin with a magic are the head with the fields that follow
pub head_read : (x u : List ℕ) (f : Form) (n : ℕ) → length x ≡ head_size → ((i : ℕ) → get_or x i 0 < 256) →
    get_or x 0 0 ∷ get_or x 1 0 ∷ [] ≡ magic f →
    u ≡ take 16 (take 20 (drop 2 x)) → n ≡ big_number 4 (take 4 (drop 18 x)) → x ≡ head f u n
head_read x u f n l are_bytes first uuid size =
    sym (ap (λ t. magic f ++ (u ++ t)) (bytes-number_at x 18 n are_bytes (omega (arith, l)) size)
    ∙ ap (λ t. magic f ++ (t ++ take 4 (drop 18 x))) (uuid ∙ take-take 16 20 (drop 2 x) (omega arith))
    ∙ ap (λ t. t ++ (take 16 (drop 2 x) ++ take 4 (drop 18 x))) (sym (first_two x l ∙ first))
    ∙ ap (λ t. take 2 x ++ (take 16 (drop 2 x) ++ t))
    (sym (append-nil (take 4 (drop 18 x))) ∙ ap (λ t. take 4 (drop 18 x) ++ t) (sym (drop_all head_size x (omega (arith, l)))) ∙ part-rest x 4 18)
    ∙ ap (λ t. take 2 x ++ t) (part-rest x 16 2)
    ∙ take-append-drop 2 x)

-- ---- frames

-- what a frame has besides its payload is what comes before it and what comes after it
pub overhead : (f : Form) → frame_overhead f ≡ payload_start f + close_size f
overhead Plain = refl
overhead Sealed = refl

-- A frame is its head, its seal, its payload and what closes it.
pub frame_in_parts : (f : Form) (u b : List ℕ) → frame_of f u b ≡ head f u (length b) ++ (seal f b ++ (b ++ (u ++ mark f)))
frame_in_parts Plain u b =
    let closed : magic Plain ++ u ++ big_bytes 4 (length b) ++ b ++ u ≡ head Plain u (length b) ++ (b ++ u) = simp append_assoc in
    closed ∙ ap (λ t. head Plain u (length b) ++ (b ++ t)) (sym (append-nil u))
frame_in_parts Sealed u b = simp append_assoc

-- What the parts of a frame are appended to ends with the frame.
pub appended_in_parts : (t : List ℕ) (f : Form) (u b : List ℕ) →
    t ++ magic f ++ u ++ big_bytes 4 (length b) ++ seal f b ++ b ++ (u ++ mark f) ≡ t ++ frame_of f u b
appended_in_parts t f u b =
    let parts : t ++ magic f ++ u ++ big_bytes 4 (length b) ++ seal f b ++ b ++ (u ++ mark f) ≡ t ++ (head f u (length b) ++ (seal f b ++ (b ++ (u ++ mark f)))) = simp append_assoc in
    parts ∙ ap (λ v. t ++ v) (sym (frame_in_parts f u b))

-- the length of a frame
pub length-frame : (f : Form) (u b : List ℕ) → length u ≡ 16 → length (frame_of f u b) ≡ frame_overhead f + length b
length-frame f u b lu =
    let whole = length-append (head f u (length b)) (seal f b ++ (b ++ (u ++ mark f))) in
    let behind_head = length-append (seal f b) (b ++ (u ++ mark f)) in
    let behind_seal = length-append b (u ++ mark f) in
    omega (arith, overhead f, ap length (frame_in_parts f u b), whole, behind_head, behind_seal, length-head f u (length b), length-seal f b, length-close f u lu, lu)

-- the parts of bytes that begin with the frame of this form, this UUID and this payload
pub record Stands (x : List ℕ) (f : Form) (u b : List ℕ) : Type 0 where
  pub enough : frame_overhead f + length b ≤ length x
  pub head_is : take head_size x ≡ head f u (length b)
  pub sealed : take (seal_size f) (drop head_size x) ≡ seal f b
  pub payload : take (length b) (drop (payload_start f) x) ≡ b
  pub close : take (close_size f) (drop (payload_start f + length b) x) ≡ u ++ mark f

-- the parts of bytes that begin with a frame
pub stands : (x : List ℕ) (f : Form) (u b : List ℕ) → BeginsWithFrame x f u b → Stands x f u b
stands x f u b h = record {
  enough =
      let e : length x ≡ length (frame_of f u b) + length h.rest = ap length h.spelled ∙ length-append (frame_of f u b) h.rest in
      omega (arith, e, length-frame f u b lu);
  head_is = ap (take head_size) behind_head ∙ take_at first (second ++ (b ++ (last ++ h.rest))) head_size lh;
  sealed =
      ap (λ t. take (seal_size f) (drop head_size t)) behind_head
      ∙ part_at first second (b ++ (last ++ h.rest)) head_size (seal_size f) lh ls;
  payload =
      ap (λ t. take (length b) (drop (payload_start f) t)) behind_seal
      ∙ part_at (first ++ second) b (last ++ h.rest) (payload_start f) (length b) lhs refl;
  close = ap (λ t. take (close_size f) (drop (payload_start f + length b) t)) behind_payload
      ∙ part_at ((first ++ second) ++ b) last h.rest (payload_start f + length b) (close_size f)
      (omega (arith, length-append (first ++ second) b, lhs)) (length-close f u lu);
}
  where
    first : List ℕ
    first = head f u (length b)

    second : List ℕ
    second = seal f b

    last : List ℕ
    last = u ++ mark f

    lu : length u ≡ 16
    lu = h.has_frame.sixteen

    lh : length (head f u (length b)) ≡ head_size
    lh = omega (arith, length-head f u (length b), lu)

    ls : length (seal f b) ≡ seal_size f
    ls = length-seal f b

    lhs : length (head f u (length b) ++ seal f b) ≡ payload_start f
    lhs = omega (arith, length-append (head f u (length b)) (seal f b), lh, ls)

    behind_head : x ≡ head f u (length b) ++ (seal f b ++ (b ++ ((u ++ mark f) ++ h.rest)))
    behind_head = h.spelled ∙ ap (λ t. t ++ h.rest) (frame_in_parts f u b) ∙ simp append_assoc

    behind_seal : x ≡ (head f u (length b) ++ seal f b) ++ (b ++ ((u ++ mark f) ++ h.rest))
    behind_seal = behind_head ∙ sym (append_assoc (head f u (length b)) (seal f b) (b ++ ((u ++ mark f) ++ h.rest)))

    behind_payload : x ≡ ((head f u (length b) ++ seal f b) ++ b) ++ ((u ++ mark f) ++ h.rest)
    behind_payload = behind_seal ∙ sym (append_assoc (head f u (length b) ++ seal f b) b ((u ++ mark f) ++ h.rest))

-- Where the first two bytes are no magic, no frame begins.
pub other_magic : (y x : List ℕ) → IsFirstChunk x y head_size → ((f : Form) → ¬ (take 2 y ≡ magic f)) → BeginsWithNoFrame x
other_magic y x chunk none f u b h =
    none f (ap (take 2) (chunk.same ∙ (stands x f u b h).head_is) ∙ magic-first f (u ++ big_bytes 4 (length b)))

-- bytes that have a frame's parts in their places begin with it
pub frame_of_parts : (x : List ℕ) (f : Form) (u : List ℕ) (n : ℕ) → length u ≡ 16 → n < 2 ^ 32 →
    frame_overhead f + n ≤ length x → take head_size x ≡ head f u n →
    take (seal_size f) (drop head_size x) ≡ seal f (take n (drop (payload_start f) x)) →
    take (close_size f) (drop (payload_start f + n) x) ≡ u ++ mark f →
    BeginsWithFrame x f u (take n (drop (payload_start f) x))
frame_of_parts x f u n lu short enough first sealed close = record {
  has_frame = record { sixteen = lu; short = rw lb short };
  rest = behind;
  spelled =
      sym (take-append-drop head_size x) ∙ ap (λ t. t ++ drop head_size x) (first ∙ ap (head f u) (sym lb))
      ∙ ap (λ t. head f u (length b) ++ t) behind_head ∙ parted ∙ ap (λ t. t ++ behind) (sym (frame_in_parts f u b));
}
  where
    b : List ℕ
    b = take n (drop (payload_start f) x)

    behind : List ℕ
    behind = drop (payload_start f + n + close_size f) x

    parted : head f u (length b) ++ (seal f b ++ (b ++ ((u ++ mark f) ++ behind))) ≡ (head f u (length b) ++ (seal f b ++ (b ++ (u ++ mark f)))) ++ behind
    parted = simp append_assoc

    lb : length (take n (drop (payload_start f) x)) ≡ n
    lb = length-take-le n (drop (payload_start f) x) (omega (arith, overhead f, length-drop (payload_start f) x, enough))

    behind_payload : drop (payload_start f + n) x ≡ (u ++ mark f) ++ drop (payload_start f + n + close_size f) x
    behind_payload =
        sym (part-rest x (close_size f) (payload_start f + n))
        ∙ ap (λ t. t ++ drop (payload_start f + n + close_size f) x) close

    behind_seal : drop (payload_start f) x ≡ take n (drop (payload_start f) x) ++ ((u ++ mark f) ++ drop (payload_start f + n + close_size f) x)
    behind_seal =
        sym (part-rest x n (payload_start f)) ∙ ap (λ t. take n (drop (payload_start f) x) ++ t) behind_payload

    behind_head : drop head_size x ≡ seal f (take n (drop (payload_start f) x)) ++ (take n (drop (payload_start f) x) ++ ((u ++ mark f) ++ drop (payload_start f + n + close_size f) x))
    behind_head =
        sym (part-rest x (seal_size f) head_size) ∙ ap (λ t. t ++ drop (payload_start f) x) sealed
        ∙ ap (λ t. seal f (take n (drop (payload_start f) x)) ++ t) behind_seal

-- ---- laws

-- bytes begin with at most one frame
pub one_frame_lem : (x : List ℕ) (f : Form) (u b : List ℕ) (g : Form) (v c : List ℕ) → BeginsWithFrame x f u b →
    BeginsWithFrame x g v c → (f ≡ g) × (u ≡ v) × (b ≡ c)
one_frame_lem x f u b g v c h k =
    let p = stands x f u b h in
    let q = stands x g v c k in
    let same : (f ≡ g) × (u ≡ v) × (length b ≡ length c) =
    head-injective f g u v (length b) (length c) h.has_frame.sixteen k.has_frame.sixteen h.has_frame.short
    k.has_frame.short (sym p.head_is ∙ q.head_is) in (
      same.0,
      same.1,
      sym p.payload ∙ ap (λ n. take n (drop (payload_start f) x)) same.2
          ∙ ap (λ (e : Form). take (length c) (drop (payload_start e) x)) same.0 ∙ q.payload,
    )

-- no frame is a proper prefix of a frame
pub no_frame_begins_another_lem : (f : Form) (u b rest : List ℕ) (g : Form) (v c : List ℕ) → HasFrame u b →
    HasFrame v c → frame_of f u b ++ rest ≡ frame_of g v c → (rest ≡ []) × (f ≡ g) × (u ≡ v) × (b ≡ c)
no_frame_begins_another_lem f u b rest g v c h k e = (nothing rest none, same.0, same.1, same.2)
  where
    same : (f ≡ g) × (u ≡ v) × (b ≡ c)
    same = one_frame_lem (frame_of g v c) f u b g v c (record { has_frame = h; rest = rest; spelled = sym e })
        (record { has_frame = k; rest = []; spelled = sym (append-nil (frame_of g v c)) })

    lengths : length (frame_of f u b) + length rest ≡ length (frame_of g v c)
    lengths = sym (length-append (frame_of f u b) rest) ∙ ap length e

    none : length rest ≡ 0
    none =
        omega (
          arith,
          lengths,
          length-frame f u b h.sixteen,
          length-frame g v c k.sixteen,
          ap length same.2,
          ap frame_overhead same.0,
        )

    nothing : (xs : List ℕ) → length xs ≡ 0 → xs ≡ []
    nothing [] l = refl
    nothing (y ∷ ys) l = absurd (omega (arith, l))

-- ---- reading a frame

-- the bytes x begin with the head of f, u and n, as `read_head` found it in their first twenty-two bytes y
pub record BeginsWithHead (x : List ℕ) (f : Form) (u : List ℕ) (n : ℕ) : Type 0 where
  pub sixteen : length u ≡ 16
  pub short : n < 2 ^ 32
  pub head_is : take head_size x ≡ head f u n

-- if the first bytes are a head, bytes begin with it
pub begins_with_head : (y x : List ℕ) (f : Form) (u : List ℕ) (n : ℕ) → IsFirstChunk x y head_size → n < 2 ^ 32 →
    y ≡ head f u n → BeginsWithHead x f u n
begins_with_head y x f u n chunk short e = record {
  sixteen =
      let l : length y ≡ head_size = ap length chunk.same ∙ length-take-le head_size x chunk.enough in
      omega (arith, l, ap length e, length-head f u n);
  short = short;
  head_is = sym chunk.same ∙ e;
}

-- the frame that such bytes begin with is the one that their head claims
pub claimed : (x : List ℕ) (f : Form) (u : List ℕ) (n : ℕ) (g : Form) (v b : List ℕ) → BeginsWithHead x f u n →
    BeginsWithFrame x g v b → (f ≡ g) × (u ≡ v) × (n ≡ length b)
claimed x f u n g v b h k =
    head-injective f g u v n (length b) h.sixteen k.has_frame.sixteen h.short k.has_frame.short
    (sym h.head_is ∙ (stands x g v b k).head_is)

-- so their parts follow from that head
pub stands_claimed : (x : List ℕ) (f : Form) (u : List ℕ) (n : ℕ) (g : Form) (v b : List ℕ) → BeginsWithHead x f u n →
    BeginsWithFrame x g v b → Stands x f u b × (n ≡ length b)
stands_claimed x f u n g v b h k =
    let same = claimed x f u n g v b h k in
    (rw (same.0, same.1) (stands x g v b k), same.2)

-- bytes that are shorter than their head says begin with no frame
pub too_short : (x : List ℕ) (f : Form) (u : List ℕ) (n : ℕ) (g : Form) (v b : List ℕ) → BeginsWithHead x f u n →
    length x < payload_start f + n + close_size f → BeginsWithFrame x g v b → ⊥
too_short x f u n g v b h short k =
    let s = stands_claimed x f u n g v b h k in
    omega (arith, overhead f, s.0.enough, s.1, short)

-- nor do bytes with something else where the frame would close
pub other_close : (x : List ℕ) (f : Form) (u : List ℕ) (n : ℕ) (g : Form) (v b : List ℕ) → BeginsWithHead x f u n →
    (take (close_size f) (drop (payload_start f + n) x) ≡ u ++ mark f → ⊥) → BeginsWithFrame x g v b → ⊥
other_close x f u n g v b h differs k =
    let s = stands_claimed x f u n g v b h k in
    differs (ap (λ m. take (close_size f) (drop (payload_start f + m) x)) s.1 ∙ s.0.close)

-- nor those with something else before the payload
pub other_seal : (x : List ℕ) (f : Form) (u : List ℕ) (n : ℕ) (g : Form) (v b : List ℕ) → BeginsWithHead x f u n →
    (take (seal_size f) (drop head_size x) ≡ seal f (take n (drop (payload_start f) x)) → ⊥) → BeginsWithFrame x g v b →
    ⊥
other_seal x f u n g v b h differs k =
    let s = stands_claimed x f u n g v b h k in
    differs (s.0.sealed ∙ ap (seal f) (sym s.0.payload ∙ ap (λ m. take m (drop (payload_start f) x)) (sym s.1)))
