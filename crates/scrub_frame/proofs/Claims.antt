-- What a matcher's fields say of frames. Throughout, m is a matcher, t the bytes that it has taken, and f, u and n the
-- form, the UUID and the length in its head.
use Rattle.std.proofs.Common.{◌≡◌, ◌<◌, ◌≤◌, ◌+◌, ◌-◌, ◌^◌, ℕ, List, [], ◌++◌, length, take, drop, arith, refl, sym, ◌∙◌, ap, append_assoc, length-append, length-drop, take-append-drop, inl, inr}
use Rattle.std.proofs.lemmas.Bool.{cases_lt}
use Rattle.std.proofs.lemmas.List.{take_at, take_all, take_rest, take-take, drop_at, drop-take, take-append-le, drop-append-le, append-nil, nil_from_length, length-take, length-take-le}
use Rattle.byteorder.specs.Endian.{big_bytes, big_number}
use Rattle.sha2.specs.Sha256.{sha256}
use Rattle.sha2.specs.Hashers.{Holds256}
use Rattle.list_facts.proofs.Slices.{part_at}
use Rattle.scrub_frame.specs.declared.form.Form.{Form}
use Rattle.scrub_frame.specs.declared.matcher.Matcher.{Matcher}
use Rattle.scrub_frame.specs.Frame.{magic, head, head_size, seal, seal_size, mark, payload_start, close_size, frame_overhead, frame_of, BeginsWithFrame}
use Rattle.scrub_frame.specs.Matching.{form_in, length_in, uuid_in, payload_end_in, close_in, HasTaken, NoFrameYet, NoFrameWithin, IsWhole}
use Rattle.scrub_frame.proofs.Bytes.{number-bytes}
use Rattle.scrub_frame.proofs.Frames.{length-magic, magic-first, stands, form-in_head, length-head, length-frame, length-close, seal-digest, overhead, frame_of_parts, BeginsWithHead, claimed, stands_claimed, too_short}
use Rattle.scrub_frame.proofs.Feeding.{part_more}

-- ---- what is in a head

-- the head has these fields
pub record IsHead (x : List ℕ) (f : Form) (u : List ℕ) (n : ℕ) : Type 0 where
  pub whole : length x ≡ head_size
  pub short : n < 2 ^ 32
  pub is : x ≡ head f u n

module _ {x : List ℕ} {f : Form} {u : List ℕ} {n : ℕ} (i : IsHead x f u n) where
  pub sixteen : length u ≡ 16
  sixteen = omega (arith, i.whole, ap length i.is, length-head f u n)

  -- The form that is read from the head is f.
  pub form-in : form_in x ≡ f
  form-in = ap form_in i.is ∙ form-in_head f u n

  -- The payload's length that is read from the head is n.
  pub length-in : length_in x ≡ n
  length-in =
      let e : head f u n ≡ (magic f ++ u) ++ (big_bytes 4 n ++ []) =
      sym (append_assoc (magic f) u (big_bytes 4 n)) in
      ap length_in i.is
      ∙ ap (big_number 4) (ap (λ t. take 4 (drop 18 t)) e
      ∙ part_at (magic f ++ u) (big_bytes 4 n) [] 18 4 (omega (arith, length-magic f, length-append (magic f) u, sixteen)) refl)
      ∙ number-bytes n i.short

  -- The UUID that is read from the head is u.
  pub uuid-in : uuid_in x ≡ u
  uuid-in = ap uuid_in i.is ∙ part_at (magic f) u (big_bytes 4 n) 2 16 (length-magic f) sixteen

  -- The payload begins where it does in a frame of the form f.
  pub payload_start-in : payload_start (form_in x) ≡ payload_start f
  payload_start-in = ap payload_start form-in

  -- The payload ends n bytes after its start.
  pub payload_end-in : payload_end_in x ≡ payload_start f + n
  payload_end-in = omega (arith, payload_start-in, length-in)

  -- What has to follow the payload is u and the mark of the form f.
  pub close-in : close_in x ≡ u ++ mark f
  close-in = ap (λ w. w ++ mark (form_in x)) uuid-in ∙ ap (λ e. u ++ mark e) form-in

-- ---- what a head claims

-- if no frame begins with the bytes, none does after more have come
no_frame_longer : (room : ℕ) (t y : List ℕ) → NoFrameWithin room t → NoFrameWithin room (t ++ y)
no_frame_longer room t y none rest f u b k = none (y ++ rest) f u b (rw (append_assoc t y rest) at k)

-- so none does after the whole of a piece, if none does after a part
pub no_frame_behind : (room a : ℕ) (t x : List ℕ) → NoFrameWithin room (t ++ take a x) → NoFrameWithin room (t ++ x)
no_frame_behind room a t x none =
    rw (append_assoc t (take a x) (drop a x), take-append-drop a x) at (no_frame_longer room (t ++ take a x) (drop a x) none)

-- a frame has at least twenty-two bytes
pub few_bytes : (t : List ℕ) (f : Form) (u b : List ℕ) → length t < head_size → BeginsWithFrame t f u b → ⊥
few_bytes t f u b few k = omega (arith, overhead f, (stands t f u b k).enough, few)

-- bytes whose first twenty-two begin with neither magic
pub no_magic : {m : Matcher} {t : List ℕ} (room : ℕ) → HasTaken m t → length m.head ≡ head_size → head_size ≤ m.fed →
    ((f : Form) → take 2 m.head ≡ magic f → ⊥) → NoFrameWithin room t
no_magic {m} {t} room h whole behind differs rest f u b k = absurd (differs f (ap (take 2)
    (sym (take_all m.fed m.head (omega (arith, whole, behind))) ∙ h.head
    ∙ sym (take-append-le head_size t rest (omega (arith, h.count, behind))) ∙ (stands (t ++ rest) f u b k).head_is)
    ∙ magic-first f (u ++ big_bytes 4 (length b))))

module _ {m : Matcher} {t : List ℕ} {f : Form} {u : List ℕ} {n : ℕ} (h : HasTaken m t) (i : IsHead m.head f u n) where
  -- whatever follows them, the bytes begin with the head
  claims : (rest : List ℕ) → head_size ≤ m.fed → BeginsWithHead (t ++ rest) f u n
  claims rest behind = record {
    sixteen = sixteen i;
    short = i.short;
    head_is =
        take-append-le head_size t rest (omega (arith, h.count, behind)) ∙ sym h.head
        ∙ take_all m.fed m.head (omega (arith, i.whole, behind)) ∙ i.is;
  }

  -- bytes whose head claims more than the room
  pub no_room : (room : ℕ) → head_size ≤ m.fed → room < n + frame_overhead f → NoFrameWithin room t
  no_room room behind small rest g v b k =
      let same = claimed (t ++ rest) f u n g v b (claims rest behind) k in
      omega (arith, overhead f, same.2, ap frame_overhead same.0, small)

  -- bytes that are fewer than their head claims
  pub not_yet : head_size ≤ m.fed → m.fed < n + frame_overhead f → NoFrameYet t
  not_yet behind few g v b k =
      too_short t f u n g v b (rw (append-nil t) at (claims [] behind)) (omega (arith, overhead f, h.count, few)) k

  -- ---- what closes the frame

  -- the bytes after the payload, by what the head says
  close_of : drop (payload_start f + n) t ≡ take (m.fed - (payload_start f + n)) (u ++ mark f)
  close_of =
      ap (λ e. drop e t) (sym (payload_end-in i)) ∙ h.close
      ∙ ap (λ e. take (m.fed - e) (close_in m.head)) (payload_end-in i)
      ∙ ap (take (m.fed - (payload_start f + n))) (close-in i)

  -- at most all of them have come
  pub seen_of_close : m.fed - (payload_start f + n) ≤ close_size f
  seen_of_close =
      omega (
        arith,
        ap length close_of,
        length-drop (payload_start f + n) t,
        length-take (m.fed - (payload_start f + n)) (u ++ mark f),
        h.count,
        length-close f u (sixteen i),
      )

  -- bytes followed by y, if the frame closes otherwise
  other_bytes : (y rest : List ℕ) (g : Form) (v b : List ℕ) → payload_start f + n ≤ m.fed →
      m.fed + length y ≤ n + frame_overhead f →
      (y ≡ take (length y) (drop (m.fed - (payload_start f + n)) (u ++ mark f)) → ⊥) →
      BeginsWithFrame ((t ++ y) ++ rest) g v b → ⊥
  other_bytes y rest g v b past fits differs k = differs (sym
      (ap (λ z. take (length y) (drop seen z)) (sym second)
      ∙ ap (λ j. take (length y) (drop seen (take j (take seen w ++ (y ++ rest)))))
      (let e : size ≡ seen + (size - seen) = omega (arith, overhead f, fits, past) in e)
      ∙ ap (take (length y)) (drop-take seen (size - seen) (take seen w ++ (y ++ rest)))
      ∙ ap (λ z. take (length y) (take (size - seen) z))
      (drop_at (take seen w) (y ++ rest) seen (length-take-le seen w (omega (arith, overhead f, lw, fits, past))))
      ∙ take-take (length y) (size - seen) (y ++ rest) (omega (arith, overhead f, past, fits))
      ∙ take_at y rest (length y) refl))
    where
      w : List ℕ
      w = u ++ mark f

      size : ℕ
      size = close_size f

      seen : ℕ
      seen = m.fed - (payload_start f + n)

      lw : length (u ++ mark f) ≡ close_size f
      lw = length-close f u (sixteen i)

      begins : BeginsWithHead ((t ++ y) ++ rest) f u n
      begins = rw (append_assoc t y rest) (claims (y ++ rest) (omega (arith, overhead f, past)))

      second : take (close_size f) (take (m.fed - (payload_start f + n)) (u ++ mark f) ++ (y ++ rest)) ≡ u ++ mark f
      second =
          let s = stands_claimed ((t ++ y) ++ rest) f u n g v b begins k in
          ap (λ z. take size (z ++ (y ++ rest))) (sym close_of)
          ∙ ap (take size) (sym (drop-append-le (payload_start f + n) t (y ++ rest) (omega (arith, overhead f, h.count, past))))
          ∙ ap (λ z. take size (drop (payload_start f + n) z)) (sym (append_assoc t y rest))
          ∙ ap (λ j. take size (drop (payload_start f + j) ((t ++ y) ++ rest))) s.1
          ∙ s.0.close

-- the same of the j bytes of a piece x that follow its place a
module _ {m : Matcher} (t x : List ℕ) (a j : ℕ) {f : Form} {u : List ℕ} {n : ℕ} (h : HasTaken m (t ++ take a x))
    (i : IsHead m.head f u n) where
  -- If j bytes differ from those that close the frame there, no frame begins with the bytes.
  pub other_part : a + j ≤ length x → (m.fed < payload_start f + n → j ≡ 0) → m.fed + j ≤ n + frame_overhead f →
      (take j (take (length x - a) (drop a x)) ≡ take j (drop (m.fed - (payload_start f + n)) (u ++ mark f)) → ⊥) →
      (rest : List ℕ) (g : Form) (v b : List ℕ) → BeginsWithFrame ((t ++ x) ++ rest) g v b → ⊥
  other_part within later fits differs rest g v b k = elim (cases_lt m.fed (payload_start f + n)) [
    | inl before ↦ differs (rw (later before) refl)
    | inr past ↦
        let part : length (take j (drop a x)) ≡ j =
        length-take-le j (drop a x) (omega (arith, overhead f, length-drop a x, within)) in
        other_bytes h i (take j (drop a x)) (drop (a + j) x ++ rest) g v b past (omega (arith, overhead f, part, fits))
        (λ same. differs (ap (take j) (take_rest x a) ∙ rw part at same))
        (rw (ap (λ z. z ++ rest) (whole ∙ ap (λ z. z ++ drop (a + j) x) (part_more t x a j))
        ∙ append_assoc ((t ++ take a x) ++ take j (drop a x)) (drop (a + j) x) rest) at k)
  ]
    where
      whole : t ++ x ≡ (t ++ take (a + j) x) ++ drop (a + j) x
      whole = ap (λ z. t ++ z) (sym (take-append-drop (a + j) x)) ∙ sym (append_assoc t (take (a + j) x) (drop (a + j) x))

-- ---- all that the head claims has come

-- the payload, and what is between it and the head
pub record HasCome (m : Matcher) (t : List ℕ) (f : Form) (n : ℕ) : Type 0 where
  pub sealed : take (seal_size f) m.seal ≡ take (seal_size f) (drop head_size t)
  pub held : Holds256 m.hasher (take n (drop (payload_start f) t))
  pub size : length (take n (drop (payload_start f) t)) ≡ n

module _ {m : Matcher} {t : List ℕ} {f : Form} {u : List ℕ} {n : ℕ} (h : HasTaken m t) (i : IsHead m.head f u n)
    (full : m.fed ≡ n + frame_overhead f) where
  has_come : HasCome m t f n
  has_come = record {
    sealed =
        sym
        (take_all (m.fed - head_size) (take (seal_size f) m.seal) (omega (arith, overhead f, length-take (seal_size f) m.seal, full)))
        ∙ rw (form-in i) at h.seal;
    held = rw (← (form-in i))
        (rw (length-in i) at h.payload);
    size = length-take-le n (drop (payload_start f) t) (omega (arith, overhead f, length-drop (payload_start f) t, h.count, full));
  }

  -- if d is the digest of the payload, and the frame has another one before it, the bytes begin with no frame
  pub other_digest : (d : List ℕ) (room : ℕ) → ((b : List ℕ) → Holds256 m.hasher b → d ≡ sha256 b) →
      (take (seal_size f) m.seal ≡ take (seal_size f) d → ⊥) → NoFrameWithin room t
  other_digest d room digest differs rest g v c k =
      let s = stands_claimed (t ++ rest) f u n g v c (claims h i rest (omega (arith, overhead f, full))) k in
      let payload : take n (drop (payload_start f) t) ≡ c =
      sym
      (take-append-le n (drop (payload_start f) t) rest (omega (arith, overhead f, length-drop (payload_start f) t, h.count, full)))
      ∙ ap (take n) (sym (drop-append-le (payload_start f) t rest (omega (arith, overhead f, h.count, full))))
      ∙ ap (λ j. take j (drop (payload_start f) (t ++ rest))) s.1 ∙ s.0.payload in
      absurd (differs
      (has_come.sealed
      ∙ sym (take-append-le (seal_size f) (drop head_size t) rest (omega (arith, overhead f, length-drop head_size t, h.count, full)))
      ∙ ap (take (seal_size f)) (sym (drop-append-le head_size t rest (omega (arith, overhead f, h.count, full))))
      ∙ s.0.sealed ∙ seal-digest f c ∙ ap (take (seal_size f)) (sym (digest c (rw payload at has_come.held)))))

-- if it has that digest, the bytes up to a place of a piece are the frame
pub is_whole : {m : Matcher} (t x : List ℕ) (used : ℕ) {f : Form} {u : List ℕ} {n : ℕ} (d : List ℕ) →
    HasTaken m (t ++ take used x) → IsHead m.head f u n → m.fed ≡ n + frame_overhead f → used ≤ length x →
    ((b : List ℕ) → Holds256 m.hasher b → d ≡ sha256 b) → take (seal_size f) m.seal ≡ take (seal_size f) d →
    IsWhole t x used f u n d
is_whole {m} t x used {f} {u} {n} d h i full within digest sealed_by = record {
  within = within;
  payload = b;
  has_frame = record { sixteen = sixteen i; short = omega (arith, overhead f, come.size, i.short) };
  spelled = nothing_behind all b begins (omega (arith, overhead f, h.count, full, come.size));
  length = sym come.size;
  digest_is = digest b come.held;
}
  where
    all : List ℕ
    all = t ++ take used x

    b : List ℕ
    b = take n (drop (payload_start f) (t ++ take used x))

    come : HasCome m (t ++ take used x) f n
    come = has_come h i full

    sealed : take (seal_size f) (drop head_size (t ++ take used x)) ≡ seal f (take n (drop (payload_start f) (t ++ take used x)))
    sealed = sym come.sealed ∙ sealed_by ∙ ap (take (seal_size f)) (digest b come.held) ∙ sym (seal-digest f b)

    first : take head_size (t ++ take used x) ≡ head f u n
    first = sym h.head ∙ take_all m.fed m.head (omega (arith, overhead f, i.whole, full)) ∙ i.is

    close : take (close_size f) (drop (payload_start f + n) (t ++ take used x)) ≡ u ++ mark f
    close =
        let lw : length (u ++ mark f) ≡ close_size f = length-close f u (sixteen i) in
        ap (take (close_size f)) (close_of h i ∙ take_all (m.fed - (payload_start f + n)) (u ++ mark f) (omega (arith, overhead f, lw, full)))
        ∙ take_all (close_size f) (u ++ mark f) (omega (arith, overhead f, lw))

    begins : BeginsWithFrame (t ++ take used x) f u (take n (drop (payload_start f) (t ++ take used x)))
    begins = frame_of_parts all f u n (sixteen i) i.short (omega (arith, overhead f, h.count, full)) first sealed close

    nothing_behind : (y c : List ℕ) → BeginsWithFrame y f u c → length y ≡ length c + frame_overhead f → y ≡ frame_of f u c
    nothing_behind y c k l =
        let size = ap length k.spelled ∙ length-append (frame_of f u c) k.rest in
        k.spelled
        ∙ ap (λ z. frame_of f u c ++ z)
        (nil_from_length k.rest (omega (arith, overhead f, l, size, length-frame f u c k.has_frame.sixteen)))
        ∙ append-nil (frame_of f u c)
