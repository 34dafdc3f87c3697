-- What a head, and what closes the frame that it claims, say of the frame between them.
use Rattle.std.proofs.Common.{◌≡◌, ◌<◌, ◌+◌, ℕ, List, [], ◌++◌, length, arith, refl, sym, ◌∙◌, ap, subst, Option, Some, None}
use Rattle.std.proofs.lemmas.List.FromFn.{get_or-map-range_with_len, length-map-range_with_len}
use Rattle.scrub_super.proofs.BytesHere.{byte_or_zero, bytes_here}
use Rattle.scrub_disk.specs.Image.{AreBytesAt}
use Rattle.scrub_frame.specs.declared.form.Form.{Form}
use Rattle.scrub_frame.specs.declared.form.Form.TheVariants.{Plain}
use Rattle.scrub_frame.specs.declared.frame.Head.{Head}
use Rattle.scrub_frame.specs.Frame.{head, head_size, seal, mark, payload_start, frame_overhead}
use Rattle.scrub_frame.proofs.Frames.{length-seal, frame_in_parts}
use Rattle.scrub_scan.specs.Extent.{Extent, FrameAt, HasGap}
use Rattle.scrub_scan.specs.Standing.{IsClaimedAt, IsOnlyFrame, HasPlainFrame}
use Rattle.scrub_scan.proofs.FrameBytes.{length-head_of, claimed_head}
use Rattle.scrub_scan.proofs.Passing.{bytes_joined}

-- the frame has the fields of its head
pub only_frame : (x : Extent) (p : ℕ) (h : Head) → IsClaimedAt x p h → IsOnlyFrame x p h
only_frame x p h claim f u b k =
    claimed_head x p f u b h.form h.uuid (head h.form h.uuid h.length) h.length k
    (length-head_of h.form h.uuid h.length claim.sixteen) claim.head_stands claim.sixteen claim.short refl

there : (o : Option ℕ) → ¬ (o ≡ None) → o ≡ Some (byte_or_zero o)
there (Some v) some = refl
there None some = absurd (some refl)

-- they are at their place, if all of them can be read
bytes_stand : (at : ℕ → Option ℕ) (p n : ℕ) → ¬ HasGap at p n → AreBytesAt at p (bytes_here at p n)
bytes_stand at p n whole k below =
    let few : k < n = omega (arith, below, length-map-range_with_len (λ i. byte_or_zero (at i)) p n) in
    there (at (p + k))
    (λ none. whole (record { place = p + k; low = omega arith; high = omega (arith, few); unreadable = none }))
    ∙ ap Some (sym (get_or-map-range_with_len (λ i. byte_or_zero (at i)) p n k (p + k) 0 few refl))

-- the frame of a head is there, if its seal and bytes of its payload's length are between its two ends
pub claimed_frame : (x : Extent) (p : ℕ) (h : Head) (s b : List ℕ) → IsClaimedAt x p h → h.length ≡ length b →
    s ≡ seal h.form b → AreBytesAt x.byte (p + head_size) s → AreBytesAt x.byte (p + payload_start h.form) b →
    FrameAt x p h.form h.uuid b
claimed_frame x p h s b claim size is sealed between =
    let start : AreBytesAt x.byte p (head h.form h.uuid (length b)) =
    subst (λ (m : ℕ). AreBytesAt x.byte p (head h.form h.uuid m)) size claim.head_stands in
    let stop : AreBytesAt x.byte (p + payload_start h.form + h.length) (h.uuid ++ mark h.form) =
    subst (λ (q : ℕ). AreBytesAt x.byte q (h.uuid ++ mark h.form))
    (let e : p + h.length + payload_start h.form ≡ p + payload_start h.form + h.length = omega arith in e)
    claim.close_stands in
    let behind : AreBytesAt x.byte (p + payload_start h.form) (b ++ (h.uuid ++ mark h.form)) =
    bytes_joined x.byte (p + payload_start h.form) (p + payload_start h.form + h.length) b (h.uuid ++ mark h.form)
    (omega (arith, size)) between stop in
    let middle : AreBytesAt x.byte (p + head_size) (s ++ (b ++ (h.uuid ++ mark h.form))) =
    bytes_joined x.byte (p + head_size) (p + payload_start h.form) s (b ++ (h.uuid ++ mark h.form))
    (omega (arith, ap length is, length-seal h.form b)) sealed behind in
    record {
      has_frame = record { sixteen = claim.sixteen; short = omega (arith, size, claim.short) };
      fits = omega (arith, size, claim.fits);
      stands =
          subst (AreBytesAt x.byte p) (sym (frame_in_parts h.form h.uuid b))
          (bytes_joined x.byte p (p + head_size) (head h.form h.uuid (length b))
          (seal h.form b ++ (b ++ (h.uuid ++ mark h.form)))
          (omega (arith, length-head_of h.form h.uuid (length b) claim.sixteen)) start (rw is at middle));
    }

-- a plain one is there, if bytes of its length are
pub plain_frame_of : (x : Extent) (p : ℕ) (h : Head) (b : List ℕ) → IsClaimedAt x p h → h.form ≡ Plain →
    h.length ≡ length b → AreBytesAt x.byte (p + head_size) b → FrameAt x p Plain h.uuid b
plain_frame_of x p h b claim is size between =
    subst (λ (f : Form). FrameAt x p f h.uuid b) is
    (claimed_frame x p h [] b claim size (sym (ap (λ (f : Form). seal f b) is)) (λ k below. absurd (omega (arith, below)))
    (subst (λ (f : Form). AreBytesAt x.byte (p + payload_start f) b) (sym is) between))

-- so a plain frame is there, if all its bytes can be read
pub plain_frame : (x : Extent) (p : ℕ) (h : Head) → IsClaimedAt x p h → h.form ≡ Plain →
    ¬ HasGap x.byte p (h.length + frame_overhead h.form) → HasPlainFrame x p h
plain_frame x p h claim is whole =
    let n = h.length in
    let b = bytes_here x.byte (p + head_size) n in
    let size : length b ≡ n = length-map-range_with_len (λ i. byte_or_zero (x.byte i)) (p + head_size) n in
    let round : frame_overhead h.form ≡ frame_overhead Plain = ap frame_overhead is in
    let between : AreBytesAt x.byte (p + head_size) b =
    bytes_stand x.byte (p + head_size) n
    (λ gap. whole (record { place = gap.place; low = omega (arith, gap.low); high = omega (arith, gap.high, round); unreadable = gap.unreadable })) in
    record { payload = b; frame = plain_frame_of x p h b claim is (sym size) between; length = sym size }
