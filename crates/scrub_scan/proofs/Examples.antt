-- The definitions on worked examples, where they compute: lines, and tilings of small extents under some pointers.
use Rattle.std.proofs.Common.{◌≡◌, ◌≢◌, ◌<◌, ◌≤◌, ◌+◌, ℕ, Bool, true, false, List, [], ◌∷◌, length, replicate, slice_get, get_or, arith, refl, ap, lit<, zero, suc, Option, Some, None}
use Rattle.std.specs.Prelude.{codes, nat_lt}
use Rattle.std.proofs.lemmas.Bool.{lt-ltb}
use Rattle.std.specs.Fmt.{digits}
use Rattle.std.proofs.lemmas.Option.{slice_get-get_or}
use Rattle.std.proofs.lemmas.List.Elements.{All-cons, All-nil}
use Rattle.uuid.specs.Text.{by_index}
use Rattle.sha2.specs.Sha256.{sha256}
use Rattle.scrub_frame.specs.declared.form.Form.TheVariants.{Plain, Sealed}
use Rattle.scrub_frame.specs.Frame.{frame_of, magic, frame_overhead}
use Rattle.scrub_scan.specs.declared.item.Item.TheVariants.{Chunk, Pad, Torn, Noise, Lost}
use Rattle.scrub_scan.specs.Extent.{Extent, FrameAt, NoFrameAt, IsZero, HasMagic}
use Rattle.scrub_scan.specs.Item.{IsItem}
use Rattle.scrub_scan.specs.Line.{line_of}
use Rattle.scrub_scan.specs.Tiling.{IsTiling}
use Rattle.scrub_scan.specs.steps.OneFrame.{one_frame_at}
use Rattle.scrub_scan.proofs.FrameBytes.{first_byte}

-- the UUID of sixteen bytes 11
ones : List ℕ
ones = replicate 16 0x11

-- ---- lines

line_of_chunk : line_of (Chunk Plain 0 41 ones 3 []) ≡ codes "chunk 0 41 11111111-1111-1111-1111-111111111111 3"
unfolding ones digits by_index
line_of_chunk = refl

line_of_sealed : line_of (Chunk Sealed 0 75 ones 3 []) ≡ codes "sealed 0 75 11111111-1111-1111-1111-111111111111 3"
unfolding ones digits by_index
line_of_sealed = refl

line_of_pad : line_of (Pad 64 128) ≡ codes "pad 64 128"
unfolding digits
line_of_pad = refl

line_of_torn : line_of (Torn 0 64) ≡ codes "torn 0 64"
unfolding digits
line_of_torn = refl

line_of_noise : line_of (Noise 66 105) ≡ codes "noise 66 105"
unfolding digits
line_of_noise = refl

line_of_lost : line_of (Lost 64 98) ≡ codes "lost 64 98"
unfolding digits
line_of_lost = refl

-- ---- the frame of `abc` at 0, under the pointers 41, 40 and 1

-- the payload `abc`
abc : List ℕ
abc = 0x61 ∷ 0x62 ∷ 0x63 ∷ []

-- an extent with pages of 64 bytes, and under this pointer
abc_under : ℕ → Extent
abc_under pointer = record { byte = slice_get (frame_of Plain ones abc); page = 64; pointer = pointer }

stands : (w : ℕ) → 41 ≤ w → FrameAt (abc_under w) 0 Plain ones abc
unfolding abc_under ones abc
stands w h = record {
  has_frame = record { sixteen = refl; short = lit< tt };
  fits = omega (arith, h);
  stands = λ k hk. let e : 0 + k ≡ k = omega arith in rw e (slice_get-get_or (frame_of Plain ones abc) k 0 hk);
}

tiling_under_41 : IsTiling (abc_under 41) (Chunk Plain 0 41 ones 3 (sha256 abc) ∷ [])
unfolding abc_under abc
tiling_under_41 = record {
  joined = (refl, refl);
  each = All-cons (IsItem (abc_under 41)) (Chunk Plain 0 41 ones 3 (sha256 abc)) [] (record {
    below = lit< tt;
    fits = (abc, stands 41 (omega arith), refl, refl, refl);
  }) (All-nil (IsItem (abc_under 41)));
}

-- a frame that ended at or before the pointer would be the frame of `abc`
no_frame_under : (w : ℕ) → w < 41 → NoFrameAt (abc_under w) 0
unfolding abc_under abc
no_frame_under w h f u b k =
    let here : FrameAt (abc_under (w + 41)) 0 f u b = record {
      has_frame = k.has_frame;
      fits = omega (arith, k.fits);
      stands = k.stands;
    } in
    let same : (f ≡ Plain) × (u ≡ ones) × (b ≡ abc) =
    one_frame_at (abc_under (w + 41)) 0 f u b Plain ones abc here (stands (w + 41) (omega arith)) in
    let long : length b ≡ 3 = ap length same.2 in
    let round : frame_overhead f ≡ 38 = ap frame_overhead same.0 in
    omega (arith, k.fits, long, round, h)

is_readable : (w : ℕ) → (abc_under w).byte 0 ≢ None
unfolding abc_under ones abc
is_readable w none = absurd (cc)

is_not_zero : (w : ℕ) → 0 < w → ¬ IsZero (abc_under w) 0
unfolding abc_under ones abc
is_not_zero w h zeros =
    absurd (let e : Some 0xC5 ≡ Some 0 = zeros 0 (omega arith) (omega (arith, h)) in let f : ⊥ = cc in f)

begins_with_magic : (w : ℕ) → 2 ≤ w → HasMagic (abc_under w) 0
unfolding abc_under ones abc
begins_with_magic w h = (omega (arith, h), (Plain, each))
  where
    each : (k : ℕ) → k < 2 → slice_get (frame_of Plain ones abc) (0 + k) ≡ Some (get_or (magic Plain) k 0)
    each zero hk = refl
    each (suc zero) hk = refl
    each (suc (suc k)) hk = absurd (omega (arith, hk))

tiling_under_40 : IsTiling (abc_under 40) (Torn 0 40 ∷ [])
unfolding abc_under
tiling_under_40 = record {
  joined = (refl, refl);
  each = All-cons (IsItem (abc_under 40)) (Torn 0 40) [] (record {
    below = lit< tt;
    fits = (
      refl,
      no_frame_under 40 (lit< tt),
      is_readable 40,
      is_not_zero 40 (lit< tt),
      begins_with_magic 40 (omega arith),
    );
  }) (All-nil (IsItem (abc_under 40)));
}

-- one byte is too short for the magic
tiling_under_1 : IsTiling (abc_under 1) (Noise 0 1 ∷ [])
unfolding abc_under
tiling_under_1 = record {
  joined = (refl, refl);
  each = All-cons (IsItem (abc_under 1)) (Noise 0 1) [] (record {
    below = lit< tt;
    fits = (
      refl,
      no_frame_under 1 (lit< tt),
      is_readable 1,
      is_not_zero 1 (lit< tt),
      λ h. absurd (omega (arith, h.0)),
    );
  }) (All-nil (IsItem (abc_under 1)));
}

tiling_under_0 : IsTiling (abc_under 0) []
unfolding abc_under
tiling_under_0 = record { joined = refl; each = All-nil (IsItem (abc_under 0)) }

-- ---- two pages of zeros, the second of them unreadable

-- a byte that is zero if it is readable
zero_or_lost : Bool → Option ℕ
zero_or_lost true = Some 0
zero_or_lost false = None

zeros_then_lost : Extent
zeros_then_lost = record { byte = λ i. zero_or_lost (nat_lt i 64); page = 64; pointer = 100 }

no_frame_in_zeros : (p : ℕ) → NoFrameAt zeros_then_lost p
unfolding zeros_then_lost zero_or_lost
no_frame_in_zeros p f u b k = first (nat_lt p 64) (first_byte zeros_then_lost p f u b k)
  where
    first : (b : Bool) → zero_or_lost b ≡ Some 0xC5 → ⊥
    first true e = cc
    first false e = cc

tiling_of_zeros_then_lost : IsTiling zeros_then_lost (Pad 0 64 ∷ Lost 64 100 ∷ [])
unfolding zeros_then_lost zero_or_lost
tiling_of_zeros_then_lost = record {
  joined = (refl, (refl, refl));
  each = All-cons (IsItem zeros_then_lost) (Pad 0 64) (Lost 64 100 ∷ []) (record {
    below = lit< tt;
    fits = (refl, no_frame_in_zeros 0, λ i low high. ap zero_or_lost (lt-ltb i 64 high));
  }) (All-cons (IsItem zeros_then_lost) (Lost 64 100) [] (record {
    below = lit< tt;
    fits = (refl, no_frame_in_zeros 64, refl);
  }) (All-nil (IsItem zeros_then_lost)));
}
