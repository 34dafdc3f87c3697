-- The definitions on worked examples: which locators are named, and the statuses of locators of one chunk.
use Rattle.std.proofs.Common.{◌≡◌, ◌≢◌, ◌<◌, ◌≤◌, ◌+◌, ℕ, Bool, List, [], ◌∷◌, replicate, arith, refl, sym, ◌∙◌, ap, Some, None, slice_index, lit<}
use Rattle.std.proofs.lemmas.List.Elements.{All-cons, All-nil}
use Rattle.sha2.specs.Sha256.{sha256}
use Rattle.scrub_disk.specs.Image.{Image, image_byte, AreBytesAt, extent_bytes}
use Rattle.scrub_frame.specs.declared.form.Form.TheVariants.{Plain}
use Rattle.scrub_frame.specs.Frame.{frame_of}
use Rattle.scrub_frame.specs.declared.locator.Locator.{Locator}
use Rattle.scrub_scan.specs.declared.item.Item.TheVariants.{Chunk}
use Rattle.scrub_scan.specs.Extent.{extent_of, FrameAt}
use Rattle.scrub_scan.specs.Item.{IsItem}
use Rattle.scrub_scan.specs.Tiling.{IsTiling}
use Rattle.scrub_run.specs.declared.shard_id.ShardId.{ShardId}
use Rattle.scrub_check.specs.declared.statuses.status.Status.TheVariants.{OutOfRange, PastPointer, WrongUuid, WrongLength, WrongDigest, Sound}
use Rattle.scrub_check.specs.declared.named.Owner.TheVariants.{Run, Shard}
use Rattle.scrub_check.specs.Status.{InRange, FindsFrame, HasStatus}
use Rattle.scrub_check.specs.Named.{named_locators}

-- ---- the locators of two runs, and of a shard that has two

named_of_two_runs_and_a_shard : (k l m n : Locator) (id : ShardId) (doubtful : Bool) →
    named_locators (k ∷ l ∷ []) (record { id = id; locators = m ∷ n ∷ []; run = 1; doubtful = doubtful } ∷ [])
    ≡ record { owner = Run 0; locator = k }
    ∷ record { owner = Run 1; locator = l }
    ∷ record { owner = Shard id; locator = m }
    ∷ record { owner = Shard id; locator = n }
    ∷ []
named_of_two_runs_and_a_shard k l m n id doubtful = refl

-- ---- the frame of `abc` at the start of extent 1, on a disk of three extents of four pages of 64 bytes

ones : List ℕ
ones = replicate 16 0x11

abc : List ℕ
abc = 0x61 ∷ 0x62 ∷ 0x63 ∷ []

record HoldsAbc (image : Image) : Type 0 where
  page : image.geometry.page ≡ 64
  pages : image.geometry.pages ≡ 4
  extents : image.geometry.extents ≡ 3
  stands : AreBytesAt (image_byte image 1) 0 (frame_of Plain ones abc)

-- a locator of the start of an extent
abbrev start_of_extent : ℕ → ℕ → List ℕ → List ℕ → Locator
start_of_extent e n u d = record { extent = e; offset = 0; length = n; uuid = u; digest = d }

stands : (image : Image) (w : ℕ) → HoldsAbc image → 41 ≤ w → FrameAt (extent_of image 1 w) 0 Plain ones abc
unfolding ones abc
stands image w a h = record {
  has_frame = record { sixteen = refl; short = lit< tt };
  fits = omega (arith, h);
  stands = a.stands;
}

in_range : (image : Image) (n : ℕ) (u d : List ℕ) → HoldsAbc image → n ≤ 3 → InRange image.geometry (start_of_extent 1 n u d)
in_range image n u d a h = record {
  from_one = omega arith;
  in_disk = omega (arith, a.extents);
  in_extent = let size : extent_bytes image.geometry ≡ 256 = rw (a.page, a.pages) refl in omega (arith, size, h);
}

finds : (image : Image) (n : ℕ) (u d : List ℕ) → HoldsAbc image → n ≤ 3 → FindsFrame image 41 (start_of_extent 1 n u d) ones abc
unfolding ones abc
finds image n u d a h = record {
  can = record {
    in_range = in_range image n u d a h;
    below = omega (arith, h);
    readable = λ gap. readable gap.place (omega (arith, gap.high, h)) gap.unreadable;
  };
  form = Plain;
  frame = stands image 41 a (omega arith);
}
  where
    some_not_none : (x : ℕ) → Some x ≡ None → ⊥
    some_not_none x e = cc

    readable : (i : ℕ) → i < 41 → image_byte image 1 i ≡ None → ⊥
    readable i low none =
        let at : 0 + i ≡ i = omega arith in
        let there : image_byte image 1 (0 + i) ≡ Some (slice_index (frame_of Plain ones abc) i) = a.stands i (omega (arith, low)) in
        let same : Some (slice_index (frame_of Plain ones abc) i) ≡ None = sym there ∙ ap (image_byte image 1) at ∙ none in
        some_not_none (slice_index (frame_of Plain ones abc) i) same

in_extent_0 : (image : Image) (d : List ℕ) → HasStatus image 41 (start_of_extent 0 3 ones d) OutOfRange
in_extent_0 image d h = omega (arith, h.from_one)

in_extent_3 : (image : Image) (d : List ℕ) → HoldsAbc image → HasStatus image 41 (start_of_extent 3 3 ones d) OutOfRange
in_extent_3 image d a h = omega (arith, h.in_disk, a.extents)

one_byte_past_the_pointer : (image : Image) (d : List ℕ) → HoldsAbc image →
    HasStatus image 40 (start_of_extent 1 3 ones d) PastPointer
one_byte_past_the_pointer image d a = (in_range image 3 ones d a (omega arith), λ below. omega (arith, below))

another_uuid : (image : Image) (u d : List ℕ) → HoldsAbc image → u ≢ ones →
    HasStatus image 41 (start_of_extent 1 3 u d) WrongUuid
another_uuid image u d a other = (ones, (abc, finds image 3 u d a (omega arith), λ same. other (sym same)))

one_byte_less : (image : Image) (d : List ℕ) → HoldsAbc image → HasStatus image 41 (start_of_extent 1 2 ones d) WrongLength
unfolding abc
one_byte_less image d a = (abc, finds image 2 ones d a (omega arith), λ same. omega (arith, same))

another_digest : (image : Image) (d : List ℕ) → HoldsAbc image → d ≢ sha256 abc →
    HasStatus image 41 (start_of_extent 1 3 ones d) WrongDigest
unfolding abc
another_digest image d a other = (abc, finds image 3 ones d a (omega arith), refl, λ same. other (sym same))

-- the chunk alone is the tiling under 41, so an item begins there
sound : (image : Image) → HoldsAbc image → HasStatus image 41 (start_of_extent 1 3 ones (sha256 abc)) Sound
unfolding abc
sound image a = (
  record { payload = abc; found = finds image 3 ones (sha256 abc) a (omega arith); length = refl; digest = refl },
  record { items = Chunk Plain 0 41 ones 3 (sha256 abc) ∷ []; tiled = tiled; begins = (0, omega arith, refl) },
)
  where
    tiled : IsTiling (extent_of image 1 41) (Chunk Plain 0 41 ones 3 (sha256 abc) ∷ [])
    tiled = record {
      joined = (refl, refl);
      each = All-cons (IsItem (extent_of image 1 41)) (Chunk Plain 0 41 ones 3 (sha256 abc)) [] (record {
        below = lit< tt;
        fits = (abc, stands image 41 a (omega arith), refl, refl, refl);
      }) (All-nil (IsItem (extent_of image 1 41)));
    }
