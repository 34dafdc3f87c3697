-- The payload of the chunk that a locator names, and the run that it is.
use Rattle.std.proofs.Common.{◌≡◌, ◌⊎◌, ◌<◌, ◌+◌, ◌-◌, ◌/◌, ◌%◌, ℕ, Bool, true, false, cond, nat_lt, List, Option, Some, None, MatchBool, MatchOption, option_and_then, slice_get, slice_index, length, arith, refl, sym, ◌∙◌, subst, inl, inr}
use Rattle.std.proofs.lemmas.Bool.Decides.{nat_tests}
use Rattle.std.proofs.lemmas.Option.{none-some}
use Rattle.scrub_disk.specs.Image.{Image, image_byte, extent_bytes}
use Rattle.scrub_frame.specs.declared.form.Form.{Form}
use Rattle.scrub_frame.specs.Frame.{frame_of, frame_overhead}
use Rattle.scrub_frame.proofs.Frames.{length-frame, overhead}
use Rattle.scrub_frame.specs.declared.locator.Locator.{Locator}
use Rattle.scrub_super.specs.Plan.{PlanValue, pointer_of}
use Rattle.scrub_scan.specs.Extent.{extent_of, FrameAt}
use Rattle.scrub_scan.specs.steps.OneFrame.{one_frame_at}
use Rattle.scrub_run.specs.Entry.{EntryValue}
use Rattle.scrub_run.specs.Run.{IsRun}
use Rattle.scrub_check.specs.declared.statuses.status.Status.{Status}
use Rattle.scrub_check.specs.declared.statuses.status.Status.TheVariants.{OutOfRange, Hidden, Sound}
use Rattle.scrub_check.specs.declared.runs.RunState.{RunState}
use Rattle.scrub_check.specs.declared.runs.RunState.TheVariants.{Read, BadChunk, NotARun}
use Rattle.scrub_check.specs.ChunkRun.{StandsThere, HasPayloadThere, HoldsRun, IsStateOf}
use Rattle.scrub_check.specs.Status.{NamesChunk, HasStatus, HasStatusInRetired, HasStatusIn}
use Rattle.scrub_check.specs.Runs.{NamesChunkIn, HasRunIn}
use Rattle.scrub_check.proofs.RunStates.{HasStatusInUse, named, unnamed, named_in_use}

-- a byte that is there lies in the extent
in_extent : (image : Image) (e place x : ℕ) → image_byte image e place ≡ Some x → place < extent_bytes image.geometry
in_extent image e place x there = by (nat_lt place (extent_bytes image.geometry)) refl there
  where
    read : Option ℕ
    read = option_and_then (λ bytes. slice_get bytes (place % image.geometry.page)) (image.page e (place / image.geometry.page))

    by : (b : Bool) → nat_lt place (extent_bytes image.geometry) ≡ b → cond b read None ≡ Some x →
        place < extent_bytes image.geometry
    by true less h = grind (arith, nat_tests)
    by false less h = absurd (none-some x h)

-- so a frame under any pointer is in the extent
pub within : (image : Image) (e w p : ℕ) (f : Form) (u b : List ℕ) → FrameAt (extent_of image e w) p f u b →
    FrameAt (extent_of image e (extent_bytes image.geometry)) p f u b
within image e w p f u b h =
    let long : length (frame_of f u b) ≡ frame_overhead f + length b = length-frame f u b h.has_frame.sixteen in
    let last : p + (length b + frame_overhead f - 1) < extent_bytes image.geometry =
    in_extent image e (p + (length b + frame_overhead f - 1)) (slice_index (frame_of f u b) (length b + frame_overhead f - 1))
    (h.stands (length b + frame_overhead f - 1) (omega (arith, long, overhead f))) in
    record { has_frame = h.has_frame; fits = omega (arith, last); stands = h.stands }

-- the chunk has its payload in the image
has_payload : (image : Image) (w : ℕ) (l : Locator) (n : NamesChunk image w l) → HasPayloadThere image l n.payload
has_payload image w l n = record {
  form = n.found.form;
  has = record {
    in_disk = n.found.can.in_range.in_disk;
    frame = record {
      frame = within image l.extent w l.offset n.found.form l.uuid n.payload n.found.frame;
      length = sym n.length;
      digest = sym n.digest;
    };
  };
}

-- and no other one
pub one_payload : (image : Image) (l : Locator) (a b : List ℕ) → HasPayloadThere image l a → HasPayloadThere image l b → a ≡ b
one_payload image l a b h k =
    (one_frame_at (extent_of image l.extent (extent_bytes image.geometry)) l.offset h.form l.uuid a k.form l.uuid b h.has.frame.frame k.has.frame.frame).2

-- under whatever pointer a locator names its chunk, the payload is the same
pub same_payload : (image : Image) (l : Locator) (v w : ℕ) (n : NamesChunk image v l) (m : NamesChunk image w l) → n.payload ≡ m.payload
same_payload image l v w n m =
    one_payload image l n.payload m.payload (has_payload image v l n) (has_payload image w l m)

-- so if the payload that is read is no run, the chunk has none
pub holds_none : (image : Image) (l : Locator) (b c : List ℕ) → HasPayloadThere image l b → c ≡ b →
    ((entries : List EntryValue) → ¬ IsRun c entries) → (entries : List EntryValue) → ¬ HoldsRun image l entries
holds_none image l b c has is none entries h = none entries (rw (one_payload image l h.payload b h.has has ∙ sym is) at h.run)

-- ---- by a plan

-- a sound or hidden locator names a chunk under its pointer
record NamedUnder (image : Image) (o : Option ℕ) (l : Locator) : Type 0 where
  pointer : ℕ
  is : o ≡ Some pointer
  names : NamesChunk image pointer l

named_under : (image : Image) (o : Option ℕ) (l : Locator) (s : Status) → (s ≡ Sound) ⊎ (s ≡ Hidden) →
    MatchOption o (s ≡ OutOfRange) (λ w. HasStatus image w l s) → NamedUnder image o l
named_under image None l s (inl e) h = absurd (cc)
named_under image None l s (inr e) h = absurd (cc)
named_under image (Some w) l s is h = record { pointer = w; is = refl; names = named image w l s is h }

-- and so by its plan
names_in : (image : Image) (plan : PlanValue) (l : Locator) (s : Status) → (s ≡ Sound) ⊎ (s ≡ Hidden) →
    HasStatusIn image plan l s → NamesChunkIn image plan l
names_in image plan l s is h =
    let in_use = named_in_use image plan l s is h in
    let n : NamedUnder image (pointer_of plan l.extent) l = named_under image (pointer_of plan l.extent) l s is in_use.1 in
    record { in_use = in_use.0; pointer = n.pointer; has_pointer = n.is; chunk = n.names }

-- so its chunk is there
pub stands_there : (image : Image) (plan : PlanValue) (l : Locator) (s : Status) → (s ≡ Sound) ⊎ (s ≡ Hidden) →
    HasStatusIn image plan l s → StandsThere image l
stands_there image plan l s is h =
    let n : NamesChunkIn image plan l = names_in image plan l s is h in
    let has = has_payload image n.pointer l n.chunk in
    record { form = has.form; stands = record { payload = n.chunk.payload; has = has.has } }

-- what is read of a chunk that is there is what was read of the run
known : (image : Image) (plan : PlanValue) (l : Locator) (run : Option (List EntryValue)) (state : RunState) →
    NamesChunkIn image plan l → IsStateOf image l run state → HasRunIn image plan l run state
known image plan l (Some entries) Read n h =
    (n, rw (one_payload image l h.payload n.chunk.payload h.has (has_payload image n.pointer l n.chunk)) at h.run)
known image plan l None NotARun n h = (
  n,
  λ entries run. h entries (record {
    payload = n.chunk.payload;
    has = has_payload image n.pointer l n.chunk;
    run = run;
  }),
)
known image plan l (Some entries) (BadChunk s) n h = absurd h
known image plan l (Some entries) NotARun n h = absurd h
known image plan l None Read n h = absurd h
known image plan l None (BadChunk s) n h = absurd h

-- what was read of a chunk that is there is the run in it
pub read_in : (image : Image) (plan : PlanValue) (l : Locator) (s : Status) (run : Option (List EntryValue)) (state : RunState) →
    (s ≡ Sound) ⊎ (s ≡ Hidden) → HasStatusIn image plan l s → IsStateOf image l run state → HasRunIn image plan l run state
read_in image plan l s run state is h t = known image plan l run state (names_in image plan l s is h) t

-- each other status loses its run
pub lost_in : (image : Image) (plan : PlanValue) (l : Locator) (s : Status) → ¬ (s ≡ Sound) → ¬ (s ≡ Hidden) →
    HasStatusIn image plan l s → HasRunIn image plan l None (BadChunk s)
lost_in image plan l s not_sound not_hidden h =
    (h, λ n. unnamed image n.pointer l s not_sound not_hidden (under n) n.chunk)
  where
    under : (n : NamesChunkIn image plan l) → HasStatus image n.pointer l s
    under n =
        subst (λ (o : Option ℕ). MatchOption o (s ≡ OutOfRange) (λ w. HasStatus image w l s)) n.has_pointer
        (subst (λ (b : Bool). MatchBool b (HasStatusInRetired image l s) (HasStatusInUse image plan l s)) n.in_use h)
