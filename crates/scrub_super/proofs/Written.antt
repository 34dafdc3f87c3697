-- What is appended when a record is written, and that it reads back.
use Rattle.std.proofs.Common.{◌≡◌, ◌<◌, ◌≤◌, ◌+◌, ◌*◌, ◌-◌, ◌^◌, ℕ, List, ◌++◌, length, take, drop, arith, sym, ◌∙◌, ap, append_assoc, length-drop, length-append, IfSome}
use Rattle.std.specs.List.{flat_map}
use Rattle.std.proofs.lemmas.List.{take_all, drop_at}
use Rattle.byteorder.specs.Endian.{big_bytes}
use Rattle.sha2.specs.Sha256.{sha256}
use Rattle.scrub_disk.specs.declared.geometry.Geometry.{Geometry}
use Rattle.scrub_frame.specs.declared.locator.Locator.{Locator}
use Rattle.scrub_frame.specs.Locator.{locator_bytes}
use Rattle.scrub_super.specs.declared.head.Head.{Head}
use Rattle.scrub_super.specs.Contents.{Contents, retired_in}
use Rattle.scrub_super.specs.Planned.{AreRetired}
use Rattle.scrub_super.specs.Record.{record_bytes, AreContents, BeginsWithRecord}
use Rattle.scrub_super.specs.steps.Limits.{ArePointers}
use Rattle.scrub_super.specs.steps.RecordRead.{record_body, body_size, digest_place, head_bytes, record_head_size, retired_count}
use Rattle.scrub_super.proofs.Fronts.{length_head}
use Rattle.scrub_super.proofs.Listed.{count_in, small_count, length_listed, length_numbers}
use Rattle.scrub_super.proofs.RecordParts.{body_behind, body_is}

-- the head of these contents
abbrev pub head_for : Contents → Head
head_for s = record { generation = s.generation; runs = length s.runs; retired = count_in s }

module _ (g : Geometry) (s : Contents) {head : Head} (is : head ≡ head_for s) where
  -- If the retired extents that are listed are extents of the disk, the head counts fewer than 2^16.
  pub small_head : IfSome s.retired (AreRetired g.extents) → retired_count head.retired < 2 ^ 16
  small_head h = rw is (small_count g s.retired h)

  -- how many bytes are reserved
  pub size_before_digest : {size : ℕ} → size ≡ digest_place g head.runs head.retired → ArePointers g s.pointers →
      size ≡ body_size s
  size_before_digest at pointers = omega (arith, rw is at at, pointers.count)

  -- the length of the list after a head was appended
  pub head_appended : (old : List ℕ) {new : List ℕ} → new ≡ old ++ head_bytes g head.generation head.runs head.retired →
      length new ≡ length old + record_head_size (count_in s)
  head_appended old h =
      omega (
        arith,
        simp length-append at (ap length (rw is at h)),
        length_head g s.generation (length s.runs) (count_in s),
      )

-- a head counts the runs of its contents
pub few_runs : (s : Contents) {head : Head} → head ≡ head_for s → length s.runs ≤ 32 → head.runs ≤ 32
few_runs s is few = rw is few

-- after numbers
pub numbers_appended : (old : List ℕ) {new ws xs : List ℕ} → xs ≡ ws → new ≡ old ++ flat_map (big_bytes 4) xs →
    length new ≡ length old + 4 * length ws
numbers_appended old {ws = ws} is h = omega (arith, simp (length-append, length_numbers) at (ap length (rw is at h)))

-- after retired extents
pub retired_appended : (old : List ℕ) {new xs : List ℕ} (s : Contents) → xs ≡ retired_in s →
    new ≡ old ++ flat_map (big_bytes 4) xs → length new ≡ length old + 4 * retired_count (count_in s)
retired_appended old s is h = omega (arith, numbers_appended old is h, length_listed s.retired)

-- what is appended before the digest
pub body_written : (g : Geometry) (s : Contents) (old : List ℕ) {head : Head} {o1 o2 o3 o4 ps ts : List ℕ} {rs : List Locator} →
    head ≡ head_for s → ps ≡ s.pointers → ts ≡ retired_in s → rs ≡ s.runs →
    o1 ≡ old ++ head_bytes g head.generation head.runs head.retired →
    o2 ≡ o1 ++ flat_map (big_bytes 4) ps → o3 ≡ o2 ++ flat_map (big_bytes 4) ts → o4 ≡ o3 ++ flat_map locator_bytes rs →
    o4 ≡ old ++ record_body g s
body_written g s old {o4 = o4} hh hp ht hr h1 h2 h3 h4 = parts ∙ ap (λ body. old ++ body) (sym (body_is g s))
  where
    parts : o4 ≡ old ++ body_behind g s.generation (length s.runs) (count_in s) s
    parts = rw (h4, h3, h2, h1, hh, hp, ht, hr) (simp append_assoc)

-- and with the digest
pub record_written : (g : Geometry) (s : Contents) (old : List ℕ) {o3 o4 seen digest : List ℕ} {start : ℕ} →
    o3 ≡ old ++ record_body g s → seen ≡ o3 → start ≡ length old →
    digest ≡ sha256 (take (length seen - start) (drop start seen)) → o4 ≡ o3 ++ digest → o4 ≡ old ++ record_bytes g s
record_written g s old {seen = seen} {start = start} h3 hs hl hd h4 =
    rw (h4, hd, body, h3) (append_assoc old (record_body g s) (sha256 (record_body g s)))
  where
    body : take (length seen - start) (drop start seen) ≡ record_body g s
    body =
        take_all _ _ (omega (arith, length-drop start seen)) ∙ ap (drop start) (hs ∙ h3)
        ∙ drop_at old (record_body g s) start (sym hl)

-- what was appended reads back, whatever follows it
pub record_again : (g : Geometry) (s : Contents) (old new rest : List ℕ) (n : ℕ) → n ≡ length old →
    new ≡ old ++ record_bytes g s → AreContents g s → BeginsWithRecord g (drop n new ++ rest) s
record_again g s old new rest n hn hnew contents = record {
  contents = contents;
  rest = rest;
  spelled = ap (λ t. t ++ rest) (ap (drop n) hnew ∙ drop_at old (record_bytes g s) n (sym hn));
}
