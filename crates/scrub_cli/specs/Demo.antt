-- The disk of the command `demo`, and its answer.
use Rattle.std.specs.Prelude.{ℕ, List, [], ◌∷◌, ◌++◌, None, length as len, replicate, codes}
use Rattle.sha2.specs.Sha256.{sha256}
use Rattle.scrub_disk.specs.Faults.{HasSizes}
use Rattle.scrub_disk.specs.Image.{Image}
use Rattle.scrub_disk.specs.Memory.{IsBlank, Puts}
use Rattle.scrub_frame.specs.declared.locator.Locator.{Locator}
use Rattle.scrub_frame.specs.declared.form.Form.TheVariants.{Plain}
use Rattle.scrub_frame.specs.Frame.{frame_of}
use Rattle.scrub_run.specs.declared.shard_id.ShardId.{ShardId}
use Rattle.scrub_run.specs.Run.{run_bytes}
use Rattle.scrub_super.specs.Contents.{Contents}
use Rattle.scrub_super.specs.Record.{record_bytes}
use Rattle.scrub_cli.specs.declared.process.outcome.Outcome.{Outcome}
use Rattle.scrub_args.specs.declared.args.ScanOutput.TheVariants.{Report}
use Rattle.scrub_cli.specs.Scan.{IsDiskAnswer}

-- the UUID of the demo's chunk: sixteen bytes 11 hexadecimal
abbrev pub ones : List ℕ
ones = replicate 16 0x11

-- the UUID of the demo's run: sixteen bytes 22 hexadecimal
abbrev pub twos : List ℕ
twos = replicate 16 0x22

-- the locator of a payload whose frame is at the start of an extent
abbrev pub located : ℕ → List ℕ → List ℕ → Locator
located e u payload = record { extent = e; offset = 0; length = len payload; uuid = u; digest = sha256 payload }

-- the identifier of the demo's one shard: fifteen zero bytes and 1
abbrev pub demo_shard : ShardId
demo_shard = record { 0 = replicate 15 0 ++ 1 ∷ [] }

-- the bytes of the demo's run, with its one shard, whose one chunk is `abc`
abbrev pub demo_run : List ℕ
demo_run = run_bytes (record { id = demo_shard; locators = located 1 ones (codes "abc") ∷ [] } ∷ [])

-- the write pointers of the demo's extents 1 and 2
abbrev pub demo_pointers : List ℕ
demo_pointers = 41 ∷ 155 ∷ []

-- what the demo's superblock says: generation 1, the pointers, and the locator of the run
abbrev pub demo_superblock : Contents
demo_superblock = record { generation = 1; pointers = demo_pointers; retired = None; runs = located 2 twos demo_run ∷ [] }

-- a disk of three extents of four pages of 64 bytes: zeros, then a chunk at the start of extent 1, the run that names
-- it at the start of extent 2, and the record that names the run at the start of extent 0
pub record IsDemoDisk (image : Image) : Type 0 where
  pub blank : Image
  pub sizes : HasSizes blank.geometry 64 4 3
  pub zeros : IsBlank blank blank.geometry
  pub with_chunk : Image
  pub chunk : Puts blank with_chunk 1 0 (frame_of Plain ones (codes "abc"))
  pub with_run : Image
  pub run : Puts with_chunk with_run 2 0 (frame_of Plain twos demo_run)
  pub superblock : Puts with_run image 0 0 (record_bytes blank.geometry demo_superblock)

-- the answer is the report of the demo's disk, with its outcome
pub record IsDemoAnswer (text : List ℕ) (outcome : Outcome) : Type 0 where
  pub image : Image
  pub disk : IsDemoDisk image
  pub answer : IsDiskAnswer Report image text outcome
