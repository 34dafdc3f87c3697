-- The map of the rescue that made an image: what is read of a map that is named, and the pages that are lost by it.
use Rattle.std.specs.Prelude.{◌≡◌, ◌<◌, ◌≤◌, ◌↔◌, ℕ, List, Bool, true, false, Option, None, Some, IfSome, IsTrue}
use Rattle.std.specs.Borrow.{Bor}
use Rattle.scrub_disk.specs.BytesAndMarks.{page_number}
use Rattle.scrub_disk.specs.Image.{Image, disk_bytes}
use Rattle.scrub_map.specs.declared.block.MapBlock.{MapBlock}
use Rattle.scrub_map.specs.Map.{IsFirstBadLine, IsMap}
use Rattle.scrub_map.specs.declared.map.RescueMap.{RescueMap}
use Rattle.scrub_map.specs.MissingBytes.{KeepsBlocks}
use Rattle.scrub_map.specs.Rescued.{IsCovered, IsLostBlock}
use Rattle.scrub_super.specs.declared.unknown_sizes.front.Front.{Front}
use Rattle.scrub_super.specs.UnknownSizes.{IsFrontOf}
use Rattle.scrub_cli.specs.declared.process.fault.Fault.{Fault}
use Rattle.scrub_cli.specs.declared.process.fault.Fault.TheVariants.{NoMap, MapLine, OutOfMemory}
use Rattle.scrub_cli.specs.KnownFiles.{KnownMaps, KnownRaw}

-- the map may have this text: it is the known text, or nothing is known of it
abbrev pub IsTextOf : Option (List ℕ) → List ℕ → Type 0
IsTextOf known text = IfSome known (λ bytes. text ≡ bytes)

-- the blocks of a map whose text is this one, if it is known
pub record HasBlocks (known_text : Option (List ℕ)) (blocks : List MapBlock) : Type 0 where
  pub text : List ℕ
  pub known : IsTextOf known_text text
  pub read : IsMap text blocks

-- the blocks of the map that is named, and None if none is
abbrev pub AreBlocksOf : KnownMaps → Option (Bor (List ℕ)) → Option (List MapBlock) → Type 0
AreBlocksOf maps None None = Unit {0}
AreBlocksOf maps None (Some blocks) = ⊥
AreBlocksOf maps (Some name) None = ⊥
AreBlocksOf maps (Some name) (Some blocks) = HasBlocks (maps name.now).text blocks

-- what is kept of a map lacks just the bytes that these blocks don't cover, and nothing is kept if none is named
abbrev pub KeepsMap : Option RescueMap → Option (List MapBlock) → Type 0
KeepsMap None None = Unit {0}
KeepsMap None (Some blocks) = ⊥
KeepsMap (Some map) None = ⊥
KeepsMap (Some map) (Some blocks) = KeepsBlocks map blocks

-- what is kept is that of the map that is named
pub record IsMapNamed (maps : KnownMaps) (named : Option (Bor (List ℕ))) (map : Option RescueMap) : Type 0 where
  pub blocks : Option (List MapBlock)
  pub are : AreBlocksOf maps named blocks
  pub keeps : KeepsMap map blocks

-- why the map that is named isn't read: it can't be opened, which it may fail to be; this line of its text is the first
-- that breaks the rules; or memory ran out
abbrev pub IsMapFault : KnownMaps → Option (Bor (List ℕ)) → Fault → Type 0
IsMapFault maps named (NoMap name) = (named ≡ Some name) × IsTrue (maps name.now).fails_to_open
IsMapFault maps named (MapLine k) =
    (name : Bor (List ℕ)) × (text : List ℕ) × (named ≡ Some name) × IsTextOf (maps name.now).text text × IsFirstBadLine text k
IsMapFault maps named OutOfMemory = Unit {0}
IsMapFault maps named fault = ⊥

-- what a map of these blocks lacks: exactly the bytes that its blocks don't cover; and nothing without a map
abbrev pub AreLackingBy : Option (List MapBlock) → (ℕ → Bool) → Type 0
AreLackingBy None lacking = (i : ℕ) → lacking i ≡ false
AreLackingBy (Some blocks) lacking = (i : ℕ) → (lacking i ≡ true) ↔ (¬ IsCovered blocks i)

-- the front of a raw image of which this is known, with the blocks lost that have a byte before its end which a map of these
-- blocks lacks, and those of as many reads as may have failed
pub record IsFrontRead (known : KnownRaw) (blocks : Option (List MapBlock)) (front : Front) : Type 0 where
  pub failures : ℕ
  pub few : failures ≤ known.most_failures
  pub lacking : ℕ → Bool
  pub lacks : AreLackingBy blocks lacking
  pub is_front : IsFrontOf known.bytes lacking known.fails failures front

-- each page with a byte that wasn't rescued is unreadable, and each other page is as it was
pub record LosesPages (blocks : List MapBlock) (before image : Image) : Type 0 where
  pub geometry : image.geometry ≡ before.geometry
  pub lost : (e q : ℕ) → e < before.geometry.extents → q < before.geometry.pages →
      IsLostBlock blocks before.geometry.page (disk_bytes before.geometry) (page_number before.geometry e q) → image.page e q ≡ None
  pub kept : (e q : ℕ) → e < before.geometry.extents → q < before.geometry.pages →
      ¬ IsLostBlock blocks before.geometry.page (disk_bytes before.geometry) (page_number before.geometry e q) → image.page e q ≡ before.page e q

-- with a map each page with a byte that wasn't rescued is unreadable, and each other page is as it was; without one the
-- image is as it was
abbrev pub LosesByMap : Option (List MapBlock) → Image → Image → Type 0
LosesByMap None before image = image ≡ before
LosesByMap (Some blocks) before image = LosesPages blocks before image
