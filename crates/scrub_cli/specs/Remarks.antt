-- The lines of the error stream for what is said beside an answer: beside a manifest, the bytes of a shard, or the archive of all shards.
use Rattle.std.specs.Prelude.{◌++◌, [], ℕ, List, codes, if◌then◌else◌}
use Rattle.std.specs.Fmt.{decimal}
use Rattle.std.specs.List.{flat_map}
use Rattle.hex.specs.Hex.{encode_lower}
use Rattle.scrub_scan.specs.Line.{spaced}
use Rattle.scrub_found.specs.Texts.{state_text}
use Rattle.scrub_listings.specs.Manifest.{two_digits}
use Rattle.scrub_listings.specs.declared.remarks.SuperblockRemark.{SuperblockRemark}
use Rattle.scrub_listings.specs.declared.remarks.SuperblockRemark.TheVariants.{Lost, Tie}
use Rattle.scrub_shard.specs.declared.archiving.Remark.{Remark}
use Rattle.scrub_shard.specs.declared.archiving.Remark.TheVariants.{NoSuperblock, Superblock, RunLost, ShardLost, ShardDoubtful}
use Rattle.scrub_shard.specs.declared.shard.ShardAnswer.{ShardAnswer}
use Rattle.scrub_shard.specs.declared.shard.ShardAnswer.TheVariants.{Found}
use Rattle.scrub_cli.specs.Fault.{line}

-- the line of a remark on the superblocks, with its line feed
abbrev pub superblock_remark_line : SuperblockRemark → List ℕ
superblock_remark_line (Lost page) = line (codes "superblock lost:" ++ spaced (decimal page))
superblock_remark_line Tie = line (codes "tie")

-- the lines of some of them
abbrev pub superblock_remark_lines : List SuperblockRemark → List ℕ
superblock_remark_lines remarks = flat_map superblock_remark_line remarks

-- the line for the bytes of a shard whose entry is doubtful
abbrev pub warning : List ℕ
warning = line (codes "a newer entry may be lost")

-- the lines for the bytes of a shard: those on the superblocks, and whether the entry is doubtful; none for another answer
abbrev pub shard_remark_lines : List SuperblockRemark → ShardAnswer → List ℕ
shard_remark_lines remarks (Found found) = superblock_remark_lines remarks ++ (if found.is_doubtful then warning else [])
shard_remark_lines remarks answer = []

-- the line of a remark beside an archive, with its line feed
abbrev pub remark_line : Remark → List ℕ
remark_line NoSuperblock = line (codes "no superblock")
remark_line (Superblock remark) = superblock_remark_line remark
remark_line (RunLost number state) = line (codes "run lost:" ++ spaced (decimal number) ++ spaced (state_text state))
remark_line (ShardLost id number) = line (codes "payload lost:" ++ spaced (encode_lower id.0) ++ spaced (two_digits number))
remark_line (ShardDoubtful id) = line (codes "a newer entry may be lost:" ++ spaced (encode_lower id.0))

-- the lines of some remarks
abbrev pub remark_lines : List Remark → List ℕ
remark_lines remarks = flat_map remark_line remarks
