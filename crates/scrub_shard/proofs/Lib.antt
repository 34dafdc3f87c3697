-- Lemmas on the bytes of shards, and on archives of them.

-- the payloads of a shard
mod Frames
mod Joined
mod Lost
mod Parts
-- the answer for a shard
mod Answered
mod OneAnswer
mod Contents
mod Nowhere
mod ByRuns
-- archives
mod TarHeaders
mod Archives
mod OneArchive
mod EachShard
mod PartialLaws
-- that there are both
mod Existing
-- the superblock's own list of index runs
mod OwnList
mod OwnAnswers
