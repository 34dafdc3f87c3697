-- Lemmas on the report and on the recovered index.

-- each image has exactly one report
pub mod OneReport
-- the bindings fit into one index run
pub mod Indexable
pub mod KeptEntries
-- the texts of the report, from values to tokens to pieces
pub mod Tokens
pub mod PieceTexts
pub mod ReportText
pub mod RunRows
pub mod ScannedLive
pub mod ListedReport
-- whole output
pub mod Appending
