-- Lemmas on the map of a rescue.

-- its text: lines, fields and numbers
pub mod TextLines
pub mod FieldCuts
pub mod Numerals
pub mod MapLines
-- its gaps, and the blocks that they mark
pub mod Lost
pub mod Keeping
-- that there is one answer
pub mod MapLaws
pub mod LostDecided
