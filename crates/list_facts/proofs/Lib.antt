-- Lemmas that name nothing of this project. What the toolchain's library has isn't stated again: look there first
-- (`rt lemma WORD..`), then here.

-- single values: tests, conditions that are decided, values that may be missing
pub mod Bools
pub mod Decisions
pub mod Options
-- conditions that exactly one value meets
pub mod OneAnswers
-- how two values compare, and quotients
pub mod Orders
pub mod Arithmetic
-- lists in any order: what they contain, what passes a test, how many do
pub mod Elements
pub mod Filters
pub mod Counts
-- two lists place by place
pub mod Zips
-- parts of lists, and lists that are spelled in parts of one size
pub mod Slices
pub mod Spelling
-- lists in order: by a number of each element, by any order, and made so
pub mod Rising
pub mod Sorted
pub mod Sorting
-- what a search finds
pub mod Searches
