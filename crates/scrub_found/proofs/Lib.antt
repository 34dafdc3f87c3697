-- Lemmas on what is found on a disk.

-- one plan and one scan for each choice, under resets too
pub mod OneReader
pub mod ResetPlans
pub mod GivenPlans
-- one record of all that is found
pub mod OneScrub
-- each image has all that is found
pub mod Existing
pub mod FoundBeside
-- whether it is clean
pub mod CleanLists
pub mod Verdicts
-- the bindings fit into one index run
pub mod FewBindings
-- the rows of runs
pub mod RowStates
