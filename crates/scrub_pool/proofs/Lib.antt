-- Lemmas on workers over one queue.

-- the shared queue
pub mod Steps
pub mod Totals
-- workers: what each takes, and what all have in the end
pub mod Groups
pub mod Crews
pub mod Joined
pub mod Schedules
