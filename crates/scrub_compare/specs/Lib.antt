-- For public clauses.
pub mod Written
pub mod Compare
pub mod Laws
-- Steps of the code.
pub mod steps
