-- Steps of the code.
pub mod Payloads
pub mod Archive
