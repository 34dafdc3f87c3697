-- Steps of the code.
pub mod Held
pub mod Search
pub mod Asked
pub mod Walk
pub mod Naming
