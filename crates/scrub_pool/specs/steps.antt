-- Steps of the code.
pub mod Account
pub mod PassModel
pub mod Working
