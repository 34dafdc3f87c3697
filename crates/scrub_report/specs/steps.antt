-- Steps of the code.
pub mod Lists
pub mod Tokens
pub mod Values
pub mod IndexLocators
