-- The calls on records, the settling run, and the calls on tables; and what holds of a list of calls.
pub mod Calls
pub mod SettlingRun
pub mod Table
pub mod Lists
