-- A state's record in words; what holds of every state that is written; and a record with absent options as zeros.
pub mod Record
pub mod Held
pub mod Tidied
