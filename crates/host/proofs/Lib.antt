-- Tables as they are put; what holds of a state that is written and read again between two calls, and of lists of calls.
pub mod TableLaws
pub mod ResetLaws
pub mod TypedLaws
pub mod WheelLaws
pub mod CalledLaws
pub mod RunHeldLaws
pub mod ListLaws
pub mod Contracts
