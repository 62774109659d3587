-- How the words are put; that they are read back; what follows for a state between two calls; and what tidying a record keeps.
pub mod PartLaws
pub mod RecordLaws
pub mod ReadLaws
pub mod BackLaws
pub mod HeldLaws
pub mod ClearedLaws
pub mod OptionLaws
pub mod TidiedLaws
pub mod TidiedStateLaws
pub mod TidiedWrittenLaws
