pub mod DigitLaws
pub mod TableLaws
