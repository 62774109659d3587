-- The numbers of documents 01 and 02, and what an answer that may be refused tells in their words.
use Rattle.std.specs.Prelude.{◌≡◌, ℕ, Result, Ok, Err, Option, Some, None}
use Rattle.refusals.specs.declared.Refusal.{Refusal}

abbrev pub number_of : Refusal → ℕ
number_of Refusal.FrameLength = 1
number_of Refusal.FlagOrKind = 2
number_of Refusal.Exceeds = 3
number_of Refusal.Outside = 4
number_of Refusal.Style = 5
number_of Refusal.State = 6
number_of Refusal.PressBlocked = 7
number_of Refusal.Outcome = 8
number_of Refusal.Run = 9
number_of Refusal.TableLength = 10
number_of Refusal.TableOrder = 11
number_of Refusal.Clock = 12
number_of Refusal.NoDrawer = 13
number_of Refusal.NoEntry = 14
number_of Refusal.DrawerFull = 15

-- the number, or 0 where the answer is not refused
abbrev pub number_in : {A : Type 0} → Result A Refusal → ℕ
number_in (Ok a) = 0
number_in (Err refusal) = number_of refusal

-- what a call answers whose refusal hands back what it was given: the number or 0, and the value
pub record Answered (A : Type 0) : Type 0 where
  pub refusal : ℕ
  pub value : A

abbrev pub answered : {A : Type 0} → A → Result A Refusal → Answered A
answered given (Ok a) = record { refusal = 0; value = a }
answered given (Err refusal) = record { refusal = number_of refusal; value = given }
