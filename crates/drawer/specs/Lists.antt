-- "After every list of these three calls on a fresh drawer that nobody else writes, a load gives the last state saved under that id since its
-- last forgetting, or 14 if there is none": one claim about all lists.
use Rattle.std.specs.Prelude.{◌≡◌, Bool, true, false, cond, List, [], ◌∷◌, ℕ, ◌+◌, ◌-◌, ◌<◌, eqb, length, get_or}
use Rattle.words.specs.Words.{word_at, bytes_of}
use Rattle.records.specs.Record.{is_damaged}
use Rattle.records.specs.Tidied.{tidied}
use Rattle.drawer.specs.Drawer.{chain_of}
use Rattle.drawer.specs.Search.{records}
use Rattle.drawer.specs.Order.{Ascends}
use Rattle.drawer.specs.Calls.{width, save_on, load_on, forget_on}

-- by id; a save with the bytes of a state's record
pub data Call : Type 0 where
  save : ℕ → List ℕ → Call
  load : ℕ → Call
  forget : ℕ → Call

-- an id is a number of 64 bits, a state's record has 156 bytes
abbrev pub IsCall : Call → Type 0
IsCall (save x st) = (x < 18446744073709551616) × (length st ≡ 156) × ((i : ℕ) → get_or st i 0 < 256)
IsCall (load x) = Unit {0}
IsCall (forget x) = Unit {0}

abbrev pub AreCalls : List Call → Type 0
AreCalls [] = Unit {0}
AreCalls (c ∷ cs) = IsCall c × AreCalls cs

-- the bytes of a state's record, or none
pub data Held : Type 0 where
  nothing : Held
  state : List ℕ → Held

-- held: what a load hands out
pub record Answer : Type 0 where
  pub refusal : ℕ
  pub held : Held

-- ---- what the drawer does; what a load answers does not depend on what it was handed, and it only reads the drawer
abbrev pub answer_on : List ℕ → Call → Answer
answer_on s (save x st) = record { refusal = (save_on s x st).refusal; held = nothing }
answer_on s (load x) = record { refusal = (load_on s x []).refusal; held = cond (eqb (load_on s x []).refusal 0) (state (load_on s x []).state) nothing }
answer_on s (forget x) = record { refusal = (forget_on s x).refusal; held = nothing }

abbrev pub left_on : List ℕ → Call → List ℕ
left_on s (save x st) = (save_on s x st).drawer
left_on s (load x) = s
left_on s (forget x) = (forget_on s x).drawer

unfoldable pub answers_on : List ℕ → List Call → List Answer
answers_on s [] = []
answers_on s (c ∷ cs) = answer_on s c ∷ answers_on (left_on s c) cs

unfoldable pub left_after : List ℕ → List Call → List ℕ
left_after s [] = s
left_after s (c ∷ cs) = left_after (left_on s c) cs

-- ---- what it is to do, from what happened so far, the newest first
pub data Event : Type 0 where
  saved : ℕ → List ℕ → Event
  forgot : ℕ → Event

-- a state's record as a drawer keeps it: absent options as zeros
abbrev pub kept_words : List ℕ → List ℕ
kept_words st = tidied (word_at st) 0

-- "the last state saved under that id since its last forgetting"
unfoldable pub last_saved : List Event → ℕ → Held
last_saved [] y = nothing
last_saved (saved x st ∷ h) y = cond (eqb x y) (state (bytes_of (kept_words st))) (last_saved h y)
last_saved (forgot x ∷ h) y = cond (eqb x y) nothing (last_saved h y)

abbrev pub is_held : Held → Bool
is_held nothing = false
is_held (state b) = true

-- how many ids are held; only an id that is held is forgotten
unfoldable pub held_ids : List Event → ℕ
held_ids [] = 0
held_ids (saved x st ∷ h) = cond (is_held (last_saved h x)) (held_ids h) (held_ids h + 1)
held_ids (forgot x ∷ h) = cond (is_held (last_saved h x)) (held_ids h - 1) (held_ids h)

-- "or 14 if there is none"
abbrev pub given : Held → Answer
given nothing = record { refusal = 14; held = nothing }
given (state b) = record { refusal = 0; held = state b }

abbrev pub plain : ℕ → Answer
plain refusal = record { refusal = refusal; held = nothing }

-- a drawer of n records has room for n - 1 ids; 13 is never answered
abbrev pub answer_by : ℕ → List Event → Call → Answer
answer_by n h (save x st) =
    cond (is_damaged (word_at st) 0) (plain 6) (cond (is_held (last_saved h x)) (plain 0) (cond (eqb (held_ids h + 1) n) (plain 15) (plain 0)))
answer_by n h (load x) = given (last_saved h x)
answer_by n h (forget x) = cond (is_held (last_saved h x)) (plain 0) (plain 14)

-- a refused call is no event
abbrev pub events_by : ℕ → List Event → Call → List Event
events_by n h (save x st) =
    cond (is_damaged (word_at st) 0) h (cond (is_held (last_saved h x)) (saved x st ∷ h) (cond (eqb (held_ids h + 1) n) h (saved x st ∷ h)))
events_by n h (load x) = h
events_by n h (forget x) = cond (is_held (last_saved h x)) (forgot x ∷ h) h

unfoldable pub answers_by : ℕ → List Event → List Call → List Answer
answers_by n h [] = []
answers_by n h (c ∷ cs) = answer_by n h c ∷ answers_by n (events_by n h c) cs

-- of a fresh drawer
abbrev pub AllDrawerLists : List ℕ → Type 0
AllDrawerLists s = (calls : List Call) → AreCalls calls → answers_on s calls ≡ answers_by (records width s) [] calls

-- along every chain that these calls made the ids ascend
abbrev pub AllAscend : List ℕ → Type 0
AllAscend s =
    (calls : List Call) → AreCalls calls → (k : ℕ) → k < 16
    → Ascends width (word_at (left_after s calls)) (chain_of width (word_at (left_after s calls)) (records width (left_after s calls)) k)
