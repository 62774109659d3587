-- "absent options as zeros": the words of a record as state_words has them, to be held beside it. The record begins at word at, and w gives the
-- words by their number from 0.
use Rattle.std.specs.Prelude.{ℕ, zero, suc, ◌+◌, ◌<◌, ◌≡◌, Bool, cond, List, [], ◌∷◌, ◌++◌, eqb, replicate}
use Rattle.words.specs.Words.{word_at, bytes_of}
use Rattle.area.specs.declared.state.State.{State}
use Rattle.records.specs.Record.{state_words, record_of, state_of}
use Rattle.records.specs.Held.{IsHeld}

-- m words from word i on
unfoldable pub words_from : (ℕ → ℕ) → ℕ → ℕ → List ℕ
words_from w i zero = []
words_from w i (suc m) = w i ∷ words_from w (i + 1) m

-- or as many zeros
abbrev pub words_unless : Bool → (ℕ → ℕ) → ℕ → ℕ → List ℕ
words_unless absent w i m = cond absent (replicate m 0) (words_from w i m)

-- an option of m words, the flag the first of them: zeros where the flag is 0
abbrev pub option_words : (ℕ → ℕ) → ℕ → ℕ → List ℕ
option_words w i m = words_unless (eqb (w i) 0) w i m

-- offsets; both targets; three pairs of flags and the velocity; both presses; a pair of flags; the rectangle; a pair of flags and the time
unfoldable pub tidied : (ℕ → ℕ) → ℕ → List ℕ
tidied w at =
    words_from w at 4
    ++ (option_words w (at + 4) 6
    ++ (option_words w (at + 10) 6
    ++ (words_from w (at + 16) 8
    ++ (option_words w (at + 24) 2
    ++ (option_words w (at + 26) 2
    ++ (words_from w (at + 28) 2
    ++ (option_words w (at + 30) 5
    ++ words_from w (at + 35) 4)))))))

-- whatever a record holds, tidied it stands for the same state; and what the library writes is tidy
pub record TidiedHolds : Type 0 where
  pub stands : (s : List ℕ) → ((i : ℕ) → word_at s i < 4294967296) → state_of (bytes_of (tidied (word_at s) 0)) ≡ state_of s
  pub written : (s : State) → IsHeld s → tidied (word_at (record_of s)) 0 ≡ state_words s
