-- The four calls, each as an equation over all bytes.
use Rattle.std.specs.Prelude.{cond, List, [], ◌∷◌, ◌++◌, ℕ, zero, suc, ◌+◌, ◌-◌, ◌*◌, eqb, ltb, length, replicate}
use Rattle.words.specs.Words.{word_at, long_words, bytes_of, put_at}
use Rattle.records.specs.Record.{is_damaged}
use Rattle.records.specs.Tidied.{tidied}
use Rattle.drawer.specs.Drawer.{is_whole, is_drawer}
use Rattle.drawer.specs.Search.{records, record_of, link_of, place_of}

-- "Records have equal length": words in a record, its next index, its id and a state's record
abbrev pub width : ℕ
width = 42

-- the answer, and the buffer as the call leaves it
pub record Left : Type 0 where
  pub refusal : ℕ
  pub drawer : List ℕ

-- ---- lay
-- the free records are chained 1, 2, 3, ..; the last names none
abbrev pub next_free : ℕ → ℕ → ℕ
next_free n r = cond (ltb (r + 1) n) (r + 1) 0

-- "the heads of 16 chains .., the head of the chain of free records, and the record length in bytes, then zeros"
abbrev pub first_words : ℕ → List ℕ
first_words n = replicate 16 0 ++ (next_free n 0 ∷ 4 * width ∷ replicate (width - 18) 0)

-- "a free one has zeros after its index"
abbrev pub free_words : ℕ → List ℕ
free_words next = next ∷ replicate (width - 1) 0

-- the words of the first m records of a fresh drawer of n
unfoldable pub fresh_to : ℕ → ℕ → List ℕ
fresh_to n zero = []
fresh_to n (suc zero) = first_words n
fresh_to n (suc (suc r)) = fresh_to n (suc r) ++ free_words (next_free n (suc r))

-- "Laying out reads only the buffer's length and gives 13 for that alone"
unfoldable pub lay_on : List ℕ → Left
lay_on s =
    cond (is_whole width (length s))
    (record { refusal = 0; drawer = bytes_of (fresh_to (records width s) (records width s)) })
    (record { refusal = 13; drawer = s })

-- ---- load: the state's record is handed out with absent options as zeros
pub record Loaded : Type 0 where
  pub refusal : ℕ
  pub state : List ℕ

-- the words of the state in record r
abbrev pub state_in : List ℕ → ℕ → List ℕ
state_in s r = tidied (word_at s) (width * r + 3)

unfoldable pub load_on : List ℕ → ℕ → List ℕ → Loaded
load_on s x state =
    cond (is_drawer width s)
    (cond (eqb (record_of width s x) 0)
    (record { refusal = 14; state = state })
    (record { refusal = 0; state = bytes_of (state_in s (record_of width s x)) }))
    (record { refusal = 13; state = state })

-- ---- save
-- a new id takes the head f of the free chain, and its record goes in at the link p
unfoldable pub new_in : List ℕ → ℕ → List ℕ → ℕ → ℕ → List ℕ
new_in s x words f p =
    put_at p (f ∷ [])
    (put_at (width * f + 3) words
    (put_at (width * f) (word_at s p ∷ long_words x)
    (put_at 16 (word_at s (width * f) ∷ []) s)))

abbrev pub new_on : List ℕ → ℕ → List ℕ → Left
new_on s x words =
    cond (eqb (word_at s 16) 0)
    (record { refusal = 15; drawer = s })
    (record { refusal = 0; drawer = new_in s x words (word_at s 16) (place_of width (word_at s) (records width s) x) })

-- an id that is there is rewritten in place
unfoldable pub put_on : List ℕ → ℕ → List ℕ → Left
put_on s x words =
    cond (is_drawer width s)
    (cond (eqb (record_of width s x) 0)
    (new_on s x words)
    (record { refusal = 0; drawer = put_at (width * record_of width s x + 3) words s }))
    (record { refusal = 13; drawer = s })

-- a damaged state's record is refused ahead of all
unfoldable pub save_on : List ℕ → ℕ → List ℕ → Left
save_on s x state = cond (is_damaged (word_at state) 0) (record { refusal = 6; drawer = s }) (put_on s x (tidied (word_at state) 0))

-- ---- forget: record f, which the link p names, goes to the head of the free chain, with zeros after its index
unfoldable pub gone_from : List ℕ → ℕ → ℕ → List ℕ
gone_from s f p = put_at 16 (f ∷ []) (put_at (width * f) (free_words (word_at s 16)) (put_at p (word_at s (width * f) ∷ []) s))

unfoldable pub forget_on : List ℕ → ℕ → Left
forget_on s x =
    cond (is_drawer width s)
    (cond (eqb (record_of width s x) 0)
    (record { refusal = 14; drawer = s })
    (record { refusal = 0; drawer = gone_from s (record_of width s x) (link_of width (word_at s) (records width s) x) }))
    (record { refusal = 13; drawer = s })
