-- "A drawer for the states of all lists" (document 02, K7): what 13 refuses. n is the number of records, record 0 counted.
use Rattle.std.specs.Prelude.{Bool, true, false, not, ◌&&◌, ◌||◌, List, [], ◌∷◌, ℕ, zero, suc, ◌+◌, ◌-◌, ◌*◌, ◌/◌, ◌%◌, eqb, ltb, leb, length}
use Rattle.words.specs.Words.{word_at}
use Rattle.records.specs.Record.{is_damaged}
use Rattle.drawer.specs.Chains.{walk, times, flat}

-- "the id (low word first)"
unfoldable pub id_in : ℕ → (ℕ → ℕ) → ℕ → ℕ
id_in width w r = w (width * r + 1) + 4294967296 * w (width * r + 2)

-- chain k of the 17: "the heads of 16 chains .., the head of the chain of free records"
abbrev pub chain_of : ℕ → (ℕ → ℕ) → ℕ → ℕ → List ℕ
chain_of width w n k = walk width w n k

-- each of the records 1 to m stands in the list exactly once
unfoldable pub each_once : List ℕ → ℕ → Bool
each_once l zero = true
each_once l (suc r) = eqb (times (suc r) l) 1 && each_once l r

-- no "chains that run out of it, meet, circle or miss a record": all 17 together are the records 1 to n - 1, each once, and nothing more
unfoldable pub is_spread : ℕ → (ℕ → ℕ) → ℕ → Bool
is_spread width w n = eqb (length (flat (chain_of width w n) 17)) (n - 1) && each_once (flat (chain_of width w n) 17) (n - 1)

-- "holds an id twice": asked within a chain, since two chains cannot share an id that is under its head
unfoldable pub has_id : ℕ → (ℕ → ℕ) → ℕ → List ℕ → Bool
has_id width w x [] = false
has_id width w x (r ∷ l) = eqb (id_in width w r) x || has_id width w x l

unfoldable pub no_id_twice : ℕ → (ℕ → ℕ) → List ℕ → Bool
no_id_twice width w [] = true
no_id_twice width w (r ∷ l) = not (has_id width w (id_in width w r) l) && no_id_twice width w l

-- "or under the wrong head": "picked by the id's lowest four bits"
unfoldable pub under_head : ℕ → (ℕ → ℕ) → ℕ → List ℕ → Bool
under_head width w k [] = true
under_head width w k (r ∷ l) = eqb (id_in width w r % 16) k && under_head width w k l

-- "or in a used record a state flag or kind outside its values": the state's record begins at the fourth word
unfoldable pub is_state : ℕ → (ℕ → ℕ) → ℕ → Bool
is_state width w r = not (is_damaged w (width * r + 3))

unfoldable pub are_states : ℕ → (ℕ → ℕ) → List ℕ → Bool
are_states width w [] = true
are_states width w (r ∷ l) = is_state width w r && are_states width w l

abbrev pub is_chain : ℕ → (ℕ → ℕ) → ℕ → List ℕ → Bool
is_chain width w k l = under_head width w k l && no_id_twice width w l && are_states width w l

-- the first m chains are right
unfoldable pub are_chains : ℕ → (ℕ → ℕ) → (ℕ → List ℕ) → ℕ → Bool
are_chains width w c zero = true
are_chains width w c (suc k) = are_chains width w c k && is_chain width w k (c k)

unfoldable pub is_filled : ℕ → (ℕ → ℕ) → ℕ → Bool
is_filled width w n = is_spread width w n && are_chains width w (chain_of width w n) 16

-- the records of a buffer of len bytes
abbrev pub records_of : ℕ → ℕ → ℕ
records_of width len = len / (4 * width)

-- "a whole number of records from 1 to 65,536"
unfoldable pub is_whole : ℕ → ℕ → Bool
is_whole width len = eqb (4 * (width * records_of width len)) len && (ltb 0 (records_of width len) && leb (records_of width len) 65536)

-- what is not refused as 13; record 0 names "the record length in bytes"
unfoldable pub is_drawer : ℕ → List ℕ → Bool
is_drawer width s =
    is_whole width (length s) && (eqb (word_at s 17) (4 * width) && is_filled width (word_at s) (records_of width (length s)))
