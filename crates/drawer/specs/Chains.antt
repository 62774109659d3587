-- Chains of records. w is the buffer as a function from the number of a word to the word, and width the number of words of a record. A link is
-- a word that names a record: one of the heads in record 0 (words 0 to 16), or the first word of a record, word width * r of record r.
use Rattle.std.specs.Prelude.{cond, List, [], ◌∷◌, ◌++◌, ℕ, zero, suc, ◌+◌, ◌*◌, eqb}

-- "chained by a next index, zero ending the chain": the records met from the link at word p on, in turn, at most m of them
unfoldable pub walk : ℕ → (ℕ → ℕ) → ℕ → ℕ → List ℕ
walk width w zero p = []
walk width w (suc m) p = cond (eqb (w p) 0) [] (w p ∷ walk width w m (width * w p))

-- how often r stands in a list
unfoldable pub times : ℕ → List ℕ → ℕ
times r [] = 0
times r (x ∷ l) = cond (eqb r x) 1 0 + times r l

-- the first m of some lists, one after the other
unfoldable pub flat : (ℕ → List ℕ) → ℕ → List ℕ
flat c zero = []
flat c (suc k) = flat c k ++ c k
