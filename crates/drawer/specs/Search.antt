-- Where an id stands in its chain, and where a new one goes.
use Rattle.std.specs.Prelude.{Bool, true, false, cond, ◌&&◌, List, ℕ, zero, suc, ◌*◌, ◌%◌, eqb, ltb, length}
use Rattle.words.specs.Words.{word_at}
use Rattle.drawer.specs.Drawer.{id_in, records_of}

-- r is the index of a record of a drawer of n
abbrev pub is_record : ℕ → ℕ → Bool
is_record n r = ltb 0 r && ltb r n

-- the link at which a search from the link at word p stops, within m records: it names no record of the n, or one at which the test stops.
-- In a drawer a link names a record or is 0; the search is defined for any bytes
unfoldable pub seek : ℕ → (ℕ → Bool) → (ℕ → ℕ) → ℕ → ℕ → ℕ → ℕ
seek width stop w n zero p = p
seek width stop w n (suc m) p = cond (is_record n (w p)) (cond (stop (w p)) p (seek width stop w n m (width * w p))) p

-- a search for id x stops at it, or at the first larger one
abbrev pub stops_at : Bool → ℕ → ℕ → Bool
stops_at larger x id = cond larger (ltb x id) (eqb id x)

abbrev pub is_stop : ℕ → (ℕ → ℕ) → Bool → ℕ → ℕ → Bool
is_stop width w larger x r = stops_at larger x (id_in width w r)

-- the link that names the record of id x, or ends its chain
abbrev pub link_of : ℕ → (ℕ → ℕ) → ℕ → ℕ → ℕ
link_of width w n x = seek width (is_stop width w false x) w n n (x % 16)

-- "before the first record with a larger id, else to the end"
abbrev pub place_of : ℕ → (ℕ → ℕ) → ℕ → ℕ → ℕ
place_of width w n x = seek width (is_stop width w true x) w n n (x % 16)

-- the records of a buffer
abbrev pub records : ℕ → List ℕ → ℕ
records width s = records_of width (length s)

-- the record of id x, or 0
abbrev pub record_of : ℕ → List ℕ → ℕ → ℕ
record_of width s x = word_at s (link_of width (word_at s) (records width s) x)
