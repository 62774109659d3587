-- The calls by cases.
use mathlib.Core.Path.{◌≡◌, ap, ◌∙◌}
use mathlib.Core.Bool.{true, false}
use mathlib.Core.List.{List, ◌++◌, append-nil}
use Prim.Native.Nat.{ℕ, ◌+◌, ◌*◌}
use native.Mathlib.Omega.{arith}
use lib.ListN.{length, drop_of_length-le}
use borrow.Author.Tests.{eq-eqb, ne_eqb}
use Rattle.words.specs.Words.{word_at, bytes_of, put_at}
use Rattle.records.specs.Record.{is_damaged}
use Rattle.drawer.specs.Drawer.{is_whole, is_drawer}
use Rattle.drawer.specs.Search.{link_of, place_of, records, record_of}
use Rattle.drawer.specs.Calls.{width, state_in, new_in, put_on, gone_from, fresh_to, lay_on, load_on, save_on, forget_on}
use Rattle.drawer.specs.Lists.{kept_words}

-- ---- lay
pub laid_whole : (s : List ℕ) → is_whole width (length s) ≡ true → lay_on s ≡ record { refusal = 0; drawer = bytes_of (fresh_to (records width s) (records width s)) }
unfolding lay_on
laid_whole s e = rw (e)

pub laid_not : (s : List ℕ) → is_whole width (length s) ≡ false → lay_on s ≡ record { refusal = 13; drawer = s }
unfolding lay_on
laid_not s e = rw (e)

-- ---- load
pub load_none : (s : List ℕ) (x : ℕ) (state : List ℕ) → is_drawer width s ≡ true → record_of width s x ≡ 0 → load_on s x state ≡ record { refusal = 14; state = state }
unfolding load_on
load_none s x state r e = rw (r, eq-eqb (record_of width s x) 0 e)

pub load_some : (s : List ℕ) (x : ℕ) (state : List ℕ) → is_drawer width s ≡ true → (record_of width s x ≡ 0 → ⊥)
    → load_on s x state ≡ record { refusal = 0; state = bytes_of (state_in s (record_of width s x)) }
unfolding load_on
load_some s x state r e = rw (r, ne_eqb (record_of width s x) 0 e)

-- ---- save
pub save_damaged : (s : List ℕ) (x : ℕ) (st : List ℕ) → is_damaged (word_at st) 0 ≡ true → save_on s x st ≡ record { refusal = 6; drawer = s }
unfolding save_on
save_damaged s x st e = rw (e)

pub save_puts : (s : List ℕ) (x : ℕ) (st : List ℕ) → is_damaged (word_at st) 0 ≡ false → save_on s x st ≡ put_on s x (kept_words st)
unfolding save_on
save_puts s x st e = rw (e)

pub put_bad : (s : List ℕ) (x : ℕ) (ws : List ℕ) → is_drawer width s ≡ false → put_on s x ws ≡ record { refusal = 13; drawer = s }
unfolding put_on
put_bad s x ws r = rw (r)

pub put_full : (s : List ℕ) (x : ℕ) (ws : List ℕ) → is_drawer width s ≡ true → record_of width s x ≡ 0 → word_at s 16 ≡ 0 → put_on s x ws ≡ record { refusal = 15; drawer = s }
unfolding put_on
put_full s x ws r e f = rw (r, eq-eqb (record_of width s x) 0 e, eq-eqb (word_at s 16) 0 f)

pub put_new : (s : List ℕ) (x : ℕ) (ws : List ℕ) → is_drawer width s ≡ true → record_of width s x ≡ 0 → (word_at s 16 ≡ 0 → ⊥)
    → put_on s x ws ≡ record { refusal = 0; drawer = new_in s x ws (word_at s 16) (place_of width (word_at s) (records width s) x) }
unfolding put_on
put_new s x ws r e f = rw (r, eq-eqb (record_of width s x) 0 e, ne_eqb (word_at s 16) 0 f)

pub put_over : (s : List ℕ) (x : ℕ) (ws : List ℕ) → is_drawer width s ≡ true → (record_of width s x ≡ 0 → ⊥)
    → put_on s x ws ≡ record { refusal = 0; drawer = put_at (width * record_of width s x + 3) ws s }
unfolding put_on
put_over s x ws r e = rw (r, ne_eqb (record_of width s x) 0 e)

-- ---- forget
pub forget_bad : (s : List ℕ) (x : ℕ) → is_drawer width s ≡ false → forget_on s x ≡ record { refusal = 13; drawer = s }
unfolding forget_on
forget_bad s x r = rw (r)

pub forget_none : (s : List ℕ) (x : ℕ) → is_drawer width s ≡ true → record_of width s x ≡ 0 → forget_on s x ≡ record { refusal = 14; drawer = s }
unfolding forget_on
forget_none s x r e = rw (r, eq-eqb (record_of width s x) 0 e)

pub forget_some : (s : List ℕ) (x : ℕ) → is_drawer width s ≡ true → (record_of width s x ≡ 0 → ⊥)
    → forget_on s x ≡ record { refusal = 0; drawer = gone_from s (record_of width s x) (link_of width (word_at s) (records width s) x) }
unfolding forget_on
forget_some s x r e = rw (r, ne_eqb (record_of width s x) 0 e)

-- ---- a record written whole
pub whole_put : (ws s : List ℕ) → length s ≡ 4 * length ws → put_at 0 ws s ≡ bytes_of ws
unfolding put_at
whole_put ws s same = ap (λ (l : List ℕ). bytes_of ws ++ l) (drop_of_length-le s {i = 4 * length ws} (omega (arith, same))) ∙ append-nil (bytes_of ws)
