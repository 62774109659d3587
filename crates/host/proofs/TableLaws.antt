-- T's bytes load and stand for T, so a call under them is the call without a table; and how they are written.
-- Assumes nothing.
use mathlib.Core.Path.{◌≡◌, refl, sym, ap, ◌∙◌, subst}
use mathlib.Core.Bool.{Bool, true, false, cond, ◌&&◌}
use mathlib.Core.List.{List, [], ◌∷◌, ◌++◌}
use Prim.Native.Nat.{ℕ, zero, suc, ◌+◌, ◌*◌, ◌/◌, ◌%◌, ◌^◌, ◌≤◌, ◌<◌, min}
use native.Mathlib.Nat.{zero-add, add-zero, add-suc, suc-add, le_of_suc-le-suc, not-suc-le-zero}
use native.Mathlib.Numerals.{add-one}
use native.Mathlib.Omega.{arith}
use borrow.Author.Tests.{ltb-true}
use lib.Dec.{eqb, ltb}
use lib.ListN.{length, get_or}
use Rattle.words.specs.Words.{word_at, long_at, long_words, bytes_of, put_at}
use Rattle.words.proofs.KeptLaws.{length_bytes}
use Rattle.numbers.specs.Table.{Table, table_at, table_of, load_of, IsTable, Served}
use Rattle.words.proofs.ReadLaws.{read_back}
use Rattle.numbers.proofs.TableLaws.{t_is_table, as_table, at_most}
use Rattle.numbers.proofs.LoadLaws.{loads}
use Rattle.host.specs.Calls.{frame_under, step_under}
use Rattle.host.specs.SettlingRun.{settle_under}
use Rattle.host.specs.Table.{entry_words, table_bytes, ServesAsT}
use Rattle.records.proofs.PartLaws.{Part, Right, put_parts, words_of, total, put_parts_lem}

-- ---- T's bytes, read entry by entry

words_long : (n k : ℕ) → length (entry_words n k) ≡ 2 * n
unfolding entry_words
words_long zero k = refl
words_long (suc n) k = ap (λ (l : ℕ). suc (suc l)) (words_long n (suc k)) ∙ twice n
  where
    twice : (n : ℕ) → suc (suc (2 * n)) ≡ 2 * suc n
    twice n = omega arith

bytes_long : length table_bytes ≡ 8200
bytes_long = length_bytes (entry_words 1025 0) ∙ ap (λ (n : ℕ). 4 * n) (words_long 1025 0)

low : (n k i : ℕ) → i < n → get_or (entry_words n k) (2 * i) 0 ≡ table_at (k + i) % 2 ^ 32
unfolding entry_words
low zero k i h = absurd (not-suc-le-zero h)
low (suc n) k zero h = ap (λ (j : ℕ). table_at j % 2 ^ 32) (sym (add-zero k))
low (suc n) k (suc i) h =
    ap (λ (j : ℕ). get_or (entry_words (suc n) k) j 0) (even i) ∙ low n (suc k) i (le_of_suc-le-suc h)
    ∙ ap (λ (j : ℕ). table_at j % 2 ^ 32) (suc-add k i ∙ sym (add-suc k i))
  where
    even : (i : ℕ) → 2 * suc i ≡ suc (suc (2 * i))
    even i = omega arith

high : (n k i : ℕ) → i < n → get_or (entry_words n k) (2 * i + 1) 0 ≡ table_at (k + i) / 2 ^ 32
unfolding entry_words
high zero k i h = absurd (not-suc-le-zero h)
high (suc n) k zero h = ap (λ (j : ℕ). table_at j / 2 ^ 32) (sym (add-zero k))
high (suc n) k (suc i) h =
    ap (λ (j : ℕ). get_or (entry_words (suc n) k) j 0) (odd i) ∙ high n (suc k) i (le_of_suc-le-suc h)
    ∙ ap (λ (j : ℕ). table_at j / 2 ^ 32) (suc-add k i ∙ sym (add-suc k i))
  where
    odd : (i : ℕ) → 2 * suc i + 1 ≡ suc (suc (2 * i + 1))
    odd i = omega arith

joined : (t l h : ℕ) → l ≡ t % 2 ^ 32 → h ≡ t / 2 ^ 32 → l + 2 ^ 32 * h ≡ t
joined t l h p q = omega arith

small_low : (w t : ℕ) → w ≡ t % 2 ^ 32 → w < 4294967296
small_low w t p = omega arith

small_high : (w t : ℕ) → t ≤ 2 ^ 40 → w ≡ t / 2 ^ 32 → w < 4294967296
small_high w t l p = omega arith

entry_read : (k : ℕ) → k < 1025 → long_at table_bytes k ≡ table_at k
unfolding long_at
entry_read k h =
    let ws = entry_words 1025 0 in
    let l : get_or ws (2 * k) 0 ≡ table_at k % 2 ^ 32 = low 1025 0 k h ∙ ap (λ (j : ℕ). table_at j % 2 ^ 32) (zero-add k) in
    let u : get_or ws (2 * k + 1) 0 ≡ table_at k / 2 ^ 32 = high 1025 0 k h ∙ ap (λ (j : ℕ). table_at j / 2 ^ 32) (zero-add k) in
    let t = at_most table_at t_is_table k (le_of_suc-le-suc h) in
    joined (table_at k) (word_at table_bytes (2 * k)) (word_at table_bytes (2 * k + 1))
    (read_back ws (2 * k) (small_low _ (table_at k) l) ∙ l) (read_back ws (2 * k + 1) (small_high _ (table_at k) t u) ∙ u)

-- ---- so they load, and stand for T

bytes_are_table : IsTable (long_at table_bytes)
bytes_are_table = as_table table_at (long_at table_bytes) entry_read t_is_table

t_loads : load_of table_bytes ≡ 0
t_loads = (loads table_bytes (load_of table_bytes) refl).1 bytes_long bytes_are_table

t_is_served : Served table_bytes
t_is_served = (loads table_bytes (load_of table_bytes) refl).0 t_loads

past_the_last : (k : ℕ) → ltb k 1025 ≡ false → table_of table_bytes k ≡ table_at k
unfolding table_of
past_the_last k e =
    ap (λ (t : Bool). cond (eqb (length table_bytes) 8200 && t) (min (long_at table_bytes k) (2 ^ 40)) (table_at k)) e
    ∙ neither (eqb (length table_bytes) 8200)
  where
    neither : (b : Bool) → cond (b && false) (min (long_at table_bytes k) (2 ^ 40)) (table_at k) ≡ table_at k
    neither true = refl
    neither false = refl

lent_t_is_t : table_of table_bytes ≡ table_at
lent_t_is_t i k = go (ltb k 1025) refl i
  where
    go : (t : Bool) → ltb k 1025 ≡ t → table_of table_bytes k ≡ table_at k
    go true e = let h = ltb-true k 1025 e in t_is_served.read k h ∙ entry_read k h
    go false e = past_the_last k e

serves_as_t : ServesAsT table_bytes
serves_as_t = record {
  loads = t_loads;
  is_t = lent_t_is_t;
  same_frame = λ state frame out. ap (λ (table : Table). frame_under table state frame out) lent_t_is_t;
  same_run = λ state frame run used. ap (λ (table : Table). settle_under table state frame run used) lent_t_is_t;
  same_step = λ call. ap (λ (table : Table). step_under table call) lent_t_is_t;
}

pub so_serves : (table : List ℕ) → table ≡ table_bytes → (table ≡ table_bytes) × ServesAsT table
so_serves table e = (e, subst ServesAsT (sym e) serves_as_t)

-- ---- T written entry by entry
abbrev parts : ℕ → ℕ → List Part
parts zero k = []
parts (suc n) k = (2, long_words (table_at k)) ∷ parts n (suc k)

right : (n k : ℕ) → Right (parts n k)
right zero k = tt
right (suc n) k = (refl, right n (suc k))

words_are : (n k : ℕ) → words_of (parts n k) ≡ entry_words n k
unfolding entry_words
words_are zero k = refl
words_are (suc n) k = ap (λ (l : List ℕ). long_words (table_at k) ++ l) (words_are n (suc k))

total_of : (n k : ℕ) → total (parts n k) ≡ 2 * n
total_of zero k = refl
total_of (suc n) k = omega (arith, total_of n (suc k))

-- what is left to write on t leads to what writing the whole on `before` leads to
pub record Upto (before : List ℕ) (entry k : ℕ) (t : List ℕ) : Type 0 where
  pub rest : ℕ
  pub counts : k + rest ≡ 1025
  pub is_entry : entry ≡ table_at k
  pub leads : put_parts (2 * k) (parts rest k) t ≡ put_parts 0 (parts 1025 0) before

pub begins : (before : List ℕ) → Upto before (2 ^ 40) 0 before
unfolding table_at
begins before = record { rest = 1025; counts = refl; is_entry = refl; leads = refl }

pub entry_small : {before t : List ℕ} {entry k : ℕ} → k < 1025 → Upto before entry k t → entry ≤ 2 ^ 40
entry_small {before} {t} {entry} {k} h u = let a = at_most table_at t_is_table k (le_of_suc-le-suc h) in omega (arith, a, u.is_entry)

next_place : (k : ℕ) → 2 * k + 2 ≡ 2 * (k + 1)
next_place k = omega arith

table_next : (entry k : ℕ) → entry ≡ table_at k → entry * 48769 / 49537 ≡ table_at (k + 1)
unfolding table_at
table_next entry k e = ap (λ (n : ℕ). n * 48769 / 49537) e ∙ ap table_at (sym (add-one k))

pub turns : (before : List ℕ) (entry k : ℕ) (t after : List ℕ) → after ≡ put_at (2 * k) (long_words entry) t → k < 1025
    → Upto before entry k t → Upto before (entry * 48769 / 49537) (k + 1) after
turns before entry k t after e h u = go u.rest refl
  where
    go : (n : ℕ) → u.rest ≡ n → Upto before (entry * 48769 / 49537) (k + 1) after
    go zero z = absurd (omega (arith, h, u.counts, z))
    go (suc n) z = record {
      rest = n;
      counts = omega (arith, u.counts, z);
      is_entry = table_next entry k u.is_entry;
      leads =
          ap (λ (a : List ℕ). put_parts (2 * (k + 1)) (parts n (k + 1)) a) (e ∙ ap (λ (v : ℕ). put_at (2 * k) (long_words v) t) u.is_entry)
          ∙ ap (λ (at : ℕ). put_parts at (parts n (k + 1)) (put_at (2 * k) (long_words (table_at k)) t)) (sym (next_place k))
          ∙ ap (λ (j : ℕ). put_parts (2 * k + 2) (parts n j) (put_at (2 * k) (long_words (table_at k)) t)) (add-one k)
          ∙ ap (λ (m : ℕ). put_parts (2 * k) (parts m k) t) (sym z)
          ∙ u.leads;
    }

pub finishes : (before : List ℕ) (entry k : ℕ) (t : List ℕ) → length before ≡ 8200 → 1025 ≤ k → Upto before entry k t → t ≡ table_bytes
finishes before entry k t whole h u =
    let none : u.rest ≡ 0 = omega (arith, h, u.counts) in
    ap (λ (m : ℕ). put_parts (2 * k) (parts m k) t) (sym none) ∙ u.leads
    ∙ put_parts_lem (parts 1025 0) before (right 1025 0) (whole ∙ ap (λ (n : ℕ). 4 * n) (sym (total_of 1025 0)))
    ∙ ap bytes_of (words_are 1025 0)
