-- Bytes that load are a table and are read as they stand; and no entry of a lent table counts as more than 2^40. Assumes nothing.
use Rattle.std.proofs.Common.{◌≡◌, ℕ, zero, suc, ◌+◌, ◌-◌, ◌^◌, ◌<◌, ◌≤◌, min, Bool, true, false, cond, not, ◌&&◌, T, eqb, ltb, List, length, sym, refl, ap, ◌∙◌, subst, ◌≢◌, add-one, le_of_suc-le-suc, le_of_lt, suc-add, zero-add, sub-add_cancel, not-le_of_lt, arith, eqb→eq, ltb→lt, nltb→le, lt-ltb, eq-eqb}
use borrow.Author.Tests.{eqb-false}
use lib.Dec.{not_T}
use lib.Ieee.Bits.{is_true, is_false}
use lib.Ieee.Fits.{and_i, and_l, and_r}
use Rattle.std.specs.Bool.{MatchBool}
use Rattle.std.specs.List.{AllWithin, HoldsAt, range_with_len}
use Rattle.std.proofs.lemmas.List.FromFn.{get_or-range_with_len, length-range_with_len}
use Rattle.words.specs.Words.{long_at}
use Rattle.numbers.specs.Table.{table_at, is_ordered, load_of, table_of, IsTable, Served, Loads}
use Rattle.numbers.proofs.TableLaws.{t_is_table, as_table, at_most}

-- what loading answers, by the length and the order
abbrev answer : Bool → Bool → ℕ
answer whole ordered = cond whole (cond ordered 0 11) 10

capped : (n : ℕ) → min n (2 ^ 40) ≤ 2 ^ 40
capped n = omega arith

not_capped : (n : ℕ) → n ≤ 2 ^ 40 → min n (2 ^ 40) ≡ n
not_capped n h = omega arith

module _ (bytes : List ℕ) where
  -- ---- the test of the order, and the order

  first : (n : ℕ) → T (is_ordered bytes n) → long_at bytes 0 ≡ 2 ^ 40
  unfolding is_ordered
  first zero h = eqb→eq (long_at bytes 0) (2 ^ 40) h
  first (suc n) h = first n (and_l (is_ordered bytes n) (not (ltb (long_at bytes n) (long_at bytes (suc n)))) h)

  fewer : (k n : ℕ) → T (is_ordered bytes (n + k)) → T (is_ordered bytes k)
  unfolding is_ordered
  fewer k zero h = subst (λ (i : ℕ). T (is_ordered bytes i)) (zero-add k) h
  fewer k (suc n) h =
      let here = subst (λ (i : ℕ). T (is_ordered bytes i)) (suc-add n k) h in
      fewer k n (and_l (is_ordered bytes (n + k)) (not (ltb (long_at bytes (n + k)) (long_at bytes (suc (n + k))))) here)

  falls : (k : ℕ) → T (is_ordered bytes (suc k)) → long_at bytes (suc k) ≤ long_at bytes k
  unfolding is_ordered
  falls k h = nltb→le (long_at bytes k) (long_at bytes (suc k)) (and_r (is_ordered bytes k) (not (ltb (long_at bytes k) (long_at bytes (suc k)))) h)

  is_table : T (is_ordered bytes 1024) → IsTable (long_at bytes)
  is_table h = record {
    first = first 1024 h;
    falls = λ k l. falls k (fewer (suc k) (1024 - suc k) (subst (λ (i : ℕ). T (is_ordered bytes i)) (sym (sub-add_cancel l)) h));
  }

  is_ordered_lem : long_at bytes 0 ≡ 2 ^ 40 → (n : ℕ) → ((k : ℕ) → k < n → long_at bytes (suc k) ≤ long_at bytes k) → T (is_ordered bytes n)
  unfolding is_ordered
  is_ordered_lem first_is zero fall = subst T (sym (eq-eqb (long_at bytes 0) (2 ^ 40) first_is)) tt
  is_ordered_lem first_is (suc n) fall =
      and_i (is_ordered bytes n) (not (ltb (long_at bytes n) (long_at bytes (suc n))))
      (is_ordered_lem first_is n (λ k l. fall k (omega arith)))
      (not_T (ltb (long_at bytes n) (long_at bytes (suc n))) (λ t. not-le_of_lt (ltb→lt (long_at bytes n) (long_at bytes (suc n)) t) (fall n (omega arith))))

  pub other_first : (n : ℕ) → long_at bytes 0 ≢ 2 ^ 40 → false ≡ is_ordered bytes n
  other_first n other = sym (is_false (is_ordered bytes n) (not_T (is_ordered bytes n) (λ t. other (first n t))))

  pub rises : (k n : ℕ) → k < n → long_at bytes k < long_at bytes (k + 1) → false ≡ is_ordered bytes n
  rises k n below up =
      let falls_to : T (is_ordered bytes n) → long_at bytes (suc k) ≤ long_at bytes k =
      λ t. falls k (fewer (suc k) (n - suc k) (subst (λ (i : ℕ). T (is_ordered bytes i)) (sym (sub-add_cancel below)) t)) in
      let up' : long_at bytes k < long_at bytes (suc k) = subst (λ (i : ℕ). long_at bytes k < long_at bytes i) (add-one k) up in
      sym (is_false (is_ordered bytes n) (not_T (is_ordered bytes n) (λ t. not-le_of_lt up' (falls_to t))))

  -- what a look at each of the numbers below n tells
  pub told_by_all : (n : ℕ) → long_at bytes 0 ≡ 2 ^ 40 → (r : Bool)
      → MatchBool r
      (AllWithin (λ k. long_at bytes (k + 1) ≤ long_at bytes k) (range_with_len 0 n) 0 (length (range_with_len 0 n)))
      ((k : ℕ) × (k < length (range_with_len 0 n)) × HoldsAt (λ k. long_at bytes k < long_at bytes (k + 1)) (range_with_len 0 n) k)
      → r ≡ is_ordered bytes n
  told_by_all n first_is true fall = sym (is_true (is_ordered bytes n) (is_ordered_lem first_is n falls_at))
    where
      falls_at : (k : ℕ) → k < n → long_at bytes (suc k) ≤ long_at bytes k
      falls_at k l =
          subst (λ (i : ℕ). long_at bytes i ≤ long_at bytes k) (add-one k)
          (subst (λ (i : ℕ). long_at bytes (i + 1) ≤ long_at bytes i) (get_or-range_with_len 0 n k 0 l ∙ zero-add k)
          (fall k 0 (omega arith) (subst (λ (m : ℕ). k < m) (sym (length-range_with_len 0 n)) l)))
  told_by_all n first_is false (k, below, up) =
      let l = subst (λ (m : ℕ). k < m) (length-range_with_len 0 n) below in
      rises k n l (subst (λ (i : ℕ). long_at bytes i < long_at bytes (i + 1)) (get_or-range_with_len 0 n k 0 l ∙ zero-add k) (up 0))

  -- ---- an entry of a lent table

  pub lent_is : (k : ℕ) → k < 1025 → (lent : Bool) → eqb (length bytes) 8200 ≡ lent
      → table_of bytes k ≡ cond lent (min (long_at bytes k) (2 ^ 40)) (table_at k)
  unfolding table_of
  lent_is k h lent e =
      ap (λ (t : Bool). cond t (min (long_at bytes k) (2 ^ 40)) (table_at k))
      (ap (λ (t : Bool). eqb (length bytes) 8200 && t) (lt-ltb k 1025 h) ∙ ap (λ (t : Bool). t && true) e ∙ and_true lent)
    where
      and_true : (b : Bool) → (b && true) ≡ b
      and_true true = refl
      and_true false = refl

  pub lent_at_most : (k : ℕ) → k ≤ 1024 → table_of bytes k ≤ 2 ^ 40
  lent_at_most k h = subst (λ (t : ℕ). t ≤ 2 ^ 40) (sym (lent_is k (omega arith) (eqb (length bytes) 8200) refl)) (either (eqb (length bytes) 8200))
    where
      either : (lent : Bool) → cond lent (min (long_at bytes k) (2 ^ 40)) (table_at k) ≤ 2 ^ 40
      either true = capped (long_at bytes k)
      either false = at_most table_at t_is_table k h

  -- ---- loading

  served : T (eqb (length bytes) 8200) → T (is_ordered bytes 1024) → Served bytes
  served w o =
      let is = is_table o in
      record {
        whole = eqb→eq (length bytes) 8200 w;
        ordered = is;
        read = λ k h. lent_is k h true (is_true (eqb (length bytes) 8200) w)
            ∙ not_capped (long_at bytes k) (at_most (long_at bytes) is k (le_of_suc-le-suc h));
      }

  only_served : load_of bytes ≡ 0 → Served bytes
  unfolding load_of
  only_served = go (eqb (length bytes) 8200) (is_ordered bytes 1024) refl refl
    where
      go : (w o : Bool) → eqb (length bytes) 8200 ≡ w → is_ordered bytes 1024 ≡ o → answer w o ≡ 0 → Served bytes
      go true true e f z = served (subst T (sym e) tt) (subst T (sym f) tt)
      go true false e f z = absurd (eqb-false 11 0 refl z)
      go false o e f z = absurd (eqb-false 10 0 refl z)

  -- so what serves is a table, too
  pub loaded_is_table : load_of bytes ≡ 0 → IsTable (table_of bytes)
  loaded_is_table z = let s = only_served z in as_table (long_at bytes) (table_of bytes) s.read s.ordered

  all_served : length bytes ≡ 8200 → IsTable (long_at bytes) → load_of bytes ≡ 0
  unfolding load_of
  all_served l is = rw (eq-eqb (length bytes) 8200 l, is_true (is_ordered bytes 1024) (is_ordered_lem is.first 1024 is.falls))

  pub loads : (r : ℕ) → r ≡ load_of bytes → Loads bytes r
  loads r h = (λ z. only_served (sym h ∙ z), λ l is. h ∙ all_served l is)
