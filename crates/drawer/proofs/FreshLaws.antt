-- A drawer that was laid out is one, with every record free.
use mathlib.Core.Path.{◌≡◌, refl, sym, ap, ◌∙◌, subst}
use mathlib.Core.Bool.{true, cond}
use mathlib.Core.List.{List, [], ◌∷◌, ◌++◌}
use mathlib.Core.Logic.{◌⊎◌, inl, inr}
use Prim.Native.Nat.{ℕ, zero, suc, ◌+◌, ◌-◌, ◌*◌, ◌<◌, ◌≤◌}
use native.Mathlib.Numerals.{add-one}
use native.Mathlib.Omega.{arith}
use native.Mathlib.Decide.{ℕ_discrete}
use lib.Dec.{eqb, ltb}
use lib.ListN.{length, get_or, replicate, get_or-append, get_or-replicate}
use lib.Seq.{get_or-append-add}
use borrow.Author.Tests.{eq-eqb, ne_eqb, lt-ltb, le-ltb}
use Rattle.words.specs.Words.{word_at, bytes_of}
use Rattle.drawer.specs.Chains.{times}
use Rattle.drawer.proofs.TestLaws.{lt_or}
use Rattle.drawer.proofs.TimesLaws.{times_nil, times_other}
use Rattle.drawer.proofs.Links.{Links}
use Rattle.drawer.specs.Chains.{flat}
use Rattle.drawer.specs.Drawer.{is_chain, under_head, no_id_twice, are_states}
use Rattle.drawer.specs.Search.{records}
use Rattle.drawer.specs.Calls.{width, first_words, free_words, next_free, fresh_to}
use Rattle.drawer.proofs.SpreadLaws.{Spread}
use Rattle.words.proofs.KeptLaws.{length_bytes}
use Rattle.drawer.proofs.FillLaws.{fresh_long}
use Rattle.words.proofs.ReadLaws.{read_back}
use Rattle.drawer.proofs.ViewLaws.{View}

-- m records from r on
abbrev pub up : ℕ → ℕ → List ℕ
up r zero = []
up r (suc m) = r ∷ up (suc r) m

up_long : (r m : ℕ) → length (up r m) ≡ m
up_long r zero = refl
up_long r (suc m) = ap suc (up_long (suc r) m)

times_first : (r : ℕ) (l : List ℕ) → times r (r ∷ l) ≡ suc (times r l)
unfolding times
times_first r l = rw (eq-eqb r r refl) (omega arith)

up_below : (x r m : ℕ) → x < r → times x (up r m) ≡ 0
up_below x r zero h = times_nil x
up_below x r (suc m) h = times_other x r (up (suc r) m) (λ z. omega arith) ∙ up_below x (suc r) m (omega arith)

up_in : (x r m : ℕ) → r ≤ x → x < r + m → times x (up r m) ≡ 1
up_in x r zero h k = absurd (omega arith)
up_in x r (suc m) h k = go (ℕ_discrete x r) (λ a b. up_in x (suc r) m a b)
  where
    go : Dec (x ≡ r) → (suc r ≤ x → x < suc r + m → times x (up (suc r) m) ≡ 1) → times x (r ∷ up (suc r) m) ≡ 1
    go (yes e) rest = subst (λ (i : ℕ). times i (r ∷ up (suc r) m) ≡ 1) (sym e) (times_first r (up (suc r) m) ∙ ap suc (up_below r (suc r) m (omega arith)))
    go (no e) rest = times_other x r (up (suc r) m) e ∙ rest (omega arith) (omega arith)

up_out : (x r m : ℕ) → r + m ≤ x → times x (up r m) ≡ 0
up_out x r zero h = times_nil x
up_out x r (suc m) h = times_other x r (up (suc r) m) (λ z. omega arith) ∙ up_out x (suc r) m (omega arith)

-- ---- the words of a fresh drawer
fresh_first : (n m i : ℕ) → 0 < m → i < width → get_or (fresh_to n m) i 0 ≡ get_or (first_words n) i 0
unfolding fresh_to
fresh_first n zero i some h = absurd (omega arith)
fresh_first n (suc zero) i some h = refl
fresh_first n (suc (suc m)) i some h =
    get_or-append (fresh_to n (suc m)) (free_words (next_free n (suc m))) 0 i (omega (arith, fresh_long n (suc m))) ∙ fresh_first n (suc m) i (omega arith) h

fresh_next : (n m r : ℕ) → 0 < r → r < m → get_or (fresh_to n m) (width * r) 0 ≡ next_free n r
unfolding fresh_to
fresh_next n zero r some h = absurd (omega arith)
fresh_next n (suc zero) r some h = absurd (omega arith)
fresh_next n (suc (suc m)) r some h = go (ℕ_discrete r (suc m)) (λ k. fresh_next n (suc m) r some k)
  where
    go : Dec (r ≡ suc m) → (r < suc m → get_or (fresh_to n (suc m)) (width * r) 0 ≡ next_free n r) → get_or (fresh_to n (suc m) ++ free_words (next_free n (suc m))) (width * r) 0 ≡ next_free n r
    go (yes e) rest =
        ap (λ (i : ℕ). get_or (fresh_to n (suc m) ++ free_words (next_free n (suc m))) i 0) place
        ∙ get_or-append-add (fresh_to n (suc m)) (free_words (next_free n (suc m))) 0 0
        ∙ ap (next_free n) (sym e)
      where
        place : width * r ≡ length (fresh_to n (suc m)) + 0
        place = omega (arith, fresh_long n (suc m))
    go (no e) rest =
        get_or-append (fresh_to n (suc m)) (free_words (next_free n (suc m))) 0 (width * r) (omega (arith, fresh_long n (suc m))) ∙ rest (omega arith)

next_small : (n r : ℕ) → next_free n r ≤ n
next_small n r = go (lt_or (r + 1) n)
  where
    go : ((r + 1) < n) ⊎ (n ≤ r + 1) → next_free n r ≤ n
    go (inl h) = rw (lt-ltb (r + 1) n h) (omega arith)
    go (inr h) = rw (le-ltb (r + 1) n h) (omega arith)

first_small : (n : ℕ) → 0 < n → cond (ltb 1 n) 1 0 ≤ n
first_small n some = go (lt_or 1 n)
  where
    go : (1 < n) ⊎ (n ≤ 1) → cond (ltb 1 n) 1 0 ≤ n
    go (inl h) = rw (lt-ltb 1 n h) (omega arith)
    go (inr h) = rw (le-ltb 1 n h) (omega arith)

module _ (n : ℕ) (some : 0 < n) (most : n ≤ 65536) where
  abbrev pub fresh : List ℕ
  fresh = bytes_of (fresh_to n n)

  fresh_size : length (bytes_of (fresh_to n n)) ≡ 4 * (width * n)
  fresh_size = omega (arith, length_bytes (fresh_to n n), fresh_long n n)

  pub fresh_records : records width fresh ≡ n
  fresh_records = omega (arith, fresh_size)

  word_next : (r : ℕ) → 0 < r → r < n → word_at fresh (width * r) ≡ next_free n r
  word_next r h k =
      let e = fresh_next n n r h k in
      read_back (fresh_to n n) (width * r) (omega (arith, e, next_small n r)) ∙ e

  word_first : (i : ℕ) → i < width → get_or (first_words n) i 0 < 4294967296 → word_at fresh i ≡ get_or (first_words n) i 0
  word_first i h small =
      let e = fresh_first n n i some h in
      read_back (fresh_to n n) i (omega (arith, e)) ∙ e

  head_zero : (k : ℕ) → k < 16 → get_or (first_words n) k 0 ≡ 0
  head_zero k h = get_or-append (replicate 16 0) (next_free n 0 ∷ 4 * width ∷ replicate (width - 18) 0) 0 k (omega arith) ∙ get_or-replicate 16 k 0 0 h

  word_head : (k : ℕ) → k < 16 → word_at fresh k ≡ 0
  word_head k h = word_first k (omega arith) (omega (arith, head_zero k h)) ∙ head_zero k h

  abbrev pub fresh_chains : ℕ → List ℕ
  fresh_chains k = cond (eqb k 16) (up 1 (n - 1)) []

  no_chain : (k : ℕ) → (k ≡ 16 → ⊥) → fresh_chains k ≡ []
  no_chain k e = rw (ne_eqb k 16 e)

  pub used_empty : (k : ℕ) → k < 16 → fresh_chains k ≡ []
  used_empty k h = no_chain k (λ z. omega arith)

  up_links : (m r p : ℕ) → r + m ≡ n → 0 < r → word_at fresh p ≡ cond (ltb r n) r 0 → Links width (word_at fresh) p (up r m)
  up_links zero r p e h w = w ∙ rw (le-ltb r n (omega arith))
  up_links (suc m) r p e h w = (
    w ∙ rw (lt-ltb r n (omega arith)),
    h,
    up_links m (suc r) (width * r) (omega arith) (omega arith) (word_next r h (omega arith) ∙ ap (λ (i : ℕ). cond (ltb i n) i 0) (add-one r)),
  )

  fresh_flat : flat fresh_chains 17 ≡ up 1 (n - 1)
  unfolding flat
  fresh_flat = refl

  fresh_links : (k : ℕ) → k < 17 → Dec (k ≡ 16) → Links width (word_at fresh) k (fresh_chains k)
  fresh_links k h (yes e) = subst (λ (i : ℕ). Links width (word_at fresh) i (fresh_chains i)) (sym e) (up_links (n - 1) 1 16 (omega arith) (omega arith) (word_first 16 (omega arith) (omega (arith, first_small n some))))
  fresh_links k h (no e) = subst (λ (i : List ℕ). Links width (word_at fresh) k i) (sym (no_chain k e)) (word_head k (omega arith))

  fresh_inside : (r : ℕ) → 0 < times r (up 1 (n - 1)) → (0 < r) × (r < n)
  fresh_inside r h = (low (ℕ_discrete r 0), high (lt_or r n))
    where
      low : Dec (r ≡ 0) → 0 < r
      low (yes e) = absurd (omega (arith, h, up_below r 1 (n - 1) (omega arith)))
      low (no e) = omega arith

      high : (r < n) ⊎ (n ≤ r) → r < n
      high (inl k) = k
      high (inr k) = absurd (omega (arith, h, up_out r 1 (n - 1) (omega arith)))

  fresh_chain : (k : ℕ) → k < 16 → is_chain width (word_at fresh) k (fresh_chains k) ≡ true
  unfolding under_head no_id_twice are_states
  fresh_chain k h = subst (λ (l : List ℕ). is_chain width (word_at fresh) k l ≡ true) (sym (used_empty k h)) refl

  pub fresh_view : View width fresh fresh_chains
  fresh_view = record {
    size = fresh_size ∙ ap (λ (i : ℕ). 4 * (width * i)) (sym fresh_records);
    some = omega (arith, fresh_records);
    most = omega (arith, fresh_records);
    named = word_first 17 (omega arith) (omega arith);
    spread = subst (λ (i : ℕ). Spread width (word_at fresh) i fresh_chains) (sym fresh_records) (record {
      links = λ k h. fresh_links k h (ℕ_discrete k 16);
      once = λ r h k. ap (times r) fresh_flat ∙ up_in r 1 (n - 1) (omega arith) (omega arith);
      inside = λ r h. fresh_inside r (subst (λ (l : List ℕ). 0 < times r l) fresh_flat h);
    });
    chain = fresh_chain;
  }

  pub fresh_free : length (fresh_chains 16) ≡ n - 1
  fresh_free = up_long 1 (n - 1)
