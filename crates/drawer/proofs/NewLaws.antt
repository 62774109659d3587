-- The words of the buffer after a new record was put in, after a rewriting, and after a forgetting.
use mathlib.Core.Path.{◌≡◌, sym, ap, ◌∙◌}
use mathlib.Core.List.{List, [], ◌∷◌}
use mathlib.Core.Logic.{◌⊎◌, inl, inr, ⊎_elim}
use Prim.Native.Nat.{ℕ, ◌+◌, ◌*◌, ◌/◌, ◌%◌, ◌<◌, ◌≤◌}
use native.Mathlib.Nat.{add-zero}
use native.Mathlib.Omega.{arith}
use lib.ListN.{length, get_or}
use Rattle.words.specs.Words.{word_at, put_at}
use Rattle.drawer.specs.Calls.{width, new_in, gone_from, free_words}
use Rattle.words.proofs.KeptLaws.{put_length, kept_word}
use Rattle.words.proofs.ReadLaws.{written_word}
use Rattle.drawer.proofs.TestLaws.{lt_or}

beside : (y p : ℕ) → (y ≡ p → ⊥) → (y < p) ⊎ (p + 1 ≤ y)
beside y p e = ⊎_elim (λ h. inl h) (λ h. inr (omega arith)) (lt_or y p)

one_word : (at v : ℕ) (s : List ℕ) → 4 * at + 4 ≤ length s → v < 4294967296 → word_at (put_at at (v ∷ []) s) at ≡ v
one_word at v s room fits = ap (word_at (put_at at (v ∷ []) s)) (sym (add-zero at)) ∙ written_word at (v ∷ []) s (omega arith) 0 (omega arith) fits

module _ (s : List ℕ) (x : ℕ) (st : List ℕ) (f p : ℕ) (long : length st ≡ 39) (some : 0 < f) (room : 4 * (width * f + width) ≤ length s) (link : 4 * p + 4 ≤ length s)
    (off : (p < width * f) ⊎ (width * f + width ≤ p)) (not-Free : p ≡ 16 → ⊥) where
  s1 : List ℕ
  s1 = put_at 16 (word_at s (width * f) ∷ []) s

  s2 : List ℕ
  s2 = put_at (width * f) (word_at s p ∷ x % 4294967296 ∷ x / 4294967296 ∷ []) (put_at 16 (word_at s (width * f) ∷ []) s)

  s3 : List ℕ
  s3 = put_at (width * f + 3) st (put_at (width * f) (word_at s p ∷ x % 4294967296 ∷ x / 4294967296 ∷ []) (put_at 16 (word_at s (width * f) ∷ []) s))

  long_1 : length s1 ≡ length s
  unfolding s1
  long_1 = put_length 16 (word_at s (width * f) ∷ []) s (omega arith)

  long_2 : length s2 ≡ length s
  unfolding s2 s1
  long_2 = put_length (width * f) (word_at s p ∷ x % 4294967296 ∷ x / 4294967296 ∷ []) s1 (omega (arith, long_1)) ∙ long_1

  long_3 : length s3 ≡ length s
  unfolding s3 s2 s1
  long_3 = put_length (width * f + 3) st s2 (omega (arith, long_2)) ∙ long_2

  pub new_length : length (new_in s x st f p) ≡ length s
  unfolding new_in s3 s2 s1
  new_length = put_length p (f ∷ []) s3 (omega (arith, long_3)) ∙ long_3

  -- the last write apart
  last_out : (y : ℕ) → (y ≡ p → ⊥) → word_at (new_in s x st f p) y ≡ word_at s3 y
  unfolding new_in s3 s2 s1
  last_out y e = kept_word p (f ∷ []) s3 (omega (arith, long_3)) y (beside y p e)

  in_record : (y : ℕ) → width * f ≤ y → y < width * f + width → y ≡ p → ⊥
  in_record y h k e = ⊎_elim {C = ⊥} (λ l. omega arith) (λ l. omega arith) off

  pub new_link : f < 4294967296 → word_at (new_in s x st f p) p ≡ f
  unfolding new_in s3 s2 s1
  new_link fits = one_word p f s3 (omega (arith, long_3)) fits

  pub new_next : word_at s p < 4294967296 → word_at (new_in s x st f p) (width * f) ≡ word_at s p
  unfolding s3 s2 s1
  new_next fits =
      last_out (width * f) (in_record (width * f) (omega arith) (omega arith))
      ∙ kept_word (width * f + 3) st s2 (omega (arith, long_2)) (width * f) (inl (omega arith))
      ∙ ap (word_at s2) (sym (add-zero (width * f)))
      ∙ written_word (width * f) (word_at s p ∷ x % 4294967296 ∷ x / 4294967296 ∷ []) s1 (omega (arith, long_1)) 0 (omega arith) fits

  pub new_low : word_at (new_in s x st f p) (width * f + 1) ≡ x % 4294967296
  unfolding s3 s2 s1
  new_low =
      last_out (width * f + 1) (in_record (width * f + 1) (omega arith) (omega arith))
      ∙ kept_word (width * f + 3) st s2 (omega (arith, long_2)) (width * f + 1) (inl (omega arith))
      ∙ written_word (width * f) (word_at s p ∷ x % 4294967296 ∷ x / 4294967296 ∷ []) s1 (omega (arith, long_1)) 1 (omega arith) (omega arith)

  pub new_high : x < 18446744073709551616 → word_at (new_in s x st f p) (width * f + 2) ≡ x / 4294967296
  unfolding s3 s2 s1
  new_high fits =
      last_out (width * f + 2) (in_record (width * f + 2) (omega arith) (omega arith))
      ∙ kept_word (width * f + 3) st s2 (omega (arith, long_2)) (width * f + 2) (inl (omega arith))
      ∙ written_word (width * f) (word_at s p ∷ x % 4294967296 ∷ x / 4294967296 ∷ []) s1 (omega (arith, long_1)) 2 (omega arith) (omega arith)

  pub new_state : (i : ℕ) → i < 39 → get_or st i 0 < 4294967296 → word_at (new_in s x st f p) (width * f + 3 + i) ≡ get_or st i 0
  unfolding s3 s2 s1
  new_state i h fits =
      last_out (width * f + 3 + i) (in_record (width * f + 3 + i) (omega arith) (omega arith))
      ∙ written_word (width * f + 3) st s2 (omega (arith, long_2)) i (omega arith) fits

  pub new_free : word_at s (width * f) < 4294967296 → word_at (new_in s x st f p) 16 ≡ word_at s (width * f)
  unfolding s3 s2 s1
  new_free fits =
      last_out 16 (λ e. not-Free (sym e))
      ∙ kept_word (width * f + 3) st s2 (omega (arith, long_2)) 16 (inl (omega arith))
      ∙ kept_word (width * f) (word_at s p ∷ x % 4294967296 ∷ x / 4294967296 ∷ []) s1 (omega (arith, long_1)) 16 (inl (omega arith))
      ∙ one_word 16 (word_at s (width * f)) s (omega arith) fits

  pub new_other : (y : ℕ) → (y ≡ p → ⊥) → (y ≡ 16 → ⊥) → (y < width * f) ⊎ (width * f + width ≤ y) → word_at (new_in s x st f p) y ≡ word_at s y
  unfolding s3 s2 s1
  new_other y e g h =
      last_out y e
      ∙ kept_word (width * f + 3) st s2 (omega (arith, long_2)) y (⊎_elim (λ k. inl (omega arith)) (λ k. inr (omega arith)) h)
      ∙ kept_word (width * f) (word_at s p ∷ x % 4294967296 ∷ x / 4294967296 ∷ []) s1 (omega (arith, long_1)) y (⊎_elim (λ k. inl (omega arith)) (λ k. inr (omega arith)) h)
      ∙ kept_word 16 (word_at s (width * f) ∷ []) s (omega arith) y (beside y 16 g)

-- ---- a rewriting in place
module _ (s : List ℕ) (st : List ℕ) (f : ℕ) (long : length st ≡ 39) (room : 4 * (width * f + width) ≤ length s) where
  pub over_length : length (put_at (width * f + 3) st s) ≡ length s
  over_length = put_length (width * f + 3) st s (omega arith)

  pub over_state : (i : ℕ) → i < 39 → get_or st i 0 < 4294967296 → word_at (put_at (width * f + 3) st s) (width * f + 3 + i) ≡ get_or st i 0
  over_state i h fits = written_word (width * f + 3) st s (omega arith) i (omega arith) fits

  pub over_other : (y : ℕ) → (y < width * f + 3) ⊎ (width * f + width ≤ y) → word_at (put_at (width * f + 3) st s) y ≡ word_at s y
  over_other y h = kept_word (width * f + 3) st s (omega arith) y (⊎_elim (λ k. inl k) (λ k. inr (omega arith)) h)

-- ---- a forgetting
module _ (s : List ℕ) (f p : ℕ) (some : 0 < f) (room : 4 * (width * f + width) ≤ length s) (link : 4 * p + 4 ≤ length s)
    (off : (p < width * f) ⊎ (width * f + width ≤ p)) (not-Free : p ≡ 16 → ⊥) where
  t1 : List ℕ
  t1 = put_at p (word_at s (width * f) ∷ []) s

  t2 : List ℕ
  t2 = put_at (width * f) (free_words (word_at s 16)) (put_at p (word_at s (width * f) ∷ []) s)

  long_t1 : length t1 ≡ length s
  unfolding t1
  long_t1 = put_length p (word_at s (width * f) ∷ []) s (omega arith)

  long_t2 : length t2 ≡ length s
  unfolding t2 t1
  long_t2 = put_length (width * f) (free_words (word_at s 16)) t1 (omega (arith, long_t1)) ∙ long_t1

  pub gone_length : length (gone_from s f p) ≡ length s
  unfolding gone_from t2 t1
  gone_length = put_length 16 (f ∷ []) t2 (omega (arith, long_t2)) ∙ long_t2

  head_out : (y : ℕ) → (y ≡ 16 → ⊥) → word_at (gone_from s f p) y ≡ word_at t2 y
  unfolding gone_from t2 t1
  head_out y e = kept_word 16 (f ∷ []) t2 (omega (arith, long_t2)) y (beside y 16 e)

  pub gone_free : f < 4294967296 → word_at (gone_from s f p) 16 ≡ f
  unfolding gone_from t2 t1
  gone_free fits = one_word 16 f t2 (omega (arith, long_t2)) fits

  pub gone_next : word_at s 16 < 4294967296 → word_at (gone_from s f p) (width * f) ≡ word_at s 16
  unfolding t2 t1
  gone_next fits =
      head_out (width * f) (λ e. omega arith)
      ∙ ap (word_at t2) (sym (add-zero (width * f)))
      ∙ written_word (width * f) (free_words (word_at s 16)) t1 (omega (arith, long_t1)) 0 (omega arith) fits

  pub gone_link : word_at s (width * f) < 4294967296 → word_at (gone_from s f p) p ≡ word_at s (width * f)
  unfolding t2 t1
  gone_link fits =
      head_out p not-Free
      ∙ kept_word (width * f) (free_words (word_at s 16)) t1 (omega (arith, long_t1)) p (⊎_elim (λ k. inl k) (λ k. inr k) off)
      ∙ one_word p (word_at s (width * f)) s (omega arith) fits

  pub gone_other : (y : ℕ) → (y ≡ p → ⊥) → (y ≡ 16 → ⊥) → (y < width * f) ⊎ (width * f + width ≤ y) → word_at (gone_from s f p) y ≡ word_at s y
  unfolding t2 t1
  gone_other y e g h =
      head_out y g
      ∙ kept_word (width * f) (free_words (word_at s 16)) t1 (omega (arith, long_t1)) y (⊎_elim (λ k. inl k) (λ k. inr k) h)
      ∙ kept_word p (word_at s (width * f) ∷ []) s (omega arith) y (beside y p e)
