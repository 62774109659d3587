-- A fresh drawer's records, written one after the other.
use mathlib.Core.Path.{◌≡◌, refl, sym, ap, ◌∙◌}
use mathlib.Core.List.{List, [], ◌++◌, append_assoc}
use Prim.Native.Nat.{ℕ, zero, suc, ◌+◌, ◌*◌, ◌<◌, ◌≤◌}
use native.Mathlib.Omega.{arith}
use lib.ListN.{length, drop, length-append, length-drop}
use lib.Seq.{drop_at, drop-drop}
use Rattle.words.specs.Words.{bytes_of, put_at}
use Rattle.words.proofs.KeptLaws.{length_bytes}
use Rattle.records.proofs.PartLaws.{bytes_append, put_after}
use Rattle.drawer.specs.Calls.{width, first_words, free_words, next_free, fresh_to}

-- ---- a fresh drawer
pub fresh_long : (n m : ℕ) → length (fresh_to n m) ≡ width * m
unfolding fresh_to
fresh_long n zero = refl
fresh_long n (suc zero) = refl
fresh_long n (suc (suc r)) = omega (arith, length-append (fresh_to n (suc r)) (free_words (next_free n (suc r))), fresh_long n (suc r))

-- after the first m records are written
abbrev pub fresh_up_to : ℕ → ℕ → List ℕ → List ℕ
fresh_up_to n m s = bytes_of (fresh_to n m) ++ drop (4 * (width * m)) s

pub fresh_first : (n : ℕ) (s : List ℕ) → put_at 0 (first_words n) s ≡ fresh_up_to n 1 s
unfolding fresh_to
fresh_first n s = put_after 0 (first_words n) [] s refl

pub fresh_next : (n r : ℕ) (s : List ℕ) → 0 < r → put_at (width * r) (free_words (next_free n r)) (fresh_up_to n r s) ≡ fresh_up_to n (r + 1) s
unfolding fresh_to
fresh_next n zero s some = absurd (omega arith)
fresh_next n (suc r) s some =
    put_after (width * suc r) (free_words (next_free n (suc r))) (bytes_of (fresh_to n (suc r))) (drop (4 * (width * suc r)) s) (omega (arith, length_bytes (fresh_to n (suc r)), fresh_long n (suc r)))
    ∙ ap (λ (l : List ℕ). bytes_of (fresh_to n (suc r)) ++ (bytes_of (free_words (next_free n (suc r))) ++ l)) (drop-drop (4 * width) (4 * (width * suc r)) s)
    ∙ sym (append_assoc (bytes_of (fresh_to n (suc r))) (bytes_of (free_words (next_free n (suc r)))) (drop (4 * (width * suc r) + 4 * width) s))
    ∙ ap (λ (l : List ℕ). l ++ drop (4 * (width * suc r) + 4 * width) s) (sym (bytes_append (fresh_to n (suc r)) (free_words (next_free n (suc r)))))
    ∙ ap (λ (i : ℕ). bytes_of (fresh_to n (suc (suc r))) ++ drop i s) (more r)
    ∙ ap (λ (i : ℕ). fresh_up_to n i s) (sym (one r))
  where
    more : (i : ℕ) → 4 * (width * suc i) + 4 * width ≡ 4 * (width * suc (suc i))
    more i = omega arith

    one : (i : ℕ) → suc i + 1 ≡ suc (suc i)
    one i = omega arith

pub fresh_length : (n m : ℕ) (s : List ℕ) → 4 * (width * m) ≤ length s → length (fresh_up_to n m s) ≡ length s
fresh_length n m s room =
    omega (arith, length-append (bytes_of (fresh_to n m)) (drop (4 * (width * m)) s), length_bytes (fresh_to n m), fresh_long n m, length-drop (4 * (width * m)) s)

pub fresh_start : (n : ℕ) (s : List ℕ) → fresh_up_to n 1 s ≡ fresh_up_to n 1 (fresh_up_to n 1 s)
fresh_start n s =
    ap (λ (l : List ℕ). bytes_of (fresh_to n 1) ++ l)
    (sym (drop_at (bytes_of (fresh_to n 1)) (drop (4 * width) s) (4 * width) (omega (arith, length_bytes (fresh_to n 1), fresh_long n 1))))
