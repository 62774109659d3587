-- Words put one part after another fill the bytes with the words of all the parts.
use mathlib.Core.Path.{◌≡◌, refl, sym, ap, ◌∙◌}
use mathlib.Core.List.{List, [], ◌∷◌, ◌++◌, append-nil, append_assoc}
use Prim.Native.Nat.{ℕ, zero, suc, ◌+◌, ◌*◌, ◌≤◌}
use native.Mathlib.Numerals.{add-one}
use native.Mathlib.Omega.{arith}
use lib.ListN.{length, take, drop, replicate, length-append, length-drop, length-replicate, drop_of_length-le}
use borrow.Rule.Slice.PartMut.{put_mid}
use lib.Seq.{take_at, drop_at, drop-drop}
use Rattle.std.proofs.lemmas.List.{take-append-drop, length-take-le}
use Rattle.words.specs.Words.{bytes_of, put_at}
use Rattle.words.proofs.KeptLaws.{length_bytes}

pub bytes_append : (v w : List ℕ) → bytes_of (v ++ w) ≡ bytes_of v ++ bytes_of w
unfolding bytes_of
bytes_append [] w = refl
bytes_append (x ∷ v) w = ap (λ (r : List ℕ). bytes_of (x ∷ []) ++ r) (bytes_append v w)

-- ---- one part
pub put_after : (at : ℕ) (w p r : List ℕ) → length p ≡ 4 * at → put_at at w (p ++ r) ≡ p ++ (bytes_of w ++ drop (4 * length w) r)
unfolding put_at
put_after at w p r here = rw (take_at p r (4 * at) here, drop_at p r (4 * at) here)

pub put_all : (w s : List ℕ) → length s ≡ 4 * length w → put_at 0 w s ≡ bytes_of w
put_all w s whole =
    put_after 0 w [] s refl
    ∙ ap (λ (r : List ℕ). bytes_of w ++ r) (drop_of_length-le s {i = 4 * length w} (omega (arith, whole)))
    ∙ append-nil (bytes_of w)

-- ---- many parts: the number of words of each, and the words
abbrev pub Part : Type 0
Part = ℕ × List ℕ

abbrev pub put_parts : ℕ → List Part → List ℕ → List ℕ
put_parts at [] s = s
put_parts at (q ∷ qs) s = put_parts (at + q.0) qs (put_at at q.1 s)

abbrev pub words_of : List Part → List ℕ
words_of [] = []
words_of (q ∷ qs) = q.1 ++ words_of qs

pub words_append : (qs ps : List Part) → words_of (qs ++ ps) ≡ words_of qs ++ words_of ps
words_append [] ps = refl
words_append (q ∷ qs) ps = ap (λ (r : List ℕ). q.1 ++ r) (words_append qs ps) ∙ sym (append_assoc q.1 (words_of qs) (words_of ps))

abbrev pub total : List Part → ℕ
total [] = 0
total (q ∷ qs) = q.0 + total qs

abbrev pub Right : List Part → Type 0
Right [] = Unit {0}
Right (q ∷ qs) = (length q.1 ≡ q.0) × Right qs

pub right_append : (qs ps : List Part) → Right qs → Right ps → Right (qs ++ ps)
right_append [] ps r p = p
right_append (q ∷ qs) ps r p = (r.0, right_append qs ps r.1 p)

pub total_is : (qs : List Part) → Right qs → length (words_of qs) ≡ total qs
total_is [] r = refl
total_is (q ∷ qs) r = length-append q.1 (words_of qs) ∙ omega (arith, r.0, total_is qs r.1)

-- what stands after p, once the parts are put there
abbrev filled : List Part → List ℕ → List ℕ
filled qs r = bytes_of (words_of qs) ++ drop (4 * length (words_of qs)) r

lengths : (v w : List ℕ) → 4 * length v + 4 * length w ≡ 4 * length (v ++ w)
lengths v w = omega (arith, length-append v w)

filled_more : (q : Part) (qs : List Part) (r : List ℕ) → bytes_of q.1 ++ filled qs (drop (4 * length q.1) r) ≡ filled (q ∷ qs) r
filled_more q qs r =
    sym (append_assoc (bytes_of q.1) (bytes_of (words_of qs)) (drop (4 * length (words_of qs)) (drop (4 * length q.1) r)))
    ∙ ap (λ (l : List ℕ). l ++ drop (4 * length (words_of qs)) (drop (4 * length q.1) r)) (sym (bytes_append q.1 (words_of qs)))
    ∙ ap (λ (l : List ℕ). bytes_of (q.1 ++ words_of qs) ++ l) (drop-drop (4 * length (words_of qs)) (4 * length q.1) r)
    ∙ ap (λ (n : ℕ). bytes_of (q.1 ++ words_of qs) ++ drop n r) (lengths q.1 (words_of qs))

parts_after : (qs : List Part) (at : ℕ) (p r : List ℕ) → length p ≡ 4 * at → Right qs → put_parts at qs (p ++ r) ≡ p ++ filled qs r
unfolding bytes_of
parts_after [] at p r here right = refl
parts_after (q ∷ qs) at p r here right =
    ap (put_parts (at + q.0) qs)
    (put_after at q.1 p r here ∙ sym (append_assoc p (bytes_of q.1) (drop (4 * length q.1) r)))
    ∙ parts_after qs (at + q.0) (p ++ bytes_of q.1) (drop (4 * length q.1) r)
    (omega (arith, here, right.0, length-append p (bytes_of q.1), length_bytes q.1))
    right.1
    ∙ append_assoc p (bytes_of q.1) (filled qs (drop (4 * length q.1) r))
    ∙ ap (λ (l : List ℕ). p ++ l) (filled_more q qs r)

pub put_parts_lem : (qs : List Part) (s : List ℕ) → Right qs → length s ≡ 4 * total qs → put_parts 0 qs s ≡ bytes_of (words_of qs)
put_parts_lem qs s right whole =
    parts_after qs 0 [] s refl right
    ∙ ap (λ (r : List ℕ). bytes_of (words_of qs) ++ r) (drop_of_length-le s {i = 4 * length (words_of qs)} (omega (arith, whole, total_is qs right)))
    ∙ append-nil (bytes_of (words_of qs))

-- ---- two parts, as one
pub put_twice : (at n : ℕ) (u v s : List ℕ) → length u ≡ n → 4 * at + 4 * n ≤ length s → put_at (at + n) v (put_at at u s) ≡ put_at at (u ++ v) s
unfolding put_at
put_twice at n u v s long room =
    let p = take (4 * at) s in
    let r = drop (4 * at) s in
    ap (λ (l : List ℕ). put_at (at + n) v (put_at at u l)) (sym (take-append-drop (4 * at) s))
    ∙ parts_after ((n, u) ∷ (length v, v) ∷ []) at p r (length-take-le (4 * at) s (omega (arith, room))) (long, (refl, tt))
    ∙ ap (λ (w : List ℕ). p ++ (bytes_of (u ++ w) ++ drop (4 * length (u ++ w)) r)) (append-nil v)

-- ---- zeros
pub replicate_suc : (n : ℕ) → ◌≡◌ {A = List ℕ} (replicate (n + 1) 0) (0 ∷ replicate n 0)
replicate_suc n = ap (λ (m : ℕ). replicate {A = ℕ} m 0) (add-one n)

zero_bytes : (n : ℕ) → bytes_of (replicate n 0) ≡ replicate (4 * n) 0
unfolding bytes_of
zero_bytes zero = refl
zero_bytes (suc n) = ap (λ (l : List ℕ). 0 ∷ 0 ∷ 0 ∷ 0 ∷ l) (zero_bytes n) ∙ ap (λ (m : ℕ). replicate m 0) (four n)
  where
    four : (n : ℕ) → suc (suc (suc (suc (4 * n)))) ≡ 4 * suc n
    four n = omega arith

pub cleared : (at n m : ℕ) (s new : List ℕ) → m ≡ 4 * n → 4 * at + 4 * n ≤ length s → new ≡ replicate (length (take m (drop (4 * at) s))) 0
    → put_mid (4 * at) m s new ≡ put_at at (replicate n 0) s
unfolding put_at
cleared at n m s new wide room zeros =
    let long : length (take m (drop (4 * at) s)) ≡ 4 * n =
    length-take-le m (drop (4 * at) s) (omega (arith, wide, room, length-drop (4 * at) s)) ∙ wide in
    rw (zeros, long, wide, zero_bytes n, length-replicate {A = ℕ} n 0)

-- ---- Puts at parts s t: from s the parts were put from word at on, one call after another, which left t
pub data Puts : ℕ → List Part → List ℕ → List ℕ → Type 0 where
  done : {at : ℕ} {s : List ℕ} → Puts at [] s s
  next : {at : ℕ} {q : Part} {qs : List Part} {s m t : List ℕ} → m ≡ put_at at q.1 s → Puts (at + q.0) qs m t → Puts at (q ∷ qs) s t

-- of two parts that were put as one
pub next_two : {at : ℕ} {q r : Part} {qs : List Part} {s m t : List ℕ} → length q.1 ≡ q.0 → 4 * at + 4 * q.0 ≤ length s
    → m ≡ put_at at (q.1 ++ r.1) s → Puts (at + q.0 + r.0) qs m t → Puts at (q ∷ r ∷ qs) s t
next_two {at} {q} {r} {s = s} long room left then = next refl (next (left ∙ sym (put_twice at q.0 q.1 r.1 s long room)) then)

pub puts : {at : ℕ} {qs : List Part} {s t : List ℕ} → Puts at qs s t → t ≡ put_parts at qs s
puts done = refl
puts (next {at} {q} {qs} left then) = puts then ∙ ap (put_parts (at + q.0) qs) left
