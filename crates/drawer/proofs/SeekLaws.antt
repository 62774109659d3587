-- The search for a link: a turn of its loop, and where in a chain it stops.
use mathlib.Core.Path.{◌≡◌, refl, sym, ap, ◌∙◌, subst}
use mathlib.Core.Bool.{Bool, true, false}
use mathlib.Core.List.{List, [], ◌∷◌, ◌++◌, append-nil}
use Prim.Native.Nat.{ℕ, zero, suc, ◌*◌, ◌<◌, ◌≤◌}
use native.Mathlib.Nat.{not-suc-le-zero}
use native.Mathlib.Omega.{arith}
use lib.Dec.{ltb}
use lib.ListN.{length, get_or}
use native.Mathlib.Decide.{ℕ_discrete}
use borrow.Author.Tests.{lt-ltb}
use Rattle.numbers.proofs.TestLaws.{and_both}
use Rattle.drawer.specs.Chains.{times}
use Rattle.drawer.proofs.TimesLaws.{times_append, times_here, times_nil, times_other}
use Rattle.drawer.proofs.Links.{Links, link_after}
use Rattle.drawer.proofs.ChainLaws.{link_ends, link_names}
use Rattle.drawer.specs.Search.{is_record}
use Rattle.drawer.specs.Search.{seek}
use Rattle.drawer.proofs.CheckLaws.{Below}

some_mid : (width : ℕ) (w : ℕ → ℕ) (p r : ℕ) (a b : List ℕ) → Links width w p (a ++ (r ∷ b)) → 0 < r
some_mid width w p r [] b h = h.1
some_mid width w p r (x ∷ a) b h = some_mid width w (width * x) r a b h.2

module _ (width : ℕ) (stop : ℕ → Bool) (w : ℕ → ℕ) (n : ℕ) where
  pub seek_off : (m p : ℕ) → is_record n (w p) ≡ false → seek width stop w n m p ≡ p
  unfolding seek
  seek_off zero p e = refl
  seek_off (suc m) p e = rw (e)

  pub seek_stop : (m p : ℕ) → is_record n (w p) ≡ true → stop (w p) ≡ true → seek width stop w n m p ≡ p
  unfolding seek
  seek_stop zero p e f = refl
  seek_stop (suc m) p e f = rw (e, f)

  pub seek_next : (m j p : ℕ) → m ≡ suc j → is_record n (w p) ≡ true → stop (w p) ≡ false → seek width stop w n m p ≡ seek width stop w n j (width * w p)
  unfolding seek
  seek_next m j p more e f = rw (more, e, f)

  pub seek_last : (m p : ℕ) → m ≡ 0 → seek width stop w n m p ≡ p
  unfolding seek
  seek_last m p more = rw (more)

-- ---- where in a chain the search stops: after the records a, at which the test does not stop; the next, if any, stops it
pub record Stopped (width : ℕ) (stop : ℕ → Bool) (w : ℕ → ℕ) (n m p : ℕ) (l : List ℕ) : Type 0 where
  pub front : List ℕ
  pub rest : List ℕ
  pub cut : l ≡ front ++ rest
  pub at : seek width stop w n m p ≡ link_after width p front
  pub gone : (r : ℕ) → 0 < times r front → stop r ≡ false
  pub here : (r : ℕ) (b : List ℕ) → rest ≡ r ∷ b → stop r ≡ true

pub stopped : (width : ℕ) (stop : ℕ → Bool) (w : ℕ → ℕ) (n m p : ℕ) (l : List ℕ) → Links width w p l → Below n l → length l ≤ m → Stopped width stop w n m p l
stopped width stop w n m p [] h b fits = record {
  front = [];
  rest = [];
  cut = refl;
  at = seek_off width stop w n m p (rw (h));
  gone = λ r x. absurd (omega (arith, times_nil r));
  here = λ r d e. absurd (no_cons r d e);
}
  where
    no_cons : (r : ℕ) (d : List ℕ) → ◌≡◌ {A = List ℕ} [] (r ∷ d) → ⊥
    no_cons r d e = omega (arith, ap length e)
stopped width stop w n zero p (r ∷ l) h b fits = absurd (not-suc-le-zero fits)
stopped width stop w n (suc m) p (r ∷ l) h b fits = go (stop r) refl (stopped width stop w n m (width * r) l h.2 b.1 (omega arith))
  where
    on : is_record n (w p) ≡ true
    on = rw h.0 (and_both (ltb 0 r) (ltb r n) (lt-ltb 0 r h.1) (lt-ltb r n b.0))

    head : (r' : ℕ) (d : List ℕ) → r ∷ l ≡ r' ∷ d → r ≡ r'
    head r' d e = ap (λ (x : List ℕ). get_or x 0 0) e

    go : (t : Bool) → stop r ≡ t → Stopped width stop w n m (width * r) l → Stopped width stop w n (suc m) p (r ∷ l)
    go true e s = record {
      front = [];
      rest = r ∷ l;
      cut = refl;
      at = seek_stop width stop w n (suc m) p on (rw h.0 e);
      gone = λ x k. absurd (omega (arith, times_nil x));
      here = λ x d k. subst (λ (i : ℕ). stop i ≡ true) (head x d k) e;
    }
    go false e s = record {
      front = r ∷ s.front;
      rest = s.rest;
      cut = ap (λ (x : List ℕ). r ∷ x) s.cut;
      at = seek_next width stop w n (suc m) m p refl on (rw h.0 e) ∙ ap (λ (i : ℕ). seek width stop w n m (width * i)) h.0 ∙ s.at;
      gone = λ x k. gone x k (ℕ_discrete x r);
      here = s.here;
    }
      where
        gone : (x : ℕ) → 0 < times x (r ∷ s.front) → Dec (x ≡ r) → stop x ≡ false
        gone x k (yes z) = subst (λ (i : ℕ). stop i ≡ false) (sym z) e
        gone x k (no z) = s.gone x (omega (arith, times_other x r s.front z))

-- the record that the link names, if any
pub stopped_at : (width : ℕ) (stop : ℕ → Bool) (w : ℕ → ℕ) (n m p : ℕ) (l : List ℕ) → Links width w p l → (s : Stopped width stop w n m p l) → 0 < w (seek width stop w n m p)
    → (b : List ℕ) × (s.rest ≡ w (seek width stop w n m p) ∷ b) × (stop (w (seek width stop w n m p)) ≡ true) × (0 < times (w (seek width stop w n m p)) l)
stopped_at width stop w n m p l h s some = go s.rest s.cut s.here
  where
    x : ℕ
    x = w (seek width stop w n m p)

    go : (d : List ℕ) → l ≡ s.front ++ d → ((r : ℕ) (b : List ℕ) → d ≡ r ∷ b → stop r ≡ true)
        → (b : List ℕ) × (d ≡ w (seek width stop w n m p) ∷ b) × (stop (w (seek width stop w n m p)) ≡ true) × (0 < times (w (seek width stop w n m p)) l)
    go [] cut here =
        absurd (omega (arith, ap w s.at, link_ends width w p s.front (subst (λ (i : List ℕ). Links width w p i) (cut ∙ append-nil s.front) h)))
    go (r ∷ b) cut here =
        let named : w (seek width stop w n m p) ≡ r = ap w s.at ∙ link_names width w p r s.front b (subst (λ (i : List ℕ). Links width w p i) cut h) in (
          b,
          ap (λ (i : ℕ). i ∷ b) (sym named),
          rw (named) (here r b refl),
          rw (named, cut) (omega (arith, times_append r s.front (r ∷ b), times_here r b)),
        )

-- no record: the chain was gone through
pub stopped_none : (width : ℕ) (stop : ℕ → Bool) (w : ℕ → ℕ) (n m p : ℕ) (l : List ℕ) → Links width w p l → (s : Stopped width stop w n m p l) → w (seek width stop w n m p) ≡ 0
    → (s.rest ≡ []) × (l ≡ s.front)
stopped_none width stop w n m p l h s none = go s.rest s.cut
  where
    go : (d : List ℕ) → l ≡ s.front ++ d → (d ≡ []) × (l ≡ s.front)
    go [] cut = (refl, cut ∙ append-nil s.front)
    go (r ∷ b) cut =
        let k = subst (λ (i : List ℕ). Links width w p i) cut h in
        absurd (omega (arith, ap w s.at, link_names width w p r s.front b k, some_mid width w p r s.front b k))
