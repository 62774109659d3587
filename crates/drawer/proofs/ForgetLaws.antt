-- What a drawer holds after a forgetting.
use mathlib.Core.Path.{◌≡◌, sym, ap, ◌∙◌, subst}
use mathlib.Core.Bool.{true, false, cond}
use mathlib.Core.List.{List, ◌∷◌, ◌++◌}
use Prim.Native.Nat.{ℕ, ◌+◌, ◌*◌, ◌%◌, ◌<◌}
use native.Mathlib.Omega.{arith}
use native.Mathlib.Decide.{ℕ_discrete}
use lib.Dec.{eqb}
use lib.ListN.{length, length-append}
use borrow.Author.Tests.{eq-eqb, ne_eqb}
use Rattle.words.specs.Words.{word_at}
use Rattle.records.proofs.TidiedLaws.{tidied_same}
use Rattle.drawer.specs.Chains.{times}
use Rattle.drawer.specs.Drawer.{id_in, has_id, no_id_twice, records_of}
use Rattle.drawer.specs.Search.{records}
use Rattle.drawer.specs.Order.{Ascends}
use Rattle.drawer.specs.Calls.{width, state_in, gone_from}
use Rattle.drawer.specs.Lists.{nothing, Event, forgot, last_saved, is_held, held_ids}
use Rattle.drawer.proofs.TimesLaws.{times_append, times_here, times_split, counts_no_other}
use Rattle.drawer.proofs.Links.{link_after}
use Rattle.drawer.proofs.OrderLaws.{up_same, up_remove}
use Rattle.drawer.proofs.SpreadLaws.{spread_long}
use Rattle.drawer.proofs.SurgeryLaws.{changed, changed_here, changed_other, alone}
use Rattle.drawer.proofs.DrawerLaws.{head_low}
use Rattle.drawer.proofs.IdLaws.{has_same, twice_remove, right_of}
use Rattle.drawer.proofs.ViewLaws.{View}
use Rattle.drawer.proofs.LookLaws.{is_absent}
use Rattle.drawer.proofs.KeptLaws.{gone_view, gone_long, gone_same_id, gone_words, left_within, left_away}
use Rattle.drawer.proofs.HeldLaws.{held_at, held_in, held_kept, Holds, changed_both, long_two, pos_of}

module _ (n : ℕ) (s : List ℕ) (h : List Event) (e : Holds n s h) where
  module _ (x f : ℕ) (a b : List ℕ) (cut : e.chains (x % 16) ≡ a ++ (f ∷ b)) (known : id_in width (word_at s) f ≡ x) where
    abbrev g2 : ℕ → List ℕ
    g2 = changed (changed e.chains (x % 16) (a ++ b)) 16 (f ∷ e.chains 16)

    abbrev t' : List ℕ
    t' = gone_from s f (link_after width (x % 16) a)

    u' : View width t' g2
    u' = gone_view s e.chains e.view (x % 16) f a b (head_low x) cut

    used_f : 0 < times f (e.chains (x % 16))
    used_f = subst (λ (l : List ℕ). 0 < times f l) (sym cut) (omega (arith, times_append f a (f ∷ b), times_here f b))

    g_pos : 0 < f
    g_pos = pos_of n s h e (x % 16) f (omega (arith, head_low x)) used_f

    left_k : g2 (x % 16) ≡ a ++ b
    left_k = changed_both e.chains (x % 16) (a ++ b) (f ∷ e.chains 16) (x % 16) (head_low x) ∙ changed_here e.chains (x % 16) (a ++ b)

    left_j : (j : ℕ) → j < 16 → (j ≡ x % 16 → ⊥) → g2 j ≡ e.chains j
    left_j j l z = changed_both e.chains (x % 16) (a ++ b) (f ∷ e.chains 16) j l ∙ changed_other e.chains (x % 16) (a ++ b) j z

    g_ids : (r : ℕ) → 0 < r → (r ≡ f → ⊥) → id_in width (word_at t') r ≡ id_in width (word_at s) r
    g_ids = gone_same_id s e.chains e.view (x % 16) f a b (head_low x) cut

    in_left : (j r : ℕ) → j < 16 → 0 < times r (e.chains j) → (r ≡ f → ⊥) → Dec (j ≡ x % 16) → 0 < times r (g2 j)
    in_left j r l m away (yes z) =
        subst (λ (i : ℕ). 0 < times r (g2 i)) (sym z)
        (omega (arith, ap (times r) left_k, times_split r f a b, ap (times r) cut, subst (λ (i : ℕ). 0 < times r (e.chains i)) z m, counts_no_other r f away))
    in_left j r l m away (no z) = subst (λ (i : List ℕ). 0 < times r i) (sym (left_j j l z)) m

    out_left : (j r : ℕ) → j < 16 → 0 < times r (g2 j) → Dec (j ≡ x % 16) → (0 < times r (e.chains j)) × (r ≡ f → ⊥)
    out_left j r l m (yes z) =
        let here : 0 < times r (a ++ b) = subst (λ (i : List ℕ). 0 < times r i) left_k (subst (λ (i : ℕ). 0 < times r (g2 i)) z m) in (
          subst (λ (i : ℕ). 0 < times r (e.chains i)) (sym z) (left_within s e.chains e.view (x % 16) f a b (head_low x) cut r here),
          left_away s e.chains e.view (x % 16) f a b (head_low x) cut r here,
        )
    out_left j r l m (no z) =
        let here : 0 < times r (e.chains j) = subst (λ (i : List ℕ). 0 < times r i) (left_j j l z) m in
        (here, λ q. alone width (word_at s) (records width s) e.chains e.view.spread j (x % 16) f (omega arith) (omega (arith, head_low x)) z (subst (λ (i : ℕ). 0 < times i (e.chains j)) q here) used_f)

    gone_has : has_id width (word_at t') x (a ++ b) ≡ false
    gone_has =
        has_same width (word_at s) (word_at t') x (a ++ b)
        (λ r m. let w = left_within s e.chains e.view (x % 16) f a b (head_low x) cut r m in
        g_ids r (pos_of n s h e (x % 16) r (omega (arith, head_low x)) w) (left_away s e.chains e.view (x % 16) f a b (head_low x) cut r m))
        ∙ subst (λ (i : ℕ). has_id width (word_at s) i (a ++ b) ≡ false) known
        (twice_remove width (word_at s) f a b (subst (λ (i : List ℕ). no_id_twice width (word_at s) i ≡ true) cut (right_of width (word_at s) (x % 16) (e.chains (x % 16)) (e.view.chain (x % 16) (head_low x))).single)).1

    elsewhere : (r : ℕ) → 0 < r → (r ≡ f → ⊥) → state_in t' r ≡ state_in s r
    elsewhere r p away = tidied_same (word_at s) (word_at t') (width * r + 3) (width * r + 3) (gone_words s e.chains e.view (x % 16) f a b (head_low x) cut r p away)

    gone_held : (y : ℕ) → Dec (x ≡ y) → held_in t' y ≡ cond (eqb x y) nothing (last_saved h y)
    gone_held y (yes z) =
        rw (eq-eqb x y z)
        (ap (held_in t') (sym z) ∙ ap (held_at t') (is_absent width t' g2 u' x (subst (λ (i : List ℕ). has_id width (word_at t') x i ≡ false) (sym left_k) gone_has)))
    gone_held y (no z) =
        rw (ne_eqb x y z)
        (held_kept s e.chains e.view t' g2 u' y
        (λ r p m i.
        let away : r ≡ f → ⊥ = λ q. z (sym known ∙ ap (id_in width (word_at s)) (sym q) ∙ i) in (
          in_left (y % 16) r (head_low y) m away (ℕ_discrete (y % 16) (x % 16)),
          g_ids r p away ∙ i,
          elsewhere r p away,
        ))
        (λ r m i.
        let back = out_left (y % 16) r (head_low y) m (ℕ_discrete (y % 16) (x % 16)) in
        (back.0, sym (g_ids r (pos_of n s h e (y % 16) r (omega (arith, head_low y)) back.0) back.1) ∙ i))
        ∙ e.held y)

    pub gone_size : records width t' ≡ records width s
    gone_size = ap (records_of width) (gone_long s e.chains e.view (x % 16) f a b (head_low x) cut)

    gone_up : (j : ℕ) → j < 16 → Dec (j ≡ x % 16) → Ascends width (word_at t') (g2 j)
    gone_up j l (no z) =
        subst (λ (i : List ℕ). Ascends width (word_at t') i) (sym (left_j j l z))
        (up_same width (word_at s) (word_at t') (e.chains j)
        (λ r m. g_ids r (pos_of n s h e j r (omega arith) m) (λ q. alone width (word_at s) (records width s) e.chains e.view.spread j (x % 16) f (omega arith) (omega (arith, head_low x)) z (subst (λ (i : ℕ). 0 < times i (e.chains j)) q m) used_f))
        (e.up j l))
    gone_up j l (yes z) =
        subst (λ (i : ℕ). Ascends width (word_at t') (g2 i)) (sym z)
        (subst (λ (i : List ℕ). Ascends width (word_at t') i) (sym left_k)
        (up_same width (word_at s) (word_at t') (a ++ b)
        (λ r m. g_ids r (pos_of n s h e (x % 16) r (omega (arith, head_low x)) (left_within s e.chains e.view (x % 16) f a b (head_low x) cut r m)) (left_away s e.chains e.view (x % 16) f a b (head_low x) cut r m))
        (up_remove width (word_at s) f a b (subst (λ (i : List ℕ). Ascends width (word_at s) i) cut (e.up (x % 16) (head_low x))))))

    pub gone_holds : is_held (last_saved h x) ≡ true → records width t' ≡ records width s → Holds n t' (forgot x ∷ h)
    unfolding last_saved held_ids
    gone_holds there same = record {
      chains = g2;
      view = u';
      size = same ∙ e.size;
      held = λ y. gone_held y (ℕ_discrete x y);
      count = rw (there) (omega (
        arith,
        e.count,
        e.size,
        ap length (changed_here (changed e.chains (x % 16) (a ++ b)) 16 (f ∷ e.chains 16)),
        long_two e.chains 16 (x % 16) (head_low x),
        spread_long width (word_at s) (records width s) e.chains e.view.some e.view.spread,
        ap length cut,
        length-append a (f ∷ b),
      ));
      up = λ j l. gone_up j l (ℕ_discrete j (x % 16));
    }
