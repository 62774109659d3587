-- What a drawer holds after a save of a new id.
use mathlib.Core.Path.{◌≡◌, refl, sym, ap, ◌∙◌, subst}
use mathlib.Core.Bool.{false, cond}
use mathlib.Core.List.{List, [], ◌∷◌, ◌++◌}
use Prim.Native.Nat.{ℕ, ◌+◌, ◌*◌, ◌%◌, ◌<◌}
use native.Mathlib.Omega.{arith}
use native.Mathlib.Decide.{ℕ_discrete}
use lib.Dec.{eqb}
use lib.ListN.{length}
use borrow.Author.Tests.{eq-eqb, ne_eqb}
use Rattle.words.specs.Words.{word_at, bytes_of}
use Rattle.records.specs.Record.{is_damaged}
use Rattle.records.proofs.TidiedLaws.{tidied_same, tidied_twice}
use Rattle.drawer.specs.Chains.{times}
use Rattle.drawer.specs.Drawer.{id_in, has_id, records_of}
use Rattle.drawer.specs.Search.{records, record_of}
use Rattle.drawer.specs.Order.{Ascends}
use Rattle.drawer.specs.Calls.{width, state_in, new_in}
use Rattle.drawer.specs.Lists.{save, IsCall, state, Event, saved, kept_words, last_saved, is_held, held_ids}
use Rattle.drawer.proofs.TimesLaws.{times_append, times_here, times_split, counts_no_other}
use Rattle.drawer.proofs.Links.{Links, link_after}
use Rattle.drawer.proofs.OrderLaws.{up_same, up_insert}
use Rattle.drawer.proofs.SurgeryLaws.{changed, changed_here, changed_other, alone}
use Rattle.drawer.proofs.DrawerLaws.{head_low}
use Rattle.drawer.proofs.ViewLaws.{View}
use Rattle.drawer.proofs.LookLaws.{absent_at, is_found}
use Rattle.drawer.proofs.KeptLaws.{new_view, new_long, new_id, new_words, same_id, same_words}
use Rattle.drawer.proofs.HeldLaws.{held_at, held_in, held_some, held_kept, Holds, changed_both, pos_of}
use Rattle.drawer.proofs.RewriteLaws.{kept_long, kept_small, kept_sound}

module _ (n : ℕ) (s : List ℕ) (h : List Event) (e : Holds n s h) where
  -- ---- a new id
  pub free_split : 0 < word_at s 16 → (d : List ℕ) × (e.chains 16 ≡ word_at s 16 ∷ d)
  free_split some = go (e.chains 16) (e.view.spread.links 16 (omega arith))
    where
      go : (l : List ℕ) → Links width (word_at s) 16 l → (d : List ℕ) × (l ≡ word_at s 16 ∷ d)
      go [] z = absurd (omega (arith, z))
      go (r ∷ d) z = (d, ap (λ (i : ℕ). i ∷ d) (sym z.0))

  pub free_none : word_at s 16 ≡ 0 → e.chains 16 ≡ []
  free_none none = go (e.chains 16) (e.view.spread.links 16 (omega arith))
    where
      go : (l : List ℕ) → Links width (word_at s) 16 l → l ≡ []
      go [] z = refl
      go (r ∷ d) z = absurd (omega (arith, z.0, z.1))

  module _ (x : ℕ) (st : List ℕ) (ok : IsCall (save x st)) (sound : is_damaged (word_at st) 0 ≡ false) (none : record_of width s x ≡ 0) (f : ℕ) (a b d : List ℕ)
      (cut : e.chains (x % 16) ≡ a ++ b) (free : e.chains 16 ≡ f ∷ d) where
    abbrev d2 : ℕ → List ℕ
    d2 = changed (changed e.chains (x % 16) (a ++ (f ∷ b))) 16 d

    abbrev t : List ℕ
    t = new_in s x (kept_words st) f (link_after width (x % 16) a)

    absent : has_id width (word_at s) x (e.chains (x % 16)) ≡ false
    absent = absent_at width s e.chains e.view x none

    u : View width t d2
    u = new_view s e.chains e.view x (kept_words st) (x % 16) f a b d (head_low x) refl cut free absent ok.0 (kept_long st) (kept_small st ok.2) (kept_sound st sound)

    free_f : 0 < times f (e.chains 16)
    free_f = subst (λ (l : List ℕ). 0 < times f l) (sym free) (times_here f d)

    not_f : (j r : ℕ) → j < 16 → 0 < times r (e.chains j) → r ≡ f → ⊥
    not_f j r l m q = alone width (word_at s) (records width s) e.chains e.view.spread j 16 f (omega arith) (omega arith) (λ z. omega arith) (subst (λ (i : ℕ). 0 < times i (e.chains j)) q m) free_f

    at_k : d2 (x % 16) ≡ a ++ (f ∷ b)
    at_k = changed_both e.chains (x % 16) (a ++ (f ∷ b)) d (x % 16) (head_low x) ∙ changed_here e.chains (x % 16) (a ++ (f ∷ b))

    at_j : (j : ℕ) → j < 16 → (j ≡ x % 16 → ⊥) → d2 j ≡ e.chains j
    at_j j l z = changed_both e.chains (x % 16) (a ++ (f ∷ b)) d j l ∙ changed_other e.chains (x % 16) (a ++ (f ∷ b)) j z

    in_new : (j r : ℕ) → j < 16 → 0 < times r (e.chains j) → Dec (j ≡ x % 16) → 0 < times r (d2 j)
    in_new j r l m (yes z) =
        subst (λ (i : ℕ). 0 < times r (d2 i)) (sym z)
        (omega (arith, ap (times r) at_k, times_split r f a b, ap (times r) cut, subst (λ (i : ℕ). 0 < times r (e.chains i)) z m))
    in_new j r l m (no z) = subst (λ (i : List ℕ). 0 < times r i) (sym (at_j j l z)) m

    out_new : (j r : ℕ) → j < 16 → 0 < times r (d2 j) → (r ≡ f → ⊥) → Dec (j ≡ x % 16) → 0 < times r (e.chains j)
    out_new j r l m away (yes z) =
        subst (λ (i : ℕ). 0 < times r (e.chains i)) (sym z)
        (omega (arith, ap (times r) at_k, times_split r f a b, ap (times r) cut, subst (λ (i : ℕ). 0 < times r (d2 i)) z m, counts_no_other r f away))
    out_new j r l m away (no z) = subst (λ (i : List ℕ). 0 < times r i) (at_j j l z) m

    f_id : id_in width (word_at t) f ≡ x
    f_id = new_id s e.chains e.view x (kept_words st) (x % 16) f a b d (head_low x) refl cut free absent ok.0 (kept_long st) (kept_small st ok.2) (kept_sound st sound)

    ids : (r : ℕ) → 0 < r → (r ≡ f → ⊥) → id_in width (word_at t) r ≡ id_in width (word_at s) r
    ids = same_id s e.chains e.view x (kept_words st) (x % 16) f a b d (head_low x) refl cut free absent ok.0 (kept_long st) (kept_small st ok.2) (kept_sound st sound)

    f_pos : 0 < f
    f_pos = pos_of n s h e 16 f (omega arith) free_f

    here : state_in t f ≡ kept_words st
    here =
        tidied_twice (word_at st) (word_at t) 0 (width * f + 3)
        (new_words s e.chains e.view x (kept_words st) (x % 16) f a b d (head_low x) refl cut free absent ok.0 (kept_long st) (kept_small st ok.2) (kept_sound st sound))

    elsewhere : (r : ℕ) → 0 < r → (r ≡ f → ⊥) → state_in t r ≡ state_in s r
    elsewhere r p away =
        tidied_same (word_at s) (word_at t) (width * r + 3) (width * r + 3)
        (same_words s e.chains e.view x (kept_words st) (x % 16) f a b d (head_low x) refl cut free absent ok.0 (kept_long st) (kept_small st ok.2) (kept_sound st sound) r p away)

    new_held : (y : ℕ) → Dec (x ≡ y) → held_in t y ≡ cond (eqb x y) (state (bytes_of (kept_words st))) (last_saved h y)
    new_held y (yes z) =
        rw (eq-eqb x y z)
        (ap (held_in t) (sym z)
        ∙ ap (held_at t) (is_found width t d2 u x f (subst (λ (l : List ℕ). 0 < times f l) (sym at_k) (omega (arith, times_append f a (f ∷ b), times_here f b))) f_id)
        ∙ held_some t f f_pos
        ∙ ap (λ (ws : List ℕ). state (bytes_of ws)) here)
    new_held y (no z) =
        rw (ne_eqb x y z)
        (held_kept s e.chains e.view t d2 u y
        (λ r p m i.
        let away = not_f (y % 16) r (head_low y) m in (
          in_new (y % 16) r (head_low y) m (ℕ_discrete (y % 16) (x % 16)),
          ids r p away ∙ i,
          elsewhere r p away,
        ))
        (λ r m i.
        let away : r ≡ f → ⊥ = λ q. z (sym f_id ∙ ap (id_in width (word_at t)) (sym q) ∙ i) in
        let back = out_new (y % 16) r (head_low y) m away (ℕ_discrete (y % 16) (x % 16)) in
        (back, sym (ids r (pos_of n s h e (y % 16) r (omega (arith, head_low y)) back) away) ∙ i))
        ∙ e.held y)

    pub new_size : records width t ≡ records width s
    new_size = ap (records_of width) (new_long s e.chains e.view x (kept_words st) (x % 16) f a b d (head_low x) refl cut free absent ok.0 (kept_long st) (kept_small st ok.2) (kept_sound st sound))

    new_up : ((q : ℕ) → 0 < times q a → id_in width (word_at s) q < x) → ((q : ℕ) → 0 < times q b → x < id_in width (word_at s) q) → (j : ℕ) → j < 16 → Dec (j ≡ x % 16) → Ascends width (word_at t) (d2 j)
    new_up less more j l (no z) =
        subst (λ (i : List ℕ). Ascends width (word_at t) i) (sym (at_j j l z))
        (up_same width (word_at s) (word_at t) (e.chains j) (λ r m. ids r (pos_of n s h e j r (omega arith) m) (not_f j r l m)) (e.up j l))
    new_up less more j l (yes z) =
        subst (λ (i : ℕ). Ascends width (word_at t) (d2 i)) (sym z)
        (subst (λ (i : List ℕ). Ascends width (word_at t) i) (sym at_k)
        (up_insert width (word_at t) f a b (subst (λ (i : List ℕ). Ascends width (word_at t) i) cut (up_same width (word_at s) (word_at t) (e.chains (x % 16)) (λ r m. member_id r m) (e.up (x % 16) (head_low x))))
        (λ q m. omega (arith, less q m, f_id, member_id q (omega (arith, m, ap (times q) cut, times_append q a b))))
        (λ q m. omega (arith, more q m, f_id, member_id q (omega (arith, m, ap (times q) cut, times_append q a b))))))
      where
        member_id : (r : ℕ) → 0 < times r (e.chains (x % 16)) → id_in width (word_at t) r ≡ id_in width (word_at s) r
        member_id r m = ids r (pos_of n s h e (x % 16) r (omega (arith, head_low x)) m) (not_f (x % 16) r (head_low x) m)

    pub new_holds : is_held (last_saved h x) ≡ false → records width t ≡ records width s → ((q : ℕ) → 0 < times q a → id_in width (word_at s) q < x) → ((q : ℕ) → 0 < times q b → x < id_in width (word_at s) q) → Holds n t (saved x st ∷ h)
    unfolding last_saved held_ids
    new_holds unknown same less more = record {
      chains = d2;
      view = u;
      size = same ∙ e.size;
      held = λ y. new_held y (ℕ_discrete x y);
      count = rw (unknown) (omega (arith, e.count, ap length free, ap length (changed_here (changed e.chains (x % 16) (a ++ (f ∷ b))) 16 d)));
      up = λ j l. new_up less more j l (ℕ_discrete j (x % 16));
    }
