-- A drawer stays a drawer: a new record put in, one rewritten, one forgotten. c are the drawer's chains as lists of records.
use mathlib.Core.Path.{◌≡◌, refl, sym, ap, ◌∙◌, subst}
use mathlib.Core.Bool.{true, false, not}
use mathlib.Core.List.{List, [], ◌∷◌, ◌++◌}
use mathlib.Core.Logic.{◌⊎◌, inl, inr, ⊎_elim}
use Prim.Native.Nat.{ℕ, suc, ◌+◌, ◌*◌, ◌%◌, ◌<◌, ◌≤◌}
use native.Mathlib.Nat.{zero-add, add-zero}
use native.Mathlib.Omega.{arith}
use native.Mathlib.Decide.{ℕ_discrete}
use lib.ListN.{length, get_or}
use Rattle.words.specs.Words.{word_at, put_at}
use Rattle.numbers.proofs.TestLaws.{and_left, and_right, and_both}
use Rattle.drawer.specs.Chains.{times}
use Rattle.drawer.proofs.TestLaws.{lt_or}
use Rattle.drawer.proofs.TimesLaws.{times_append, times_here, times_more, times_split, times_mid, counts_itself}
use Rattle.drawer.proofs.Links.{Links, link_after}
use Rattle.drawer.specs.Drawer.{id_in, has_id, is_state, are_states, is_chain, records_of}
use Rattle.drawer.specs.Search.{records}
use Rattle.records.specs.Record.{is_damaged}
use Rattle.records.proofs.TidiedLaws.{damaged_same}
use Rattle.drawer.specs.Calls.{width, new_in, gone_from}
use Rattle.drawer.proofs.SpreadLaws.{Spread}
use Rattle.drawer.proofs.SurgeryLaws.{changed, changed_here, changed_other, pos, below, single, alone, saved, forgotten, kept}
use Rattle.drawer.proofs.ViewLaws.{View, link_form, link_value}
use Rattle.drawer.proofs.NewLaws.{new_length, new_link, new_next, new_low, new_high, new_state, new_free, new_other, over_length, over_state, over_other, gone_length, gone_free, gone_next, gone_link, gone_other}
use Rattle.drawer.proofs.IdLaws.{id_same, id_is, state_same, has_same, chain_same, chain_insert, chain_remove, right_of, of_right, right_ids}

-- a word of the state in record r
state_word : (r i : ℕ) → width * r + 3 + i ≡ width * r + (3 + i)
state_word r i = omega arith

-- a state put into record f
put_sound : (st : List ℕ) (w : ℕ → ℕ) (f : ℕ) → ((i : ℕ) → i < 39 → w (width * f + 3 + i) ≡ get_or st i 0) → is_damaged (λ i. get_or st i 0) 0 ≡ false → is_state width w f ≡ true
unfolding is_state
put_sound st w f same sound =
    ap not (damaged_same (λ i. get_or st i 0) w 0 (width * f + 3) (λ i h. same i h ∙ sym (ap (λ (j : ℕ). get_or st j 0) (zero-add i))) ∙ sound)

module _ (s : List ℕ) (c : ℕ → List ℕ) (v : View width s c) where
  in_chain : (j r : ℕ) (a b : List ℕ) → c j ≡ a ++ b → (0 < times r a) ⊎ (0 < times r b) → 0 < times r (c j)
  in_chain j r a b cut (inl h) = omega (arith, ap (times r) cut, times_append r a b)
  in_chain j r a b cut (inr h) = omega (arith, ap (times r) cut, times_append r a b)

  -- what is asked of the written link p = link_after k a, where record f is none of a
  record Linked (k f p : ℕ) : Type 0 where
    off : (p < width * f) ⊎ (width * f + width ≤ p)
    not_free : p ≡ 16 → ⊥
    room : 4 * p + 4 ≤ length s
    not_in : (r i : ℕ) → 0 < r → 0 < i → i < width → width * r + i ≡ p → ⊥
    not_size : 17 ≡ p → ⊥

  linked : (k f : ℕ) (a b : List ℕ) → k < 16 → 0 < f → c k ≡ a ++ b → (0 < times f a → ⊥) → Linked k f (link_after width k a)
  linked k f a b low some cut away = go (link_form width k a)
    where
      go : (link_after width k a ≡ k) ⊎ ((t : ℕ) × (link_after width k a ≡ width * t) × (0 < times t a)) → Linked k f (link_after width k a)
      go (inl e) = record {
        off = inl (omega arith);
        not_free = λ z. omega arith;
        room = omega (arith, v.size, v.some);
        not_in = λ r i h k z. omega arith;
        not_size = λ z. omega arith;
      }
      go (inr e) =
          let t = e.0 in
          let member : 0 < times t (c k) = in_chain k t a b cut (inl e.2) in
          let t_pos = pos width (word_at s) (records width s) c v.spread k t (omega arith) member in
          let t_low = below width (word_at s) (records width s) c v.spread k t (omega arith) member in
          let apart : t ≡ f → ⊥ = λ z. away (subst (λ (i : ℕ). 0 < times i a) z e.2) in
          record {
            off = ⊎_elim (λ h. inl (omega (arith, e.1))) (λ h. inr (omega (arith, e.1))) (lt_or t f);
            not_free = λ z. omega (arith, e.1);
            room = omega (arith, e.1, v.size);
            not_in = λ r i h k' m z. ⊎_elim {C = ⊥} (λ y. omega (arith, e.1)) (λ y. omega (arith, e.1)) (lt_or r t);
            not_size = λ z. omega (arith, e.1);
          }

  -- ---- a new record
  module _ (x : ℕ) (st : List ℕ) (k f : ℕ) (a b d : List ℕ) (low : k < 16) (here : x % 16 ≡ k) (cut : c k ≡ a ++ b) (free : c 16 ≡ f ∷ d)
      (new : has_id width (word_at s) x (c k) ≡ false) (fits : x < 18446744073709551616) (long : length st ≡ 39) (words : (i : ℕ) → get_or st i 0 < 4294967296) (sound : is_damaged (λ i. get_or st i 0) 0 ≡ false) where
    free_f : 0 < times f (c 16)
    free_f = subst (λ (l : List ℕ). 0 < times f l) (sym free) (times_here f d)

    f_pos : 0 < f
    f_pos = pos width (word_at s) (records width s) c v.spread 16 f (omega arith) free_f

    f_low : f < records width s
    f_low = below width (word_at s) (records width s) c v.spread 16 f (omega arith) free_f

    not_f : (j r : ℕ) → j < 16 → 0 < times r (c j) → r ≡ f → ⊥
    not_f j r h m e = alone width (word_at s) (records width s) c v.spread j 16 f (omega arith) (omega arith) (λ z. omega arith) (subst (λ (i : ℕ). 0 < times i (c j)) e m) free_f

    l : Linked k f (link_after width k a)
    l = linked k f a b low f_pos cut (λ m. not_f k f low (in_chain k f a b cut (inl m)) refl)

    abbrev pub t : List ℕ
    t = new_in s x st f (link_after width k a)

    room : 4 * (width * f + width) ≤ length s
    room = omega (arith, f_low, v.size)

    long_t : length (new_in s x st f (link_after width k a)) ≡ length s
    long_t = new_length s x st f (link_after width k a) long f_pos room l.room l.off l.not_free

    pub new_long : length t ≡ length s
    new_long = long_t

    same_records : records width t ≡ records width s
    same_records = ap (records_of width) long_t

    other : (y : ℕ) → (y ≡ link_after width k a → ⊥) → (y ≡ 16 → ⊥) → (y < width * f) ⊎ (width * f + width ≤ y) → word_at t y ≡ word_at s y
    other = new_other s x st f (link_after width k a) long f_pos room l.room l.off l.not_free

    pub new_in_record : (r i : ℕ) → 0 < r → (r ≡ f → ⊥) → 0 < i → i < width → word_at t (width * r + i) ≡ word_at s (width * r + i)
    new_in_record r i h away m m' =
        other (width * r + i) (l.not_in r i h m m') (λ z. omega arith) (⊎_elim (λ y. inl (omega arith)) (λ y. inr (omega arith)) (lt_or r f))

    small : (y : ℕ) → y < records width s → y < 4294967296
    small y h = omega (arith, v.most)

    value : word_at s (link_after width k a) < records width s
    value =
        link_value width (word_at s) (records width s) k a b v.some (subst (λ (i : List ℕ). Links width (word_at s) k i) cut (v.spread.links k (omega arith)))
        (λ r m. below width (word_at s) (records width s) c v.spread k r (omega arith) (in_chain k r a b cut (inr m)))

    free_value : word_at s (width * f) < records width s
    free_value =
        link_value width (word_at s) (records width s) (width * f) [] d v.some (subst (λ (i : List ℕ). Links width (word_at s) 16 i) free (v.spread.links 16 (omega arith))).2
        (λ r m. below width (word_at s) (records width s) c v.spread 16 r (omega arith) (subst (λ (i : List ℕ). 0 < times r i) (sym free) (omega (arith, m, times_more r f d))))

    pub new_id : id_in width (word_at t) f ≡ x
    new_id =
        id_is width (word_at t) f x
        (new_low s x st f (link_after width k a) long f_pos room l.room l.off l.not_free)
        (new_high s x st f (link_after width k a) long f_pos room l.room l.off l.not_free fits)

    pub same_id : (r : ℕ) → 0 < r → (r ≡ f → ⊥) → id_in width (word_at t) r ≡ id_in width (word_at s) r
    same_id r h away = id_same width (word_at s) (word_at t) r (new_in_record r 1 h away (omega arith) (omega arith)) (new_in_record r 2 h away (omega arith) (omega arith))

    pub same_words : (r : ℕ) → 0 < r → (r ≡ f → ⊥) → (i : ℕ) → i < 39 → word_at t (width * r + 3 + i) ≡ word_at s (width * r + 3 + i)
    same_words r h away i m = ap (word_at t) (state_word r i) ∙ new_in_record r (3 + i) h away (omega arith) (omega arith) ∙ ap (word_at s) (sym (state_word r i))

    pub new_words : (i : ℕ) → i < 39 → word_at t (width * f + 3 + i) ≡ get_or st i 0
    new_words i m = new_state s x st f (link_after width k a) long f_pos room l.room l.off l.not_free i m (words i)

    new_sound : is_state width (word_at t) f ≡ true
    new_sound = put_sound st (word_at t) f new_words sound

    pub chain_ids : (j : ℕ) → j < 16 → (r : ℕ) → 0 < times r (c j) → id_in width (word_at t) r ≡ id_in width (word_at s) r
    chain_ids j h r m = same_id r (pos width (word_at s) (records width s) c v.spread j r (omega arith) m) (not_f j r h m)

    chain_kept : (j : ℕ) → j < 16 → is_chain width (word_at t) j (c j) ≡ true
    chain_kept j h =
        chain_same width (word_at s) (word_at t) j (c j) (chain_ids j h) (λ r m. state_same width (word_at s) (word_at t) r r (same_words r (pos width (word_at s) (records width s) c v.spread j r (omega arith) m) (not_f j r h m))) ∙ v.chain j h

    chains : (j : ℕ) → j < 16 → Dec (j ≡ k) → is_chain width (word_at t) j (changed (changed c k (a ++ (f ∷ b))) 16 d j) ≡ true
    chains j h (no e) =
        subst (λ (i : List ℕ). is_chain width (word_at t) j i ≡ true) (sym (changed_other (changed c k (a ++ (f ∷ b))) 16 d j (λ z. omega arith) ∙ changed_other c k (a ++ (f ∷ b)) j e)) (chain_kept j h)
    chains j h (yes e) =
        subst (λ (i : ℕ). is_chain width (word_at t) i (changed (changed c k (a ++ (f ∷ b))) 16 d i) ≡ true) (sym e)
        (subst (λ (i : List ℕ). is_chain width (word_at t) k i ≡ true) (sym (changed_other (changed c k (a ++ (f ∷ b))) 16 d k (λ z. omega arith) ∙ changed_here c k (a ++ (f ∷ b))))
        (chain_insert width (word_at t) k f a b (subst (λ (i : List ℕ). is_chain width (word_at t) k i ≡ true) cut (chain_kept k low)) (ap (λ (i : ℕ). i % 16) new_id ∙ here)
        (rw (new_id) (subst (λ (i : List ℕ). has_id width (word_at t) x i ≡ false) cut (has_same width (word_at s) (word_at t) x (c k) (chain_ids k low) ∙ new)))
        new_sound))

    pub new_view : View width t (changed (changed c k (a ++ (f ∷ b))) 16 d)
    new_view = record {
      size = long_t ∙ v.size ∙ ap (λ (i : ℕ). 4 * (width * i)) (sym same_records);
      some = omega (arith, same_records, v.some);
      most = omega (arith, same_records, v.most);
      named = other 17 l.not_size (λ z. omega arith) (inl (omega (arith, f_pos))) ∙ v.named;
      spread = subst (λ (i : ℕ). Spread width (word_at t) i (changed (changed c k (a ++ (f ∷ b))) 16 d)) (sym same_records)
          (saved width (word_at s) (records width s) c v.spread (omega arith) (word_at t) k f a b d low cut free
          (new_link s x st f (link_after width k a) long f_pos room l.room l.off l.not_free (small f f_low))
          (new_next s x st f (link_after width k a) long f_pos room l.room l.off l.not_free (small (word_at s (link_after width k a)) value))
          (new_free s x st f (link_after width k a) long f_pos room l.room l.off l.not_free (small (word_at s (width * f)) free_value))
          (λ j h e. other j e (λ z. omega arith) (inl (omega (arith, f_pos))))
          (λ r h away e. other (width * r) e (λ z. omega arith) (⊎_elim (λ y. inl (omega arith)) (λ y. inr (omega arith)) (lt_or r f))));
      chain = λ j h. chains j h (ℕ_discrete j k);
    }

  -- ---- a forgetting
  module _ (k f : ℕ) (a b : List ℕ) (low : k < 16) (cut : c k ≡ a ++ (f ∷ b)) where
    used_f : 0 < times f (c k)
    used_f = subst (λ (i : List ℕ). 0 < times f i) (sym cut) (times_mid f a b)

    g_pos : 0 < f
    g_pos = pos width (word_at s) (records width s) c v.spread k f (omega arith) used_f

    g_low : f < records width s
    g_low = below width (word_at s) (records width s) c v.spread k f (omega arith) used_f

    not_front : 0 < times f a → ⊥
    not_front m = omega (arith, m, single width (word_at s) (records width s) c v.spread k f (omega arith), ap (times f) cut, times_append f a (f ∷ b), times_here f b)

    m : Linked k f (link_after width k a)
    m = linked k f a (f ∷ b) low g_pos cut not_front

    abbrev pub u : List ℕ
    u = gone_from s f (link_after width k a)

    g_room : 4 * (width * f + width) ≤ length s
    g_room = omega (arith, g_low, v.size)

    long_u : length (gone_from s f (link_after width k a)) ≡ length s
    long_u = gone_length s f (link_after width k a) g_pos g_room m.room m.off m.not_free

    pub gone_long : length u ≡ length s
    gone_long = long_u

    gone_records : records width u ≡ records width s
    gone_records = ap (records_of width) long_u

    g_other : (y : ℕ) → (y ≡ link_after width k a → ⊥) → (y ≡ 16 → ⊥) → (y < width * f) ⊎ (width * f + width ≤ y) → word_at u y ≡ word_at s y
    g_other = gone_other s f (link_after width k a) g_pos g_room m.room m.off m.not_free

    pub gone_in_record : (r i : ℕ) → 0 < r → (r ≡ f → ⊥) → 0 < i → i < width → word_at u (width * r + i) ≡ word_at s (width * r + i)
    gone_in_record r i h away n n' =
        g_other (width * r + i) (m.not_in r i h n n') (λ z. omega arith) (⊎_elim (λ y. inl (omega arith)) (λ y. inr (omega arith)) (lt_or r f))

    g_small : (y : ℕ) → y < records width s → y < 4294967296
    g_small y h = omega (arith, v.most)

    after_value : word_at s (width * f) < records width s
    after_value =
        link_value width (word_at s) (records width s) (width * f) [] b v.some (tail k a (subst (λ (i : List ℕ). Links width (word_at s) k i) cut (v.spread.links k (omega arith))))
        (λ r n. below width (word_at s) (records width s) c v.spread k r (omega arith) (subst (λ (i : List ℕ). 0 < times r i) (sym cut) (omega (arith, n, times_append r a (f ∷ b), times_more r f b))))
      where
        tail : (q : ℕ) (e : List ℕ) → Links width (word_at s) q (e ++ (f ∷ b)) → Links width (word_at s) (width * f) b
        tail q [] h = h.2
        tail q (y ∷ e) h = tail (width * y) e h.2

    head_value : word_at s 16 < records width s
    head_value =
        link_value width (word_at s) (records width s) 16 [] (c 16) v.some (v.spread.links 16 (omega arith))
        (λ r n. below width (word_at s) (records width s) c v.spread 16 r (omega arith) n)

    pub gone_same_id : (r : ℕ) → 0 < r → (r ≡ f → ⊥) → id_in width (word_at u) r ≡ id_in width (word_at s) r
    gone_same_id r h away = id_same width (word_at s) (word_at u) r (gone_in_record r 1 h away (omega arith) (omega arith)) (gone_in_record r 2 h away (omega arith) (omega arith))

    pub gone_words : (r : ℕ) → 0 < r → (r ≡ f → ⊥) → (i : ℕ) → i < 39 → word_at u (width * r + 3 + i) ≡ word_at s (width * r + 3 + i)
    gone_words r h away i n = ap (word_at u) (state_word r i) ∙ gone_in_record r (3 + i) h away (omega arith) (omega arith) ∙ ap (word_at s) (sym (state_word r i))

    -- the records that are left in a chain
    left_pos : (j : ℕ) (e : List ℕ) → j < 16 → ((r : ℕ) → 0 < times r e → 0 < times r (c j)) → (r : ℕ) → 0 < times r e → 0 < r
    left_pos j e h within r n = pos width (word_at s) (records width s) c v.spread j r (omega arith) (within r n)

    chain_left : (j : ℕ) (e : List ℕ) → j < 16 → ((r : ℕ) → 0 < times r e → 0 < times r (c j)) → ((r : ℕ) → 0 < times r e → r ≡ f → ⊥)
        → is_chain width (word_at s) j e ≡ true → is_chain width (word_at u) j e ≡ true
    chain_left j e h within away good =
        chain_same width (word_at s) (word_at u) j e
        (λ r n. gone_same_id r (left_pos j e h within r n) (away r n))
        (λ r n. state_same width (word_at s) (word_at u) r r (gone_words r (left_pos j e h within r n) (away r n)))
        ∙ good

    not_else : (j r : ℕ) → j < 16 → (j ≡ k → ⊥) → 0 < times r (c j) → r ≡ f → ⊥
    not_else j r h off n e = alone width (word_at s) (records width s) c v.spread j k f (omega arith) (omega arith) off (subst (λ (i : ℕ). 0 < times i (c j)) e n) used_f

    pub left_within : (r : ℕ) → 0 < times r (a ++ b) → 0 < times r (c k)
    left_within r n = subst (λ (i : List ℕ). 0 < times r i) (sym cut) (omega (arith, n, times_append r a b, times_append r a (f ∷ b), times_more r f b))

    pub left_away : (r : ℕ) → 0 < times r (a ++ b) → r ≡ f → ⊥
    left_away r n e =
        omega (arith, subst (λ (i : ℕ). 0 < times i (a ++ b)) e n, times_append f a b, times_split f f a b, counts_itself f, ap (times f) cut, single width (word_at s) (records width s) c v.spread k f (omega arith))

    g_chains : (j : ℕ) → j < 16 → Dec (j ≡ k) → is_chain width (word_at u) j (changed (changed c k (a ++ b)) 16 (f ∷ c 16) j) ≡ true
    g_chains j h (no e) =
        subst (λ (i : List ℕ). is_chain width (word_at u) j i ≡ true) (sym (changed_other (changed c k (a ++ b)) 16 (f ∷ c 16) j (λ z. omega arith) ∙ changed_other c k (a ++ b) j e))
        (chain_left j (c j) h (λ r n. n) (λ r n. not_else j r h e n) (v.chain j h))
    g_chains j h (yes e) =
        subst (λ (i : ℕ). is_chain width (word_at u) i (changed (changed c k (a ++ b)) 16 (f ∷ c 16) i) ≡ true) (sym e)
        (subst (λ (i : List ℕ). is_chain width (word_at u) k i ≡ true) (sym (changed_other (changed c k (a ++ b)) 16 (f ∷ c 16) k (λ z. omega arith) ∙ changed_here c k (a ++ b)))
        (chain_left k (a ++ b) low left_within left_away (chain_remove width (word_at s) k f a b (subst (λ (i : List ℕ). is_chain width (word_at s) k i ≡ true) cut (v.chain k low)))))

    pub gone_view : View width u (changed (changed c k (a ++ b)) 16 (f ∷ c 16))
    gone_view = record {
      size = long_u ∙ v.size ∙ ap (λ (i : ℕ). 4 * (width * i)) (sym gone_records);
      some = omega (arith, gone_records, v.some);
      most = omega (arith, gone_records, v.most);
      named = g_other 17 m.not_size (λ z. omega arith) (inl (omega (arith, g_pos))) ∙ v.named;
      spread = subst (λ (i : ℕ). Spread width (word_at u) i (changed (changed c k (a ++ b)) 16 (f ∷ c 16))) (sym gone_records)
          (forgotten width (word_at s) (records width s) c v.spread (omega arith) (word_at u) k f a b low cut
          (gone_link s f (link_after width k a) g_pos g_room m.room m.off m.not_free (g_small (word_at s (width * f)) after_value))
          (gone_next s f (link_after width k a) g_pos g_room m.room m.off m.not_free (g_small (word_at s 16) head_value))
          (gone_free s f (link_after width k a) g_pos g_room m.room m.off m.not_free (g_small f g_low))
          (λ j h e. g_other j e (λ z. omega arith) (inl (omega (arith, g_pos))))
          (λ r h away e. g_other (width * r) e (λ z. omega arith) (⊎_elim (λ y. inl (omega arith)) (λ y. inr (omega arith)) (lt_or r f))));
      chain = λ j h. g_chains j h (ℕ_discrete j k);
    }

  -- ---- a rewriting in place
  module _ (st : List ℕ) (k f : ℕ) (low : k < 16) (used : 0 < times f (c k)) (long : length st ≡ 39) (words : (i : ℕ) → get_or st i 0 < 4294967296) (sound : is_damaged (λ i. get_or st i 0) 0 ≡ false) where
    o_pos : 0 < f
    o_pos = pos width (word_at s) (records width s) c v.spread k f (omega arith) used

    o_room : 4 * (width * f + width) ≤ length s
    o_room = omega (arith, below width (word_at s) (records width s) c v.spread k f (omega arith) used, v.size)

    abbrev pub o : List ℕ
    o = put_at (width * f + 3) st s

    pub over_records : records width o ≡ records width s
    over_records = ap (records_of width) (over_length s st f long o_room)

    o_other : (y : ℕ) → (y < width * f + 3) ⊎ (width * f + width ≤ y) → word_at o y ≡ word_at s y
    o_other = over_other s st f long o_room

    in_head : (r i : ℕ) → i < 3 → word_at o (width * r + i) ≡ word_at s (width * r + i)
    in_head r i h = o_other (width * r + i) (⊎_elim (λ y. ⊎_elim (λ z. inl (omega arith)) (λ z. inl (omega arith)) (lt_or r f)) (λ y. inr (omega arith)) (lt_or r (suc f)))

    pub over_id : (r : ℕ) → id_in width (word_at o) r ≡ id_in width (word_at s) r
    over_id r = id_same width (word_at s) (word_at o) r (in_head r 1 (omega arith)) (in_head r 2 (omega arith))

    pub over_in_record : (r i : ℕ) → (r ≡ f → ⊥) → i < width → word_at o (width * r + i) ≡ word_at s (width * r + i)
    over_in_record r i away h = o_other (width * r + i) (⊎_elim (λ y. inl (omega arith)) (λ y. inr (omega arith)) (lt_or r f))

    pub over_words : (r : ℕ) → (r ≡ f → ⊥) → (i : ℕ) → i < 39 → word_at o (width * r + 3 + i) ≡ word_at s (width * r + 3 + i)
    over_words r away i n = ap (word_at o) (state_word r i) ∙ over_in_record r (3 + i) away (omega arith) ∙ ap (word_at s) (sym (state_word r i))

    pub over_here : (i : ℕ) → i < 39 → word_at o (width * f + 3 + i) ≡ get_or st i 0
    over_here i n = over_state s st f long o_room i n (words i)

    over_is_state : (r : ℕ) → is_state width (word_at s) r ≡ true → Dec (r ≡ f) → is_state width (word_at o) r ≡ true
    over_is_state r good (no e) = state_same width (word_at s) (word_at o) r r (over_words r e) ∙ good
    over_is_state r good (yes e) = subst (λ (i : ℕ). is_state width (word_at o) i ≡ true) (sym e) (put_sound st (word_at o) f over_here sound)

    o_states : (l : List ℕ) → are_states width (word_at s) l ≡ true → are_states width (word_at o) l ≡ true
    unfolding are_states
    o_states [] e = refl
    o_states (r ∷ l) e =
        and_both (is_state width (word_at o) r) (are_states width (word_at o) l)
        (over_is_state r (and_left (is_state width (word_at s) r) (are_states width (word_at s) l) e) (ℕ_discrete r f))
        (o_states l (and_right (is_state width (word_at s) r) (are_states width (word_at s) l) e))

    pub over_view : View width o c
    over_view = record {
      size = over_length s st f long o_room ∙ v.size ∙ ap (λ (i : ℕ). 4 * (width * i)) (sym over_records);
      some = omega (arith, over_records, v.some);
      most = omega (arith, over_records, v.most);
      named = o_other 17 (inl (omega (arith, o_pos))) ∙ v.named;
      spread = subst (λ (i : ℕ). Spread width (word_at o) i c) (sym over_records)
          (kept width (word_at s) (records width s) c v.spread (omega arith) (word_at o) (λ j h. o_other j (inl (omega (arith, o_pos))))
          (λ r h. ap (word_at o) (sym (add-zero (width * r))) ∙ in_head r 0 (omega arith) ∙ ap (word_at s) (add-zero (width * r))));
      chain = λ j h.
          let r = right_of width (word_at s) j (c j) (v.chain j h) in
          let e = right_ids width (word_at s) (word_at o) j (c j) (λ i n. over_id i) r in
          of_right width (word_at o) j (c j) (record { head = e.0; single = e.1; states = o_states (c j) r.states });
    }
