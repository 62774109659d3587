-- What a drawer holds after a save of an id that is there.
use mathlib.Core.Path.{◌≡◌, sym, ap, ◌∙◌}
use mathlib.Core.Bool.{true, false, cond}
use mathlib.Core.List.{List, ◌∷◌}
use Prim.Native.Nat.{ℕ, ◌+◌, ◌*◌, ◌%◌, ◌<◌}
use native.Mathlib.Nat.{zero-add}
use native.Mathlib.Omega.{arith}
use native.Mathlib.Decide.{ℕ_discrete}
use lib.Dec.{eqb}
use lib.ListN.{length, get_or}
use borrow.Author.Tests.{eq-eqb, ne_eqb}
use Rattle.words.specs.Words.{word_at, bytes_of, put_at}
use Rattle.records.specs.Record.{is_damaged}
use Rattle.records.proofs.TidiedLaws.{tidied_length, tidied_word, tidied_same, tidied_damaged, tidied_twice}
use Rattle.drawer.specs.Chains.{times}
use Rattle.drawer.specs.Drawer.{id_in}
use Rattle.drawer.specs.Search.{records, record_of}
use Rattle.drawer.specs.Calls.{width, state_in}
use Rattle.drawer.specs.Lists.{save, IsCall, state, Event, saved, kept_words, last_saved, is_held, held_ids}
use Rattle.drawer.proofs.OrderLaws.{up_same}
use Rattle.drawer.proofs.DrawerLaws.{head_low}
use Rattle.drawer.proofs.ViewLaws.{View}
use Rattle.drawer.proofs.LookLaws.{found_at, is_found}
use Rattle.drawer.proofs.KeptLaws.{over_view, over_id, over_records, over_here, over_words}
use Rattle.drawer.proofs.HeldLaws.{held_at, held_in, held_some, held_kept, Holds}

-- ---- the words that are put
word_small : (st : List ℕ) → ((i : ℕ) → get_or st i 0 < 256) → (j : ℕ) → word_at st j < 4294967296
unfolding word_at
word_small st small j = omega (arith, small (4 * j), small (4 * j + 1), small (4 * j + 2), small (4 * j + 3))

pub kept_long : (st : List ℕ) → length (kept_words st) ≡ 39
kept_long st = tidied_length (word_at st) 0

pub kept_small : (st : List ℕ) → ((i : ℕ) → get_or st i 0 < 256) → (i : ℕ) → get_or (kept_words st) i 0 < 4294967296
kept_small st small i = tidied_word (word_at st) 0 i (word_small st small)

pub kept_sound : (st : List ℕ) → is_damaged (word_at st) 0 ≡ false → is_damaged (λ i. get_or (kept_words st) i 0) 0 ≡ false
kept_sound st sound = tidied_damaged (word_at st) (λ i. get_or (kept_words st) i 0) 0 0 (λ i h. ap (λ (j : ℕ). get_or (kept_words st) j 0) (zero-add i)) ∙ sound

-- ---- a rewriting
module _ (n : ℕ) (s : List ℕ) (h : List Event) (e : Holds n s h) where
  module _ (x : ℕ) (st : List ℕ) (ok : IsCall (save x st)) (sound : is_damaged (word_at st) 0 ≡ false) (some : 0 < record_of width s x) where
    abbrev o : List ℕ
    o = put_at (width * record_of width s x + 3) (kept_words st) s

    at : (0 < times (record_of width s x) (e.chains (x % 16))) × (id_in width (word_at s) (record_of width s x) ≡ x)
    at = found_at width s e.chains e.view x some

    v : View width o e.chains
    v = over_view s e.chains e.view (kept_words st) (x % 16) (record_of width s x) (head_low x) at.0 (kept_long st) (kept_small st ok.2) (kept_sound st sound)

    ids : (r : ℕ) → id_in width (word_at o) r ≡ id_in width (word_at s) r
    ids = over_id s e.chains e.view (kept_words st) (x % 16) (record_of width s x) (head_low x) at.0 (kept_long st) (kept_small st ok.2) (kept_sound st sound)

    o_size : records width o ≡ records width s
    o_size = over_records s e.chains e.view (kept_words st) (x % 16) (record_of width s x) (head_low x) at.0 (kept_long st) (kept_small st ok.2) (kept_sound st sound)

    here : state_in o (record_of width s x) ≡ kept_words st
    here =
        tidied_twice (word_at st) (word_at o) 0 (width * record_of width s x + 3)
        (over_here s e.chains e.view (kept_words st) (x % 16) (record_of width s x) (head_low x) at.0 (kept_long st) (kept_small st ok.2) (kept_sound st sound))

    elsewhere : (r : ℕ) → (r ≡ record_of width s x → ⊥) → state_in o r ≡ state_in s r
    elsewhere r away =
        tidied_same (word_at s) (word_at o) (width * r + 3) (width * r + 3)
        (over_words s e.chains e.view (kept_words st) (x % 16) (record_of width s x) (head_low x) at.0 (kept_long st) (kept_small st ok.2) (kept_sound st sound) r away)

    over_held : (y : ℕ) → Dec (x ≡ y) → held_in o y ≡ cond (eqb x y) (state (bytes_of (kept_words st))) (last_saved h y)
    over_held y (yes z) =
        rw (eq-eqb x y z)
        (ap (held_in o) (sym z)
        ∙ ap (held_at o) (is_found width o e.chains v x (record_of width s x) at.0 (ids (record_of width s x) ∙ at.1))
        ∙ held_some o (record_of width s x) some
        ∙ ap (λ (ws : List ℕ). state (bytes_of ws)) here)
    over_held y (no z) =
        rw (ne_eqb x y z)
        (held_kept s e.chains e.view o e.chains v y
        (λ r p m i. (m, ids r ∙ i, elsewhere r (λ q. z (sym at.1 ∙ ap (id_in width (word_at s)) (sym q) ∙ i))))
        (λ r m i. (m, sym (ids r) ∙ i))
        ∙ e.held y)

    pub over_holds : is_held (last_saved h x) ≡ true → Holds n o (saved x st ∷ h)
    unfolding last_saved held_ids
    over_holds known = record {
      chains = e.chains;
      view = v;
      size = o_size ∙ e.size;
      held = λ y. over_held y (ℕ_discrete x y);
      count = rw (known) e.count;
      up = λ j l. up_same width (word_at s) (word_at o) (e.chains j) (λ r q. ids r) (e.up j l);
    }
