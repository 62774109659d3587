-- Every call on a drawer does what its history asks, and so does every list of calls on a fresh one.
use mathlib.Core.Path.{◌≡◌, refl, sym, ap, ◌∙◌, subst}
use mathlib.Core.Bool.{Bool, true, false, not}
use mathlib.Core.List.{List, [], ◌∷◌, ◌++◌}
use Prim.Native.Nat.{ℕ, zero, suc, ◌+◌, ◌%◌, ◌<◌, ◌≤◌}
use native.Mathlib.Omega.{arith}
use native.Mathlib.Decide.{ℕ_discrete}
use lib.Dec.{eqb}
use lib.ListN.{length}
use borrow.Author.Tests.{eq-eqb, ne_eqb, ltb-true, ltb-false}
use Rattle.words.specs.Words.{word_at, bytes_of}
use Rattle.records.specs.Record.{is_damaged}
use Rattle.drawer.specs.Chains.{times}
use Rattle.drawer.specs.Drawer.{id_in, is_whole, is_drawer}
use Rattle.drawer.specs.Search.{is_stop, records, record_of}
use Rattle.drawer.specs.Order.{Ascends}
use Rattle.drawer.specs.Calls.{width, state_in, new_in, gone_from, fresh_to, lay_on, Left}
use Rattle.drawer.specs.Lists.{Call, save, load, forget, IsCall, AreCalls, state, Answer, answer_on, left_on, answers_on, Event, kept_words, last_saved, is_held, held_ids, given, plain, answer_by, events_by, answers_by, AllDrawerLists, AllAscend, left_after}
use Rattle.drawer.proofs.TimesLaws.{times_append, times_nil}
use Rattle.drawer.proofs.OrderLaws.{up_rest}
use Rattle.drawer.proofs.SeekLaws.{Stopped, stopped_at}
use Rattle.drawer.proofs.DrawerLaws.{head_low}
use Rattle.drawer.proofs.SizeLaws.{whole_parts}
use Rattle.drawer.proofs.ViewLaws.{view_walk}
use Rattle.drawer.proofs.LookLaws.{has_not, found_at, absent_at, is_absent, not_has}
use Rattle.drawer.proofs.FreshLaws.{fresh_view, fresh_records, fresh_free, fresh_chains, used_empty}
use Rattle.drawer.proofs.CaseLaws.{laid_whole, laid_not, load_none, load_some, save_damaged, save_puts, put_full, put_new, put_over, forget_none, forget_some}
use Rattle.drawer.proofs.HeldLaws.{held_at, held_is, Holds, right, in_chain_of}
use Rattle.drawer.proofs.RewriteLaws.{over_holds}
use Rattle.drawer.proofs.AddLaws.{free_split, free_none, new_holds, new_size}
use Rattle.drawer.proofs.ForgetLaws.{gone_holds, gone_size}

-- ---- one call
Step : (n : ℕ) (s : List ℕ) (h : List Event) (call : Call) → Type 0
Step n s h call = (answer_on s call ≡ answer_by n h call) × Holds n (left_on s call) (events_by n h call)

module _ (n : ℕ) (s : List ℕ) (h : List Event) (e : Holds n s h) where
  -- an id is held exactly where it has a record
  held_bit : (x : ℕ) → is_held (last_saved h x) ≡ not (eqb (record_of width s x) 0)
  held_bit x = ap is_held (sym (e.held x)) ∙ held_is s (record_of width s x)

  unknown : (x : ℕ) → record_of width s x ≡ 0 → is_held (last_saved h x) ≡ false
  unknown x z = held_bit x ∙ ap not (eq-eqb (record_of width s x) 0 z)

  known : (x : ℕ) → (record_of width s x ≡ 0 → ⊥) → is_held (last_saved h x) ≡ true
  known x z = held_bit x ∙ ap not (ne_eqb (record_of width s x) 0 z)

  load_step : (x : ℕ) → Step n s h (load x)
  unfolding Step
  load_step x = (go (ℕ_discrete (record_of width s x) 0), e)
    where
      go : Dec (record_of width s x ≡ 0) → answer_on s (load x) ≡ given (last_saved h x)
      go (yes z) = rw (load_none s x [] (right n s h e) z) (ap given (sym (ap (held_at s) z) ∙ e.held x))
      go (no z) = rw (load_some s x [] (right n s h e) z) (out (record_of width s x) z ∙ ap given (e.held x))
        where
          out : (r : ℕ) → (r ≡ 0 → ⊥) → record { refusal = 0; held = state (bytes_of (state_in s r)) } ≡ given (held_at s r)
          out zero y = absurd (y refl)
          out (suc r) y = refl

  forget_step : (x : ℕ) → Step n s h (forget x)
  unfolding Step
  forget_step x = go (ℕ_discrete (record_of width s x) 0)
    where
      go : Dec (record_of width s x ≡ 0) → (answer_on s (forget x) ≡ answer_by n h (forget x)) × Holds n (left_on s (forget x)) (events_by n h (forget x))
      go (yes z) = subst (λ (l : Left). (plain l.refusal ≡ answer_by n h (forget x)) × Holds n l.drawer (events_by n h (forget x))) (sym (forget_none s x (right n s h e) z)) (rw (unknown x z) (refl, e))
      go (no z) =
          let sp = in_chain_of n s h e x (is_stop width (word_at s) false x) in
          let at = found_at width s e.chains e.view x (omega arith) in
          let b = stopped_at width (is_stop width (word_at s) false x) (word_at s) (records width s) (records width s) (x % 16) (e.chains (x % 16)) (e.view.spread.links (x % 16) (omega (arith, head_low x))) sp (omega arith) in
          let cut : e.chains (x % 16) ≡ sp.front ++ (record_of width s x ∷ b.0) = sp.cut ∙ ap (λ (l : List ℕ). sp.front ++ l) b.1 in
          subst (λ (l : Left). (plain l.refusal ≡ answer_by n h (forget x)) × Holds n l.drawer (events_by n h (forget x))) (sym (forget_some s x (right n s h e) z ∙ ap (λ (p : ℕ). record { refusal = 0; drawer = gone_from s (record_of width s x) p }) sp.at))
          (rw (known x z) (refl, gone_holds n s h e x (record_of width s x) sp.front b.0 cut at.1 (known x z) (gone_size n s h e x (record_of width s x) sp.front b.0 cut at.1)))

  save_step : (x : ℕ) (st : List ℕ) → IsCall (save x st) → Step n s h (save x st)
  unfolding Step
  save_step x st ok = go (is_damaged (word_at st) 0) refl (ℕ_discrete (record_of width s x) 0) (ℕ_discrete (word_at s 16) 0)
    where
      room : word_at s 16 ≡ 0 → held_ids h + 1 ≡ n
      room z = omega (arith, e.count, ap length (free_none n s h e z))

      less : (sp : Stopped width (is_stop width (word_at s) true x) (word_at s) (records width s) (records width s) (x % 16) (e.chains (x % 16))) → record_of width s x ≡ 0 → (q : ℕ) → 0 < times q sp.front → id_in width (word_at s) q < x
      less sp z q m =
          let apart : id_in width (word_at s) q ≡ x → ⊥ = has_not width (word_at s) x (e.chains (x % 16)) q (absent_at width s e.chains e.view x z) (omega (arith, m, ap (times q) sp.cut, times_append q sp.front sp.rest)) in
          omega (arith, apart, ltb-false x (id_in width (word_at s) q) (sp.gone q m))

      more : (word_at s 16 ≡ 0 → ⊥) → held_ids h + 1 ≡ n → ⊥
      more z y = let f = free_split n s h e (omega arith) in omega (arith, e.count, y, ap length f.1)

      go : (b : Bool) → is_damaged (word_at st) 0 ≡ b → Dec (record_of width s x ≡ 0) → Dec (word_at s 16 ≡ 0)
          → (answer_on s (save x st) ≡ answer_by n h (save x st)) × Holds n (left_on s (save x st)) (events_by n h (save x st))
      go true o d f = subst (λ (l : Left). (plain l.refusal ≡ answer_by n h (save x st)) × Holds n l.drawer (events_by n h (save x st))) (sym (save_damaged s x st o)) (rw (o) (refl, e))
      go false o (no z) f =
          subst (λ (l : Left). (plain l.refusal ≡ answer_by n h (save x st)) × Holds n l.drawer (events_by n h (save x st))) (sym (save_puts s x st o ∙ put_over s x (kept_words st) (right n s h e) z)) (rw (o, known x z) (refl, over_holds n s h e x st ok o (omega arith) (known x z)))
      go false o (yes z) (yes y) =
          subst (λ (l : Left). (plain l.refusal ≡ answer_by n h (save x st)) × Holds n l.drawer (events_by n h (save x st))) (sym (save_puts s x st o ∙ put_full s x (kept_words st) (right n s h e) z y)) (rw (o, unknown x z, eq-eqb (held_ids h + 1) n (room y)) (refl, e))
      go false o (yes z) (no y) =
          let sp = in_chain_of n s h e x (is_stop width (word_at s) true x) in
          let f = free_split n s h e (omega arith) in
          subst (λ (l : Left). (plain l.refusal ≡ answer_by n h (save x st)) × Holds n l.drawer (events_by n h (save x st))) (sym (save_puts s x st o ∙ put_new s x (kept_words st) (right n s h e) z y ∙ ap (λ (p : ℕ). record { refusal = 0; drawer = new_in s x (kept_words st) (word_at s 16) p }) sp.at))
          (rw (o, unknown x z, ne_eqb (held_ids h + 1) n (more y)) (
            refl,
            new_holds n s h e x st ok o z (word_at s 16) sp.front sp.rest f.0 sp.cut f.1 (unknown x z)
                (new_size n s h e x st ok o z (word_at s 16) sp.front sp.rest f.0 sp.cut f.1)
                (λ q m. less sp z q m)
                (λ q m. up_rest width (word_at s) x sp.front sp.rest (subst (λ (l : List ℕ). Ascends width (word_at s) l) sp.cut (e.up (x % 16) (head_low x))) (λ r d c. ltb-true x (id_in width (word_at s) r) (sp.here r d c)) q m),
          ))

  step : (call : Call) → IsCall call → Step n s h call
  step (save x st) ok = save_step x st ok
  step (load x) ok = load_step x
  step (forget x) ok = forget_step x

-- ---- every list of calls
all_from : (n : ℕ) (s : List ℕ) (h : List Event) → Holds n s h → (calls : List Call) → AreCalls calls → answers_on s calls ≡ answers_by n h calls
unfolding answers_on answers_by Step
all_from n s h e [] ok = refl
all_from n s h e (call ∷ calls) ok =
    let t = step n s h e call ok.0 in
    ap (λ (a : Answer). a ∷ answers_on (left_on s call) calls) t.0
    ∙ ap (λ (l : List Answer). answer_by n h call ∷ l) (all_from n (left_on s call) (events_by n h call) t.1 calls ok.1)

fresh_holds : (n : ℕ) → 0 < n → n ≤ 65536 → Holds n (bytes_of (fresh_to n n)) []
unfolding last_saved held_ids
fresh_holds n some most = record {
  chains = fresh_chains n some most;
  view = fresh_view n some most;
  size = fresh_records n some most;
  held = λ y.
      ap (held_at (bytes_of (fresh_to n n)))
      (is_absent width (bytes_of (fresh_to n n)) (fresh_chains n some most) (fresh_view n some most) y
      (not_has width (word_at (bytes_of (fresh_to n n))) y (fresh_chains n some most (y % 16))
      (λ r m z. omega (arith, m, ap (times r) (used_empty n some most (y % 16) (head_low y)), times_nil r))));
  count = omega (arith, fresh_free n some most);
  up = λ k l. subst (λ (i : List ℕ). Ascends width (word_at (bytes_of (fresh_to n n))) i) (sym (used_empty n some most k l)) tt;
}

fresh_lists : (n : ℕ) → 0 < n → n ≤ 65536 → AllDrawerLists (bytes_of (fresh_to n n))
fresh_lists n some most calls ok =
    all_from n (bytes_of (fresh_to n n)) [] (fresh_holds n some most) calls ok ∙ ap (λ (i : ℕ). answers_by i [] calls) (sym (fresh_records n some most))

pub laid_lists : (s : List ℕ) → (lay_on s).refusal ≡ 0 → AllDrawerLists (lay_on s).drawer
laid_lists s e = go (is_whole width (length s)) refl
  where
    go : (b : Bool) → is_whole width (length s) ≡ b → AllDrawerLists (lay_on s).drawer
    go true w = let p = whole_parts width (length s) w in
        subst (λ (l : Left). AllDrawerLists l.drawer) (sym (laid_whole s w)) (fresh_lists (records width s) p.1 p.2)
    go false w = absurd (omega (arith, e, ap (λ (l : Left). l.refusal) (laid_not s w)))

-- ---- the order
events_after : ℕ → List Event → List Call → List Event
events_after n h [] = h
events_after n h (call ∷ calls) = events_after n (events_by n h call) calls

left_holds : (n : ℕ) (s : List ℕ) (h : List Event) → Holds n s h → (calls : List Call) → AreCalls calls → Holds n (left_after s calls) (events_after n h calls)
unfolding left_after events_after Step
left_holds n s h e [] ok = e
left_holds n s h e (call ∷ calls) ok = left_holds n (left_on s call) (events_by n h call) (step n s h e call ok.0).1 calls ok.1

fresh_ascend : (n : ℕ) → 0 < n → n ≤ 65536 → AllAscend (bytes_of (fresh_to n n))
fresh_ascend n some most calls ok k low =
    let e = left_holds n (bytes_of (fresh_to n n)) [] (fresh_holds n some most) calls ok in
    let t = left_after (bytes_of (fresh_to n n)) calls in
    subst (λ (l : List ℕ). Ascends width (word_at t) l) (sym (view_walk width t e.chains e.view k (omega arith))) (e.up k low)

pub laid_ascend : (s : List ℕ) → (lay_on s).refusal ≡ 0 → AllAscend (lay_on s).drawer
laid_ascend s e = go (is_whole width (length s)) refl
  where
    go : (b : Bool) → is_whole width (length s) ≡ b → AllAscend (lay_on s).drawer
    go true w = let p = whole_parts width (length s) w in
        subst (λ (l : Left). AllAscend l.drawer) (sym (laid_whole s w)) (fresh_ascend (records width s) p.1 p.2)
    go false w = absurd (omega (arith, e, ap (λ (l : Left). l.refusal) (laid_not s w)))

pub laid_drawer : (s : List ℕ) → (lay_on s).refusal ≡ 0 → is_drawer width (lay_on s).drawer ≡ true
laid_drawer s e = go (is_whole width (length s)) refl
  where
    go : (b : Bool) → is_whole width (length s) ≡ b → is_drawer width (lay_on s).drawer ≡ true
    go true w = let p = whole_parts width (length s) w in
        let n = records width s in
        subst (λ (l : Left). is_drawer width l.drawer ≡ true) (sym (laid_whole s w)) (right n (bytes_of (fresh_to n n)) [] (fresh_holds n p.1 p.2))
    go false w = absurd (omega (arith, e, ap (λ (l : Left). l.refusal) (laid_not s w)))

-- what a lay that is not refused leaves
pub with_lists : (s d : List ℕ) → record { refusal = 0; drawer = d } ≡ lay_on s → (is_drawer width d ≡ true) × AllDrawerLists d × AllAscend d
with_lists s d e =
    let left : (lay_on s).drawer ≡ d = ap (λ (l : Left). l.drawer) (sym e) in
    let answer : (lay_on s).refusal ≡ 0 = ap (λ (l : Left). l.refusal) (sym e) in (
      subst (λ (l : List ℕ). is_drawer width l ≡ true) left (laid_drawer s answer),
      subst (λ (l : List ℕ). AllDrawerLists l) left (laid_lists s answer),
      subst (λ (l : List ℕ). AllAscend l) left (laid_ascend s answer),
    )
