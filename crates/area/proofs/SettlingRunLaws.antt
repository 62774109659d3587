-- What a settling run's loop knows before, between and after its frames. Assumes nothing.
use Rattle.std.specs.Prelude.{◌≡◌, ℕ, zero, suc, ◌+◌, ◌<◌, ◌≤◌, true, false, cond, eqb, List, length}
use native.Mathlib.Nat.{zero-add, add-zero}
use native.Mathlib.Omega.{arith}
use mathlib.Core.Path.{refl, sym, ap, subst, ◌∙◌}
use borrow.Author.Tests.{eqb-true}
use lib.Ieee.{Float}
use Rattle.numbers.specs.Table.{Table}
use Rattle.area.specs.Checks.{refusal_of}
use Rattle.area.specs.Call.{call_under}
use Rattle.area.specs.Steps.{is_accepted}
use Rattle.area.specs.SettlingRun.{run_refusal, settle_refusal, advanced, ended_with, counted, settle_from}
use Rattle.area.specs.declared.state.State.{State}
use Rattle.area.specs.SettlingRun.{Settled}
use Rattle.area.specs.Outcome.{Answer}
use Rattle.numbers.proofs.TestLaws.{both_zero}
use Rattle.area.proofs.CallLaws.{whole_if_passed}

-- ---- a run that is not turned back up front is on a frame and a state that pass 1 to 6, and passes 9
pub passes_first : (state : State) (bytes : List ℕ) (increment : Float) (limit : ℕ) → settle_refusal state bytes increment limit ≡ 0
    → (refusal_of bytes state ≡ 0) × (run_refusal bytes increment limit ≡ 0)
unfolding settle_refusal
passes_first state bytes increment limit h = both_zero (refusal_of bytes state) (run_refusal bytes increment limit) _ refl h

pub whole_of_run : (state : State) (bytes : List ℕ) (increment : Float) (limit r : ℕ) → r ≡ settle_refusal state bytes increment limit → eqb r 0 ≡ true
    → length bytes ≡ 416
whole_of_run state bytes increment limit r e a =
    let passes = passes_first state bytes increment limit (sym e ∙ eqb-true r 0 a) in
    whole_if_passed state bytes passes.0

-- ---- one frame
module _ (table : Table) (increment : Float) (n : ℕ) (state : State) (frame : List ℕ) (r : Answer) (is : r ≡ call_under table state frame) where
  abbrev stepped : Answer → Settled
  stepped a =
      cond (is_accepted a)
      (counted (cond a.outcome.repaint (settle_from table increment n a.state (advanced increment frame)) (ended_with 0 a.state)))
      (ended_with a.outcome.refusal state)

  unrolled : settle_from table increment (suc n) state frame ≡ stepped r
  unfolding settle_from
  unrolled = ap stepped (sym is)

  pub step_refused : is_accepted r ≡ false → settle_from table increment (suc n) state frame ≡ ended_with r.outcome.refusal state
  step_refused a = unrolled ∙ rw a

  pub step_rests : is_accepted r ≡ true → r.outcome.repaint ≡ false
      → settle_from table increment (suc n) state frame ≡ counted (ended_with 0 r.state)
  step_rests a p = unrolled ∙ rw (a, p)

  pub step_on_lem : is_accepted r ≡ true → r.outcome.repaint ≡ true
      → settle_from table increment (suc n) state frame ≡ counted (settle_from table increment n r.state (advanced increment frame))
  step_on_lem a p = unrolled ∙ rw (a, p)

-- ---- the loop's invariant: after `used` frames, what is left of the run leads to the answer of the whole
abbrev after : ℕ → Settled → Settled
after used r = record { refusal = r.refusal; used = r.used + used; state = r.state }

after_none : (r : Settled) → r ≡ after 0 r
after_none r = ap (λ (k : ℕ). record { refusal = r.refusal; used = k; state = r.state }) (sym (add-zero r.used))

-- a run that ends here has used what was used before
ended_here : (used refusal : ℕ) (state : State) → after used (ended_with refusal state) ≡ record { refusal = refusal; used = used; state = state }
ended_here used refusal state = ap (λ (k : ℕ). record { refusal = refusal; used = k; state = state }) (zero-add used)

one_more : (used : ℕ) (r : Settled) → after used (counted r) ≡ after (used + 1) r
one_more used r = ap (λ (k : ℕ). record { refusal = r.refusal; used = k; state = r.state }) (sums r.used)
  where
    sums : (k : ℕ) → k + 1 + used ≡ k + (used + 1)
    sums k = omega arith

pub record Upto (table : Table) (increment : Float) (limit : ℕ) (whole : Settled) (used : ℕ) (state : State) (frame : List ℕ) : Type 0 where
  pub left : ℕ
  pub count : left + used ≡ limit
  pub same : whole ≡ after used (settle_from table increment left state frame)

module _ (table : Table) (increment : Float) (limit : ℕ) where
  pub begins : (state : State) (frame : List ℕ) → Upto table increment limit (settle_from table increment limit state frame) 0 state frame
  begins state frame = record { left = limit; count = omega arith; same = after_none _ }

  module _ (whole : Settled) (used : ℕ) (state : State) (frame : List ℕ) (r : Answer) (is : r ≡ call_under table state frame) (h : used < limit)
      (u : Upto table increment limit whole used state frame) where
    -- one frame at least is left
    next : (n : ℕ) × (n + (used + 1) ≡ limit) × (whole ≡ after used (settle_from table increment (suc n) state frame))
    next = found u.left u.count u.same
      where
        found : (k : ℕ) → k + used ≡ limit → whole ≡ after used (settle_from table increment k state frame)
            → (n : ℕ) × (n + (used + 1) ≡ limit) × (whole ≡ after used (settle_from table increment (suc n) state frame))
        found zero e s = elim (none e h) [ ]
          where
            none : 0 + used ≡ limit → used < limit → ⊥
            none e h = omega arith
        found (suc n) e s = (n, omega (arith, e), s)

    pub refused : is_accepted r ≡ false → record { refusal = r.outcome.refusal; used = used; state = state } ≡ whole
    refused a =
        let step = step_refused table increment next.0 state frame r is a in
        sym (next.2 ∙ ap (after used) step ∙ ended_here used r.outcome.refusal state)

    pub rests : is_accepted r ≡ true → r.outcome.repaint ≡ false → record { refusal = 0; used = used + 1; state = r.state } ≡ whole
    rests a p =
        let step = step_rests table increment next.0 state frame r is a p in
        sym (next.2 ∙ ap (after used) step ∙ one_more used _ ∙ ended_here (used + 1) 0 r.state)

    pub turns : is_accepted r ≡ true → r.outcome.repaint ≡ true → (moved : List ℕ) → moved ≡ advanced increment frame
        → Upto table increment limit whole (used + 1) r.state moved
    turns a p moved e =
        let step = step_on_lem table increment next.0 state frame r is a p in
        subst (Upto table increment limit whole (used + 1) r.state) (sym e)
        (record { left = next.0; count = next.1; same = next.2 ∙ ap (after used) step ∙ one_more used _ })

  pub finishes : (whole : Settled) (used : ℕ) (state : State) (frame : List ℕ) → limit ≤ used → Upto table increment limit whole used state frame
      → record { refusal = 0; used = used; state = state } ≡ whole
  unfolding settle_from
  finishes whole used state frame h u = sym (ended u.left u.count u.same)
    where
      ended : (k : ℕ) → k + used ≡ limit → whole ≡ after used (settle_from table increment k state frame)
          → whole ≡ record { refusal = 0; used = used; state = state }
      ended zero e s = s ∙ ended_here used 0 state
      ended (suc n) e s = elim (none e h) [ ]
        where
          none : suc n + used ≡ limit → limit ≤ used → ⊥
          none e h = omega arith

  pub finishes_at_limit : (whole : Settled) (used : ℕ) (state : State) (frame : List ℕ) → used ≡ limit → Upto table increment limit whole used state frame
      → record { refusal = 0; used = limit; state = state } ≡ whole
  finishes_at_limit whole used state frame e u =
      let h : limit ≤ used = omega arith in
      subst (λ (n : ℕ). record { refusal = 0; used = n; state = state } ≡ whole) e (finishes whole used state frame h u)
