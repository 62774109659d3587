use mathlib.Core.Path.{◌≡◌, sym, ap, ◌∙◌}
use mathlib.Core.Bool.{◌&&◌, ◌||◌}
use Prim.Native.Nat.{ℕ, ◌-◌, ◌+◌}
use native.Mathlib.Omega.{arith}
use lib.Dec.{eqb, ltb}
use borrow.Author.Rules.{rules}
use Rattle.std.specs.Bool.{then_some}
use Rattle.words.specs.Words.{word_at}
use Rattle.drawer.specs.declared.tour.Tour.{Tour}
use Rattle.drawer.proofs.TourLaws.{tour_end, tour_out, tour_next, tour_last, unplaced, placed_suits}
use Rattle.drawer.proofs.layout.Records.tour.Goals as goal

pub returns-then-next-eq0 : goal.returns-then-next-eq0
returns-then-next-eq0 g c =
    let s = c.args.self.now in
    let l = c.loop-count in
    sym (tour_end g.row.WIDTH (word_at s.bytes.now) s.count c.args.chain (s.count - l.count) l.next l.count l.last l.previous l.up (omega arith) (omega arith)) ∙ l.invariant

pub returns-in_err-record : goal.returns-in_err-record
returns-in_err-record g c =
    let s = c.args.self.now in
    let w = word_at s.bytes.now in
    let l = c.loop-count in
    rw c.from_residual.ensures
    (sym (tour_out g.row.WIDTH w s.count c.args.chain (s.count - l.count) l.next l.count l.last l.previous l.up (omega arith) (omega arith)
    (unplaced g.row.WIDTH w s.count c.args.chain l.next (omega arith) c.in_err-record.ensures.none))
    ∙ l.invariant)

pub returns-then-not-suits : goal.returns-then-not-suits
returns-then-not-suits g c =
    let s = c.args.self.now in
    let w = word_at s.bytes.now in
    let l = c.loop-count in
    let named = c.in_ok-record.ensures.named in
    let suited = rw (named.0, named.1) at c.suits.ensures in
    sym (tour_out g.row.WIDTH w s.count c.args.chain (s.count - l.count) l.next l.count l.last l.previous l.up (omega arith) (omega arith)
    (placed_suits g.row.WIDTH w s.count c.args.chain l.next named.2 ∙ sym suited ∙ c.if-not-suits.true))
    ∙ l.invariant

pub loop-count-preserved : goal.loop-count-preserved
loop-count-preserved g c =
    let s = c.args.self.now in
    let w = word_at s.bytes.now in
    let l = c.loop-count in
    let named = c.in_ok-record.ensures.named in
    let suited = rw (named.0, named.1) at c.suits.ensures in
    let id = rw (named.0, named.1) at c.id-id.ensures in
    let next = rw (named.0, named.1) at c.next-next.ensures in
    let up : c.if-up.up ≡ l.up && (eqb l.last 0 || ltb l.previous c.id-id.result) = search rules in
    rw (up, next, id)
    (sym (tour_next g.row.WIDTH w s.count c.args.chain (s.count - l.count) (s.count - (l.count + 1)) l.next l.count l.last l.previous l.up (omega arith) (omega arith)
    (placed_suits g.row.WIDTH w s.count c.args.chain l.next named.2 ∙ sym suited ∙ c.if-not-suits.false))
    ∙ l.invariant)

pub returns : goal.returns
returns g c =
    let s = c.args.self.now in
    let l = c.loop-count in
    let all : l.count ≡ s.count = omega arith in
    c.then_some.ensures
    ∙ ap (λ (n : ℕ). then_some {T = Tour} (eqb l.next 0) (record { count = n; last = l.last; up = l.up })) (sym all)
    ∙ sym (tour_last g.row.WIDTH (word_at s.bytes.now) s.count c.args.chain (s.count - l.count) l.next l.count l.last l.previous l.up (omega arith))
    ∙ l.invariant
