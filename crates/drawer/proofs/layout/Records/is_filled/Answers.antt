use mathlib.Core.Path.{◌≡◌, sym, ◌∙◌, subst}
use mathlib.Core.Bool.{true, false}
use Prim.Native.Nat.{ℕ}
use native.Mathlib.Omega.{arith}
use lib.ListN.{take}
use Rattle.words.specs.Words.{word_at}
use Rattle.drawer.specs.Tours.{is_met}
use Rattle.drawer.proofs.PassedLaws.{Passed, toured, refused_tour, refused_met, refused_single, passed_none, passed_next, passed_all, toured_count}
use Rattle.drawer.proofs.layout.Records.is_filled.Goals as goal

pub loop-chain-init : goal.loop-chain-init
loop-chain-init g c =
    let s = c.args.self.now in
    (omega arith, passed_none g.row.WIDTH (word_at s.bytes.now) s.count s.some)

pub returns-in_default : goal.returns-in_default
returns-in_default g c =
    let s = c.args.self.now in
    sym (refused_tour g.row.WIDTH (word_at s.bytes.now) s.count s.some c.loop-chain.chain (omega arith) (sym c.in_default.is ∙ c.tour.ensures))

pub returns-then-is_met : goal.returns-then-is_met
returns-then-is_met g c =
    let s = c.args.self.now in
    let k = c.loop-chain.chain in
    let t = c.in-Some.tour in
    let q = toured g.row.WIDTH (word_at s.bytes.now) s.count s.some k t (sym c.in-Some.is ∙ c.tour.ensures) in
    let met : is_met (take k c.loop-chain.lasts) t.last ≡ true = sym c.is_met.ensures ∙ c.if-is_met.true in
    sym (refused_met g.row.WIDTH (word_at s.bytes.now) s.count s.some k c.loop-chain.lasts c.loop-chain.total t (omega arith) c.loop-chain.invariant.1 q met)

pub returns-then-not-is_single : goal.returns-then-not-is_single
returns-then-not-is_single g c =
    let s = c.args.self.now in
    let k = c.loop-chain.chain in
    let t = c.in-Some.tour in
    let q = toured g.row.WIDTH (word_at s.bytes.now) s.count s.some k t (sym c.in-Some.is ∙ c.tour.ensures) in
    sym (refused_single g.row.WIDTH (word_at s.bytes.now) s.count s.some k t (omega arith) q (sym c.is_single.ensures ∙ c.if-not-is_single.true))

pub overflow_add-total : goal.overflow_add-total
overflow_add-total g c =
    let s = c.args.self.now in
    let k = c.loop-chain.chain in
    let t = c.in-Some.tour in
    let q = toured g.row.WIDTH (word_at s.bytes.now) s.count s.some k t (sym c.in-Some.is ∙ c.tour.ensures) in
    omega (arith, s.sized, toured_count g.row.WIDTH (word_at s.bytes.now) s.count s.some k t q)

pub loop-chain-preserved : goal.loop-chain-preserved
loop-chain-preserved g c =
    let s = c.args.self.now in
    let k = c.loop-chain.chain in
    let t = c.in-Some.tour in
    let q = toured g.row.WIDTH (word_at s.bytes.now) s.count s.some k t (sym c.in-Some.is ∙ c.tour.ensures) in
    let off : is_met (take k c.loop-chain.lasts) t.last ≡ false = sym c.is_met.ensures ∙ c.if-is_met.false in (
      omega (arith, s.sized, toured_count g.row.WIDTH (word_at s.bytes.now) s.count s.some k t q),
      passed_next g.row.WIDTH (word_at s.bytes.now) s.count s.some k c.loop-chain.lasts c.loop-chain.total t (omega arith) c.loop-chain.invariant.1 q off
          (sym c.is_single.ensures ∙ c.if-not-is_single.false),
    )

pub returns : goal.returns
returns g c =
    let s = c.args.self.now in
    let done : c.loop-chain.chain ≡ 17 = omega arith in
    sym (passed_all g.row.WIDTH (word_at s.bytes.now) s.count s.some c.loop-chain.lasts c.loop-chain.total
    (subst (λ (i : ℕ). Passed g.row.WIDTH (word_at s.bytes.now) s.count i c.loop-chain.lasts c.loop-chain.total) done c.loop-chain.invariant.1))
