use mathlib.Core.Path.{sym, ap, ◌∙◌}
use mathlib.Core.Bool.{Bool}
use Prim.Native.Nat.{ℕ, ◌-◌, ◌+◌}
use native.Mathlib.Omega.{arith}
use Rattle.words.specs.Words.{word_at}
use Rattle.drawer.specs.Drawer.{id_in}
use Rattle.drawer.specs.Search.{seek}
use Rattle.drawer.proofs.SeekLaws.{seek_off, seek_stop, seek_next, seek_last}
use Rattle.drawer.proofs.layout.Records.seek.Goals as goal

pub returns-in_default-clause-stopped : goal.returns-in_default-clause-stopped
returns-in_default-clause-stopped g c = λ test law.
    let s = c.args.self.now in
    let w = word_at s.bytes.now in
    let stop : ℕ → Bool = λ r. test (id_in g.row.WIDTH w r) in
    sym (seek_off g.row.WIDTH stop w s.count (s.count - c.loop.counter) c.loop.link (rw c.word.ensures at c.in_default.ensures.none)) ∙ c.loop.invariant.2 test law

pub returns-then-stop-clause-stopped : goal.returns-then-stop-clause-stopped
returns-then-stop-clause-stopped g c = λ test law.
    let s = c.args.self.now in
    let w = word_at s.bytes.now in
    let stop : ℕ → Bool = λ r. test (id_in g.row.WIDTH w r) in
    let named = c.in-Some.ensures.named in
    let id = rw (named.0, named.1, c.word.ensures) at c.id.ensures in
    sym (seek_stop g.row.WIDTH stop w s.count (s.count - c.loop.counter) c.loop.link
    (rw c.word.ensures at named.2)
    (rw id at (sym (law c.id.result c.stop.result c.stop.ensures) ∙ c.if-stop.true)))
    ∙ c.loop.invariant.2 test law

pub loop-preserved : goal.loop-preserved
loop-preserved g c =
    let s = c.args.self.now in
    let w = word_at s.bytes.now in
    let named = c.in-Some.ensures.named in
    let id = rw (named.0, named.1, c.word.ensures) at c.id.ensures in
    let link = rw (named.1, c.word.ensures) at c.link-link.ensures.link in (
      rw named.0 at c.link-link.ensures.room,
      c.loop.invariant.1,
      λ test law.
          let stop : ℕ → Bool = λ r. test (id_in g.row.WIDTH w r) in
          ap (seek g.row.WIDTH stop w s.count (s.count - (c.loop.counter + 1))) link
          ∙ sym (seek_next g.row.WIDTH stop w s.count (s.count - c.loop.counter) (s.count - (c.loop.counter + 1)) c.loop.link (omega arith)
          (rw c.word.ensures at named.2)
          (rw id at (sym (law c.id.result c.stop.result c.stop.ensures) ∙ c.if-stop.false)))
          ∙ c.loop.invariant.2 test law,
    )

pub returns-clause-stopped : goal.returns-clause-stopped
returns-clause-stopped g c = λ test law.
    let s = c.args.self.now in
    let w = word_at s.bytes.now in
    let stop : ℕ → Bool = λ r. test (id_in g.row.WIDTH w r) in
    sym (seek_last g.row.WIDTH stop w s.count (s.count - c.loop.counter) c.loop.link (omega arith)) ∙ c.loop.invariant.2 test law
