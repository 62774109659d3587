use mathlib.Core.Path.{◌≡◌, sym, ap, ◌∙◌}
use native.Mathlib.Omega.{arith}
use lib.Dec.{eqb}
use borrow.Author.Rules.{rules}
use Rattle.words.specs.Words.{word_at}
use Rattle.drawer.specs.Search.{link_of, records, record_of}
use Rattle.drawer.specs.Calls.{width}
use Rattle.drawer.proofs.FoundLaws.{counted, found_room}
use Rattle.drawer.proofs.check.Drawer.find.Goals as goal

pub returns-then-record-eq0-clause-absent : goal.returns-then-record-eq0-clause-absent
returns-then-record-eq0-clause-absent c =
    let s = c.args.self.now.records.bytes.now in
    let id = c.args.id in
    let same : c.args.self.now.records.count ≡ records width s = counted _ s (omega (arith, c.args.self.now.records.sized)) in
    let link : c.seek-link.result ≡ link_of width (word_at s) (records width s) id = rw same at (c.seek-link.ensures.stopped (λ y. eqb y id) (λ y b h. search rules)) in
    ap (word_at s) (sym link) ∙ sym c.word-record.ensures ∙ c.if-record-eq0.true

pub returns-clause-found : goal.returns-clause-found
returns-clause-found c =
    let s = c.args.self.now.records.bytes.now in
    let id = c.args.id in
    let same : c.args.self.now.records.count ≡ records width s = counted _ s (omega (arith, c.args.self.now.records.sized)) in
    let link : c.seek-link.result ≡ link_of width (word_at s) (records width s) id = rw same at (c.seek-link.ensures.stopped (λ y. eqb y id) (λ y b h. search rules)) in
    let named : c.word-record.result ≡ record_of width s id = c.word-record.ensures ∙ ap (word_at s) link in
    let room = found_room s c.args.self.now.checked id c.word-record.result named (omega arith) in
    (named, link, omega arith, (room.0, c.seek-link.ensures.room, room.1))
