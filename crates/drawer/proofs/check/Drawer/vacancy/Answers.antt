use mathlib.Core.Path.{◌≡◌}
use native.Mathlib.Omega.{arith}
use lib.Dec.{ltb}
use borrow.Author.Rules.{rules}
use Rattle.words.specs.Words.{word_at}
use Rattle.drawer.specs.Search.{place_of, records}
use Rattle.drawer.specs.Calls.{width}
use Rattle.drawer.proofs.FoundLaws.{counted, free_room}
use Rattle.drawer.proofs.check.Drawer.vacancy.Goals as goal

pub returns-clause-found : goal.returns-clause-found
returns-clause-found c =
    let s = c.args.self.now.records.bytes.now in
    let id = c.args.id in
    let same : c.args.self.now.records.count ≡ records width s = counted _ s (omega (arith, c.args.self.now.records.sized)) in
    let link : c.seek-link.result ≡ place_of width (word_at s) (records width s) id = rw same at (c.seek-link.ensures.stopped (λ y. ltb id y) (λ y b h. search rules)) in
    let room = free_room s c.args.self.now.checked c.word-record.result c.word-record.ensures (omega arith) in
    (c.word-record.ensures, link, omega arith, (room.0, c.seek-link.ensures.room, room.1))
