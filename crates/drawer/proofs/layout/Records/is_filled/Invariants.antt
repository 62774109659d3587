use Prim.Native.Nat.{◌≤◌, ◌*◌}
use Rattle.words.specs.Words.{word_at}
use Rattle.drawer.proofs.PassedLaws.{Passed}
use Rattle.drawer.proofs.layout.Records.is_filled.Given as goal

abbrev pub invariant-loop-chain : goal.invariant-loop-chain
invariant-loop-chain g l = (l.total ≤ 65536 * l.chain) × Passed g.row.WIDTH (word_at l.self.bytes.now) l.self.count l.chain l.lasts l.total
