-- Table T is tested as a whole.
use Rattle.std.proofs.Common.{◌≡◌, ℕ, ◌<◌, length, get_or, refl}
use Rattle.numbers.specs.Table.{table_at}
use Rattle.numbers.specs.declared.table.TheConstants.{ENTRIES}
use Rattle.numbers.proofs.TableLaws.{tested}
use Rattle.numbers.proofs.table.entry.Goals as goal

-- every entry, the last one included, by one test that antt computes
pub whole_table : (length ENTRIES ≡ 1025) × ((k : ℕ) → k < 1025 → get_or ENTRIES k 0 ≡ table_at k)
whole_table = (refl, tested ENTRIES tt)

pub returns : goal.returns
returns c = whole_table.1 c.args.k c.requires
