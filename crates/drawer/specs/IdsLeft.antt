-- The ids that an iterator is still to give.
use Rattle.std.specs.Prelude.{List, ℕ}
use Rattle.words.specs.Words.{word_at}
use Rattle.drawer.specs.Tours.{ids_from}
use Rattle.drawer.specs.declared.ids.Ids.{Ids}

abbrev pub ids_left : {width : ℕ} → Ids width → List ℕ
ids_left {width} s = ids_from width (word_at s.records.bytes.now) s.records.count s.left s.next
