use Rattle.std.proofs.Common.{◌∙◌}
use native.Mathlib.Nat.{add-sub_cancel}
use Rattle.area.specs.Checks.{is_heeded, is_shown, shows2, shows3, shows4, shows5}
use Rattle.area.specs.Frame.{time_no}
use Rattle.area.specs.Marks.{kept_with, sweep_rows, shown_by}
use Rattle.area.proofs.sweep.field.TimeField.sweep.Goals as goal

pub returns : goal.returns
unfolding kept_with sweep_rows shown_by is_heeded is_shown shows2 shows3 shows4 shows5 time_no
returns c =
    c.keep.ensures
    ∙ rw (add-sub_cancel, c.refuse.ensures, c.of_bits-t.ensures, c.long_of.ensures, c.word-2.ensures, c.word.ensures)
