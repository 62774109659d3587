use mathlib.Core.Path.{sym, ap, ◌∙◌}
use native.Mathlib.Omega.{arith}
use lib.ListN.{length}
use Rattle.drawer.proofs.FillLaws.{fresh_up_to, fresh_first, fresh_next, fresh_length, fresh_start}
use Rattle.drawer.proofs.laying.fill.Goals as goal

pub loop-r-init : goal.loop-r-init
loop-r-init c =
    let s = c.args.drawer.now in
    let n = c.args.count in
    let left = c.put_first.ensures ∙ fresh_first n s in (
      ap length left ∙ fresh_length n 1 s (omega arith) ∙ c.requires.0,
      left ∙ fresh_start n s ∙ ap (fresh_up_to n 1) (sym left),
    )

pub loop-r-preserved : goal.loop-r-preserved
loop-r-preserved c =
    let s = c.put_first.new.drawer in (
      c.loop-r.invariant.0,
      c.put_free.ensures
          ∙ rw (c.next_free.ensures, c.loop-r.invariant.1) (fresh_next c.args.count c.loop-r.r s (omega arith)),
    )
