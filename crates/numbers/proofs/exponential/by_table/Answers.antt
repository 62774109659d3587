use Rattle.std.proofs.Common.{◌/◌, arith}
use lib.Ieee.{of_bits, neg, div}
use Rattle.numbers.specs.Exp.{by_table, exp_at, series_of}
use Rattle.numbers.proofs.CastLaws.{castable}
use Rattle.numbers.proofs.LoadLaws.{lent_at_most}
use Rattle.numbers.proofs.ExpLaws.{range}
use Rattle.numbers.proofs.exponential.by_table.Goals as goal

pub truncating_f32_to_u64-k-requires : goal.truncating_f32_to_u64-k-requires
unfolding of_bits neg
truncating_f32_to_u64-k-requires c = record { lower_bound = (range c.args.x c.if-x.false c.if-x-2.true).0; upper_bound = (range c.args.x c.if-x.false c.if-x-2.true).1 }

pub int_to_float-y : goal.int_to_float-y
unfolding of_bits neg
int_to_float-y c =
    let l = (range c.args.x c.if-x.false c.if-x-2.true).2 in
    let e = c.truncating_f32_to_u64-k.ensures in
    castable c.truncating_f32_to_u64-k.result (omega arith)

pub entry_in-t-requires : goal.entry_in-t-requires
unfolding of_bits neg
entry_in-t-requires c =
    let l = (range c.args.x c.if-x.false c.if-x-2.true).2 in
    let e = c.truncating_f32_to_u64-k.ensures in
    omega arith

pub int_to_float-result : goal.int_to_float-result
unfolding of_bits neg
int_to_float-result c =
    let e = c.entry_in-t.ensures in
    let few = (range c.args.x c.if-x.false c.if-x-2.true).2 in
    let k = c.truncating_f32_to_u64-k.ensures in
    let l = lent_at_most c.args.table.now c.truncating_f32_to_u64-k.result (omega arith) in
    castable (c.entry_in-t.result / 65536) (omega arith)

pub returns-then-x-2 : goal.returns-then-x-2
unfolding by_table exp_at series_of
returns-then-x-2 c = rw (c.if-x.false, c.if-x-2.true, ← c.truncating_f32_to_u64-k.ensures, ← c.entry_in-t.ensures)

pub returns-else-x-2 : goal.returns-else-x-2
unfolding by_table div of_bits
returns-else-x-2 c = rw (c.if-x.false, c.if-x-2.false)
