use Rattle.std.proofs.Common.{arith}
use Rattle.adr_state.proofs.ItemLengths.{length_of_object}
use Rattle.adr_state.proofs.lengths.item_length_within.Goals as goal

pub returns-in-Object : goal.returns-in-Object
returns-in-Object c =
    rw (length_of_object c.args.item.now c.in-Object.field-0 c.in-Object.ensures) (grind (arith, c.sum_within.ensures, c.rows_within.ensures, c.rows.ensures))
