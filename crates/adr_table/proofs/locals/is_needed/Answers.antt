use Rattle.std.proofs.Common.{◌∙◌, ap, sym}
use Rattle.std.specs.List.{list_any}
use Rattle.adr_table.specs.Slots.{rows_seen}
use Rattle.adr_table.proofs.LocalsKept.{has_number, needed_within, unneeded}
use Rattle.adr_table.proofs.locals.is_needed.Goals as goal

pub returns-in_default : goal.returns-in_default
returns-in_default c = sym (unneeded c.args.hint.now (rows_seen c.args.slots.now) c.in_default.is)

pub loop-slot-init : goal.loop-slot-init
loop-slot-init c =
    ap (list_any (has_number c.args.hint.now.usn)) c.unit-slot-items.ensures ∙ needed_within c.args.hint.now c.in-Some.unit (rows_seen c.args.slots.now) c.in-Some.is
