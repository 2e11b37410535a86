use Rattle.std.proofs.Common.{sym, ap, ◌∙◌}
use Rattle.std.specs.Option.{option_copied}
use Rattle.adr_update.specs.Key.{key_of}
use Rattle.adr_table.specs.Table.{rows_in}
use Rattle.adr_overlay.specs.Overlay.{is_stripped}
use Rattle.adr_overlay.proofs.Telling.{none_below_stripped}
use Rattle.adr_overlay.proofs.overlay.row_below.Goals as goal

pub returns-in-None : goal.returns-in-None
returns-in-None c = none_below_stripped (is_stripped (rows_in c.args.over.now) (key_of c.args.key.now)) (rows_in c.args.base.now) (key_of c.args.key.now) (sym c.row.ensures ∙ ap option_copied c.in-None.is)
