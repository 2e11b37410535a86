use Rattle.std.proofs.Common.{◌≡◌, Bor, drop}
use Rattle.std.specs.List.{list_all}
use Rattle.adr_model.specs.Store.{Held}
use Rattle.adr_model.specs.Take.{is_reserved_row}
use Rattle.adr_records.proofs.forms.all_reserved.Given as goal

-- those that are left decide
abbrev pub invariant-loop-row : goal.invariant-loop-row
invariant-loop-row l = list_all (λ (row : Bor Held). is_reserved_row row.now.update.key) (drop l.row-index l.rows) ≡ list_all (λ (row : Bor Held). is_reserved_row row.now.update.key) l.rows
