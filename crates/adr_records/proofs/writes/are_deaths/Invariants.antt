use Rattle.std.proofs.Common.{◌≡◌, drop}
use Rattle.std.specs.List.{list_all}
use Rattle.adr_model.specs.Take.{is_of_attr}
use Rattle.adr_model.specs.Update.{Update, deleted_attr}
use Rattle.adr_records.proofs.writes.are_deaths.Given as goal

-- those that are left decide
abbrev pub invariant-loop-row : goal.invariant-loop-row
invariant-loop-row l = list_all (λ (u : Update). is_of_attr deleted_attr u.key) (drop l.row-index l.rows) ≡ list_all (λ (u : Update). is_of_attr deleted_attr u.key) l.rows
