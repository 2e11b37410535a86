use Rattle.std.proofs.Common.{◌≡◌, Bor, drop}
use Rattle.std.specs.List.{list_all}
use Rattle.adr_model.specs.Store.{Held}
use Rattle.adr_law_calls.specs.Tested.{fits_class}
use Rattle.adr_records.proofs.forms.all_fit.Given as goal

-- those that are left decide
abbrev pub invariant-loop-row : goal.invariant-loop-row
invariant-loop-row l = list_all (λ (row : Bor Held). fits_class l.schema l.class row.now.update) (drop l.row-index l.rows) ≡ list_all (λ (row : Bor Held). fits_class l.schema l.class row.now.update) l.rows
