use Rattle.std.proofs.Common.{◌≡◌, ℕ, true, is_some, take}
use Rattle.std.specs.List.{list_all}
use Rattle.adr_model.specs.Store.{row_held}
use Rattle.adr_model.specs.Update.{RowOf}
use Rattle.adr_records.proofs.touched.has_must.Given as goal

-- those so far are there
abbrev pub invariant-loop-attr : goal.invariant-loop-attr
invariant-loop-attr l = list_all (λ (attr : ℕ). is_some (row_held l.told (RowOf l.object attr))) (take l.attr-index l.attr-items) ≡ true
