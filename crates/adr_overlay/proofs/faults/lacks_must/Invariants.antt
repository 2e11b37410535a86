use Rattle.std.proofs.Common.{◌≡◌, ℕ, false, not, take}
use Rattle.std.specs.List.{list_any}
use Rattle.adr_model.specs.Take.{has_row}
use Rattle.adr_overlay.proofs.faults.lacks_must.Given as goal

-- none so far is missing
abbrev pub invariant-loop-attr : goal.invariant-loop-attr
invariant-loop-attr l = list_any (λ (attr : ℕ). not (has_row attr l.rows)) (take l.attr-index l.attr-items) ≡ false
