use Rattle.std.proofs.Common.{◌≡◌, length, take}
use Rattle.std.specs.List.{flat_map}
use Rattle.adr_model.specs.Change.{Item}
use Rattle.adr_outcome.proofs.replies.rows_in.Given as goal

-- the rows of the items so far
abbrev pub invariant-loop-item : goal.invariant-loop-item
invariant-loop-item l = l.rows ≡ length (flat_map (λ (i : Item). i.rows) (take l.item-index l.reply.items))
