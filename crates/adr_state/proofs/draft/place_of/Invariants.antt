use Rattle.std.proofs.Common.{take}
use Rattle.adr_update.specs.Key.{key_of}
use Rattle.adr_update.specs.Referents.{referents}
use Rattle.adr_state.proofs.Gaps.{IsAbove}
use Rattle.adr_state.proofs.draft.place_of.Given as goal

-- the key is above those of the rows so far
abbrev pub invariant-loop-place : goal.invariant-loop-place
invariant-loop-place l = IsAbove (key_of l.key) (take l.place (referents l.rows))
