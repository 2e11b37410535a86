use Rattle.std.proofs.Common.{◌≡◌, drop}
use Rattle.adr_search.specs.Pieces.{in_turn}
use Rattle.adr_search.proofs.pieces.in_turn.Given as goal

-- the pieces that are left stand in turn in the rest
abbrev pub invariant-loop-piece : goal.invariant-loop-piece
invariant-loop-piece l = in_turn (drop l.piece-index l.pieces) l.last l.rest ≡ in_turn l.pieces l.last l.bytes
