use Rattle.adr_wire.proofs.Pieces.{piece_spelled}
use Rattle.adr_wire.proofs.laws.pieces_have_one_spelling.Goals as goal

pub returns : goal.returns
returns c = piece_spelled
