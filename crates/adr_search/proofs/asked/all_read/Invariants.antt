use Rattle.std.proofs.Common.{◌≡◌, ◌++◌, List, ℕ, drop}
use Rattle.std.specs.Option.{option_map}
use Rattle.adr_search.specs.Asked.{all_read, value_read}
use Rattle.adr_search.proofs.asked.all_read.Given as goal

-- the pieces that are read stand before those that are left
abbrev pub invariant-loop-piece : goal.invariant-loop-piece
invariant-loop-piece l =
    option_map (λ (rest : List (List ℕ)). l.all.items ++ rest) (all_read (value_read l.folds) (drop l.piece-index l.pieces)) ≡ all_read (value_read l.folds) l.pieces
