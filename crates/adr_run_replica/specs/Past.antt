-- What happened in a run so far, which only proofs see: its book, the last replies that were sent, the identifiers that lines gave, and the calls that are kept.
use Rattle.std.specs.Prelude.{ℕ, List, [], ◌∷◌, ◌++◌, ◌&&◌, ◌==◌, if◌then◌else◌, Option, None, Some, is_some, fold}
use Rattle.adr_model.specs.Replica.{Pending, Replica, Book, Move, moved, moves_of_commit, commit_goes}
use Rattle.adr_model.specs.Serve.{Reply}
use Rattle.adr_model.specs.World.{Given, LastReply}

pub record Past : Type 0 where
  pub book : Book
  pub last_replies : List LastReply
  pub given : Given

abbrev pub nothing_yet : Past
nothing_yet = record { book = record { issued = []; logs = [] }; last_replies = []; given = record { dsas = []; invs = [] } }

-- a last reply of version 2 that is sent at a time is noted
abbrev pub noted_in : List LastReply → ℕ → Option Reply → List LastReply
noted_in told now None = told
noted_in told now (Some r) = if is_some r.last && (r.version == 2) then told ++ record { inv = r.inv; time = now; usn = r.to.seen } ∷ [] else told

abbrev pub noting : Past → ℕ → Option Reply → Past
noting past now sent = record past { last_replies = noted_in past.last_replies now sent }

-- the past with a controller's kept call
pub record Ahead : Type 0 where
  pub past : Past
  pub kept : Option Pending

abbrev pub unmoved : Past → Replica → Ahead
unmoved past r = record { past = past; kept = r.kept }

-- what moves of a controller make of it
abbrev pub after_moves : Past → Replica → List Move → Ahead
after_moves past r moves = let m = fold moved (past.book, r) moves in record { past = record past { book = m.0 }; kept = m.1.kept }

-- what a call makes of it that commits this, if it commits anything
abbrev pub after_commit : Past → Replica → Option Pending → Ahead
after_commit past r None = unmoved past r
after_commit past r (Some p) = after_moves past r (moves_of_commit p (commit_goes r p))
