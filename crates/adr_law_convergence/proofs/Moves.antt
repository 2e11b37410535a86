-- Moves only ever put what was found, what was safe or what a change leaves.
use Rattle.std.proofs.Common.{Bool, true, false, [], ◌∷◌, List, fold, nat_le, ◌==◌, if◌then◌else◌}
use Rattle.adr_disk.specs.declared.memory.Crash.TheVariants.{Kept, Lost, Torn}
use Rattle.adr_model.specs.Store.{State}
use Rattle.adr_model.specs.Change.{after}
use Rattle.adr_disk.specs.declared.memory.Mishap.TheVariants.{Fails, Stops}
use Rattle.adr_model.specs.Replica.{Pending, Replica, Book, Move, Begin, Settle, Forget, moved, Went, Passed, Met, moves_of_commit, moves_of_start}

module _ (P : State → Type 0) where
  -- what holds of both states of a controller that was moved
  abbrev pub OfBoth : Book × Replica → Type 0
  OfBoth m = P m.1.safe × P m.1.read

  module _ (book : Book) (r : Replica) (old : P r.safe × P r.read) where
    pub settling : OfBoth (moved (book, r) Settle)
    settling = (old.1, old.1)

    pub starting : (g : Went) → OfBoth (fold moved (book, r) (moves_of_start g))
    starting (Passed left) = (old.1, old.1)
    starting (Met place Fails) = old
    starting (Met place (Stops Lost)) = (old.0, old.0)
    starting (Met place (Stops Kept)) = (old.1, old.1)
    starting (Met place (Stops Torn)) = (old.1, old.1)

    module _ (p : Pending) (new : P (after r.safe p.change)) where
      where_tested : (b : Bool) (ms : List Move) → OfBoth (fold moved (book, r) ms) → OfBoth (fold moved (book, r) (if b then ms else []))
      where_tested true ms h = h
      where_tested false ms h = old

      pub committing : (g : Went) → OfBoth (fold moved (book, r) (moves_of_commit p g))
      committing (Passed left) = (new, new)
      committing (Met place Fails) = where_tested (place == 3) (Begin p ∷ []) (old.0, new)
      committing (Met place (Stops Lost)) = where_tested (place == 3) (Begin p ∷ Forget ∷ []) (old.0, old.0)
      committing (Met place (Stops Kept)) = where_tested (nat_le 2 place) (Begin p ∷ Settle ∷ []) (new, new)
      committing (Met place (Stops Torn)) = where_tested (nat_le 2 place) (Begin p ∷ Settle ∷ []) (new, new)
