-- What the moves of a call leave of a replica, by how the call's device calls went.
use Rattle.std.proofs.Common.{◌≡◌, refl, List, [], ◌∷◌, Bool, true, false, Some, None, fold}
use Rattle.adr_io.specs.declared.Fault.TheVariants.{Failed as failed_call}
use Rattle.adr_call.specs.declared.outcome.Outcome.{Outcome}
use Rattle.adr_model.specs.Update.{Identifier}
use Rattle.adr_disk.specs.declared.memory.Mishap.TheVariants.{Fails, Stops}
use Rattle.adr_model.specs.Replica.{Replica, Pending, Book, Move, Begin, Settle, Forget, moved, Went, Passed, Met, Up, Failed, standing_after, outcome_after, moves_of_commit, moves_of_start}
use Rattle.adr_law_journal.specs.Replicas.{standing_of}
use Rattle.adr_run_replica.specs.Settled.{of_fault}

-- a call that leaves the controller up has passed
pub up_answers : (g : Went) (o : Outcome) → Up ≡ standing_after Failed g → outcome_after g o ≡ o
up_answers (Passed left) o is = refl
up_answers (Met place (Stops how)) o is = absurd (cc is)
up_answers (Met place Fails) o is = absurd (cc is)

-- and one that failed tells whether the disk stopped
pub fault_answers : (g : Went) (o : Outcome) (down : Bool) → standing_of (Some failed_call) down Failed ≡ standing_after Failed g → outcome_after g o ≡ of_fault down
fault_answers (Passed left) o true is = absurd (cc is)
fault_answers (Passed left) o false is = absurd (cc is)
fault_answers (Met place (Stops how)) o true is = refl
fault_answers (Met place (Stops how)) o false is = absurd (cc is)
fault_answers (Met place Fails) o true is = absurd (cc is)
fault_answers (Met place Fails) o false is = refl

-- no call is kept behind a commit that passed
pub none_kept : (g : Went) (book : Book) (r : Replica) (p : Pending) → Up ≡ standing_after Failed g → (fold moved (book, r) (moves_of_commit p g)).1.kept ≡ None
none_kept (Passed left) book r p is = refl
none_kept (Met place (Stops how)) book r p is = absurd (cc is)
none_kept (Met place Fails) book r p is = absurd (cc is)

-- nor behind a start
pub none_kept_started : (g : Went) (book : Book) (r : Replica) → Up ≡ standing_after Failed g → (fold moved (book, r) (moves_of_start g)).1.kept ≡ None
none_kept_started (Passed left) book r is = refl
none_kept_started (Met place (Stops how)) book r is = absurd (cc is)
none_kept_started (Met place Fails) book r is = absurd (cc is)

-- no move changes a name or an identifier
pub same_name : (moves : List Move) (book : Book) (r : Replica) → (fold moved (book, r) moves).1.name ≡ r.name
same_name [] book r = refl
same_name (Begin p ∷ moves) book r = same_name moves (moved (book, r) (Begin p)).0 (moved (book, r) (Begin p)).1
same_name (Settle ∷ moves) book r = same_name moves (moved (book, r) Settle).0 (moved (book, r) Settle).1
same_name (Forget ∷ moves) book r = same_name moves (moved (book, r) Forget).0 (moved (book, r) Forget).1

pub same_dsa : (moves : List Move) (book : Book) (r : Replica) (dsa : Identifier) → r.read.dsa ≡ dsa → r.safe.dsa ≡ dsa
    → ((fold moved (book, r) moves).1.read.dsa ≡ dsa) × ((fold moved (book, r) moves).1.safe.dsa ≡ dsa)
same_dsa [] book r dsa reads keeps = (reads, keeps)
same_dsa (Begin p ∷ moves) book r dsa reads keeps = same_dsa moves (moved (book, r) (Begin p)).0 (moved (book, r) (Begin p)).1 dsa keeps keeps
same_dsa (Settle ∷ moves) book r dsa reads keeps = same_dsa moves (moved (book, r) Settle).0 (moved (book, r) Settle).1 dsa reads reads
same_dsa (Forget ∷ moves) book r dsa reads keeps = same_dsa moves (moved (book, r) Forget).0 (moved (book, r) Forget).1 dsa keeps keeps
