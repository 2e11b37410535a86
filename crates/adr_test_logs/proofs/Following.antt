-- A new controller and a client's write can be committed by a keeper that takes what may be recorded.
use Rattle.std.proofs.Common.{◌≡◌, Some, Result, Ok, Err, refl, lit<}
use Rattle.adr_call.specs.declared.write.Write.{Write}
use Rattle.adr_model.specs.Change.{Change, after}
use Rattle.adr_model.specs.Replica.{change_in}
use Rattle.adr_model.specs.Place.{identifier}
use Rattle.adr_model.specs.Store.{State}
use Rattle.adr_model.specs.Write.{write, write_meant}
use Rattle.adr_journal.specs.declared.keeper.Keeper.{Ghosts}
use Rattle.adr_records.specs.Logged.{IsLogged, MayBegin, MayBeRecorded}
use Rattle.adr_controller.specs.Able.{written_in}
use Rattle.adr_law_recorded.specs.Laws.{LoggedFits, NewMayBegin, RecordedIsLogged, WrittenIsRecorded}
use Rattle.adr_test_logs.specs.Takes.{IsWrite, TakesAll, new_state}

change_ok : {E : Type 0} (t : Result Change E) (c : Change) → change_in t ≡ Some c → t ≡ Ok c
change_ok (Ok x) c is = cc is
change_ok (Err e) c is = absurd (cc is)

pub recorded : WrittenIsRecorded → (what : Write) → IsWrite what → (s : State) (c : Change) → IsLogged s → written_in what 0 s ≡ Some c → MayBeRecorded s c
recorded law what typed s c is makes = let meant = write_meant what in law s meant 0 c is typed.0 typed.1 (lit< tt) (change_ok (write s meant 0) c makes)

-- a keeper takes all, where it takes what may be recorded
pub takes_all : {K : Type 0} (k : Ghosts K) → NewMayBegin → WrittenIsRecorded → RecordedIsLogged → LoggedFits
    → ((s : State) → MayBegin s → k.can_begin s) → ((s : State) → IsLogged s → k.is_formed s) → ((s : State) → k.is_formed s → IsLogged s)
    → ((s : State) (c : Change) → MayBeRecorded s c → k.can_follow s c) → TakesAll k
takes_all k new written stays fits begins formed logged follows =
    let first = new (identifier 0xa0) (identifier 0xa1) refl refl in
    record {
      begins = begins new_state first;
      formed = formed new_state first.logged;
      follows = λ what is s c kept made.
          let may = recorded written what is s c (logged s kept) made in
          let left = stays s c may in
          record { follows = follows s c may; fits = fits (after s c) left; formed = formed (after s c) left };
    }
