use Rattle.std.proofs.Common.{◌≡◌, Some}
use Rattle.adr_model.specs.Store.{State}
use Rattle.adr_model.specs.Change.{Change}
use Rattle.adr_model.specs.Write.{Revive}
use Rattle.adr_records.specs.Logged.{IsLogged}
use Rattle.adr_law_recorded.specs.Laws.{CollectedIsRecorded, LoggedFits, QuarantineIsRecorded, RecordedIsLogged, TakenIsRecorded, UpgradeIsRecorded, WrittenIsRecorded}
use Rattle.adr_law_controller.specs.Called.{Call, Does, Revives, Serves, Takes, change_of_call, IsGivenCall}
use Rattle.adr_law_controller.proofs.Follows.{Recorded, called_follows, served_follows, taken_follows, written_follows}
use Rattle.adr_law_controller.proofs.given_calls_follow.Goals as goal

module _ (logged : RecordedIsLogged) (fits : LoggedFits) (writes : WrittenIsRecorded) (takes : TakenIsRecorded) (collects : CollectedIsRecorded) (upgrades : UpgradeIsRecorded) (quarantines : QuarantineIsRecorded) where
  follows : (call : Call) → IsGivenCall call → (s : State) (c : Change) → IsLogged s → change_of_call call s ≡ Some c → Recorded s c
  follows (Does what now) given s c is makes = called_follows logged fits writes collects upgrades what now given.0 given.1 given.2 s c is makes
  follows (Revives image guid parent text now) given s c is makes = written_follows logged fits writes (Revive image guid parent text) now given.0 given.1 given.2 s c is makes
  follows (Serves request now) given s c is makes = served_follows logged fits quarantines request now s c is makes
  follows (Takes reply) given s c is makes = taken_follows logged fits takes quarantines reply given.0 given.1 s c is makes

pub returns : goal.returns
returns g c = λ call given s change formed makes.
    let so = follows c.recorded_changes_leave_logged_states.ensures c.logged_states_fit.ensures c.writes_are_recorded.ensures c.taken_replies_are_recorded.ensures c.collections_are_recorded.ensures c.upgrades_are_recorded.ensures c.quarantines_are_recorded.ensures
    call given s change formed makes in
    record { follows = so.follows; fits = so.fits; formed = so.formed }
