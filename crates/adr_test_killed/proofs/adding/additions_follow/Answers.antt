use Rattle.adr_model.specs.Change.{after}
use Rattle.adr_test_killed.proofs.Following.{recorded}
use Rattle.adr_test_killed.proofs.adding.additions_follow.Goals as goal

pub returns : goal.returns
returns g c = λ number what is s d formed made.
    let follows = recorded c.writes_are_recorded.ensures number what is s d formed made in
    let logged = c.recorded_changes_leave_logged_states.ensures s d follows in
    record { follows = follows; fits = c.logged_states_fit.ensures (after s d) logged; formed = logged }
