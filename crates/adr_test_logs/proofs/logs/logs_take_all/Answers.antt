use Rattle.adr_test_logs.proofs.Following.{takes_all}
use Rattle.adr_test_logs.proofs.logs.logs_take_all.Goals as goal

pub returns : goal.returns
returns c = takes_all _ c.new_controllers_may_begin.ensures c.writes_are_recorded.ensures c.recorded_changes_leave_logged_states.ensures c.logged_states_fit.ensures (λ s m. m) (λ s m. m) (λ s m. m) (λ s d m. m)
