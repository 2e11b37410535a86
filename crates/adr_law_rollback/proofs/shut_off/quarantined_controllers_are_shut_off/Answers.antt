use Rattle.adr_law_rollback.proofs.Refusing.{refused}
use Rattle.adr_law_rollback.proofs.shut_off.quarantined_controllers_are_shut_off.Goals as goal

pub returns : goal.returns
returns c = refused
