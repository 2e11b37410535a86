use Rattle.adr_session.proofs.Saying.{lines_given, lines_typed}
use Rattle.adr_session.proofs.line_laws.lines_say_given_calls.Goals as goal

pub returns-clause-typed : goal.returns-clause-typed
returns-clause-typed c = lines_typed

pub returns-clause-given : goal.returns-clause-given
returns-clause-given c = lines_given
