use Rattle.std.proofs.Common.{IfSome, Option, subst, sym}
use Rattle.adr_token.specs.Words.{word_at}
use Rattle.adr_call.specs.declared.call.Call.{Call}
use Rattle.adr_session.specs.Lines.{IsAlwaysGiven}
use Rattle.adr_session.proofs.LineCalls.{said_given}
use Rattle.adr_session.proofs.lines.call_said.Goals as goal

pub returns-in-Ok-clause-given : goal.returns-in-Ok-clause-given
returns-in-Ok-clause-given c =
    subst (λ (call : Option Call). IfSome call IsAlwaysGiven) (sym c.call_of.ensures)
    (said_given c.lines_say_given_calls.ensures.given (word_at c.args.line.now) c.in-Ok.event c.in-Ok.ensures)
