use Rattle.adr_run_print.proofs.PrintLaws.{allowed_spells, printed_read, read_again}
use Rattle.adr_run_print.proofs.laws.events_are_read_again.Goals as goal

pub returns-clause-lines : goal.returns-clause-lines
returns-clause-lines c = allowed_spells

pub returns-clause-printed : goal.returns-clause-printed
returns-clause-printed c = printed_read

pub returns-clause-again : goal.returns-clause-again
returns-clause-again c = read_again
