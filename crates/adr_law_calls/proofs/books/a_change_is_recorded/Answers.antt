use Rattle.adr_model.specs.LocalLog.{no_log}
use Rattle.adr_model.specs.Replica.{log_of, with_change}
use Rattle.adr_law_calls.proofs.Tables.{entry_itself, entry_other}
use Rattle.adr_law_calls.proofs.Recorded.{recorded_later, recorded_sound}
use Rattle.adr_law_calls.proofs.books.a_change_is_recorded.Goals as goal

pub returns-clause-later : goal.returns-clause-later
returns-clause-later c = recorded_later

pub returns-clause-sound : goal.returns-clause-sound
returns-clause-sound c = recorded_sound

pub returns-clause-own : goal.returns-clause-own
returns-clause-own c = λ s inv p. entry_itself s.logs no_log inv (with_change (log_of s inv) p.change)

pub returns-clause-others : goal.returns-clause-others
returns-clause-others c = λ s inv p i other. entry_other s.logs no_log inv i (with_change (log_of s inv) p.change) other
