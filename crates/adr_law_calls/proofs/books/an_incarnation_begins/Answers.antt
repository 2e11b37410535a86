use Rattle.adr_model.specs.LocalLog.{no_log}
use Rattle.adr_model.specs.LocalLog.{first_log}
use Rattle.adr_law_calls.proofs.Tables.{entry_itself, entry_other}
use Rattle.adr_law_calls.proofs.Beginning.{begun_later, begun_sound}
use Rattle.adr_law_calls.proofs.books.an_incarnation_begins.Goals as goal

pub returns-clause-later : goal.returns-clause-later
returns-clause-later c = begun_later

pub returns-clause-sound : goal.returns-clause-sound
returns-clause-sound c = begun_sound

pub returns-clause-own : goal.returns-clause-own
returns-clause-own c = λ s d. entry_itself s.logs no_log d.inv (first_log d.store.usn d.store.rows)

pub returns-clause-others : goal.returns-clause-others
returns-clause-others c = λ s d i other. entry_other s.logs no_log d.inv i (first_log d.store.usn d.store.rows) other
