use Rattle.adr_law_calls.proofs.TakenLeaves.{taken_from}
use Rattle.adr_law_calls.proofs.TakenLacked.{taken_idle, taken_lacked}
use Rattle.adr_law_calls.proofs.taking.replies_bring_what_was_lacking.Goals as goal

pub returns-clause-from : goal.returns-clause-from
returns-clause-from c = taken_from

pub returns-clause-lacked : goal.returns-clause-lacked
returns-clause-lacked c = taken_lacked

pub returns-clause-idle : goal.returns-clause-idle
returns-clause-idle c = taken_idle
