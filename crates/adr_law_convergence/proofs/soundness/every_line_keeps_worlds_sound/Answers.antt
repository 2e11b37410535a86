use Rattle.adr_law_convergence.proofs.Converging.{runs_stay_clean}
use Rattle.adr_law_convergence.proofs.Issuing.{stays_clean, stays_unclean}
use Rattle.adr_law_convergence.proofs.Lines.{stays_sound, runs_are_sound}
use Rattle.adr_law_convergence.proofs.soundness.every_line_keeps_worlds_sound.Goals as goal

pub returns-clause-lines : goal.returns-clause-lines
returns-clause-lines c = stays_sound

pub returns-clause-unclean : goal.returns-clause-unclean
returns-clause-unclean c = stays_unclean

pub returns-clause-runs : goal.returns-clause-runs
returns-clause-runs c = runs_are_sound

pub returns-clause-clean : goal.returns-clause-clean
returns-clause-clean c = stays_clean

pub returns-clause-runs_clean : goal.returns-clause-runs_clean
returns-clause-runs_clean c = runs_stay_clean
