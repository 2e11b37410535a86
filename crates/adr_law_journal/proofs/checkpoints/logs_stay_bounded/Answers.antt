use Rattle.adr_law_journal.proofs.Bounds.{records_stay, areas_stay, files_stay}
use Rattle.adr_law_journal.proofs.checkpoints.logs_stay_bounded.Goals as goal

pub returns : goal.returns
returns c = record { records = records_stay; areas = areas_stay; files = files_stay }
