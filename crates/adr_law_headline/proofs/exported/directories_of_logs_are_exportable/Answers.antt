use Rattle.adr_law_headline.proofs.ShownExportable.{logs_are_exportable}
use Rattle.adr_law_headline.proofs.exported.directories_of_logs_are_exportable.Goals as goal

pub returns : goal.returns
returns c = logs_are_exportable
