use Rattle.adr_law_headline.proofs.ExportableRuns.{runs_are_exportable}
use Rattle.adr_law_headline.proofs.exported.directories_are_exportable.Goals as goal

pub returns : goal.returns
returns c = runs_are_exportable
