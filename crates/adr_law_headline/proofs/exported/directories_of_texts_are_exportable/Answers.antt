use Rattle.adr_law_headline.proofs.ExportableRuns.{texts_are_exportable}
use Rattle.adr_law_headline.proofs.exported.directories_of_texts_are_exportable.Goals as goal

pub returns : goal.returns
returns c = texts_are_exportable
