use Rattle.adr_law_headline.proofs.PrintableRuns.{runs_are_printable}
use Rattle.adr_law_headline.proofs.directories_are_printable.Goals as goal

pub returns : goal.returns
returns c = runs_are_printable
