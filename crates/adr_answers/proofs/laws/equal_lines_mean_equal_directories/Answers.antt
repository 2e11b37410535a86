use Rattle.adr_answers.proofs.ReportLines.{directories_divide, directories_same, directories_same_below}
use Rattle.adr_answers.proofs.laws.equal_lines_mean_equal_directories.Goals as goal

pub returns-clause-alone : goal.returns-clause-alone
returns-clause-alone c = directories_same

pub returns-clause-below : goal.returns-clause-below
returns-clause-below c = directories_same_below

pub returns-clause-followed : goal.returns-clause-followed
returns-clause-followed c = directories_divide
