use Rattle.adr_answers.proofs.ReportLines.{marks_same, vectors_same}
use Rattle.adr_answers.proofs.laws.equal_lines_mean_equal_knowledge.Goals as goal

pub returns-clause-vectors : goal.returns-clause-vectors
returns-clause-vectors c = vectors_same

pub returns-clause-marks : goal.returns-clause-marks
returns-clause-marks c = marks_same
