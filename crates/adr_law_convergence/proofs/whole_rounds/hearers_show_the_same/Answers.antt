use Rattle.adr_law_convergence.proofs.Directories.{hearers_show_the_same}
use Rattle.adr_law_convergence.proofs.whole_rounds.hearers_show_the_same.Goals as goal

pub returns : goal.returns
returns c = hearers_show_the_same
