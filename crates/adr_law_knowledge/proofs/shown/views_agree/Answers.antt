use Rattle.adr_law_knowledge.proofs.Shows.{standing_same, winner_same, live_same, live_rows_same, directory_same}
use Rattle.adr_law_knowledge.proofs.shown.views_agree.Goals as goal

pub returns-clause-standing : goal.returns-clause-standing
returns-clause-standing c = λ issued k view one within v. standing_same issued k view one within v

pub returns-clause-winner : goal.returns-clause-winner
returns-clause-winner c = λ issued k view one within v key stand. winner_same issued k view one within v key stand

pub returns-clause-live : goal.returns-clause-live
returns-clause-live c = λ issued k view one within v. live_same issued k view one within v

pub returns-clause-rows : goal.returns-clause-rows
returns-clause-rows c = λ issued k view one within v. live_rows_same issued k view one within v

pub returns-clause-directory : goal.returns-clause-directory
returns-clause-directory c = λ issued k view one within v. directory_same issued k view one within v
