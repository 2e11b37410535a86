use Rattle.std.proofs.Common.{Some, None}
use Rattle.adr_law_knowledge.proofs.Winners.{is_won, none_won, of_winners, in_winners}
use Rattle.adr_law_knowledge.proofs.Standing.{of_standing, in_standing}
use Rattle.adr_law_knowledge.proofs.shown.winners_are_greatest.Goals as goal

pub returns-clause-some : goal.returns-clause-some
returns-clause-some c = λ us key u e. is_won us key (Some u) e

pub returns-clause-none : goal.returns-clause-none
returns-clause-none c = λ us key. (λ e. is_won us key None e, λ none. none_won us key none)

pub returns-clause-all : goal.returns-clause-all
returns-clause-all c = λ us u. (λ m. of_winners us u m, λ e. in_winners us u e)

pub returns-clause-stands : goal.returns-clause-stands
returns-clause-stands c = λ us o. (λ m. of_standing us o m, λ s. in_standing us o s)
