use Rattle.std.proofs.Common.{[], ⊎_elim}
use Rattle.adr_law_knowledge.proofs.Lists.{sorted_rises, of_sorted, in_sorted, same_members_one_list, not_both_ways}
use Rattle.adr_law_knowledge.proofs.members.rising_lists_are_sets.Goals as goal

pub returns-clause-rises : goal.returns-clause-rises
returns-clause-rises c = λ order total exact ks. sorted_rises order total exact ks [] tt

pub returns-clause-members : goal.returns-clause-members
returns-clause-members c = λ order total exact ks k. (λ m. ⊎_elim (λ n. n) (λ n. absurd n) (of_sorted order total exact ks [] k m), λ m. in_sorted order total exact ks [] k m)

pub returns-clause-same : goal.returns-clause-same
returns-clause-same c = λ order total exact ks ls r s to back. same_members_one_list order (not_both_ways order total exact) ks ls r s to back
