use Rattle.std.proofs.Common.{⊎_elim, subst, sym, map}
use Rattle.adr_model.specs.Member.{Member}
use Rattle.adr_model.specs.Update.{Key}
use Rattle.adr_model.proofs.Members.{member_left, member_right, member_of_either, mapped_member, member_mapped, none_passes, each_fails, in_filter, of_filter, all_pass, each_passes}
use Rattle.adr_law_knowledge.proofs.members.lists_have_members.Goals as goal

pub returns-clause-appended : goal.returns-clause-appended
returns-clause-appended c = λ xs ys x. (λ m. member_of_either xs ys x m, λ e. ⊎_elim (λ l. member_left xs ys x l) (λ r. member_right xs ys x r) e)

pub returns-clause-mapped : goal.returns-clause-mapped
returns-clause-mapped c = λ key xs k. (λ m. mapped_member key xs k m, λ t. subst (λ (l : Key). Member l (map key xs)) (sym t.2) (member_mapped key xs t.0 t.1))

pub returns-clause-filtered : goal.returns-clause-filtered
returns-clause-filtered c = λ test xs x. (λ m. of_filter test xs x m, λ t. in_filter test xs x t.0 t.1)

pub returns-clause-all : goal.returns-clause-all
returns-clause-all c = λ test xs. (λ e. each_passes test xs e, λ e. all_pass test xs e)

pub returns-clause-none : goal.returns-clause-none
returns-clause-none c = λ test xs. (λ e. each_fails test xs e, λ e. none_passes test xs e)
