use Rattle.std.proofs.Common.{inl, sym, subst, Some, None}
use Rattle.std.proofs.lemmas.Result.{err_from_is_err_and}
use Rattle.adr_controller.specs.declared.refusal.Hindrance.TheVariants.{NoMemory}
use Rattle.adr_controller.specs.Did.{Calls}
use Rattle.adr_controller.proofs.Calling.{committed_so, hindered_so, unmade}
use Rattle.adr_controller.proofs.controller.Controller.conclude.Goals as goal

pub returns-in_err-answer-clause-calls : goal.returns-in_err-answer-clause-calls
returns-in_err-answer-clause-calls g c = λ changes made.
    let law = g.met.K.Keeper in
    let p = err_from_is_err_and c.from_residual.result c.from_residual.ensures.1 in
    unmade g.K.Keeper law.leaves law.only_now c.args.self.now made.in_order changes made.state made.in_memory _
    (inl (sym (hindered_so NoMemory c.from_residual.result p.0 p.1 p.2)))

pub returns-in_err-commit-clause-calls : goal.returns-in_err-commit-clause-calls
returns-in_err-commit-clause-calls g c = λ changes made.
    let old = c.args.self.now in
    let new = c.commit.new.self in
    let how = c.in_err-commit.field-0.0 in
    let ends = c.in_err-commit.ensures in
    let p = err_from_is_err_and c.from_residual-in_err-commit.result c.from_residual-in_err-commit.ensures.1 in
    subst (λ h. Calls g.K.Keeper changes old new h) (hindered_so how c.from_residual-in_err-commit.result p.0 p.1 p.2)
    (committed_so g.K.Keeper changes c.args.change old new (Some how) made ends.down ends.failed ends.stays ends.commits)

pub returns-clause-calls : goal.returns-clause-calls
returns-clause-calls g c = λ changes made.
    let ends = c.in_ok-commit.ensures in
    committed_so g.K.Keeper changes c.args.change c.args.self.now c.commit.new.self None made ends.down ends.failed ends.stays ends.commits
