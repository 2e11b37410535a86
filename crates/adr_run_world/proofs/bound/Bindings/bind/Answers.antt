use Rattle.std.proofs.Common.{ap, sym, subst, ◌∙◌, Some}
use Rattle.adr_model.specs.Convergence.{IsUnbound}
use Rattle.adr_model.specs.World.{bound}
use Rattle.adr_run_world.proofs.Tables.{bound_last}
use Rattle.adr_run_world.proofs.bound.Bindings.bind.Goals as goal

pub returns-in_ok-insert-in-Some-clause-ok : goal.returns-in_ok-insert-in-Some-clause-ok
returns-in_ok-insert-in-Some-clause-ok g c =
    bound_last c.self.inside.table c.insert.new.self.entries c.in_ok-name-in-Some.name c.in-Some.made c.args.name.now (c.in_ok-name-in-Some.ensures.ok ∙ c.as_str.ensures)
    (subst (λ xs. IsUnbound xs c.args.name.now) (sym c.self.view_is) c.requires) c.in_ok-insert-in-Some.ensures.entries
    ∙ ap (λ xs. bound xs c.args.name.now (Some c.in-Some.made)) c.self.view_is ∙ ap (bound c.args.self.now c.args.name.now) (sym c.in-Some.is)
