use Rattle.std.proofs.Common.{inl, refl, sym, ◌∙◌, ap, subst}
use Rattle.adr_controller.specs.Running.{IsInOrder}
use Rattle.adr_controller.proofs.Orders.{none_when_down}
use Rattle.adr_controller.proofs.controller.Controller.running.Goals as goal

pub returns-then-self-clause-err : goal.returns-then-self-clause-err
returns-then-self-clause-err g c =
    let order = subst (λ v. IsInOrder g.K.Keeper v) c.self.view_is c.self.invariant in
    let down = sym (ap (λ v. v.down) c.self.view_is) ∙ c.if-self.true in
    inl (refl, down, none_when_down g.K.Keeper c.args.self.now order down)

pub returns-in-Some-clause-ok : goal.returns-in-Some-clause-ok
returns-in-Some-clause-ok g c =
    let order = subst (λ v. IsInOrder g.K.Keeper v) c.self.view_is c.self.invariant in
    let is = sym (ap (λ v. v.state) c.self.view_is) ∙ c.in-Some.is in
    let up = order.up c.in-Some.state is in
    (is, up.1, up.0.formed)
