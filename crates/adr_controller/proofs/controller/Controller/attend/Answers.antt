use Rattle.std.proofs.Common.{refl, subst, sym}
use Rattle.std.specs.Fn.{FnOnceReturnsAtMut}
use Rattle.adr_controller.specs.Running.{IsInOrder}
use Rattle.adr_controller.proofs.controller.Controller.attend.Goals as goal

pub returns-clause-acted : goal.returns-clause-acted
returns-clause-acted g c =
    let acted : FnOnceReturnsAtMut g.A.FnOnce c.args.act c.self.inside.keeper c.act.result c.act.new.arg2 = record { shown = _; shows = refl; left = _; met = c.act.ensures; leaves = refl } in
    subst (λ v. FnOnceReturnsAtMut g.A.FnOnce c.args.act v.keeper tt c.act.new.arg2) c.self.view_is acted

pub invariant_of-self : goal.invariant_of-self
invariant_of-self g c =
    let order = subst (λ v. IsInOrder g.K.Keeper v) c.self.view_is c.self.invariant in
    subst (λ v. IsInOrder g.K.Keeper (record v { keeper = c.act.new.arg2 })) (sym c.self.view_is) (c.requires.in_order c.act.new.arg2 (returns-clause-acted g c) order)
