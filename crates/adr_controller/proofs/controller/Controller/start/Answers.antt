use Rattle.std.proofs.Common.{rules, ⊎_elim, ◌∙◌, ap, subst}
use Rattle.adr_controller.specs.Running.{IsInOrder}
use Rattle.adr_controller.proofs.Orders.{none_when_down}
use Rattle.adr_controller.proofs.controller.Controller.start.Goals as goal

pub invariant_of-self-in-Err : goal.invariant_of-self-in-Err
invariant_of-self-in-Err g c =
    let order = subst (λ v. IsInOrder g.K.Keeper v) c.self.view_is c.self.invariant in
    let none = ap (λ v. v.state) c.self.view_is ∙ ⊎_elim (λ down. none_when_down g.K.Keeper c.args.self.now order down) (λ none. none) c.requires in
    record {
      up = λ s is. absurd (cc (is, none));
      faulty = λ _ up. ⊎_elim (λ failed. (c.in-Err.ensures.fault failed).1) (λ same. same ∙ c.self.invariant.faulty none up) c.in-Err.ensures.stays;
    }

pub returns-in-Err-clause-err : goal.returns-in-Err-clause-err
returns-in-Err-clause-err g c =
    let order = subst (λ v. IsInOrder g.K.Keeper v) c.self.view_is c.self.invariant in
    let none = ap (λ v. v.state) c.self.view_is ∙ ⊎_elim (λ down. none_when_down g.K.Keeper c.args.self.now order down) (λ none. none) c.requires in
    (none, ap (λ v. v.down) c.self.view_is)

pub returns-in-Ok-clause-ok : goal.returns-in-Ok-clause-ok
returns-in-Ok-clause-ok g c =
    let found = c.in-Ok.ensures.ok in
    record { state = c.in-Ok.state; log = found.0; in_memory = search rules; up = search rules; at = found.1; told = search rules; within = c.in-Ok.ensures.within_found found.0 found.1 }
