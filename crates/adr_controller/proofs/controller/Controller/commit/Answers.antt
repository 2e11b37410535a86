use Rattle.std.proofs.Common.{◌≡◌, ◌∙◌, refl, sym, ap, subst, true, Some, None, rules}
use Rattle.adr_controller.specs.declared.refusal.Hindrance.TheVariants.{DiskFault}
use Rattle.adr_controller.specs.Running.{IsInOrder}
use Rattle.adr_controller.specs.Did.{KeepsChange, up_behind}
use Rattle.adr_controller.proofs.Keeps.{of_state, same_failed, same_hindered, same_running}
use Rattle.adr_controller.proofs.controller.Controller.commit.Goals as goal

pub returns-then-self-clause-commits : goal.returns-then-self-clause-commits
returns-then-self-clause-commits g c = λ s is.
    let order = subst (λ v. IsInOrder g.K.Keeper v) c.self.view_is c.self.invariant in
    let down : c.args.self.now.down ≡ true = sym (ap (λ v. v.down) c.self.view_is) ∙ c.if-self.true in
    absurd (cc ((order.up s is).1, down))

pub returns-in-Ok-clause-commits : goal.returns-in-Ok-clause-commits
returns-in-Ok-clause-commits g c = λ s is.
    let k = g.K.Keeper in
    let inside = c.self.inside in
    let keeper = c.keep.new.keeper in
    let t = c.keep.new.state in
    of_state k c.in-Some.state s c.args.change inside.keeper inside.state inside.down c.args.self.now (up_behind None keeper t) _ None c.self.view_is c.in-Some.is c.if-self.false is
    (same_running k keeper (Some t) t inside.down refl c.if-self.false) c.in-Ok.ensures.commits

pub returns-in-Err-DiskFault-clause-commits : goal.returns-in-Err-DiskFault-clause-commits
returns-in-Err-DiskFault-clause-commits g c = λ s is.
    let k = g.K.Keeper in
    let inside = c.self.inside in
    let keeper = c.keep.new.keeper in
    let t = c.keep.new.state in
    let x = c.in-Some.state in
    let kept = subst (λ h. KeepsChange k x c.args.change (up_behind None inside.keeper x) (up_behind (Some h) keeper t) (Some h)) c.in-Err-DiskFault.field-0-is c.in-Err-DiskFault.ensures in
    of_state k x s c.args.change inside.keeper inside.state inside.down c.args.self.now (up_behind (Some DiskFault) keeper t) _ (Some DiskFault) c.self.view_is c.in-Some.is c.if-self.false is
    (same_failed k keeper c.forget.new.state t inside.down c.forget.ensures c.if-self.false) kept.commits

pub returns-in-Err-clause-commits : goal.returns-in-Err-clause-commits
returns-in-Err-clause-commits g c = λ s is.
    let k = g.K.Keeper in
    let inside = c.self.inside in
    let keeper = c.keep.new.keeper in
    let t = c.keep.new.state in
    let h = c.in-Err.hindrance in
    of_state k c.in-Some.state s c.args.change inside.keeper inside.state inside.down c.args.self.now (up_behind (Some h) keeper t) _ (Some h) c.self.view_is c.in-Some.is c.if-self.false is
    (same_hindered k h (search rules) keeper t inside.down c.if-self.false) c.in-Err.ensures.commits
