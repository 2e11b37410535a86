use Rattle.std.proofs.Common.{◌∙◌, sym, ap, [], ◌++◌, append-nil}
use Rattle.std.specs.List.{cons_option}
use Rattle.adr_collect.specs.Covering.{covering_with}
use Rattle.adr_collect.proofs.deaths.Dead.add.Goals as goal

pub returns-clause-objects : goal.returns-clause-objects
returns-clause-objects c = c.in_ok-push.ensures.items ∙ ap (λ o. c.args.self.now.objects.items ++ cons_option o []) c.in-Some.ensures.dead

pub returns-clause-covering : goal.returns-clause-covering
returns-clause-covering c = c.in_ok-cover.ensures.raised ∙ ap (covering_with c.args.self.now.covering c.args.death.now) c.in-Some.ensures.dead

pub returns-in_default-clause-objects : goal.returns-in_default-clause-objects
returns-in_default-clause-objects c = sym (append-nil c.args.self.now.objects.items) ∙ ap (λ o. c.args.self.now.objects.items ++ cons_option o []) c.in_default.ensures.dead

pub returns-in_default-clause-covering : goal.returns-in_default-clause-covering
returns-in_default-clause-covering c = ap (covering_with c.args.self.now.covering c.args.death.now) c.in_default.ensures.dead
