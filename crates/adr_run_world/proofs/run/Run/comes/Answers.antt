use Rattle.std.proofs.Common.{subst}
use Rattle.adr_call.specs.declared.event.Coming.{Coming}
use Rattle.adr_call.specs.declared.event.Event.TheVariants.{Comes}
use Rattle.adr_law_recorded.specs.Typed.{IsTyped}
use Rattle.adr_model.specs.Convergence.{MayCome}
use Rattle.adr_model.specs.Step.{comes}
use Rattle.adr_run_world.specs.Run.{world_of}
use Rattle.adr_run_world.proofs.Answered.{of_kind}
use Rattle.adr_run_world.proofs.run.Run.comes.Goals as goal

pub controller-requires-clause-dsa : goal.controller-requires-clause-dsa
controller-requires-clause-dsa c = (subst (λ (how : Coming). IsTyped (Comes c.args.name.now c.args.inv how)) c.in-Fresh.is c.requires.typed).0

pub controller-requires-clause-inv : goal.controller-requires-clause-inv
controller-requires-clause-inv c = (subst (λ (how : Coming). IsTyped (Comes c.args.name.now c.args.inv how)) c.in-Fresh.is c.requires.typed).1

pub controller-requires-clause-new : goal.controller-requires-clause-new
controller-requires-clause-new c = (subst (MayCome (world_of c.args.self.now) c.args.name.now c.args.inv) c.in-Fresh.is c.requires.may).0

pub returns-in-Fresh-clause-done : goal.returns-in-Fresh-clause-done
returns-in-Fresh-clause-done c =
    of_kind (comes (world_of c.args.self.now) c.args.name.now c.args.inv) c.args.how.now _ (world_of c.controller.new.self) c.controller.result c.in-Fresh.is c.controller.ensures.done

pub install-requires-clause-dsa : goal.install-requires-clause-dsa
install-requires-clause-dsa c = (subst (λ (how : Coming). IsTyped (Comes c.args.name.now c.args.inv how)) c.in-Installed.is c.requires.typed).0

pub install-requires-clause-inv : goal.install-requires-clause-inv
install-requires-clause-inv c = (subst (λ (how : Coming). IsTyped (Comes c.args.name.now c.args.inv how)) c.in-Installed.is c.requires.typed).1

pub install-requires-clause-new : goal.install-requires-clause-new
install-requires-clause-new c = (subst (MayCome (world_of c.args.self.now) c.args.name.now c.args.inv) c.in-Installed.is c.requires.may).0

pub returns-in-Installed-clause-done : goal.returns-in-Installed-clause-done
returns-in-Installed-clause-done c =
    of_kind (comes (world_of c.args.self.now) c.args.name.now c.args.inv) c.args.how.now _ (world_of c.install.new.self) c.install.result c.in-Installed.is c.install.ensures.done

pub restore-requires-clause-inv : goal.restore-requires-clause-inv
restore-requires-clause-inv c = subst (λ (how : Coming). IsTyped (Comes c.args.name.now c.args.inv how)) c.in-Restored.is c.requires.typed

pub returns-in-Restored-clause-done : goal.returns-in-Restored-clause-done
returns-in-Restored-clause-done c =
    of_kind (comes (world_of c.args.self.now) c.args.name.now c.args.inv) c.args.how.now _ (world_of c.restore.new.self) c.restore.result c.in-Restored.is c.restore.ensures.done
