use Rattle.std.proofs.Common.{subst}
use Rattle.adr_call.specs.declared.event.Event.TheVariants.{Uses}
use Rattle.adr_call.specs.declared.event.Use.{Use}
use Rattle.adr_law_recorded.specs.Typed.{IsTyped}
use Rattle.adr_model.specs.Step.{uses}
use Rattle.adr_model.specs.World.{Gone, Name, World}
use Rattle.adr_run_world.specs.Run.{world_of}
use Rattle.adr_run_world.proofs.Answered.{of_kind}
use Rattle.adr_run_world.proofs.run.Run.uses.Goals as goal

abbrev does : World → Name → Name → Use → Gone
does w name bind what = uses w name what bind

pub returns-in-Deliver-clause-done : goal.returns-in-Deliver-clause-done
returns-in-Deliver-clause-done c =
    of_kind (does (world_of c.args.self.now) c.args.name.now c.args.bound.now) c.args.what.now _ (world_of c.take_bound.new.self) c.take_bound.result c.in-Deliver.is c.take_bound.ensures.taken

pub revive-requires-clause-guid : goal.revive-requires-clause-guid
revive-requires-clause-guid c = (subst (λ (what : Use). IsTyped (Uses c.args.name.now what c.args.bound.now)) c.in-Revive.is c.requires.typed).0

pub revive-requires-clause-parent : goal.revive-requires-clause-parent
revive-requires-clause-parent c = (subst (λ (what : Use). IsTyped (Uses c.args.name.now what c.args.bound.now)) c.in-Revive.is c.requires.typed).1

pub revive-requires-clause-text : goal.revive-requires-clause-text
revive-requires-clause-text c = (subst (λ (what : Use). IsTyped (Uses c.args.name.now what c.args.bound.now)) c.in-Revive.is c.requires.typed).2

pub returns-in-Revive-clause-done : goal.returns-in-Revive-clause-done
returns-in-Revive-clause-done c =
    of_kind (does (world_of c.args.self.now) c.args.name.now c.args.bound.now) c.args.what.now _ (world_of c.revive.new.self) c.revive.result c.in-Revive.is c.revive.ensures.revived

pub returns-in-Rollback-clause-done : goal.returns-in-Rollback-clause-done
returns-in-Rollback-clause-done c =
    of_kind (does (world_of c.args.self.now) c.args.name.now c.args.bound.now) c.args.what.now _ (world_of c.put_back.new.self) c.put_back.result c.in-Rollback.is c.put_back.ensures.done
