use Rattle.std.proofs.Common.{subst}
use Rattle.adr_call.specs.declared.event.Event.TheVariants.{Binds}
use Rattle.adr_call.specs.declared.event.Made.{Made}
use Rattle.adr_law_recorded.specs.Typed.{IsTyped}
use Rattle.adr_model.specs.Convergence.{MayBind}
use Rattle.adr_model.specs.Step.{makes}
use Rattle.adr_model.specs.World.{Gone, Name, World}
use Rattle.adr_run_world.specs.Run.{world_of}
use Rattle.adr_run_world.proofs.Answered.{of_kind}
use Rattle.adr_run_world.proofs.run.Run.makes.Goals as goal

abbrev does : World → Name → Name → Made → Gone
does w name bind what = makes w name what bind

pub ask-requires-clause-version : goal.ask-requires-clause-version
ask-requires-clause-version c = subst (λ (what : Made). IsTyped (Binds c.args.name.now what c.args.bound.now)) c.in-Ask.is c.requires.typed

pub ask-requires-clause-unbound : goal.ask-requires-clause-unbound
ask-requires-clause-unbound c = subst (λ (what : Made). MayBind (world_of c.args.self.now) what c.args.bound.now) c.in-Ask.is c.requires.may

pub returns-in-Ask-clause-done : goal.returns-in-Ask-clause-done
returns-in-Ask-clause-done c =
    of_kind (does (world_of c.args.self.now) c.args.name.now c.args.bound.now) c.args.what.now _ (world_of c.ask.new.self) c.ask.result c.in-Ask.is c.ask.ensures.done

pub serve-requires-clause-unbound : goal.serve-requires-clause-unbound
serve-requires-clause-unbound c = subst (λ (what : Made). MayBind (world_of c.args.self.now) what c.args.bound.now) c.in-Serve.is c.requires.may

pub returns-in-Serve-clause-done : goal.returns-in-Serve-clause-done
returns-in-Serve-clause-done c =
    of_kind (does (world_of c.args.self.now) c.args.name.now c.args.bound.now) c.args.what.now _ (world_of c.serve.new.self) c.serve.result c.in-Serve.is c.serve.ensures.done

pub backup-requires-clause-unbound : goal.backup-requires-clause-unbound
backup-requires-clause-unbound c = subst (λ (what : Made). MayBind (world_of c.args.self.now) what c.args.bound.now) c.in-Backup.is c.requires.may

pub returns-in-Backup-clause-done : goal.returns-in-Backup-clause-done
returns-in-Backup-clause-done c =
    of_kind (does (world_of c.args.self.now) c.args.name.now c.args.bound.now) c.args.what.now _ (world_of c.backup.new.self) c.backup.result c.in-Backup.is c.backup.ensures.done

pub snapshot-requires-clause-unbound : goal.snapshot-requires-clause-unbound
snapshot-requires-clause-unbound c = subst (λ (what : Made). MayBind (world_of c.args.self.now) what c.args.bound.now) c.in-Snapshot.is c.requires.may

pub returns-in-Snapshot-clause-done : goal.returns-in-Snapshot-clause-done
returns-in-Snapshot-clause-done c =
    of_kind (does (world_of c.args.self.now) c.args.name.now c.args.bound.now) c.args.what.now _ (world_of c.snapshot.new.self) c.snapshot.result c.in-Snapshot.is c.snapshot.ensures.done
