use Rattle.std.proofs.Common.{subst}
use Rattle.adr_call.specs.Verbs.{verb_of_call, verb_of_coming, verb_of_made, verb_of_meeting, verb_of_report, verb_of_use, word_of}
use Rattle.adr_law_recorded.specs.Typed.{IsTyped}
use Rattle.adr_model.specs.Convergence.{MayHappen}
use Rattle.adr_model.specs.Step.{comes, makes, meets, uses}
use Rattle.adr_model.specs.World.{does, of_controller, of_made, replica_at, reported, stays}
use Rattle.adr_model.specs.Client.{call_meant}
use Rattle.adr_run_world.specs.Run.{world_of}
use Rattle.adr_run_world.proofs.Answered.{call_so, line_so}
use Rattle.adr_run_world.proofs.run.Run.outcome.Goals as goal

pub comes-requires-clause-may : goal.comes-requires-clause-may
comes-requires-clause-may c = subst (MayHappen (world_of c.args.self.now)) c.in-Comes.is c.requires.may

pub comes-requires-clause-typed : goal.comes-requires-clause-typed
comes-requires-clause-typed c = subst IsTyped c.in-Comes.is c.requires.typed

pub returns-in-Comes-clause-stepped : goal.returns-in-Comes-clause-stepped
returns-in-Comes-clause-stepped c =
    let w = world_of c.args.self.now in
    let v = world_of c.comes.new.self in
    line_so w v c.args.event.now _ c.comes.result c.in-Comes.is
    (call_so (word_of (verb_of_coming c.in-Comes.how)) c.in-Comes.name (comes w c.in-Comes.name c.in-Comes.inv c.in-Comes.how) v c.comes.result c.comes.ensures.done)

pub called-requires-clause-given : goal.called-requires-clause-given
called-requires-clause-given c = subst (MayHappen (world_of c.args.self.now)) c.in-Calls.is c.requires.may

pub called-requires-clause-typed : goal.called-requires-clause-typed
called-requires-clause-typed c = subst IsTyped c.in-Calls.is c.requires.typed

pub returns-in-Calls-clause-stepped : goal.returns-in-Calls-clause-stepped
returns-in-Calls-clause-stepped c =
    let w = world_of c.args.self.now in
    let v = world_of c.called.new.self in
    line_so w v c.args.event.now _ c.called.result c.in-Calls.is
    (call_so (word_of (verb_of_call c.in-Calls.what)) c.in-Calls.name (does w c.in-Calls.name (call_meant c.in-Calls.what w.time)) v c.called.result c.called.ensures.called)

pub uses-requires-clause-typed : goal.uses-requires-clause-typed
uses-requires-clause-typed c = subst IsTyped c.in-Uses.is c.requires.typed

pub returns-in-Uses-clause-stepped : goal.returns-in-Uses-clause-stepped
returns-in-Uses-clause-stepped c =
    let w = world_of c.args.self.now in
    let v = world_of c.uses.new.self in
    line_so w v c.args.event.now _ c.uses.result c.in-Uses.is
    (call_so (word_of (verb_of_use c.in-Uses.what)) c.in-Uses.name (uses w c.in-Uses.name c.in-Uses.what c.in-Uses.bound) v c.uses.result c.uses.ensures.done)

pub makes-requires-clause-may : goal.makes-requires-clause-may
makes-requires-clause-may c = subst (MayHappen (world_of c.args.self.now)) c.in-Binds.is c.requires.may

pub makes-requires-clause-typed : goal.makes-requires-clause-typed
makes-requires-clause-typed c = subst IsTyped c.in-Binds.is c.requires.typed

pub returns-in-Binds-clause-stepped : goal.returns-in-Binds-clause-stepped
returns-in-Binds-clause-stepped c =
    let w = world_of c.args.self.now in
    let v = world_of c.makes.new.self in
    line_so w v c.args.event.now _ c.makes.result c.in-Binds.is
    (call_so (word_of (verb_of_made c.in-Binds.what)) c.in-Binds.name (makes w c.in-Binds.name c.in-Binds.what c.in-Binds.bound) v c.makes.result c.makes.ensures.done)

pub returns-in-Asks-clause-stepped : goal.returns-in-Asks-clause-stepped
returns-in-Asks-clause-stepped c =
    let w = world_of c.args.self.now in
    line_so w w c.args.event.now _ c.reported.result c.in-Asks.is
    (call_so (word_of (verb_of_report c.in-Asks.what)) c.in-Asks.name (of_controller w c.in-Asks.name (stays w) (λ r. (w, reported w r.safe c.in-Asks.what))) w c.reported.result c.reported.ensures)

pub returns-in-Meets-clause-stepped : goal.returns-in-Meets-clause-stepped
returns-in-Meets-clause-stepped c =
    let w = world_of c.args.self.now in
    let v = world_of c.meets.new.self in
    line_so w v c.args.event.now _ c.meets.result c.in-Meets.is
    (call_so (word_of (verb_of_meeting c.in-Meets.what)) c.in-Meets.name (of_made (stays w) (replica_at w c.in-Meets.name) (λ r. meets w r c.in-Meets.what)) v c.meets.result c.meets.ensures.done)
