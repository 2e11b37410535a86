use Rattle.std.proofs.Common.{refl}
use Rattle.adr_model.specs.Client.{call_meant, done}
use Rattle.adr_model.specs.World.{after_call, stays}
use Rattle.adr_run_world.specs.Run.{world_of}
use Rattle.adr_run_world.proofs.Becoming.{Becomes, undone, leads, tidy_with}
use Rattle.adr_run_world.proofs.Calls.{reaches_none}
use Rattle.adr_run_world.proofs.Results.{on_err_so}
use Rattle.adr_run_world.proofs.run.Run.called.Goals as goal

pub returns-in_default-clause-called : goal.returns-in_default-clause-called
returns-in_default-clause-called c =
    let w = world_of c.args.self.now in
    let call = call_meant c.args.what.now w.time in
    reaches_none w c.args.name.now (stays w) (λ r. after_call w r call (done r.safe call)) c.in_default.ensures.none

becomes : (c : goal.After-self-1) → Becomes c.args.self.now c.args.name.now c.in-Some.place c.index_mut.result.now c.call.new.self c.call.new.past
becomes c = record { place = c.in-Some.ensures.place; read = c.index_mut.ensures.value; found = c.in-Some.ensures.found; tidy = c.requires.tidy; named = c.call.ensures.name; given = c.call.ensures.given }

pub returns-clause-called : goal.returns-clause-called
returns-clause-called c =
    let call = call_meant c.args.what.now c.args.self.now.time in leads (becomes c) c.call.result (λ w r. after_call w r call (done r.safe call)) c.call.ensures.called

pub returns-clause-err : goal.returns-clause-err
returns-clause-err c = on_err_so c.call.result c.call.ensures.err (undone (becomes c))

pub returns-clause-tidy : goal.returns-clause-tidy
returns-clause-tidy c = tidy_with (becomes c) refl refl refl
