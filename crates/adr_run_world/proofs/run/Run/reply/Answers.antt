use Rattle.std.proofs.Common.{Some, refl}
use Rattle.adr_model.specs.World.{served, nothing}
use Rattle.adr_run_world.specs.Run.{world_of}
use Rattle.adr_run_world.proofs.Becoming.{Becomes, undone, leads_to, tidy_with}
use Rattle.adr_run_world.proofs.Calls.{reaches_none}
use Rattle.adr_run_world.proofs.Results.{on_err_so}
use Rattle.adr_run_world.proofs.run.Run.reply.Goals as goal

pub returns-in_default-clause-served : goal.returns-in_default-clause-served
returns-in_default-clause-served c =
    let w = world_of c.args.self.now in reaches_none w c.args.name.now (nothing w) (λ r. served w r (Some c.args.request.now)) c.in_default.ensures.none

becomes : (c : goal.After-self-1) → Becomes c.args.self.now c.args.name.now c.in-Some.place c.index_mut.result.now c.serve.new.self c.serve.new.past
becomes c = record { place = c.in-Some.ensures.place; read = c.index_mut.ensures.value; found = c.in-Some.ensures.found; tidy = c.requires.tidy; named = c.serve.ensures.name; given = c.serve.ensures.given }

pub returns-clause-served : goal.returns-clause-served
returns-clause-served c = leads_to (becomes c) c.serve.result (λ w r. served w r (Some c.args.request.now)) c.serve.ensures.served

pub returns-clause-err : goal.returns-clause-err
returns-clause-err c = on_err_so c.serve.result c.serve.ensures.err (undone (becomes c))

pub returns-clause-tidy : goal.returns-clause-tidy
returns-clause-tidy c = tidy_with (becomes c) refl refl refl
