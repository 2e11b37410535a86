use Rattle.std.proofs.Common.{Some, refl}
use Rattle.adr_model.specs.World.{delivered, stays}
use Rattle.adr_run_world.specs.Run.{world_of}
use Rattle.adr_run_world.proofs.Becoming.{Becomes, undone, leads, tidy_with}
use Rattle.adr_run_world.proofs.Calls.{reaches_none}
use Rattle.adr_run_world.proofs.Results.{on_err_so}
use Rattle.adr_run_world.proofs.run.Run.take.Goals as goal

pub returns-in_default-clause-taken : goal.returns-in_default-clause-taken
returns-in_default-clause-taken c =
    let w = world_of c.args.self.now in reaches_none w c.args.name.now (stays w) (λ r. delivered w r (Some c.args.reply.now)) c.in_default.ensures.none

becomes : (c : goal.After-self-1) → Becomes c.args.self.now c.args.name.now c.in-Some.place c.index_mut.result.now c.take.new.self c.take.new.past
becomes c = record { place = c.in-Some.ensures.place; read = c.index_mut.ensures.value; found = c.in-Some.ensures.found; tidy = c.requires.tidy; named = c.take.ensures.name; given = c.take.ensures.given }

pub returns-clause-taken : goal.returns-clause-taken
returns-clause-taken c = leads (becomes c) c.take.result (λ w r. delivered w r (Some c.args.reply.now)) c.take.ensures.taken

pub returns-clause-err : goal.returns-clause-err
returns-clause-err c = on_err_so c.take.result c.take.ensures.err (undone (becomes c))

pub returns-clause-tidy : goal.returns-clause-tidy
returns-clause-tidy c = tidy_with (becomes c) refl refl refl
