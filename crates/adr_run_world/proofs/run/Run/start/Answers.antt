use Rattle.std.proofs.Common.{ap, refl}
use Rattle.adr_model.specs.World.{of_made, stays, starts}
use Rattle.adr_run_world.specs.Run.{world_of}
use Rattle.adr_run_world.proofs.Becoming.{Becomes, leads_anyhow, start_short, tidy_with}
use Rattle.adr_run_world.proofs.Results.{on_err_so}
use Rattle.adr_run_world.proofs.run.Run.start.Goals as goal

pub returns-in_default-clause-done : goal.returns-in_default-clause-done
returns-in_default-clause-done c =
    let w = world_of c.args.self.now in
    ap (λ x. of_made (stays w) x (λ r. starts w r r.standing)) c.in_default.ensures.none

becomes : (c : goal.After-self-1) → Becomes c.args.self.now c.args.name.now c.in-Some.place c.index_mut.result.now c.start.new.self c.start.new.past
becomes c = record { place = c.in-Some.ensures.place; read = c.index_mut.ensures.value; found = c.in-Some.ensures.found; tidy = c.requires; named = c.start.ensures.name; given = c.start.ensures.given }

pub returns-clause-done : goal.returns-clause-done
returns-clause-done c = leads_anyhow (becomes c) c.start.result (λ w r. starts w r r.standing) c.start.ensures.started

pub returns-clause-err : goal.returns-clause-err
returns-clause-err c = on_err_so c.start.result c.start.ensures.err (start_short (becomes c))

pub returns-clause-tidy : goal.returns-clause-tidy
returns-clause-tidy c = tidy_with (becomes c) refl refl refl
