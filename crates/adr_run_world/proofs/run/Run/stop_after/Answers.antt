use Rattle.std.proofs.Common.{ap, refl}
use Rattle.adr_disk.specs.declared.memory.Mishap.TheVariants.{Stops}
use Rattle.adr_model.specs.Replica.{Replica}
use Rattle.adr_model.specs.World.{of_made, stays, with_plan}
use Rattle.adr_run_world.specs.Run.{world_of}
use Rattle.adr_run_world.proofs.Becoming.{Becomes, planned, tidy_with}
use Rattle.adr_run_world.proofs.run.Run.stop_after.Goals as goal

pub returns-in_default-clause-done : goal.returns-in_default-clause-done
returns-in_default-clause-done c =
    let w = world_of c.args.self.now in
    ap (λ x. of_made (stays w) x (λ r. with_plan w r (record { calls = c.args.calls; mishap = Stops c.args.how }))) c.in_default.ensures.none

becomes : (c : goal.After-self-1) → Becomes c.args.self.now c.args.name.now c.in-Some.place c.index_mut.result.now c.stop_after.new.self c.args.self.now.past
becomes c = record { place = c.in-Some.ensures.place; read = c.index_mut.ensures.value; found = c.in-Some.ensures.found; tidy = c.requires; named = ap (λ (r : Replica). r.name) c.stop_after.ensures; given = refl }

pub returns-clause-done : goal.returns-clause-done
returns-clause-done c = planned (becomes c) (record { calls = c.args.calls; mishap = Stops c.args.how }) c.stop_after.ensures

pub returns-clause-tidy : goal.returns-clause-tidy
returns-clause-tidy c = tidy_with (becomes c) refl refl refl
