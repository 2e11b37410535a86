use Rattle.std.proofs.Common.{ap, refl}
use Rattle.adr_call.specs.declared.outcome.Outcome.TheVariants as outcomes
use Rattle.adr_model.specs.World.{of_made, stays, stops}
use Rattle.adr_run_world.specs.Run.{world_of}
use Rattle.adr_run_world.proofs.Becoming.{Becomes, stands, led_anyhow, tidy_with}
use Rattle.adr_run_world.proofs.run.Run.stop.Goals as goal

pub returns-in_default-clause-done : goal.returns-in_default-clause-done
returns-in_default-clause-done c =
    let w = world_of c.args.self.now in
    ap (λ x. of_made (stays w) x (λ r. stops w r)) c.in_default.ensures.none

becomes : (c : goal.After-self-1) → Becomes c.args.self.now c.args.name.now c.in-Some.place c.index_mut.result.now c.stop.new.self c.stop.new.past
becomes c = record { place = c.in-Some.ensures.place; read = c.index_mut.ensures.value; found = c.in-Some.ensures.found; tidy = c.requires; named = c.stop.ensures.name; given = c.stop.ensures.given }

pub returns-clause-done : goal.returns-clause-done
returns-clause-done c =
    let w = world_of c.args.self.now in
    led_anyhow (becomes c)
    (λ r. stops w r) outcomes.Ok (c.stop.ensures.stopped w (stands (becomes c)))

pub returns-clause-tidy : goal.returns-clause-tidy
returns-clause-tidy c = tidy_with (becomes c) refl refl refl
