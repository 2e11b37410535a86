use Rattle.std.proofs.Common.{Result, Ok, Err}
use Rattle.std.specs.Prelude.{OnErr}
use Rattle.adr_run_world.specs.Played.{output_from}
use Rattle.adr_run_world.proofs.PlayLemmas.{front_step, member_got}
use Rattle.adr_run_world.proofs.playing.play_on.Goals as goal

on_err : {X Y P : Type 0} (r : Result X Y) → P → OnErr r P
on_err (Ok x) p = tt
on_err (Err e) p = p

pub returns-in_err-step-clause-front : goal.returns-in_err-step-clause-front
returns-in_err-step-clause-front g c =
    on_err c.from_residual.result (front_step (g.K.Sink.written c.args.sink.now) (g.K.Sink.written c.loop-event.sink) (g.K.Sink.written c.step.new.sink) (output_from c.args.world.now c.args.events.now)
    c.loop-event.world c.args.events.now c.loop-event.event-index c.event-item.result c.loop-event-test.true c.event-item.is
    c.loop-event.invariant.due c.in_err-step.ensures.front)

pub step-requires-clause-typed : goal.step-requires-clause-typed
step-requires-clause-typed g c = c.requires.typed c.event-item.result (member_got c.args.events.now c.loop-event.event-index c.event-item.result c.loop-event-test.true c.event-item.is)
