-- A line is what its turns come to.
use Rattle.std.proofs.Common.{◌≤◌, [], ◌∙◌, inl, refl, subst, arith, rules, vec_capacity}
use Rattle.adr_model.specs.Cycles.{Pulled, reply_limit}
use Rattle.adr_answers.specs.Line.{line}
use Rattle.adr_answers.specs.Room.{MayWant}
use Rattle.adr_run_world.specs.Run.{world_of}
use Rattle.adr_run_world.proofs.Doors.{turned_sound, short_sound}
use Rattle.adr_answers.proofs.Due.{adds_none}
use Rattle.adr_run_world.proofs.Lacking.{undone_lines}
use Rattle.adr_run_world.proofs.Left.{front_so_far, left_short, short_turn, undone_turn, goes_on_told, ended_at, all_told, left_told, front_told, short_lines}
use Rattle.adr_answers.proofs.Results.{on_err}
use Rattle.adr_run_world.proofs.Turns.{at_first}
use Rattle.adr_run_world.proofs.run.Run.step.Goals as goal

pub loop-turn-init : goal.loop-turn-init
loop-turn-init g c = record {
  sound = c.requires.sound;
  told = record { told = []; so = at_first (world_of c.args.self.now) c.args.event.now c.requires.may; added = adds_none (g.K.Sink.written c.args.sink.now) };
  faults = refl;
}

pub loop-turn-preserved : goal.loop-turn-preserved
loop-turn-preserved g c = record {
  sound = turned_sound c.args.event.now c.loop-turn.turn c.in_ok-answers.answers.items c.in_ok-answers.goes_on c.loop-turn.invariant.sound c.loop-turn.invariant.told.so.may c.in_ok-answers.ensures.turned c.in_ok-answers.ensures.tidy;
  told = goes_on_told c.loop-turn.invariant.told (g.K.Sink.written c.tell.new.sink) (world_of c.turn.new.self, c.in_ok-answers.answers.items, c.in_ok-answers.goes_on) c.as_slice.result.now c.as_slice.ensures.value
      c.in_ok-answers.ensures.turned c.if-not-goes_on.false c.in_ok-tell.ensures.told;
  faults = c.in_ok-tell.ensures.not_counted ∙ c.loop-turn.invariant.faults;
}

pub returns-in_err-room-clause-front : goal.returns-in_err-room-clause-front
returns-in_err-room-clause-front g c = on_err c.from_residual.result (front_so_far c.loop-turn.invariant.told)

pub returns-in_err-room-clause-err : goal.returns-in_err-room-clause-err
returns-in_err-room-clause-err g c = on_err c.from_residual.result (left_short c.loop-turn.invariant.told (world_of c.loop-turn.self) (inl refl))

pub returns-in_err-room-clause-short : goal.returns-in_err-room-clause-short
returns-in_err-room-clause-short g c = λ _. short_turn c.loop-turn.invariant.told (world_of c.loop-turn.self) (inl refl)

pub returns-in_err-room-clause-undone : goal.returns-in_err-room-clause-undone
returns-in_err-room-clause-undone g c = λ _. inl (undone_turn c.loop-turn.invariant.told (world_of c.loop-turn.self) (inl refl))

-- a line ends at its limit
pub unreachable-requires : goal.unreachable-requires
unreachable-requires g c = let most : c.loop-turn.turn ≤ reply_limit = c.loop-turn.invariant.told.so.within in omega arith

pub returns-in_err-answers-clause-front : goal.returns-in_err-answers-clause-front
returns-in_err-answers-clause-front g c = on_err c.from_residual-in_err-answers.result (front_so_far c.loop-turn.invariant.told)

pub returns-in_err-answers-clause-err : goal.returns-in_err-answers-clause-err
returns-in_err-answers-clause-err g c = on_err c.from_residual-in_err-answers.result (left_short c.loop-turn.invariant.told (world_of c.turn.new.self) c.in_err-answers.ensures.err)

pub returns-in_err-answers-clause-short : goal.returns-in_err-answers-clause-short
returns-in_err-answers-clause-short g c = λ _. short_turn c.loop-turn.invariant.told (world_of c.turn.new.self) c.in_err-answers.ensures.err

pub returns-in_err-answers-clause-undone : goal.returns-in_err-answers-clause-undone
returns-in_err-answers-clause-undone g c = λ _. inl (undone_turn c.loop-turn.invariant.told (world_of c.turn.new.self) c.in_err-answers.ensures.err)

pub returns-in_err-answers-clause-sound : goal.returns-in_err-answers-clause-sound
returns-in_err-answers-clause-sound g c = short_sound c.args.event.now c.loop-turn.invariant.sound c.loop-turn.invariant.told.so.may c.in_err-answers.ensures.err c.in_err-answers.ensures.tidy

pub returns-in_err-tell-clause-front : goal.returns-in_err-tell-clause-front
returns-in_err-tell-clause-front g c =
    let p : Pulled = (world_of c.turn.new.self, c.in_ok-answers.answers.items, c.in_ok-answers.goes_on) in
    on_err c.from_residual-in_err-tell.result
    (front_told c.loop-turn.invariant.told (g.K.Sink.written c.tell.new.sink) p c.as_slice.result.now c.as_slice.ensures.value c.in_ok-answers.ensures.turned c.in_err-tell.ensures.front)

pub returns-in_err-tell-clause-err : goal.returns-in_err-tell-clause-err
returns-in_err-tell-clause-err g c =
    let p : Pulled = (world_of c.turn.new.self, c.in_ok-answers.answers.items, c.in_ok-answers.goes_on) in
    on_err c.from_residual-in_err-tell.result
    (left_told c.loop-turn.invariant.told (g.K.Sink.written c.tell.new.sink) p c.as_slice.result.now c.as_slice.ensures.value c.in_ok-answers.ensures.turned c.in_err-tell.ensures.front)

pub returns-in_err-tell-clause-short : goal.returns-in_err-tell-clause-short
returns-in_err-tell-clause-short g c = λ is.
    let p : Pulled = (world_of c.turn.new.self, c.in_ok-answers.answers.items, c.in_ok-answers.goes_on) in
    short_lines c.loop-turn.invariant.told (g.K.Sink.written c.tell.new.sink) p c.as_slice.result.now c.as_slice.ensures.value c.in_ok-answers.ensures.turned (c.in_err-tell.ensures.short (search (rules, is)))

pub returns-in_err-tell-clause-undone : goal.returns-in_err-tell-clause-undone
returns-in_err-tell-clause-undone g c = λ is.
    let p : Pulled = (world_of c.turn.new.self, c.in_ok-answers.answers.items, c.in_ok-answers.goes_on) in
    undone_lines {Wants = MayWant g.K.Sink.keeps (g.K.Sink.faults c.args.sink.now)} c.loop-turn.invariant.told (g.K.Sink.written c.tell.new.sink) p c.as_slice.result.now c.as_slice.ensures.value
    c.in_ok-answers.ensures.turned (vec_capacity c.in_ok-room.room) c.in_ok-room.ensures (c.in_err-tell.ensures.short (search (rules, is)))
    (λ all. subst (λ n. MayWant g.K.Sink.keeps n) c.loop-turn.invariant.faults (c.in_err-tell.ensures.within all (search (rules, is))))

pub returns-in_err-tell-clause-sound : goal.returns-in_err-tell-clause-sound
returns-in_err-tell-clause-sound g c =
    turned_sound c.args.event.now c.loop-turn.turn c.in_ok-answers.answers.items c.in_ok-answers.goes_on c.loop-turn.invariant.sound c.loop-turn.invariant.told.so.may c.in_ok-answers.ensures.turned c.in_ok-answers.ensures.tidy

pub returns-then-not-goes_on-clause-stepped : goal.returns-then-not-goes_on-clause-stepped
returns-then-not-goes_on-clause-stepped g c =
    let p : Pulled = (world_of c.turn.new.self, c.in_ok-answers.answers.items, c.in_ok-answers.goes_on) in
    ended_at c.loop-turn.invariant.told (g.K.Sink.written c.tell.new.sink) p c.as_slice.result.now c.as_slice.ensures.value c.in_ok-answers.ensures.turned c.if-not-goes_on.true

pub returns-then-not-goes_on-clause-told : goal.returns-then-not-goes_on-clause-told
returns-then-not-goes_on-clause-told g c =
    let p : Pulled = (world_of c.turn.new.self, c.in_ok-answers.answers.items, c.in_ok-answers.goes_on) in
    all_told c.loop-turn.invariant.told (g.K.Sink.written c.tell.new.sink) p c.as_slice.result.now c.as_slice.ensures.value c.in_ok-answers.ensures.turned c.if-not-goes_on.true c.in_ok-tell.ensures.told

pub returns-then-not-goes_on-clause-sound : goal.returns-then-not-goes_on-clause-sound
returns-then-not-goes_on-clause-sound g c =
    turned_sound c.args.event.now c.loop-turn.turn c.in_ok-answers.answers.items c.in_ok-answers.goes_on c.loop-turn.invariant.sound c.loop-turn.invariant.told.so.may c.in_ok-answers.ensures.turned c.in_ok-answers.ensures.tidy
