-- A line is what its turns come to.
use Rattle.std.proofs.Common.{◌≡◌, ◌≤◌, List, [], ◌++◌, refl, sym, ap, ◌∙◌, subst, arith}
use Rattle.std.proofs.lemmas.List.Sums.{fold-append}
use Rattle.adr_call.specs.declared.answer.Answer.{Answer}
use Rattle.adr_model.specs.World.{World}
use Rattle.adr_model.specs.Cycles.{Pulled, reply_limit}
use Rattle.adr_run_world.specs.declared.counting.Tally.{Tally}
use Rattle.adr_run_world.specs.Counted.{counted, with_answer}
use Rattle.adr_run_world.specs.Run.{world_of}
use Rattle.adr_run_world.proofs.Doors.{turned_sound, short_sound}
use Rattle.adr_run_world.proofs.Turns.{at_first, goes_on, ends}
use Rattle.adr_run_world.proofs.run.Run.count.Goals as goal

-- some more answers are counted behind the others
counted_more : (first now next : Tally) (told more list : List Answer) → list ≡ more → now ≡ counted first told → next ≡ counted now list → next ≡ counted first (told ++ more)
counted_more first now next told more list same before behind =
    behind ∙ (ap (λ t. counted t list) before ∙ (ap (counted (counted first told)) same ∙ sym (fold-append with_answer first told more)))

pub loop-turn-init : goal.loop-turn-init
loop-turn-init c = record {
  sound = c.requires.sound;
  told = ([], at_first (world_of c.args.self.now) c.args.event.now c.requires.may, refl);
}

pub loop-turn-preserved : goal.loop-turn-preserved
loop-turn-preserved c =
    let w = world_of c.args.self.now in
    let told = c.loop-turn.invariant.told in
    let more = c.in_ok-answers.answers.items in
    let p : Pulled = (world_of c.turn.new.self, more, c.in_ok-answers.goes_on) in
    record {
      sound = turned_sound c.args.event.now c.loop-turn.turn more c.in_ok-answers.goes_on c.loop-turn.invariant.sound told.1.may c.in_ok-answers.ensures.turned c.in_ok-answers.ensures.tidy;
      told = (
        told.0 ++ more,
        goes_on w c.args.event.now c.loop-turn.turn (world_of c.loop-turn.self) told.0 p told.1 c.in_ok-answers.ensures.turned c.if-not-goes_on.false,
        counted_more c.args.tally.now c.loop-turn.tally c.add_all.new.self told.0 more c.as_slice.result.now c.as_slice.ensures.value told.2 c.in_ok-add_all.ensures,
      );
    }

-- a line ends at its limit
pub unreachable-requires : goal.unreachable-requires
unreachable-requires c = let most : c.loop-turn.turn ≤ reply_limit = c.loop-turn.invariant.told.1.within in omega arith

pub returns-in_err-answers-clause-sound : goal.returns-in_err-answers-clause-sound
returns-in_err-answers-clause-sound c = short_sound c.args.event.now c.loop-turn.invariant.sound c.loop-turn.invariant.told.1.may c.in_err-answers.ensures.err c.in_err-answers.ensures.tidy

pub returns-in_err-add_all-clause-sound : goal.returns-in_err-add_all-clause-sound
returns-in_err-add_all-clause-sound c =
    turned_sound c.args.event.now c.loop-turn.turn c.in_ok-answers.answers.items c.in_ok-answers.goes_on c.loop-turn.invariant.sound c.loop-turn.invariant.told.1.may c.in_ok-answers.ensures.turned c.in_ok-answers.ensures.tidy

pub returns-then-not-goes_on-clause-stepped : goal.returns-then-not-goes_on-clause-stepped
returns-then-not-goes_on-clause-stepped c =
    let w = world_of c.args.self.now in
    let told = c.loop-turn.invariant.told in
    let more = c.in_ok-answers.answers.items in
    let p : Pulled = (world_of c.turn.new.self, more, c.in_ok-answers.goes_on) in
    sym (ap (λ (t : World × List Answer). t.0)
    (ends w c.args.event.now c.loop-turn.turn (world_of c.loop-turn.self) told.0 p told.1 c.in_ok-answers.ensures.turned c.if-not-goes_on.true))

pub returns-then-not-goes_on-clause-counted : goal.returns-then-not-goes_on-clause-counted
returns-then-not-goes_on-clause-counted c =
    let w = world_of c.args.self.now in
    let told = c.loop-turn.invariant.told in
    let more = c.in_ok-answers.answers.items in
    let p : Pulled = (world_of c.turn.new.self, more, c.in_ok-answers.goes_on) in
    subst (λ (t : World × List Answer). c.add_all.new.self ≡ counted c.args.tally.now t.1)
    (sym (ends w c.args.event.now c.loop-turn.turn (world_of c.loop-turn.self) told.0 p told.1 c.in_ok-answers.ensures.turned c.if-not-goes_on.true))
    (counted_more c.args.tally.now c.loop-turn.tally c.add_all.new.self told.0 more c.as_slice.result.now c.as_slice.ensures.value told.2 c.in_ok-add_all.ensures)

pub returns-then-not-goes_on-clause-sound : goal.returns-then-not-goes_on-clause-sound
returns-then-not-goes_on-clause-sound c =
    turned_sound c.args.event.now c.loop-turn.turn c.in_ok-answers.answers.items c.in_ok-answers.goes_on c.loop-turn.invariant.sound c.loop-turn.invariant.told.1.may c.in_ok-answers.ensures.turned c.in_ok-answers.ensures.tidy
