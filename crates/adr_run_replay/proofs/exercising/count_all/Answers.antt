use Rattle.std.proofs.Common.{◌+◌, drop, sym, subst, arith}
use Rattle.adr_model.specs.Convergence.{MayAllHappen}
use Rattle.adr_model.specs.Step.{answers}
use Rattle.adr_run_replay.proofs.Counting.{first_left, one_further, one_counted}
use Rattle.adr_run_world.proofs.PlayLemmas.{member_got}
use Rattle.adr_run_replay.proofs.exercising.count_all.Goals as goal

pub count-requires-clause-may : goal.count-requires-clause-may
count-requires-clause-may c =
    (subst (MayAllHappen c.loop-event.world) (first_left c.args.events.now c.loop-event.event-index (c.loop-event.event-index + 1) c.event-item.result c.loop-event-test.true c.event-item.is (omega arith)) c.loop-event.invariant.may).0

pub count-requires-clause-typed : goal.count-requires-clause-typed
count-requires-clause-typed c = c.requires.typed c.event-item.result (member_got c.args.events.now c.loop-event.event-index c.event-item.result c.loop-event-test.true c.event-item.is)

pub loop-event-preserved : goal.loop-event-preserved
loop-event-preserved c =
    let here = first_left c.args.events.now c.loop-event.event-index (c.loop-event.event-index + 1) c.event-item.result c.loop-event-test.true c.event-item.is (omega arith) in
    record {
      stands = one_further c.args.world.now c.loop-event.world c.count.new.self c.args.events.now c.args.events.now c.loop-event.event-index (c.loop-event.event-index + 1) c.event-item.result here
          c.in_ok-count.ensures.stepped c.loop-event.invariant.stands;
      counts = one_counted c.loop-event.world c.count.new.self c.loop-event.tally c.count.new.tally c.args.tally.now c.args.events.now (answers c.args.world.now c.args.events.now) c.loop-event.event-index (c.loop-event.event-index + 1)
          c.event-item.result here c.in_ok-count.ensures.stepped c.in_ok-count.ensures.counted c.loop-event.invariant.counts;
      may = subst (λ v. MayAllHappen v (drop (c.loop-event.event-index + 1) c.args.events.now)) (sym c.in_ok-count.ensures.stepped) (subst (MayAllHappen c.loop-event.world) here c.loop-event.invariant.may).1;
    }
