use Rattle.adr_schedule.specs.Sets.{sets_at}
use Rattle.adr_schedule.proofs.LineSets.{reads_on, set_shorter}
use Rattle.adr_schedule.proofs.sets.sets.Goals as goal

pub sets-smaller : goal.sets-smaller
sets-smaller c = set_shorter c.sets.line c.set.new.self (c.in_ok-attr.attr, c.in_ok-attr.values.items) c.in_ok-attr.ensures.set

pub sets-preserved : goal.sets-preserved
sets-preserved c =
    reads_on c.sets.given c.give.new.given c.sets.line c.set.new.self (c.in_ok-attr.attr, c.in_ok-attr.values.items) (sets_at c.args.line.now)
    c.sets.invariant (λ none. let ended = c.is_ended.ensures.1 none in let more = c.sets-test.true in absurd (cc)) c.in_ok-attr.ensures.set c.in_ok-give.ensures.given
