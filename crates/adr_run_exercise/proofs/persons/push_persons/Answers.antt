use Rattle.std.proofs.Common.{sym}
use Rattle.std.proofs.lemmas.List.{append-nil}
use Rattle.adr_run_exercise.specs.Generated.{person_lines, state}
use Rattle.adr_run_exercise.proofs.Ranges.{grown}
use Rattle.adr_run_exercise.proofs.persons.push_persons.Goals as goal

pub loop-k-init : goal.loop-k-init
unfolding state
loop-k-init c = record { lines = sym (append-nil c.args.events.now.items); state = c.from_seed-generator.ensures }

pub loop-k-preserved : goal.loop-k-preserved
loop-k-preserved c = record {
  lines = grown (person_lines c.args.n) c.loop-k.k c.args.events.now.items c.loop-k.events.items c.push_person.new.events.items
      c.loop-k.invariant.lines c.in_ok-push_person.ensures.lines;
  state = c.in_ok-push_person.ensures.state;
}
