use Rattle.adr_schedule.specs.Members.{names_at}
use Rattle.adr_schedule.proofs.LineNames.{reads_on, name_shorter}
use Rattle.adr_schedule.proofs.members.members.Goals as goal

pub members-smaller : goal.members-smaller
members-smaller c = name_shorter c.members.line c.name.new.self c.in_ok-name.name c.in_ok-name.ensures.reading

pub members-preserved : goal.members-preserved
members-preserved c =
    reads_on c.args.first.now c.members.names.items c.join.new.names.items c.members.line c.name.new.self c.in_ok-name.name (names_at c.args.first.now c.args.line.now)
    c.members.invariant (λ none. let ended = c.is_ended.ensures.1 none in let more = c.members-test.true in absurd (cc)) c.in_ok-name.ensures.reading c.in_ok-join.ensures.joined
