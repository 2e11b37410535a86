use Rattle.adr_table.proofs.Listed.{listed_more}
use Rattle.adr_table.proofs.deaths.remember.Goals as goal

pub returns-in-Some-clause-more : goal.returns-in-Some-clause-more
returns-in-Some-clause-more c = listed_more c.args.dead.now c.insert.new.dead c.insert.ensures.more
