use Rattle.std.proofs.Common.{◌∙◌, sym}
use Rattle.adr_table.proofs.Runs.{first_least, first_none, first_there}
use Rattle.adr_table.proofs.slots.Slots.next_place.Goals as goal

pub returns-in-Some-clause-there : goal.returns-in-Some-clause-there
returns-in-Some-clause-there c = (first_there c.args.start c.args.self.now.map _ c.next.new.self (sym c.run_from.ensures ∙ c.in-Some.ensures.some)).1

pub returns-in-Some-clause-from : goal.returns-in-Some-clause-from
returns-in-Some-clause-from c = (first_there c.args.start c.args.self.now.map _ c.next.new.self (sym c.run_from.ensures ∙ c.in-Some.ensures.some)).0

pub returns-in-Some-clause-first : goal.returns-in-Some-clause-first
returns-in-Some-clause-first c = first_least c.args.start c.args.self.now.map _ c.next.new.self c.are_in_order.ensures (sym c.run_from.ensures ∙ c.in-Some.ensures.some)

pub returns-in-None-clause-none : goal.returns-in-None-clause-none
returns-in-None-clause-none c = first_none c.args.start c.args.self.now.map (sym c.run_from.ensures ∙ c.in-None.ensures.none)
