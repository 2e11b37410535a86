use Rattle.std.proofs.Common.{sym, subst}
use Rattle.std.specs.Prelude.{IsSome}
use Rattle.std.specs.BTreeMap.{is_at}
use Rattle.adr_values.specs.Order.{identifier_order}
use Rattle.adr_update.proofs.Slots.{still_some}
use Rattle.adr_tree.proofs.slots.set_flag.Goals as goal

pub returns-clause-more : goal.returns-clause-more
returns-clause-more c q some = subst IsSome (sym (c.in-Ok.ensures.updates.0 q)) (still_some (is_at (identifier_order c.args.guid) q) c.args.value _ some)
