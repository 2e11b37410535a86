use Rattle.std.proofs.Common.{◌∙◌, sym}
use Rattle.adr_tree.specs.Slots.{flag_at}
use Rattle.adr_tree.proofs.Seen.{not_set}
use Rattle.adr_tree.proofs.breakers.clear_flag.Goals as goal

pub returns-else-flag-clause-flag : goal.returns-else-flag-clause-flag
returns-else-flag-clause-flag c g = not_set (flag_at c.args.flags.now) c.args.guid g (sym c.flag.ensures ∙ c.if-flag.false)
