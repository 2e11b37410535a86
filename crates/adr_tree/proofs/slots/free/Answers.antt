use Rattle.std.proofs.Common.{◌∙◌, ap, sym, subst}
use Rattle.adr_tree.specs.Slots.{AreAtHome, seen}
use Rattle.adr_tree.proofs.Seen.{freed_seen, freed_home}
use Rattle.adr_tree.proofs.slots.free.Goals as goal

pub returns-then-is_empty-clause-seen : goal.returns-then-is_empty-clause-seen
returns-then-is_empty-clause-seen c =
    ap seen c.remove.ensures.entries ∙ freed_seen c.args.slots.now.entries c.args.guid (c.is_empty_slot-is_empty.ensures c.if-is_empty.true)

pub returns-then-is_empty-clause-tidy : goal.returns-then-is_empty-clause-tidy
returns-then-is_empty-clause-tidy c =
    record { ordered = c.remove.ensures.ordered; home = subst AreAtHome (sym c.remove.ensures.entries) (freed_home c.args.slots.now.entries c.args.guid c.requires.home) }
