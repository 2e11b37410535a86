use Rattle.std.proofs.Common.{sym, ◌∙◌, ap, subst, Some, cond}
use Rattle.std.specs.Prelude.{IsSome, is_some}
use Rattle.std.specs.BTreeMap.{btree_map_len, is_at, get}
use Rattle.adr_values.specs.declared.stamp.Oid.{Oid}
use Rattle.adr_values.specs.Order.{identifier_order}
use Rattle.adr_tree.specs.Slots.{AreAtHome, flat, slot_at}
use Rattle.adr_update.proofs.Slots.{still_some}
use Rattle.adr_tree.proofs.Seen.{home_still, flat_either, len_stays}
use Rattle.adr_tree.proofs.slots.fill.Goals as goal

pub returns-clause-tidy : goal.returns-clause-tidy
returns-clause-tidy c =
    record { ordered = c.in-Ok.ensures.ordered; home = subst AreAtHome (sym c.in-Ok.ensures.entries) (home_still c.args.slots.now.entries c.object.result.guid (Some c.args.node) (sym (ap (λ o. o.guid) c.object.ensures)) c.requires.tidy.home) }

pub returns-clause-nodes : goal.returns-clause-nodes
returns-clause-nodes c q =
    ap flat (c.in-Ok.ensures.updates.0 q) ∙ flat_either (is_at (identifier_order c.object.result.guid) q) (Some c.args.node) (get identifier_order c.args.slots.now q)
    ∙ ap (λ o. cond (is_at (identifier_order o.guid) q) (Some c.args.node) (slot_at c.args.slots.now q)) c.object.ensures

pub returns-clause-more : goal.returns-clause-more
returns-clause-more c q some = subst IsSome (sym (c.in-Ok.ensures.updates.0 q)) (still_some (is_at (identifier_order c.object.result.guid) q) (Some c.args.node) _ some)

pub returns-clause-len : goal.returns-clause-len
returns-clause-len c =
    len_stays (is_some c.in-Ok.field-0) (btree_map_len c.args.slots.now) (btree_map_len c.insert.new.self)
    (subst IsSome (sym c.in-Ok.ensures.old) (subst (λ (o : Oid). IsSome (get identifier_order c.args.slots.now o.guid)) (sym c.object.ensures) c.requires.room)) c.in-Ok.ensures.len
