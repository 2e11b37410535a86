use Rattle.std.proofs.Common.{◌∙◌, ap, append-nil, ◌++◌, cond, filter, None, subst, sym}
use Rattle.std.specs.Map.Iter.{deref}
use Rattle.std.specs.Ordering.{is_eq}
use Rattle.std.proofs.lemmas.Map.Iter.{rest_more}
use Rattle.adr_update.specs.Referents.{referents}
use Rattle.adr_update.specs.Sought.{is_link_to}
use Rattle.adr_table.specs.Back.{link_behind, row_of_link}
use Rattle.adr_table.specs.Slots.{rows_seen}
use Rattle.adr_table.proofs.Linked.{LinksEnd, all_linked, linked, linked_row, links_end}
use Rattle.adr_table.proofs.Reading.{added_next}
use Rattle.adr_table.proofs.back.rows_behind.Goals as goal

pub loop-behind-init : goal.loop-behind-init
loop-behind-init c =
    let left = c.into_iter-behind-iterator.ensures.into_iter_gives ∙ c.range-behind-items.ensures.between tt in (
      tt,
      tt,
      ap (λ rows. referents rows ++ linked c.args.slots.now c.args.object.now c.into_iter-behind-iterator.result) c.new-rows.ensures.items
          ∙ all_linked c.args.slots.now c.requires.tidy c.args.object.now c.args.back.now c.requires.backed c.range-behind-items.ensures.ordered c.into_iter-behind-iterator.result left,
      links_end c.args.slots.now c.args.object.now c.args.back.now.keys c.into_iter-behind-iterator.result left c.range-behind-items.ensures.ordered,
    )

pub returns-then-not-is_eq : goal.returns-then-not-is_eq
returns-then-not-is_eq c =
    let left = rest_more deref c.loop-behind.behind-iterator c.next.new.self c.next.result _ c.in-Some.is c.next.ensures.steps in
    let ends = subst (LinksEnd c.args.slots.now c.args.object.now) left c.loop-behind.invariant.3 in
    let rows = referents c.loop-behind.rows.items in
    sym (append-nil rows)
    ∙ ap (λ xs. rows ++ xs) (sym (ap (linked c.args.slots.now c.args.object.now) left ∙ ends.0 (ap is_eq (sym c.cmp.ensures) ∙ sym c.is_eq.ensures ∙ c.if-not-is_eq.true)))
    ∙ c.loop-behind.invariant.2

pub loop-behind-preserved : goal.loop-behind-preserved
loop-behind-preserved c =
    let left = rest_more deref c.loop-behind.behind-iterator c.next.new.self c.next.result _ c.in-Some.is c.next.ensures.steps in
    let ends = subst (LinksEnd c.args.slots.now c.args.object.now) left c.loop-behind.invariant.3 in (
      tt,
      tt,
      added_next (linked_row c.args.slots.now c.args.object.now) (filter (λ h. is_link_to c.args.object.now h.update.key) (rows_seen c.args.slots.now)) (referents c.loop-behind.rows.items)
          (referents c.push_row.new.rows.items) _ _ c.next.new.self c.loop-behind.behind-iterator left c.in_ok-push_row.ensures
          (c.row_behind.ensures
          ∙ sym (ap (λ b. cond b (row_of_link c.args.slots.now (link_behind c.in-Some.behind.now)) None) (ap is_eq (sym c.cmp.ensures) ∙ sym c.is_eq.ensures ∙ c.if-not-is_eq.false)))
          c.loop-behind.invariant.2,
      ends.1,
    )
