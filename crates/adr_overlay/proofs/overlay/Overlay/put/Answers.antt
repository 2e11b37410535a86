use Rattle.std.proofs.Common.{◌≡◌, ◌∙◌, ap, arith, is_some, length, sym, subst}
use Rattle.adr_model.specs.Change.{killed_by}
use Rattle.adr_model.specs.Formed.{AreRising}
use Rattle.adr_model.specs.Live.{objects_of}
use Rattle.adr_model.specs.Store.{row_held, updates_of}
use Rattle.adr_model.specs.Write.{is_link_row, links_in}
use Rattle.adr_update.specs.Key.{key_of}
use Rattle.adr_table.specs.Table.{rows_in}
use Rattle.adr_shelves.specs.Shelves.{held_at}
use Rattle.adr_overlay.specs.Overlay.{is_birth_row}
use Rattle.adr_overlay.proofs.Counted.{birth_counts, counted, link_counts}
use Rattle.adr_overlay.proofs.Telling.{told_rises, told_call, counted_call, objects_put, links_put, lost_few}
use Rattle.adr_overlay.proofs.overlay.Overlay.put.Goals as goal

pub overflow_sub-self : goal.overflow_sub-self
overflow_sub-self c =
    let k = key_of c.key-key.result in
    let links = counted (rows_in c.self.inside.over) (rows_in c.self.inside.base.now) c.args.self.now c.self.view_is k (is_link_row k) (link_counts k)
    c.in_ok-was.was' (c.in_ok-was.ensures.was ∙ ap (λ j. is_some (row_held (rows_in c.self.inside.over) j)) (sym c.key-key.ensures)) c.is_new_below-is_new.result c.is_new_below-is_new.ensures
    c.self.inside.links c.in_ok-links.links (links_in c.args.self.now) c.count_after.result (c.self.invariant.counted.links ∙ ap links_in c.self.view_is) c.in_ok-links.ensures c.count_after.ensures
    in
    omega (arith, lost_few c.args.self.now (killed_by k), links, c.in_ok-lost.ensures)

pub invariant_of-self-2 : goal.invariant_of-self-2
invariant_of-self-2 c =
    let over = rows_in c.self.inside.over in
    let base = rows_in c.self.inside.base.now in
    let h = held_at c.args.local c.args.row.now in
    let k = key_of c.key-key.result in
    let of : h.update.key ≡ k = sym c.key-key.ensures in
    let rise = subst AreRising c.self.view_is (told_rises over base c.self.invariant.counted.base_rises) in
    let was = c.in_ok-was.ensures.was ∙ ap (λ j. is_some (row_held over j)) (sym c.key-key.ensures) in
    let objects = counted over base c.args.self.now c.self.view_is k (is_birth_row k) (birth_counts k) c.in_ok-was.was' was c.is_new_below-is_new.result c.is_new_below-is_new.ensures
    c.self.inside.objects c.in_ok-objects.objects (length (objects_of (updates_of c.args.self.now))) c.count_after-self-inside.result
    (c.self.invariant.counted.objects ∙ ap (λ rows. length (objects_of (updates_of rows))) c.self.view_is) c.in_ok-objects.ensures c.count_after-self-inside.ensures
    in
    let links = counted over base c.args.self.now c.self.view_is k (is_link_row k) (link_counts k) c.in_ok-was.was' was c.is_new_below-is_new.result c.is_new_below-is_new.ensures
    c.self.inside.links c.in_ok-links.links (links_in c.args.self.now) c.count_after.result (c.self.invariant.counted.links ∙ ap links_in c.self.view_is) c.in_ok-links.ensures c.count_after.ensures
    in
    record {
      kept = c.put_over.ensures.kept;
      based = c.self.invariant.based;
      counted = counted_call over base c.args.self.now (rows_in c.put_over.new.over) h c.self.view_is c.self.invariant.counted.over_rises c.self.invariant.counted.base_rises
          c.in_ok-was.ensures.ok _ _
          (objects_put c.args.self.now h k rise of c.count_after-self-inside.result objects)
          (links_put c.args.self.now h k rise of c.count_after.result c.in_ok-lost.lost links c.in_ok-lost.ensures);
    }

pub returns : goal.returns
returns c =
    told_call (rows_in c.self.inside.over) (rows_in c.self.inside.base.now) c.args.self.now (rows_in c.put_over.new.over) (held_at c.args.local c.args.row.now) c.self.view_is
    c.self.invariant.counted.over_rises c.self.invariant.counted.base_rises c.in_ok-was.ensures.ok
