use Rattle.std.proofs.Common.{Bool, Some, refl, ap, subst, ◌∙◌}
use Rattle.std.specs.Ordering.{nat_cmp}
use Rattle.std.specs.BTreeSet.{insert_key}
use Rattle.adr_image.specs.Image.{has_attr, last_of}
use Rattle.adr_image.specs.Seen.{IsDeadToo}
use Rattle.adr_image.proofs.Keeping.{keeps_object, on_ok_then}
use Rattle.adr_image.proofs.gathered.Objects.take.Goals as goal

pub returns : goal.returns
returns c =
    on_ok_then c.push_rows.result c.push_rows.ensures (λ rows os h.
    keeps_object c.args.self.now (record { rows = c.push_rows.new.rows; last = Some c.args.object.now; used = c.insert.new.self; dead = c.add_dead.new.dead }) os (c.args.object.now, c.args.rows.items) h rows refl
    (c.in_ok-insert.ensures.keys ∙ ap (insert_key nat_cmp c.args.self.now.used.keys) (c.last_of.ensures ∙ ap last_of c.deref.ensures.value))
    (subst (λ (b : Bool). IsDeadToo c.args.self.now.dead.keys c.add_dead.new.dead.keys b c.args.object.now) (c.has_attr.ensures ∙ ap (has_attr 3) c.deref-2.ensures.value) c.in_ok-add_dead.ensures))
