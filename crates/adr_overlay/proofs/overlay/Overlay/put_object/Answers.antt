use Rattle.std.proofs.Common.{ap, ◌∙◌}
use Rattle.adr_model.specs.Store.{holds_object}
use Rattle.adr_model.specs.Write.{links_in}
use Rattle.adr_table.specs.Table.{rows_in}
use Rattle.adr_overlay.proofs.Objects.{counted_object, told_object, unheld_over}
use Rattle.adr_overlay.proofs.overlay.Overlay.put_object.Goals as goal

pub put_object-requires-clause-unheld : goal.put_object-requires-clause-unheld
put_object-requires-clause-unheld c =
    unheld_over (rows_in c.self.inside.over) (rows_in c.self.inside.base.now) c.args.object.now (ap (λ rows. holds_object rows c.args.object.now) c.self.view_is ∙ c.requires.unheld)

pub invariant_of-self-2 : goal.invariant_of-self-2
invariant_of-self-2 c =
    record {
      kept = c.put_object.ensures.kept;
      based = c.self.invariant.based;
      counted = counted_object (rows_in c.self.inside.over) (rows_in c.self.inside.base.now) c.args.self.now (rows_in c.put_object.new.self) c.args.object.now c.args.local c.args.rows.now
          c.self.view_is c.self.invariant.counted.over_rises c.self.invariant.counted.base_rises c.in_ok-put_object.ensures.ok
          c.requires.own c.requires.unheld c.in_ok-objects.objects c.self.inside.links c.in_ok-objects.ensures (c.self.invariant.counted.links ∙ ap (λ rows. links_in rows) c.self.view_is);
    }

pub returns : goal.returns
returns c =
    told_object (rows_in c.self.inside.over) (rows_in c.self.inside.base.now) c.args.self.now (rows_in c.put_object.new.self) c.args.object.now c.args.local c.args.rows.now
    c.self.view_is c.self.invariant.counted.over_rises c.self.invariant.counted.base_rises c.in_ok-put_object.ensures.ok
