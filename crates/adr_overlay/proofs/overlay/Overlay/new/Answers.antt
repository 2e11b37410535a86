use Rattle.std.proofs.Common.{List, sym, ap, ◌∙◌, subst}
use Rattle.adr_model.specs.Store.{Held}
use Rattle.adr_table.specs.Table.{rows_in}
use Rattle.adr_overlay.specs.Overlay.{IsCounted, told}
use Rattle.adr_overlay.proofs.Telling.{begun, told_none}
use Rattle.adr_overlay.proofs.overlay.Overlay.new.Goals as goal

pub invariant_of-result : goal.invariant_of-result
invariant_of-result c =
    record {
      kept = c.new.ensures.kept;
      based = c.requires;
      counted = subst (λ (os : List Held). IsCounted os (rows_in c.args.base.now) c.objects.result c.links.result) (sym c.new.ensures.rows)
          (begun (rows_in c.args.base.now) c.objects.result c.links.result c.are_rising.ensures c.objects.ensures c.links.ensures);
    }

pub returns : goal.returns
returns c = ap (λ (os : List Held). told os (rows_in c.args.base.now)) c.new.ensures.rows ∙ told_none (rows_in c.args.base.now)
