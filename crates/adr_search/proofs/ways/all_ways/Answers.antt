use Rattle.std.proofs.Common.{◌*◌, List, ap, map, refl, ◌∙◌, arith}
use Rattle.adr_search.specs.declared.ways.Way.{Way}
use Rattle.adr_search.specs.Ways.{further}
use Rattle.adr_search.proofs.Walking.{doubled_are, marks_are}
use Rattle.adr_search.proofs.ways.all_ways.Goals as goal

pub loop-steps-preserved : goal.loop-steps-preserved
loop-steps-preserved c =
    let l = c.loop-steps in
    record {
      some = omega arith;
      ways = doubled_are c.args.entries.now c.args.base l.steps l.ways.items l.invariant.ways (l.steps * 2) _ refl (c.in_ok-ways-2.ensures ∙ ap (λ (ws : List Way). map (further ws) ws) c.as_slice.ensures.value);
    }

pub returns : goal.returns
returns c = marks_are c.args.entries.now c.args.base c.loop-steps.steps c.loop-steps.ways.items c.loop-steps.invariant.ways (omega (arith, c.loop-steps-test.false))
