use Rattle.std.proofs.Common.{◌+◌, ◌∙◌, refl, sym, ap, option_map, arith, subst, length}
use Rattle.std.specs.Option.{option_or}
use Rattle.adr_model.specs.Serve.{candidates}
use Rattle.adr_table.specs.Lasts.{AreLasts}
use Rattle.adr_cycle.proofs.Choosing.{next_ends, next_found}
use Rattle.adr_cycle.proofs.Lefts.{first_number, next_number, no_number}
use Rattle.adr_cycle.proofs.Numbered.{next}
use Rattle.adr_cycle.proofs.candidates.next_candidate.Goals as goal

pub candidate_at-requires : goal.candidate_at-requires
candidate_at-requires c =
    let i = c.loop-local.invariant in
    let first = sym c.number.ensures.number ∙ c.in-Some.is in
    let t = next_number c.args.rows.now i.passed c.in-Some.local c.loop-local.walk i.lasts first in
    record {
      above = omega (arith, i.above, t.0.0);
      lasts = subst (AreLasts c.args.rows.now c.in-Some.local) (sym c.number.ensures.same) t.1;
      first = ap first_number c.number.ensures.same ∙ first;
    }

pub returns-in-Some-2-clause-next : goal.returns-in-Some-2-clause-next
returns-in-Some-2-clause-next c =
    let i = c.loop-local.invariant in
    let t = next_number c.args.rows.now i.passed c.in-Some.local c.loop-local.walk i.lasts (sym c.number.ensures.number ∙ c.in-Some.is) in
    let step = next_found c.args.rows.now c.args.from c.args.asked.now i.passed c.in-Some.local t.0 in
    let at = sym c.in_ok-candidate.ensures.item ∙ c.in-Some-2.is in
    sym (sym i.same ∙ step ∙ ap (λ o. option_or (option_map (λ i. (c.in-Some.local, i)) o) (next c.in-Some.local (candidates c.args.rows.now c.args.from c.args.asked.now))) at)

pub returns-in-Some-2-clause-left : goal.returns-in-Some-2-clause-left
returns-in-Some-2-clause-left c =
    let i = c.loop-local.invariant in
    let t = next_number c.args.rows.now i.passed c.in-Some.local c.loop-local.walk i.lasts (sym c.number.ensures.number ∙ c.in-Some.is) in
    record { passed = c.in-Some.local; above = omega (arith, i.above, t.0.0); lasts = c.in_ok-candidate.ensures.lasts; same = refl }

pub loop-local-preserved : goal.loop-local-preserved
loop-local-preserved c =
    let i = c.loop-local.invariant in
    let t = next_number c.args.rows.now i.passed c.in-Some.local c.loop-local.walk i.lasts (sym c.number.ensures.number ∙ c.in-Some.is) in
    let step = next_found c.args.rows.now c.args.from c.args.asked.now i.passed c.in-Some.local t.0 in
    let at = sym c.in_ok-candidate.ensures.item ∙ c.in_default-2.is in
    record {
      passed = c.in-Some.local;
      above = omega (arith, i.above, t.0.0);
      lasts = c.in_ok-candidate.ensures.lasts;
      same = sym (step ∙ ap (λ o. option_or (option_map (λ i. (c.in-Some.local, i)) o) (next c.in-Some.local (candidates c.args.rows.now c.args.from c.args.asked.now))) at) ∙ i.same;
    }

pub loop-local-smaller : goal.loop-local-smaller
loop-local-smaller c = omega (arith, c.in_ok-candidate.ensures.fewer, ap length c.number.ensures.same)

pub returns-clause-next : goal.returns-clause-next
returns-clause-next c =
    let i = c.loop-local.invariant in
    let ends = no_number c.args.rows.now i.passed c.loop-local.walk i.lasts (sym c.number.ensures.number ∙ c.in_default.is) in
    sym (sym i.same ∙ next_ends c.args.rows.now c.args.from c.args.asked.now i.passed ends)

pub returns-clause-left : goal.returns-clause-left
returns-clause-left c =
    let i = c.loop-local.invariant in
    record { passed = i.passed; above = i.above; lasts = subst (AreLasts c.args.rows.now (i.passed + 1)) (sym c.number.ensures.same) i.lasts; same = i.same }
