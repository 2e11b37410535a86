use Rattle.std.proofs.Common.{◌≡◌, [], ◌∷◌, ap, sym, subst, ◌∙◌}
use Rattle.std.specs.declared.cmp.Ordering.TheVariants.{Less, Equal, Greater}
use Rattle.adr_values.specs.Order.{identifier_order}
use Rattle.adr_values.specs.Vector.{Cursors, at}
use Rattle.adr_values.proofs.Cursors.{IsRising, tail_rising, at_head}
use Rattle.std.proofs.lemmas.List.{nil_from_length}
use Rattle.std.proofs.lemmas.Map.Lookups.{exact_bytes}
use Rattle.adr_values.proofs.Walks.{not_below, not_below_itself, passed_less, passed_here, not_there}
use Rattle.adr_values.proofs.walking.Walk.at.Goals as goal

pub loop-number-preserved : goal.loop-number-preserved
loop-number-preserved c =
    let head : c.loop-number.self-inside.rest.now ≡ c.in-Some.number.now ∷ c.in-Some.rest.now = c.in-Some.ensures.cases.0 in
    let less : identifier_order c.in-Some.number.now.0 c.args.inv ≡ Less = cc (c.in-Less.is, c.cmp.ensures) in
    record {
      rising = tail_rising c.in-Some.number.now c.in-Some.rest.now (subst IsRising head c.loop-number.invariant.rising);
      kept = λ q other. passed_less c.in-Some.number.now c.in-Some.rest.now c.args.inv less q other ∙ ap (λ (cs : Cursors). at cs q) (sym head) ∙ c.loop-number.invariant.kept q other;
    }

pub invariant_of-self : goal.invariant_of-self
invariant_of-self c =
    let head : c.loop-number.self-inside.rest.now ≡ c.in-Some.number.now ∷ c.in-Some.rest.now = c.in-Some.ensures.cases.0 in
    tail_rising c.in-Some.number.now c.in-Some.rest.now (subst IsRising head c.loop-number.invariant.rising)

pub returns-in-Equal-clause-here : goal.returns-in-Equal-clause-here
returns-in-Equal-clause-here c =
    let head : c.loop-number.self-inside.rest.now ≡ c.in-Some.number.now ∷ c.in-Some.rest.now = c.in-Some.ensures.cases.0 in
    let equal : identifier_order c.in-Some.number.now.0 c.args.inv ≡ Equal = cc (c.in-Equal.is, c.cmp.ensures) in
    let same : c.in-Some.number.now.0 ≡ c.args.inv = exact_bytes c.in-Some.number.now.0 c.args.inv equal in
    sym (at_head c.in-Some.number.now c.in-Some.rest.now) ∙ ap (at (c.in-Some.number.now ∷ c.in-Some.rest.now)) same
    ∙ ap (λ (cs : Cursors). at cs c.args.inv) (sym head) ∙ c.loop-number.invariant.kept c.args.inv (not_below_itself c.args.inv)

pub returns-in-Equal-clause-above : goal.returns-in-Equal-clause-above
returns-in-Equal-clause-above c q above =
    let head : c.loop-number.self-inside.rest.now ≡ c.in-Some.number.now ∷ c.in-Some.rest.now = c.in-Some.ensures.cases.0 in
    let equal : identifier_order c.in-Some.number.now.0 c.args.inv ≡ Equal = cc (c.in-Equal.is, c.cmp.ensures) in
    let same : c.in-Some.number.now.0 ≡ c.args.inv = exact_bytes c.in-Some.number.now.0 c.args.inv equal in
    passed_here c.in-Some.number.now c.in-Some.rest.now c.args.inv same q above ∙ ap (λ (cs : Cursors). at cs q) (sym head) ∙ c.loop-number.invariant.kept q (not_below c.args.inv q above)

pub returns-in-Greater-clause-here : goal.returns-in-Greater-clause-here
returns-in-Greater-clause-here c =
    let head : c.loop-number.self-inside.rest.now ≡ c.in-Some.number.now ∷ c.in-Some.rest.now = c.in-Some.ensures.cases.0 in
    let greater : identifier_order c.in-Some.number.now.0 c.args.inv ≡ Greater = cc (c.in-Greater.is, c.cmp.ensures) in
    sym (not_there c.in-Some.number.now c.in-Some.rest.now c.args.inv (subst IsRising head c.loop-number.invariant.rising) greater)
    ∙ ap (λ (cs : Cursors). at cs c.args.inv) (sym head) ∙ c.loop-number.invariant.kept c.args.inv (not_below_itself c.args.inv)

pub returns-in-Greater-clause-above : goal.returns-in-Greater-clause-above
returns-in-Greater-clause-above c q above = c.loop-number.invariant.kept q (not_below c.args.inv q above)

pub returns-in_default-clause-here : goal.returns-in_default-clause-here
returns-in_default-clause-here c =
    let none : c.loop-number.self-inside.rest.now ≡ [] = nil_from_length c.loop-number.self-inside.rest.now c.in_default.ensures.cases in
    ap (λ (cs : Cursors). at cs c.args.inv) (sym none) ∙ c.loop-number.invariant.kept c.args.inv (not_below_itself c.args.inv)

pub returns-in_default-clause-above : goal.returns-in_default-clause-above
returns-in_default-clause-above c q above = c.loop-number.invariant.kept q (not_below c.args.inv q above)
