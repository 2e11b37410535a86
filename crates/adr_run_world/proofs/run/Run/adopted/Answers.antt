use Rattle.std.proofs.Common.{◌≡◌, ◌∙◌, sym, ap, subst}
use Rattle.std.proofs.lemmas.Result.{IfOk-weaker}
use Rattle.adr_call.specs.declared.outcome.Outcome.TheVariants as outcomes
use Rattle.adr_model.specs.Collect.{adopt}
use Rattle.adr_model.specs.World.{adopts, of_image}
use Rattle.adr_run_replica.specs.Led.{Adopts, Unadopted}
use Rattle.adr_run_world.proofs.run.Run.adopted.Goals as goal

pub returns-in_default-clause-other : goal.returns-in_default-clause-other
returns-in_default-clause-other c = λ outcome is w placed.
    let tells : outcomes.Absent ≡ outcome = cc is in
    ap (λ o. of_image w o (λ i. adopts w placed c.args.name.now (adopt i c.args.dsa c.args.inv))) (sym c.in_default.ensures) ∙ ap (λ t. (w, t)) tells

pub returns-clause-made : goal.returns-clause-made
returns-clause-made c =
    IfOk-weaker c.adopted.result _ _
    (λ made is. λ w placed.
    ap (λ o. of_image w o (λ i. adopts w placed c.args.name.now (adopt i c.args.dsa c.args.inv))) (sym c.in-Some.ensures)
    ∙ subst (λ n. Adopts n (adopt c.in-Some.image.now c.args.dsa c.args.inv) made) c.in_ok-name.ensures is w placed)
    c.adopted.ensures.made

pub returns-clause-up : goal.returns-clause-up
returns-clause-up c =
    IfOk-weaker c.adopted.result _ _ (λ made is. (is.0 ∙ c.in_ok-name.ensures, is.1, is.2, is.3)) c.adopted.ensures.up

pub returns-clause-other : goal.returns-clause-other
returns-clause-other c = λ outcome is w placed.
    ap (λ o. of_image w o (λ i. adopts w placed c.args.name.now (adopt i c.args.dsa c.args.inv))) (sym c.in-Some.ensures)
    ∙ subst (λ n. Unadopted n (adopt c.in-Some.image.now c.args.dsa c.args.inv) outcome) c.in_ok-name.ensures (c.adopted.ensures.other outcome is) w placed
