use Rattle.std.proofs.Common.{◌≡◌, ℕ, List, ap, ◌∙◌, subst}
use Rattle.std.specs.Prelude.{IfOk}
use Rattle.adr_values.specs.declared.content.Value.{Value}
use Rattle.adr_update.specs.Referents.{referents}
use Rattle.adr_view.proofs.LiveParts.{own_values}
use Rattle.adr_view.proofs.values.values_at.Goals as goal

pub returns : goal.returns
returns c =
    subst (λ (all : List (ℕ × List Value)). IfOk c.values_among.result (λ (values : List (ℕ × List Value)). values ≡ all))
    (own_values c.args.rows.now c.are_rising.ensures c.args.object.now c.requires (referents c.as_slice.result.now) (ap referents c.as_slice.ensures.value ∙ c.in_ok-own.ensures))
    c.values_among.ensures
