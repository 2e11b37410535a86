use Rattle.std.proofs.Common.{◌≡◌, ◌==◌, Bool, true, ◌&&◌, ◌||◌, sym, ap, ap₂, ◌∙◌}
use Rattle.std.proofs.lemmas.Result.{IfOk-weaker}
use Rattle.adr_law_calls.specs.Tested.{are_in_order, comes_after, is_upgraded, writes_pass}
use Rattle.adr_records.proofs.follow.passes.Goals as goal

pub writes_pass-requires : goal.writes_pass-requires
writes_pass-requires c = c.new-told.ensures ∙ c.table.ensures.rows ∙ c.rows.ensures

pub returns : goal.returns
returns c =
    let s = c.args.state.now in
    let d = c.args.change.now in
    let goes : true ≡ comes_after s d = sym c.if-not-comes_after.false ∙ c.comes_after.ensures in
    let keeps : true ≡ ((d.schema == s.store.schema) || is_upgraded s d) = sym c.if-not-keeps_schema.false ∙ c.keeps_schema.ensures in
    let ordered : true ≡ are_in_order s d = sym c.if-not-are_in_order.false ∙ c.are_in_order.ensures in
    IfOk-weaker c.writes_pass.result _ _
    (λ pass e.
    e
    ∙ ap₂ (λ (on : Bool) (keep : Bool). on && keep && true && writes_pass s d) goes keeps
    ∙ ap (λ (order : Bool). comes_after s d && ((d.schema == s.store.schema) || is_upgraded s d) && order && writes_pass s d) ordered)
    c.writes_pass.ensures
