use Rattle.std.proofs.Common.{◌≡◌, [], ◌∷◌, Bool, true, false, not, Option, Some, None, refl, sym, ap, ◌∙◌}
use Rattle.std.specs.Prelude.{is_none, is_some}
use Rattle.std.specs.Bool.{then_some}
use Rattle.adr_call.specs.declared.refusal.WriteRefusal.TheVariants.{NoObject, Deleted}
use Rattle.adr_values.specs.First.{first_of}
use Rattle.adr_model.specs.Place.{Node, node_at}
use Rattle.adr_model.specs.Store.{updates_of}
use Rattle.adr_model.specs.Update.{Identifier}
use Rattle.adr_model.specs.Write.{nodes_held}
use Rattle.adr_update.proofs.Found.{is_copied}
use Rattle.adr_origin.proofs.Living.{holds_live}
use Rattle.adr_origin.proofs.checks.check_object.Goals as goal

not_refused : (guid : Identifier) (held : Bool) (o : Option Node) → held ≡ true → is_some o ≡ true
    → None ≡ first_of (then_some (not held) (NoObject guid) ∷ then_some (is_none o) (Deleted guid) ∷ [])
not_refused guid true (Some n) here some = refl
not_refused guid true None here some = cc
not_refused guid false o here some = cc

pub returns-then-is_some-clause-told : goal.returns-then-is_some-clause-told
returns-then-is_some-clause-told c =
    let live : is_some (node_at (nodes_held (updates_of c.args.state.now.store.rows)) c.args.guid) ≡ true =
    ap is_some (sym (c.node.ensures ∙ ap (λ rows. node_at (nodes_held (updates_of rows)) c.args.guid) c.rows.ensures)) ∙ sym (is_copied c.node.result) ∙ sym c.is_some.ensures ∙ c.if-is_some.true in
    not_refused c.args.guid _ (node_at (nodes_held (updates_of c.args.state.now.store.rows)) c.args.guid) (holds_live c.args.state.now.store.rows c.args.guid live) live
