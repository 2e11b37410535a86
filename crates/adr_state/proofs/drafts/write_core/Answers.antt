use Rattle.std.proofs.Common.{◌≡◌, List, Option, Some, refl, ap, subst, ◌∙◌}
use Rattle.std.specs.Prelude.{IsSome, unwrap_or}
use Rattle.std.specs.Option.{option_copied_mut}
use Rattle.std.specs.BTreeMap.{BTreeMap, Updates, get}
use Rattle.std.proofs.lemmas.Result.{on_ok_weaker}
use Rattle.adr_values.specs.Order.{identifier_order}
use Rattle.adr_model.specs.Store.{Held}
use Rattle.adr_model.specs.Update.{Identifier}
use Rattle.adr_table.specs.Table.{rows_in}
use Rattle.adr_state.specs.Core.{core_of}
use Rattle.adr_state.proofs.Drafting.{row_drafted}
use Rattle.adr_state.proofs.drafts.write_core.Goals as goal

pub returns-in-Some : goal.returns-in-Some
returns-in-Some c =
    let rows = rows_in c.args.table.now in
    let guid = c.args.object.now.guid in
    let old = c.args.drafts.now in
    let after = c.write.new.self in
    let found = subst (λ r. option_copied_mut r ≡ get identifier_order old guid) c.in-Some.is c.get_mut.ensures.value in
    on_ok_weaker c.write.result
    (λ written seen r are. row_drafted rows seen old (c.get_mut.follows.lender after) c.args.object.now c.in-Some.draft.now after c.args.row.now r
    are c.requires.core (ap (λ (o : Option (List Held)). unwrap_or o (core_of guid rows)) found) written
    ((c.get_mut.follows.holds after).3 (subst IsSome found refl)))
    c.write.ensures

pub returns-in_ok-insert-in-None : goal.returns-in_ok-insert-in-None
returns-in_ok-insert-in-None c seen r are =
    let rows = rows_in c.args.table.now in
    let guid = c.args.object.now.guid in
    let old = c.args.drafts.now in
    let none = subst (λ r. option_copied_mut r ≡ get identifier_order old guid) c.in-None.is c.get_mut.ensures.value in
    let same : c.get_mut.follows.lender-at-none ≡ old = c.get_mut.follows.holds-at-none in
    row_drafted rows seen old c.insert.new.self c.args.object.now c.in_ok-draft-in-None.draft c.write-in-None.new.self c.args.row.now r
    are c.requires.core (c.in_ok-draft-in-None.ensures ∙ ap (λ (o : Option (List Held)). unwrap_or o (core_of guid rows)) none) c.in_ok-write-in-None.ensures
    (subst (λ (m : BTreeMap Identifier (List Held)). Updates identifier_order m c.insert.new.self guid (Some c.write-in-None.new.self)) same c.in_ok-insert-in-None.ensures.updates)
