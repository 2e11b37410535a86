use Rattle.std.proofs.Common.{◌≡◌, List, Option, false, sym, ap, subst, ◌∙◌, max, length}
use Rattle.std.specs.Prelude.{IfSome}
use Rattle.std.specs.Option.{option_or}
use Rattle.adr_values.specs.declared.stamp.Oid.{Oid}
use Rattle.adr_model.specs.Store.{Held, holds_object, updates_of}
use Rattle.adr_model.specs.Take.{Taking, item_refusal, rows_taken}
use Rattle.adr_model.specs.Live.{objects_of}
use Rattle.adr_model.specs.Write.{links_in}
use Rattle.adr_overlay.specs.Standing.{IsStanding}
use Rattle.adr_overlay.proofs.Standings.{new_unheld}
use Rattle.adr_cycle.proofs.Items.{counted, item_taken}
use Rattle.adr_cycle.proofs.taking.Taking.take_item.Goals as goal

pub write-requires-clause-unheld : goal.write-requires-clause-unheld
write-requires-clause-unheld c =
    let unit = c.unit-unit.result in
    let standing = c.standing_of-standing.result in
    let stands = subst (λ (rows : List Held). IsStanding c.args.vector.now rows unit standing) (ap (λ (t : Taking). t.rows) c.self.view_is) c.standing_of-standing.ensures in
    subst (λ (object : Option Oid). IfSome object (λ o. holds_object c.args.self.now.rows o ≡ false)) (sym c.new_object.ensures)
    (new_unheld c.args.vector.now c.args.self.now.rows unit standing stands)

pub returns-clause-item : goal.returns-clause-item
returns-clause-item c =
    let vector = c.args.vector.now in
    let t = c.args.self.now in
    let item = c.args.item.now in
    let standing = c.standing_of-standing.result in
    let fault = c.in_ok-refusal.refusal in
    let stands : IsStanding vector c.self.inside.told item.unit standing = subst (λ unit. IsStanding vector c.self.inside.told unit standing) c.unit-unit.ensures c.standing_of-standing.ensures in
    ap (λ v. counted v c.or-self-inside.result c.max-self-inside.result c.max-self-inside-2.result) c.self-2.view_is
    ∙ item_taken c.args.schema vector t c.write.new.self item c.in_ok-rows.rows.items fault c.or-self-inside.result c.max-self-inside.result c.max-self-inside-2.result
    c.in_ok-write.ensures
    (c.in_ok-rows.ensures vector stands ∙ ap (λ (v : Taking). rows_taken vector v.rows item) c.self.view_is)
    (c.in_ok-refusal.ensures vector c.self.inside.told stands ∙ ap (λ (v : Taking). item_refusal c.args.schema vector v.rows v.place item) c.self.view_is)
    (c.or-self-inside.ensures ∙ ap (λ (v : Taking). option_or v.refusal fault) c.self-2.view_is)
    (c.max-self-inside.ensures ∙ ap (max c.self-2.inside.objects) c.objects.ensures ∙ ap (λ (v : Taking). max v.objects (length (objects_of (updates_of v.rows)))) c.self-2.view_is)
    (c.max-self-inside-2.ensures ∙ ap (max c.self-2.inside.links) c.links.ensures ∙ ap (λ (v : Taking). max v.links (links_in v.rows)) c.self-2.view_is)
