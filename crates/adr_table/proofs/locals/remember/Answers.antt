use Rattle.std.proofs.Common.{◌≡◌, ℕ, Some, ap, sym, ◌∙◌, subst}
use Rattle.std.specs.Prelude.{IfSome}
use Rattle.std.specs.BTreeSet.{contains}
use Rattle.adr_model.specs.Update.{unit_of}
use Rattle.adr_shelves.specs.declared.place.Place.{Place}
use Rattle.adr_table.specs.declared.locals.Local.{Local}
use Rattle.adr_shelves.specs.Place.{place_of, seat_at}
use Rattle.adr_table.specs.Locals.{IsLocated, local_of, local_order, unit_place}
use Rattle.adr_table.proofs.LocalsSeats.{seat_is}
use Rattle.adr_table.proofs.locals.remember.Goals as goal

abbrev hint : ℕ → Place → Local
hint usn place = record { usn = usn; unit = Some place }

pub returns-in-Some-clause-ok : goal.returns-in-Some-clause-ok
returns-in-Some-clause-ok c =
    let key = c.args.row.now.update.key in
    let there : c.seat_at-unit.result ≡ unit_place (unit_of key) = c.seat_at-unit.ensures ∙ ap seat_at (c.of.ensures ∙ ap place_of c.key.ensures) ∙ seat_is key in
    let same : local_of c.in-Some.before.now ≡ local_of c.args.row.now =
    c.has_hint.ensures c.if-has_hint.true ∙ (ap (λ n. hint n c.seat_at-unit.result) c.local-usn.ensures ∙ ap (hint c.args.row.now.local) there) in
    ap (contains local_order c.args.locals.now) (sym same)
    ∙ subst (λ o. IfSome o (λ h. IsLocated c.args.locals.now h.now)) c.in-Some.is c.requires
