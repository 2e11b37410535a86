use Rattle.std.proofs.Common.{◌≡◌, ℕ, true, Some, ap, sym, ◌∙◌}
use Rattle.std.specs.BTreeMap.{is_at}
use Rattle.adr_model.specs.Update.{unit_of}
use Rattle.adr_model.proofs.Keys.{equal_order}
use Rattle.adr_shelves.specs.declared.place.Place.{Place}
use Rattle.adr_table.specs.declared.locals.Local.{Local}
use Rattle.adr_shelves.specs.Place.{place_of, place_order, seat_at}
use Rattle.adr_table.specs.Locals.{unit_place}
use Rattle.adr_shelves.proofs.Places.{exact_places}
use Rattle.adr_table.proofs.LocalsSeats.{seat_is}
use Rattle.adr_table.proofs.locals.has_hint.Goals as goal

abbrev hint : ℕ → Place → Local
hint usn place = record { usn = usn; unit = Some place }

pub returns-then-local-usn : goal.returns-then-local-usn
returns-then-local-usn c told =
    let unit = c.args.unit.now in
    let seat = unit_place (unit_of c.args.row.now.update.key) in
    let at : is_at (place_order unit) (seat_at c.of.result) ≡ true = sym c.is_of_unit.ensures ∙ told in
    let same : unit ≡ seat_at c.of.result = exact_places unit (seat_at c.of.result) (equal_order (place_order unit (seat_at c.of.result)) at) in
    let there : seat_at c.of.result ≡ seat = ap seat_at (c.of.ensures ∙ ap place_of c.key.ensures) ∙ seat_is c.args.row.now.update.key in
    ap (λ n. hint n seat) (sym c.local.ensures ∙ c.if-local-usn.true) ∙ ap (hint c.args.usn) (sym there ∙ sym same)
