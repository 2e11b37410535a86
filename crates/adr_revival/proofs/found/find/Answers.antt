use Rattle.std.proofs.Common.{None, length, sym, ap, ◌∙◌}
use Rattle.std.proofs.lemmas.Result.{err_from_is_err_and}
use Rattle.adr_values.specs.declared.stamp.Oid.{Oid}
use Rattle.adr_model.specs.Write.{new_object}
use Rattle.adr_view.specs.declared.seen.Shown.{Shown}
use Rattle.adr_revival.specs.Archived.{stored}
use Rattle.adr_revival.specs.Found.{links_of}
use Rattle.adr_revival.proofs.InParts.{found_told, held_told, place_told, room_told}
use Rattle.adr_revival.proofs.found.find.Goals as goal

pub returns-in_err-shown-clause-told : goal.returns-in_err-shown-clause-told
returns-in_err-shown-clause-told c =
    let p = err_from_is_err_and c.from_residual.result c.from_residual.ensures.1 in
    rw (p.1, p.2)
    (found_told c.args.state.now (stored c.args.archive.now) c.args.revival.now.guid c.args.revival.now.parent c.args.revival.now.text.now _ c.in_err-shown.ensures.told)

pub returns-in_err-check_held-clause-told : goal.returns-in_err-check_held-clause-told
returns-in_err-check_held-clause-told c =
    let p = err_from_is_err_and c.from_residual-in_err-check_held.result c.from_residual-in_err-check_held.ensures.1 in
    rw (p.1, p.2)
    (held_told c.args.state.now (stored c.args.archive.now) c.args.revival.now.guid c.args.revival.now.parent c.args.revival.now.text.now c.in_ok-shown.ensures.told _ c.in_err-check_held.ensures)

pub returns-in_err-check_place-clause-told : goal.returns-in_err-check_place-clause-told
returns-in_err-check_place-clause-told c =
    let p = err_from_is_err_and c.from_residual-in_err-check_place.result c.from_residual-in_err-check_place.ensures.1 in
    rw (p.1, p.2)
    (place_told c.args.state.now (stored c.args.archive.now) c.args.revival.now.guid c.args.revival.now.parent c.args.revival.now.text.now c.in_ok-shown.ensures.told c.in_ok-check_held.ensures
    c.in_ok-shown.shown.class (ap (λ (x : Shown). x.class) c.in_ok-shown.ensures.shown) _ c.in_err-check_place.ensures)

pub returns-in_err-check_room-clause-told : goal.returns-in_err-check_room-clause-told
returns-in_err-check_room-clause-told c =
    let p = err_from_is_err_and c.from_residual-in_err-check_room.result c.from_residual-in_err-check_room.ensures.1 in
    let s = c.args.state.now in
    let shown = c.in_ok-shown.shown in
    rw (p.1, p.2)
    (room_told s (stored c.args.archive.now) c.args.revival.now.guid c.args.revival.now.parent c.args.revival.now.text.now c.in_ok-shown.ensures.told c.in_ok-check_held.ensures
    shown.class (ap (λ (x : Shown). x.class) c.in_ok-shown.ensures.shown) c.in_ok-check_place.ensures _ (length c.as_slice.result.now) c.in_err-check_room.ensures.told
    (sym
    (ap length
    (c.as_slice.ensures.value
    ∙ (c.in_ok-links.ensures
    ∙ (ap (λ (o : Oid). links_of s o shown.class shown.links) c.next_object-object.ensures
    ∙ ap (λ (x : Shown). links_of s (new_object s c.args.revival.now.guid) x.class x.links) (sym c.in_ok-shown.ensures.shown)))))))

pub returns-clause-told : goal.returns-clause-told
returns-clause-told c =
    let s = c.args.state.now in
    let shown = c.in_ok-shown.shown in
    room_told s (stored c.args.archive.now) c.args.revival.now.guid c.args.revival.now.parent c.args.revival.now.text.now c.in_ok-shown.ensures.told c.in_ok-check_held.ensures
    shown.class (ap (λ (x : Shown). x.class) c.in_ok-shown.ensures.shown) c.in_ok-check_place.ensures None (length c.as_slice.result.now) c.in_ok-check_room.ensures.told
    (sym
    (ap length
    (c.as_slice.ensures.value
    ∙ (c.in_ok-links.ensures
    ∙ (ap (λ (o : Oid). links_of s o shown.class shown.links) c.next_object-object.ensures
    ∙ ap (λ (x : Shown). links_of s (new_object s c.args.revival.now.guid) x.class x.links) (sym c.in_ok-shown.ensures.shown))))))
