use Rattle.std.proofs.lemmas.Result.{err_from_is_err_and}
use Rattle.adr_origin.proofs.InParts.{object_told, place_told, room_told}
use Rattle.adr_origin.proofs.adding.check_add.Goals as goal

pub returns-in_err-check_object-clause-told : goal.returns-in_err-check_object-clause-told
returns-in_err-check_object-clause-told c =
    let p = err_from_is_err_and c.from_residual.result c.from_residual.ensures.1 in
    rw (p.1, p.2)
    (object_told c.args.state.now c.args.object.now.guid c.args.object.now.class c.args.object.now.parent c.args.object.now.text.now c.args.object.now.values.now _ c.in_err-check_object.ensures)

pub returns-in_err-check_place-clause-told : goal.returns-in_err-check_place-clause-told
returns-in_err-check_place-clause-told c =
    let p = err_from_is_err_and c.from_residual-in_err-check_place.result c.from_residual-in_err-check_place.ensures.1 in
    rw (p.1, p.2)
    (place_told c.args.state.now c.args.object.now.guid c.args.object.now.class c.args.object.now.parent c.args.object.now.text.now c.args.object.now.values.now c.in_ok-check_object.ensures _ c.in_err-check_place.ensures)

pub returns-in_err-check_room-clause-told : goal.returns-in_err-check_room-clause-told
returns-in_err-check_room-clause-told c =
    let p = err_from_is_err_and c.from_residual-in_err-check_room.result c.from_residual-in_err-check_room.ensures.1 in
    rw (p.1, p.2)
    (room_told c.args.state.now c.args.object.now.guid c.args.object.now.class c.args.object.now.parent c.args.object.now.text.now c.args.object.now.values.now c.in_ok-check_object.ensures _ c.in_ok-check_place.ensures c.in_err-check_room.ensures.told)
