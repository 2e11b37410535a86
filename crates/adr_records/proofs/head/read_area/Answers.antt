use Rattle.std.proofs.Common.{◌+◌, ◌∙◌, Ok, ap, drop, sym}
use Rattle.std.proofs.lemmas.Result.{err_from_is_err_and}
use Rattle.adr_wire.specs.Reading.{Read}
use Rattle.adr_wire.proofs.Combining.{from}
use Rattle.adr_model.specs.Store.{State}
use Rattle.adr_law_journal.specs.Areas.{Began}
use Rattle.adr_records.specs.Head.{began}
use Rattle.adr_records.proofs.Heads.{area_there, no_image, no_size, own_image_is, sized_version}
use Rattle.adr_records.proofs.head.read_area.Goals as goal

pub returns-in_err-sized-clause-err : goal.returns-in_err-sized-clause-err
returns-in_err-sized-clause-err c =
    let p = err_from_is_err_and c.from_residual.result c.from_residual.ensures.1 in
    rw (p.1, p.2) (no_size (c.args.owner.dsa, c.args.owner.inv) (from c.args.place (drop c.args.place c.args.bytes.now)) c.in_err-sized.field-0.0 c.in_err-sized.ensures.sized)

pub returns-in_err-contents-clause-err : goal.returns-in_err-contents-clause-err
returns-in_err-contents-clause-err c =
    let p = err_from_is_err_and c.from_residual-in_err-contents.result c.from_residual-in_err-contents.ensures.1 in
    rw (p.1, p.2) (no_image (c.args.owner.dsa, c.args.owner.inv) (from c.args.place (drop c.args.place c.args.bytes.now)) c.in_err-contents.field-0.0 (from (c.args.place + 6) (drop (c.args.place + 6) c.args.bytes.now)) c.in_ok-sized.sized c.in_ok-sized.ensures.sized c.in_err-contents.ensures)

pub woken-requires : goal.woken-requires
woken-requires c =
    let end = c.args.place + 6 + c.in_ok-sized.sized.1 in
    own_image_is c.in_ok-sized.sized.0 (sized_version c.args.bytes.now c.args.place (λ i. (c.type_inv.bytes i).fits) c.in_ok-sized.sized (from (c.args.place + 6) (drop (c.args.place + 6) c.args.bytes.now)) c.in_ok-sized.ensures.sized) c.args.owner.inv c.in_ok-sized.sized.1 (c.args.place + 6) c.args.bytes.now c.in_ok-contents.contents (from end (drop end c.args.bytes.now)) (λ i. (c.type_inv.bytes i).fits) c.in_ok-contents.ensures

pub returns-clause-ok : goal.returns-clause-ok
returns-clause-ok c =
    let p = c.in_ok-sized.sized in
    let place = c.args.place + 6 + p.1 in
    let end = from place (drop place c.args.bytes.now) in
    area_there (c.args.owner.dsa, c.args.owner.inv) (from c.args.place (drop c.args.place c.args.bytes.now)) (from (c.args.place + 6) (drop (c.args.place + 6) c.args.bytes.now)) end p c.in_ok-contents.contents c.in_ok-sized.ensures.sized c.in_ok-contents.ensures
    ∙ ap (λ (t : State). let x : Read (Began State) = Ok (began p.0 t, end) in x) (sym c.in_ok-woken.ensures)
