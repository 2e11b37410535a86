use Rattle.std.proofs.Common.{None}
use Rattle.std.proofs.lemmas.Result.{err_from_is_err_and}
use Rattle.adr_origin.proofs.InLiveParts.{moved_told, named_told, row_told}
use Rattle.adr_origin.proofs.renaming.check_rename.Goals as goal

pub returns-in_err-check_named-clause-told : goal.returns-in_err-check_named-clause-told
returns-in_err-check_named-clause-told c =
    let p = err_from_is_err_and c.from_residual.result c.from_residual.ensures.1 in
    rw (p.1, p.2) (named_told c.args.state.now c.args.name.now.guid c.args.name.now.parent c.args.name.now.text.now _ c.in_err-check_named.ensures)

pub returns-in_err-check_moved-clause-told : goal.returns-in_err-check_moved-clause-told
returns-in_err-check_moved-clause-told c =
    let p = err_from_is_err_and c.from_residual-in_err-check_moved.result c.from_residual-in_err-check_moved.ensures.1 in
    rw (p.1, p.2)
    (moved_told c.args.state.now c.args.name.now.guid c.args.name.now.parent c.args.name.now.text.now c.in_ok-check_named.ensures _ c.in_err-check_moved.ensures)

pub returns-in_err-check_row-clause-told : goal.returns-in_err-check_row-clause-told
returns-in_err-check_row-clause-told c =
    let p = err_from_is_err_and c.from_residual-in_err-check_row.result c.from_residual-in_err-check_row.ensures.1 in
    rw (p.1, p.2)
    (row_told c.args.state.now c.args.name.now.guid c.args.name.now.parent c.args.name.now.text.now c.in_ok-check_named.ensures c.object_of.result _ c.object_of.ensures c.in_ok-check_moved.ensures c.in_err-check_row.ensures.told)

pub returns-clause-told : goal.returns-clause-told
returns-clause-told c =
    row_told c.args.state.now c.args.name.now.guid c.args.name.now.parent c.args.name.now.text.now c.in_ok-check_named.ensures c.object_of.result None c.object_of.ensures c.in_ok-check_moved.ensures c.in_ok-check_row.ensures.told
