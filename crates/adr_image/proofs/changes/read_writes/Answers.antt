use Rattle.std.proofs.Common.{◌∷◌, ◌++◌, [], ℕ, Option, Some, fold, refl, sym, ap, ◌∙◌}
use Rattle.std.proofs.lemmas.Result.{err_from_is_err_and}
use Rattle.adr_wire.proofs.Loops.{refuses_is}
use Rattle.adr_image.specs.Body.{write_above, writes_at}
use Rattle.adr_image.proofs.Keeping.{sets_out, goes_further, breaks_off, arrives}
use Rattle.adr_image.proofs.Changing.{KeepsWrites, next_local, keeps_write, writes_begin}
use Rattle.adr_image.proofs.changes.read_writes.Goals as goal

pub loop-init : goal.loop-init
loop-init c =
    sets_out next_local write_above (Some c.args.before) (KeepsWrites c.args.before) c.in_ok-count.count (writes_at c.args.before c.args.reader.now)
    (c.new-writes.result.items, c.args.before) c.read_u32.new.self (c.new-writes.ensures.items, refl) (writes_begin c.args.before c.in_ok-count.count c.args.reader.now c.read_u32.new.self c.in_ok-count.ensures)

pub returns-in_err-write : goal.returns-in_err-write
returns-in_err-write c =
    let p = err_from_is_err_and c.from_residual-in_err-write.result c.from_residual-in_err-write.ensures.1 in
    rw (p.1, p.2)
    (breaks_off next_local write_above (Some c.args.before) (KeepsWrites c.args.before) c.in_ok-count.count (writes_at c.args.before c.args.reader.now)
    c.in_err-write.field-0.0 c.loop.counter (c.loop.writes.items, c.loop.last) c.loop.reader c.loop-test.true c.loop.invariant
    (λ ws k. refuses_is c.in_err-write.field-0.0 (write_above (Some c.loop.last) c.loop.reader) (write_above (fold next_local (Some c.args.before) ws) c.loop.reader) (ap (λ (last : Option ℕ). write_above last c.loop.reader) (sym k.1)) c.in_err-write.ensures))

pub loop-preserved : goal.loop-preserved
loop-preserved c =
    let w = c.in_ok-write.ensures in
    rw (c.in_ok-push.ensures.items, c.local-last.ensures)
    (goes_further next_local write_above (Some c.args.before) (KeepsWrites c.args.before) c.in_ok-count.count (writes_at c.args.before c.args.reader.now)
    c.loop.counter (c.loop.writes.items, c.loop.last) (c.loop.writes.items ++ c.in_ok-write.write ∷ [], c.in_ok-write.write.local) c.loop.reader c.read_write.new.reader c.loop-test.true c.loop.invariant
    (λ ws k. (w.0, ap (λ (last : Option ℕ). write_above last c.loop.reader) k.1 ∙ w.1, keeps_write c.args.before c.loop.writes.items c.loop.last c.in_ok-write.write ws w.0 k w.2)))

pub returns : goal.returns
returns c =
    let w = arrives next_local write_above (Some c.args.before) (KeepsWrites c.args.before) c.in_ok-count.count (writes_at c.args.before c.args.reader.now)
    c.loop.counter (c.loop.writes.items, c.loop.last) c.loop.reader c.loop-test.false c.loop.invariant in
    (w.0, w.1, w.2.0)
