use Rattle.std.proofs.Common.{◌≤◌, fold, sym, ◌∙◌, arith}
use Rattle.std.proofs.lemmas.Result.{err_from_is_err_and}
use Rattle.adr_wire.proofs.Loops.{refuses_is}
use Rattle.adr_model.specs.Write.{object_limit}
use Rattle.adr_image.specs.Image.{no_objects, with_rows, object_at}
use Rattle.adr_image.specs.Seen.{KeepsObjects}
use Rattle.adr_image.specs.Whole.{objects_at}
use Rattle.adr_image.proofs.Steps.{objects_begin}
use Rattle.adr_image.proofs.Keeping.{object_next, sets_out, goes_further, breaks_off, arrives}
use Rattle.adr_image.proofs.gathered.read_objects.Goals as goal

pub loop-init : goal.loop-init
loop-init c =
    let fits : c.in_ok-count.count ≤ object_limit = omega (arith, c.if-count-gt-OBJECT_LIMIT.false) in
    sets_out with_rows (object_at c.args.usn c.args.schema.now) no_objects KeepsObjects c.in_ok-count.count (objects_at c.args.usn c.args.schema.now c.args.reader.now) c.new-objects.result c.read_u32.new.self c.new-objects.ensures
    (objects_begin c.args.usn c.args.schema.now c.in_ok-count.count c.args.reader.now c.read_u32.new.self c.in_ok-count.ensures fits)

pub returns-in_err-object : goal.returns-in_err-object
returns-in_err-object c =
    let p = err_from_is_err_and c.from_residual-in_err-object.result c.from_residual-in_err-object.ensures.1 in
    rw (p.1, p.2)
    (breaks_off with_rows (object_at c.args.usn c.args.schema.now) no_objects KeepsObjects c.in_ok-count.count (objects_at c.args.usn c.args.schema.now c.args.reader.now)
    c.in_err-object.field-0.0 c.loop.counter c.loop.objects c.loop.reader c.loop-test.true c.loop.invariant
    (λ os h. refuses_is c.in_err-object.field-0.0 (object_at c.args.usn c.args.schema.now (record { last = c.loop.objects.last; used = c.loop.objects.used.keys }) c.loop.reader)
    (object_at c.args.usn c.args.schema.now (fold with_rows no_objects os) c.loop.reader)
    (object_next c.args.usn c.args.schema.now c.loop.objects os h c.loop.reader) c.in_err-object.ensures))

pub loop-preserved : goal.loop-preserved
loop-preserved c =
    goes_further with_rows (object_at c.args.usn c.args.schema.now) no_objects KeepsObjects c.in_ok-count.count (objects_at c.args.usn c.args.schema.now c.args.reader.now)
    c.loop.counter c.loop.objects c.take.new.self c.loop.reader c.read_object.new.reader c.loop-test.true c.loop.invariant
    (λ os h. ((c.in_ok-object.object, c.in_ok-object.rows.items), sym (object_next c.args.usn c.args.schema.now c.loop.objects os h c.loop.reader) ∙ c.in_ok-object.ensures, c.in_ok-take.ensures os h))

pub returns : goal.returns
returns c =
    arrives with_rows (object_at c.args.usn c.args.schema.now) no_objects KeepsObjects c.in_ok-count.count (objects_at c.args.usn c.args.schema.now c.args.reader.now)
    c.loop.counter c.loop.objects c.loop.reader c.loop-test.false c.loop.invariant
