use Rattle.std.proofs.Common.{List, ℕ, ◌≡◌, ◌+◌, ◌∙◌, Ok, Err, ap, arith, drop, length, subst, sym}
use Rattle.std.proofs.lemmas.List.{drop-drop, length-drop}
use Rattle.std.proofs.lemmas.Result.{err_from_is_err_and}
use Rattle.adr_values.specs.declared.failure.Failure.{Failure}
use Rattle.adr_wire.specs.declared.refusal.Malformed.{Malformed}
use Rattle.adr_wire.specs.Reading.{Read, Refuses}
use Rattle.adr_wire.proofs.Combining.{from}
use Rattle.adr_model.specs.Store.{Store}
use Rattle.adr_image.specs.Stored.{image_at}
use Rattle.adr_records.specs.Head.{framed_at}
use Rattle.adr_records.proofs.Framing.{framed_cut, framed_read, framed_refused}
use Rattle.adr_records.proofs.head.read_framed.Goals as goal

pub returns-in_err-contents : goal.returns-in_err-contents
returns-in_err-contents c =
    let p = err_from_is_err_and c.from_residual.result c.from_residual.ensures.1 in
    rw (p.1, p.2) (framed_refused (image_at c.args.version) c.args.len (from c.args.place (drop c.args.place c.args.bytes.now)) c.in_err-contents.field-0.0 c.in_err-contents.ensures.refused)

pub returns-then-bytes-place : goal.returns-then-bytes-place
returns-then-bytes-place c =
    let k = c.in_ok-contents.ensures.read in
    let long = length-drop c.args.place c.args.bytes.now in
    let whole : c.args.place + length (drop c.args.place c.args.bytes.now) ≡ length c.args.bytes.now = omega (arith, long, c.requires) in
    subst (λ (e : Failure Malformed). Refuses e (framed_at (image_at c.args.version) c.args.len (from c.args.place (drop c.args.place c.args.bytes.now)))) (sym c.malformed.ensures)
    (framed_cut (image_at c.args.version) c.args.len (from c.args.place (drop c.args.place c.args.bytes.now)) c.in_ok-contents.contents k.0 k.1 (omega (arith, c.if-bytes-place.true, c.requires, long)) ∙ ap (λ (n : ℕ). Err n) whole)

pub returns : goal.returns
returns c =
    let k = c.in_ok-contents.ensures.read in
    framed_read (image_at c.args.version) c.args.len (from c.args.place (drop c.args.place c.args.bytes.now)) c.in_ok-contents.contents k.0 k.1 (omega (arith, c.if-bytes-place.false, c.requires, length-drop c.args.place c.args.bytes.now))
    ∙ ap (λ (l : List ℕ). let x : Read Store = Ok (c.in_ok-contents.contents, from (c.args.place + c.args.len) l) in x) (drop-drop c.args.len c.args.place c.args.bytes.now)
