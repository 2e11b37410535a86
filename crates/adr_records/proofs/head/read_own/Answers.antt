use Rattle.std.proofs.Common.{◌+◌, ◌∙◌, ap, drop, subst, sym}
use Rattle.std.proofs.lemmas.Result.{err_from_is_err_and}
use Rattle.adr_values.specs.declared.failure.Failure.{Failure}
use Rattle.adr_wire.specs.declared.refusal.Malformed.{Malformed}
use Rattle.adr_wire.specs.Reading.{Refuses}
use Rattle.adr_wire.proofs.Combining.{from}
use Rattle.adr_values.specs.Vector.{at}
use Rattle.adr_model.specs.Store.{Store}
use Rattle.adr_records.specs.Head.{own_image_at}
use Rattle.adr_records.proofs.Heads.{own_differs, own_read, own_refused}
use Rattle.adr_records.proofs.head.read_own.Goals as goal

pub returns-in_err-contents : goal.returns-in_err-contents
returns-in_err-contents c =
    let p = err_from_is_err_and c.from_residual.result c.from_residual.ensures.1 in
    rw (p.1, p.2) (own_refused c.args.version c.args.inv c.args.len (from c.args.place (drop c.args.place c.args.bytes.now)) c.in_err-contents.field-0.0 c.in_err-contents.ensures)

pub returns-then-at-contents : goal.returns-then-at-contents
returns-then-at-contents c =
    let seen = c.at.ensures ∙ ap (λ (s : Store). at s.vector c.args.inv) c.contents.view_is in
    let usn = ap (λ (s : Store). s.usn) c.contents.view_is in
    subst (λ (e : Failure Malformed). Refuses e (own_image_at c.args.version c.args.inv c.args.len (from c.args.place (drop c.args.place c.args.bytes.now)))) (sym c.malformed.ensures)
    (own_differs c.args.version c.args.inv c.args.len (from c.args.place (drop c.args.place c.args.bytes.now)) c.in_ok-contents.contents (from (c.args.place + c.args.len) (drop (c.args.place + c.args.len) c.args.bytes.now)) c.in_ok-contents.ensures
    (λ same. c.if-at-contents.true (seen ∙ same ∙ sym usn)))

pub returns : goal.returns
returns c =
    let seen = c.at.ensures ∙ ap (λ (s : Store). at s.vector c.args.inv) c.contents.view_is in
    let usn = ap (λ (s : Store). s.usn) c.contents.view_is in
    own_read c.args.version c.args.inv c.args.len (from c.args.place (drop c.args.place c.args.bytes.now)) c.in_ok-contents.contents (from (c.args.place + c.args.len) (drop (c.args.place + c.args.len) c.args.bytes.now)) c.in_ok-contents.ensures
    (sym seen ∙ c.if-at-contents.false ∙ usn)
