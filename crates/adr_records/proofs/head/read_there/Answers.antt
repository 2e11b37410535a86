use Rattle.std.proofs.Common.{◌≡◌, ◌<◌, ◌∙◌, List, ℕ, [], ◌∷◌, true, false, ap, arith, drop, length, refl, sym, subst}
use Rattle.std.proofs.lemmas.List.{length-take}
use Rattle.std.proofs.lemmas.Result.{err_from_is_err_and}
use Rattle.adr_values.specs.declared.failure.Failure.{Failure}
use Rattle.adr_wire.specs.declared.refusal.Malformed.{Malformed}
use Rattle.adr_wire.specs.Reading.{Refuses, Rest}
use Rattle.adr_wire.proofs.Combining.{from}
use Rattle.adr_image.specs.Stored.{image_at}
use Rattle.adr_records.specs.Head.{within_at}
use Rattle.adr_records.proofs.Framing.{stands_there, within_left, within_read, within_refused}
use Rattle.adr_records.proofs.head.read_there.Goals as goal

some_left : (bytes : List ℕ) → (bytes ≡ [] → false ≡ true) → 0 < length bytes
some_left [] none = absurd (let no = none refl in cc)
some_left (b ∷ bs) none = omega arith

pub at-reader-requires : goal.at-reader-requires
at-reader-requires c = omega (arith, c.min-end.ensures, c.requires, length-take c.min-end.result c.args.bytes.now)

pub returns-in_err-contents-clause-refused : goal.returns-in_err-contents-clause-refused
returns-in_err-contents-clause-refused c =
    let there = stands_there c.args.bytes.now c.args.place c.args.len c.min-end.result c.at-reader.result c.min-end.ensures c.requires c.at-reader.ensures in
    let p = err_from_is_err_and c.from_residual.result c.from_residual.ensures.1 in
    rw (p.1, p.2) (within_refused (image_at c.args.version) c.args.len (from c.args.place (drop c.args.place c.args.bytes.now)) c.in_err-contents.field-0.0 (subst (λ (r : Rest). Refuses c.in_err-contents.field-0.0 (image_at c.args.version r)) there c.in_err-contents.ensures))

pub returns-in_err-end-clause-refused : goal.returns-in_err-end-clause-refused
returns-in_err-end-clause-refused c =
    let there = stands_there c.args.bytes.now c.args.place c.args.len c.min-end.result c.at-reader.result c.min-end.ensures c.requires c.at-reader.ensures in
    let p = err_from_is_err_and c.from_residual-in_err-end.result c.from_residual-in_err-end.ensures.1 in
    let left = within_left (image_at c.args.version) c.args.len (from c.args.place (drop c.args.place c.args.bytes.now)) c.in_ok-contents.contents c.read_image.new.reader (ap (image_at c.args.version) (sym there) ∙ c.in_ok-contents.ensures)
    (some_left c.read_image.new.reader.bytes c.in_err-end.ensures.end.1) in
    rw (p.1, p.2) (subst (λ (e : Failure Malformed). Refuses e (within_at (image_at c.args.version) c.args.len (from c.args.place (drop c.args.place c.args.bytes.now)))) (sym c.in_err-end.ensures.place) left)

pub returns-clause-read : goal.returns-clause-read
returns-clause-read c =
    let there = stands_there c.args.bytes.now c.args.place c.args.len c.min-end.result c.at-reader.result c.min-end.ensures c.requires c.at-reader.ensures in (
      c.read_image.new.reader,
      within_read (image_at c.args.version) c.args.len (from c.args.place (drop c.args.place c.args.bytes.now)) c.in_ok-contents.contents c.read_image.new.reader (ap (image_at c.args.version) (sym there) ∙ c.in_ok-contents.ensures) (c.in_ok-end.ensures.end.0 refl),
    )
