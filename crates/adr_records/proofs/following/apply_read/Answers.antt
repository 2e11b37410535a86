use Rattle.std.proofs.Common.{◌<◌, ◌∙◌, arith, length, sym, ⊎_elim}
use Rattle.adr_values.specs.Vector.{cursor_limit}
use Rattle.adr_model.specs.Change.{after}
use Rattle.adr_records.specs.BodyLaws.{change_follows}
use Rattle.adr_records.proofs.following.apply_read.Goals as goal

pub unless_full-requires : goal.unless_full-requires
unless_full-requires c = λ is.
    let next = after c.args.state.now c.args.change in
    let follows = change_follows c.args.version c.args.state.now c.args.change c.requires.logged c.requires.body (sym c.are_locals_within.ensures ∙ c.if-not-are_locals_within.false) (sym c.in-Ok-true.ensures.told ∙ c.in-Ok-true.field-0-test) in
    let seen = follows.formed.store.vector.few in
    let purged = follows.formed.store.purged.few in
    ⊎_elim (λ (many : cursor_limit < length next.store.vector). let no : ⊥ = omega (arith, seen, many) in no)
    (λ (many : cursor_limit < length next.store.purged). let no : ⊥ = omega (arith, purged, many) in no)
    (c.apply.ensures.full is)
