use Rattle.std.proofs.Common.{◌++◌, ◌∷◌, [], take, sym, ap, ◌∙◌}
use Rattle.std.proofs.lemmas.List.{take_more}
use Rattle.adr_values.specs.Vector.{Cursors}
use Rattle.adr_values.specs.Dated.{Dated, moments_of}
use Rattle.adr_values.proofs.Dated.{moments_more}
use Rattle.adr_wire.proofs.timed.moments_of.Goals as goal

pub loop-one-preserved : goal.loop-one-preserved
loop-one-preserved c =
    let i = c.loop-one.one-index in
    let ds = c.args.dated.now in
    let d = c.one-item.result in
    c.in_ok-push_moment.ensures ∙ ap (λ (l : Cursors). l ++ moments_of (d ∷ [])) c.loop-one.invariant ∙ sym (moments_more (take i ds) d)
    ∙ ap moments_of (ap (λ (e : Dated). take i ds ++ e ∷ []) c.one-item.is ∙ sym (take_more ds i d c.loop-one-test.true))
