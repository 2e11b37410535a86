use Rattle.std.proofs.Common.{◌≤◌, ℕ, sym, ◌∙◌, ap, subst}
use Rattle.adr_model.specs.Update.{key_order}
use Rattle.adr_update.specs.Key.{key_of}
use Rattle.adr_update.specs.Referents.{referents}
use Rattle.adr_state.specs.Gap.{IsGapFor}
use Rattle.adr_state.proofs.Gaps.{above_here, place_here, gap_here, gap_at_end}
use Rattle.adr_update.proofs.Referred.{length_referents}
use Rattle.adr_state.proofs.draft.place_of.Goals as goal

pub returns-in-Less-clause-gap : goal.returns-in-Less-clause-gap
returns-in-Less-clause-gap c =
    gap_here (key_of c.args.key.now) c.args.rows.now c.loop-place.place c.index-rows-place.result c.loop-place-test.true c.index-rows-place.is c.loop-place.invariant
    (ap (key_order (key_of c.args.key.now)) (sym c.key.ensures) ∙ sym c.in-Less.ensures)

pub returns-in-Equal-clause-place : goal.returns-in-Equal-clause-place
returns-in-Equal-clause-place c =
    place_here (key_of c.args.key.now) c.args.rows.now c.loop-place.place c.index-rows-place.result c.loop-place-test.true c.index-rows-place.is c.loop-place.invariant
    (ap (key_order (key_of c.args.key.now)) (sym c.key.ensures) ∙ sym c.in-Equal.ensures)

pub returns-clause-gap : goal.returns-clause-gap
returns-clause-gap c =
    let rows = c.args.rows.now in
    subst (IsGapFor (referents rows) (key_of c.args.key.now)) (length_referents rows)
    (gap_at_end (key_of c.args.key.now) (referents rows) c.loop-place.place
    (subst (λ (n : ℕ). n ≤ c.loop-place.place) (sym (length_referents rows)) c.loop-place-test.false) c.loop-place.invariant)

pub loop-place-preserved : goal.loop-place-preserved
loop-place-preserved c =
    above_here (key_of c.args.key.now) c.args.rows.now c.loop-place.place c.index-rows-place.result c.loop-place-test.true c.index-rows-place.is c.loop-place.invariant
    (ap (key_order (key_of c.args.key.now)) (sym c.key.ensures) ∙ sym c.in-Greater.ensures)
