use Rattle.std.proofs.Common.{◌≡◌, ◌∙◌, ◌<◌, ◌≤◌, ◌⊎◌, inl, inr, ℕ, List, [], length, Option, Some, None, refl, sym, ap, subst, arith}
use Rattle.std.specs.Prelude.{IfSome, unwrap_or}
use Rattle.adr_values.specs.Vector.{Cursors, cursor_limit, joined, raised}
use Rattle.adr_model.specs.Update.{Identifier}
use Rattle.adr_model.specs.Change.{Change, after, held_of, rows_after, with_mark}
use Rattle.adr_model.specs.Store.{Held, PartnerMark, Mode, State}
use Rattle.adr_state.specs.contracts.state.State.{the_view}
use Rattle.adr_state.proofs.state.State.apply.Goals as goal
use Rattle.adr_state.proofs.state.State.apply.Goals.{After-renew_seen}

-- what is made anew is what else is kept
either : {X : Type 0} (o : Option X) (x : X) → IfSome o (λ v. v ≡ x) → unwrap_or o x ≡ x
either None x is = refl
either (Some v) x is = is

state_is : (s : State) (change : Change) (mode : Mode) (schema usn : ℕ) (rows : List Held) (vector times purged : Cursors) (marks : List (Identifier × PartnerMark)) → mode ≡ change.mode → schema ≡ change.schema → usn ≡ change.usn
    → rows ≡ (after s change).store.rows → vector ≡ (after s change).store.vector → times ≡ (after s change).store.times → purged ≡ (after s change).store.purged → marks ≡ (after s change).store.marks
    → record { dsa = s.dsa; inv = s.inv; mode = mode; store = record { schema = schema; usn = usn; rows = rows; vector = vector; times = times; purged = purged; marks = marks } } ≡ after s change
state_is s change mode schema usn rows vector times purged marks m n u r v t p k = rw m (rw n (rw u (rw r (rw v (rw t (rw p (rw k refl)))))))

few : (vector purged : Cursors) → length vector ≤ cursor_limit → length purged ≤ cursor_limit → (cursor_limit < length vector) ⊎ (cursor_limit < length purged) → ⊥
few vector purged v p (inl over) = omega (arith, over, v)
few vector purged v p (inr over) = omega (arith, over, p)

-- the vector of what was seen is renewed
vector : (c : After-renew_seen) → c.renew_seen.new.vector ≡ raised (joined c.self.inside.vector c.args.change.joined) c.self.inside.inv c.args.change.usn
vector c =
    let change = c.args.change in
    let old = c.self.inside in
    c.renew_seen.ensures ∙ ap (λ (x : Change). unwrap_or c.in_ok-vector.vector (raised (joined old.vector x.joined) old.inv x.usn)) c.take_held.ensures.rest
    ∙ either c.in_ok-vector.vector _ (subst (λ (s : State). IfSome c.in_ok-vector.vector (λ seen. seen ≡ (after s change).store.vector)) (sym c.self.view_is) c.in_ok-vector.ensures.new)

pub returns-clause-room : goal.returns-clause-room
returns-clause-room c =
    let change = c.args.change in
    rw (← c.self.view_is)
    (few _ _ (subst (λ (v : Cursors). length v ≤ cursor_limit) (vector (goal.at.returns-clause-room c).After-renew_seen) c.are_few.ensures)
    (subst (λ (s : State). length (after s change).store.purged ≤ cursor_limit) (sym c.self.view_is) c.in_ok-purged.ensures.few))

pub returns-clause-ok : goal.returns-clause-ok
returns-clause-ok c =
    let change = c.args.change in
    let old = c.self.inside in
    let rest = c.take_held.ensures.rest in
    let purged : c.renew.new.vector ≡ joined old.purged change.purged =
    c.renew.ensures ∙ subst (λ (s : State). unwrap_or c.in_ok-purged.purged s.store.purged ≡ (after s change).store.purged) (sym c.self.view_is) c.in_ok-purged.ensures.ok in
    let times : c.renew_times.new.times ≡ joined old.times change.times =
    c.renew_times.ensures ∙ subst (λ (s : State). unwrap_or c.in_ok-times.times s.store.times ≡ (after s change).store.times) (sym c.self.view_is) c.in_ok-times.ensures in
    let marks : c.renew-2.new.self ≡ with_mark change.mark old.marks =
    c.renew-2.ensures ∙ ap (λ m. unwrap_or c.in_ok-marks.marks (with_mark m old.marks)) c.mark-2.ensures
    ∙ ap (λ (x : Change). unwrap_or c.in_ok-marks.marks (with_mark x.mark old.marks)) rest
    ∙ either c.in_ok-marks.marks _ (subst (λ m. IfSome c.in_ok-marks.marks (λ w. w ≡ with_mark m old.marks)) c.mark.ensures c.in_ok-marks.ensures.new) in
    let rows : c.write.new.self ≡ rows_after change.removed (held_of change.writes) old.rows =
    c.in_ok-write.ensures.ok ∙ ap (λ os. rows_after os c.in_ok-rows.rows.items old.rows) (c.removed.ensures ∙ ap (λ (x : Change). x.removed) rest) ∙ ap (λ hs. rows_after change.removed hs old.rows) c.in_ok-rows.ensures.rows in
    rw (← c.self.view_is) (state_is (the_view old) change _ _ _ _ _ _ _ _ (c.mode-self-inside.ensures ∙ ap (λ (x : Change). x.mode) rest) (c.schema-self-inside.ensures.number ∙ ap (λ (x : Change). x.schema) rest) (c.usn-self-inside.ensures ∙ ap (λ (x : Change). x.usn) rest) rows
    (vector (goal.at.returns-clause-ok c).After-renew_seen)
    times purged marks)
