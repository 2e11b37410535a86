-- What stands of an object that is held, and of one that isn't.
use Rattle.std.proofs.Common.{◌≡◌, List, Bool, true, false, cond, refl, sym, ap, ◌∙◌, None, is_some}
use Rattle.std.specs.Prelude.{IfSome}
use Rattle.std.specs.Option.{option_and_then}
use Rattle.adr_values.specs.declared.stamp.Oid.{Oid}
use Rattle.adr_values.specs.declared.stamp.Unit.{Unit as Named}
use Rattle.adr_values.specs.declared.stamp.Unit.TheVariants.{Object, Link}
use Rattle.adr_values.specs.Vector.{Cursors}
use Rattle.adr_model.specs.Update.{class_attr, deleted_attr}
use Rattle.adr_model.specs.Visible.{covers_birth}
use Rattle.adr_model.specs.Store.{Held as Row, holds_dead, holds_object}
use Rattle.adr_model.specs.Take.{IsDead, IsGone, IsHeld, IsNew, class_said, presence_of}
use Rattle.adr_overlay.specs.Standing.{IsStanding, class_held, new_object}
use Rattle.adr_overlay.specs.declared.presence.Presence.TheVariants.{Dead, Held, Gone, New}
use Rattle.adr_overlay.specs.declared.standing.Standing.{Standing}
use Rattle.adr_overlay.specs.declared.standing.Standing.TheVariants.{OfObject, OfLink}
use Rattle.adr_overlay.proofs.Holding.{none_held}

pub presence_there : (vector : Cursors) (rows : List Row) (o : Oid) → holds_object rows o ≡ true → cond (holds_dead rows o) IsDead IsHeld ≡ presence_of vector rows o
presence_there vector rows o there = ap (λ b. cond (holds_dead rows o) IsDead (cond b IsHeld (cond (covers_birth vector o) IsGone IsNew))) (sym there)

pub presence_away : (vector : Cursors) (rows : List Row) (o : Oid) → holds_object rows o ≡ false → cond (covers_birth vector o) IsGone IsNew ≡ presence_of vector rows o
presence_away vector rows o away =
    ap (λ b. cond b IsHeld (cond (covers_birth vector o) IsGone IsNew)) (sym away)
    ∙ ap (λ b. cond b IsDead (cond (holds_object rows o) IsHeld (cond (covers_birth vector o) IsGone IsNew))) (sym alive)
  where
    alive : holds_dead rows o ≡ false
    alive = ap is_some (none_held rows o deleted_attr away)

pub class_away : (rows : List Row) (o : Oid) → holds_object rows o ≡ false → None ≡ class_held rows o
class_away rows o away = ap (option_and_then (λ (h : Row). class_said h.update.said)) (sym (none_held rows o class_attr away))

new_away : (vector : Cursors) (rows : List Row) (o : Oid) → IsNew ≡ presence_of vector rows o → holds_object rows o ≡ false
new_away vector rows o is = by (holds_dead rows o) (holds_object rows o) is
  where
    by : (dead there : Bool) → IsNew ≡ cond dead IsDead (cond there IsHeld (cond (covers_birth vector o) IsGone IsNew)) → there ≡ false
    by true there e = absurd (cc)
    by false true e = absurd (cc)
    by false false e = refl

-- of a new object nothing is held
pub new_unheld : (vector : Cursors) (rows : List Row) (u : Named) (s : Standing) → IsStanding vector rows u s → IfSome (new_object u s) (λ o. holds_object rows o ≡ false)
new_unheld vector rows (Object o) (OfObject New class) is = new_away vector rows o is.0
new_unheld vector rows (Object o) (OfObject Dead class) is = tt
new_unheld vector rows (Object o) (OfObject Held class) is = tt
new_unheld vector rows (Object o) (OfObject Gone class) is = tt
new_unheld vector rows (Object o) (OfLink is_lost) is = tt
new_unheld vector rows (Link l) s is = tt
