-- What holds at every place of a run and on the way of each line: what each line keeps, and what follows of it.
use Rattle.std.proofs.Common.{◌≡◌, List, ◌∷◌, ◌++◌, inl, refl, subst}
use Rattle.adr_call.specs.declared.event.Event.{Event}
use Rattle.adr_model.specs.Member.{Each}
use Rattle.adr_model.specs.World.{World, empty_world}
use Rattle.adr_model.specs.Sound.{IsWorldOfRun}
use Rattle.adr_model.specs.Convergence.{MayHappen, MayAllHappen, IsOnTheWay, behind}
use Rattle.adr_model.proofs.Members.{member_left, member_right}
use Rattle.adr_law_convergence.proofs.Lines.{stays_sound, runs_are_sound}
use Rattle.adr_law_headline.specs.Throughout.{HoldsAlways}
use Rattle.adr_law_headline.proofs.Claimed.{front_may, line_may}

module _ (es : List Event) where
  -- of what always holds, what follows
  pub follows_always : {P Q : World → Type 0} → HoldsAlways es P → ((w : World) → P w → Q w) → HoldsAlways es Q
  follows_always p of = (
    (λ before after is. of (behind before) (p.0 before after is)),
    (λ before after e is v way. of v (p.1 before after e is v way)),
  )

  -- of two things that always hold, a third
  pub both_always : {P Q R : World → Type 0} → HoldsAlways es P → HoldsAlways es Q → ((w : World) → P w → Q w → R w) → HoldsAlways es R
  both_always p q of = (
    (λ before after is. of (behind before) (p.0 before after is) (q.0 before after is)),
    (λ before after e is v way. of v (p.1 before after e is v way) (q.1 before after e is v way)),
  )

  -- what is said of each event, is said of the first ones and of the next
  pub each_before : (Q : Event → Type 0) → Each Q es → (before after : List Event) → es ≡ before ++ after → Each Q before
  each_before Q all before after is e m = subst (Each Q) is all e (member_left before after e m)

  pub each_next : (Q : Event → Type 0) → Each Q es → (before after : List Event) (e : Event) → es ≡ before ++ e ∷ after → Q e
  each_next Q all before after e is = subst (Each Q) is all e (member_right before (e ∷ after) e (inl refl))

  module _ (may : MayAllHappen empty_world es) where
    -- what holds behind lines, and of all worlds on the way of a line that may come behind them
    pub always_so : (I : World → Type 0) (Q : Event → Type 0) → Each Q es → ((fs : List Event) → MayAllHappen empty_world fs → Each Q fs → I (behind fs))
        → ((w : World) (e : Event) → I w → MayHappen w e → Q e → (v : World) → IsOnTheWay w e v → I v) → HoldsAlways es I
    always_so I Q all runs steps = (
      here,
      (λ before after e is v way. steps (behind before) e (here before (e ∷ after) is) (line_may es may before after e is) (each_next Q all before after e is) v way),
    )
      where
        here : (before after : List Event) → es ≡ before ++ after → I (behind before)
        here before after is = runs before (front_may es may before after is) (each_before Q all before after is)

    pub runs_always_sound : HoldsAlways es IsWorldOfRun
    runs_always_sound = always_so IsWorldOfRun (λ e. Unit {0}) (λ e m. tt) (λ fs all none. runs_are_sound fs all) (λ w e run can none v way. stays_sound w e run can v way)
