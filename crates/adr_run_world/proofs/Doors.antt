-- What is claimed of a line follows of what it does.
use Rattle.std.proofs.Common.{◌≡◌, inl, inr, ℕ, List, Bool, true, false, sym, ap, ◌∙◌, subst}
use Rattle.adr_call.specs.declared.answer.Answer.{Answer}
use Rattle.adr_call.specs.declared.event.Event.{Event}
use Rattle.adr_call.specs.declared.event.Event.TheVariants as events
use Rattle.adr_call.specs.declared.event.Exchange.TheVariants as exchanges
use Rattle.adr_call.specs.declared.event.Meeting.TheVariants as meetings
use Rattle.adr_model.specs.World.{World, Name}
use Rattle.adr_model.specs.Cycles.{Pulled, pull, cycle}
use Rattle.adr_model.specs.Step.{step}
use Rattle.adr_model.specs.Sound.{IsSoundWorld, IsWorldOfRun}
use Rattle.adr_model.specs.Convergence.{AreAcknowledged, MayHappen, AreUnlimited, EndsOrSaysMore}
use Rattle.adr_law_convergence.proofs.Lines.{stays_sound, was_clean, behind_is_on_the_way}
use Rattle.adr_law_convergence.proofs.Acknowledged.{acknowledged_is_issued}
use Rattle.adr_law_convergence.proofs.CutShort.{cut_short_sound}
use Rattle.adr_law_convergence.proofs.Completing.{cycle_ends}
use Rattle.adr_law_convergence.proofs.Found.{replica_found}
use Rattle.adr_law_convergence.specs.Rounds.{RingsTell}
use Rattle.adr_law_convergence.proofs.Telling.{rings_tell_true}
use Rattle.adr_run_world.specs.declared.run.Run.{Run}
use Rattle.adr_run_world.specs.Door.{IsCompletedBy}
use Rattle.adr_run_world.specs.Rung.{IsRungBy}
use Rattle.adr_run_world.specs.Pulls.{IsCycleTurn, IsTurn}
use Rattle.adr_run_world.specs.Run.{IsSoundRun, IsTidy, world_of}
use Rattle.adr_run_world.specs.Short.{IsMidway, IsCutShort}

cycle_completed : (w : World) (name source : Name) (max : ℕ) → IsSoundWorld w → IsCompletedBy w (events.Goes name (exchanges.Cycle source max)) (cycle w name source max).1 (cycle w name source max).0
cycle_completed w name source max sound d s may d_is s_is most unlimited =
    subst (λ (n : Name). Ends n source) d_is (subst (λ (n : Name). Ends d.name n) s_is (cycle_ends w d s max sound may most)) unlimited
  where
    Ends : Name → Name → Type 0
    Ends n m = AreUnlimited (cycle w n m max).1 → EndsOrSaysMore w d s (cycle w n m max).1 (cycle w n m max).0

completes : (w : World) (e : Event) → IsSoundWorld w → IsCompletedBy w e (step w e).1 (step w e).0
completes w (events.Goes name (exchanges.Cycle source max)) sound = cycle_completed w name source max sound
completes w e sound = tt

-- the answer of a ring tells true
rung_so : (w : World) (e : Event) → RingsTell w → IsRungBy w e (step w e).1
rung_so w (events.Goes first (exchanges.Ring others rounds max)) tell = λ directories vectors is. tell first others rounds max directories vectors is
rung_so w e tell = tt

module _ (w : World) (e : Event) (run : IsWorldOfRun w) (may : MayHappen w e) where
  -- the world behind a line
  pub behind_of_run : (v : World) → v ≡ (step w e).0 → IsWorldOfRun v
  behind_of_run v is = subst IsWorldOfRun (sym is) (stays_sound w e run may (step w e).0 (behind_is_on_the_way w e))

  -- while the world behind a line is clean, that before it was
  sound_before : (v : World) → v ≡ (step w e).0 → v.clean ≡ true → IsSoundWorld w
  sound_before v is clean = run.sound (was_clean w e (step w e).0 (behind_is_on_the_way w e) (ap (λ (x : World). x.clean) (sym is) ∙ clean))

  pub acknowledged_by : (v : World) → v ≡ (step w e).0 → v.clean ≡ true → AreAcknowledged w e (step w e).1 v
  acknowledged_by v is clean = subst (λ (x : World). AreAcknowledged w e (step w e).1 x) (sym is) (acknowledged_is_issued w e (sound_before v is clean) may)

  pub completed_by : (v : World) → v ≡ (step w e).0 → v.clean ≡ true → IsCompletedBy w e (step w e).1 v
  completed_by v is clean = subst (λ (x : World). IsCompletedBy w e (step w e).1 x) (sym is) (completes w e (sound_before v is clean))

  pub rung_by : w.clean ≡ true → IsRungBy w e (step w e).1
  rung_by clean = rung_so w e (rings_tell_true w (run.sound clean))

-- the world behind a pull
pulled_of_run : (w v : World) (dest source : Name) (max : ℕ) → IsWorldOfRun w → v ≡ (pull w dest source max).0 → IsWorldOfRun v
pulled_of_run w v dest source max run is = stays_sound w (events.Goes dest (exchanges.Pull source max)) run tt v is

cycle_turned_of_run : (w : World) (dest source : Name) (max turn : ℕ) (p : Pulled) → IsWorldOfRun w → IsCycleTurn turn w dest source max p → IsWorldOfRun p.0
cycle_turned_of_run w dest source max turn p run (inl is) = pulled_of_run w p.0 dest source max run (ap (λ (q : Pulled). q.0) is.1)
cycle_turned_of_run w dest source max turn p run (inr is) = subst (λ (q : Pulled). IsWorldOfRun q.0) (sym is.1) run

whole_of_run : (w : World) (e : Event) (p : Pulled) → IsWorldOfRun w → MayHappen w e → p ≡ ((step w e).0, (step w e).1, false) → IsWorldOfRun p.0
whole_of_run w e p run may is = behind_of_run w e run may p.0 (ap (λ (q : Pulled). q.0) is)

-- the world behind a turn
turned_of_run : (w : World) (e : Event) (turn : ℕ) (p : Pulled) → IsWorldOfRun w → MayHappen w e → IsTurn turn w e p → IsWorldOfRun p.0
turned_of_run w (events.Goes dest (exchanges.Cycle source max)) turn p run may is = cycle_turned_of_run w dest source max turn p run is
turned_of_run w e turn p run may is = whole_of_run w e p run may is

pub turned_sound : {r v : Run} (e : Event) (turn : ℕ) (more : List Answer) (goes_on : Bool) → IsSoundRun r → MayHappen (world_of r) e → IsTurn turn (world_of r) e (world_of v, more, goes_on) → IsTidy v
    → IsSoundRun v
turned_sound {r} {v} e turn more goes_on sound may turned tidy = record { of_run = turned_of_run (world_of r) e turn (world_of v, more, goes_on) sound.of_run may turned; tidy = tidy }

-- the world behind a start, or a ring, that was cut short
midway_of_run : (w : World) (e : Event) (v : World) → IsWorldOfRun w → MayHappen w e → IsMidway w e v → IsWorldOfRun v
midway_of_run w (events.Meets name meetings.Start) v run may (r, at, not_up, is) = subst IsWorldOfRun (sym is) (cut_short_sound w r run (replica_found w name r at).0 not_up)
midway_of_run w (events.Goes name (exchanges.Ring others rounds max)) v run may way = stays_sound w (events.Goes name (exchanges.Ring others rounds max)) run may v way
midway_of_run w e v run may midway = absurd midway

-- and behind any line that wanted memory
short_of_run : (w : World) (e : Event) (v : World) → IsWorldOfRun w → MayHappen w e → IsCutShort w e v → IsWorldOfRun v
short_of_run w e v run may (inl same) = subst IsWorldOfRun (sym same) run
short_of_run w e v run may (inr midway) = midway_of_run w e v run may midway

pub short_sound : {r v : Run} (e : Event) → IsSoundRun r → MayHappen (world_of r) e → IsCutShort (world_of r) e (world_of v) → IsTidy v → IsSoundRun v
short_sound {r} {v} e sound may short tidy = record { of_run = short_of_run (world_of r) e (world_of v) sound.of_run may short; tidy = tidy }
