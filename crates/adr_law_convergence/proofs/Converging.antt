-- What every run comes to, and what of it was acknowledged on the way.
use Rattle.std.proofs.Common.{◌≡◌, inl, inr, ℕ, List, [], ◌∷◌, ◌++◌, Bool, true, false, refl, sym, ◌∙◌, subst}
use Rattle.adr_call.specs.declared.event.Event.{Event}
use Rattle.adr_model.specs.Change.{Written}
use Rattle.adr_model.specs.Write.{items_written}
use Rattle.adr_model.specs.World.{World, empty_world}
use Rattle.adr_model.specs.Step.{step, after_lines}
use Rattle.adr_model.specs.Sound.{IsSoundWorld}
use Rattle.adr_model.specs.Convergence.{MayHappen, MayAllHappen, IsAcknowledged, acknowledged, AreInView, RunsConverge, AcknowledgedStaysInView, PutsNothingBack, RunsStayClean, puts_back}
use Rattle.adr_model.proofs.Members.{flat_member}
use Rattle.adr_law_convergence.proofs.Controllers.{shows_what_is_visible, own_is_visible, equal_coverage_shows}
use Rattle.adr_law_convergence.proofs.Lines.{runs_are_sound}
use Rattle.adr_law_convergence.proofs.Acknowledged.{acknowledged_is_issued}
use Rattle.adr_law_convergence.proofs.Issuing.{Keeps, same, onward, loosely, step_keeps}

pub runs_converge : RunsConverge
runs_converge es may clean = let sound = (runs_are_sound es may).sound clean in (shows_what_is_visible (after_lines empty_world es) sound, equal_coverage_shows (after_lines empty_world es) sound)

-- a line within a run
line_may : (before after : List Event) (e : Event) (w : World) → MayAllHappen w (before ++ e ∷ after) → MayAllHappen w before × MayHappen (after_lines w before) e
line_may [] after e w may = (tt, may.0)
line_may (f ∷ before) after e w may = let t = line_may before after e (step w f).0 may.1 in ((may.0, t.0), t.1)

run_goes_on : (before after : List Event) (e : Event) (w : World) → after_lines w (before ++ e ∷ after) ≡ after_lines (step (after_lines w before) e).0 after
run_goes_on [] after e w = refl
run_goes_on (f ∷ before) after e w = run_goes_on before after e (step w f).0

lines_keep : (es : List Event) (w : World) → Keeps true w (after_lines w es)
lines_keep [] w = same true w
lines_keep (e ∷ es) w = onward true w (step w e).0 (after_lines (step w e).0 es) (loosely (puts_back e) w (step w e).0 (step_keeps w e)) (lines_keep es (step w e).0)

lines_stay_clean : (es : List Event) (w : World) → PutsNothingBack es → (after_lines w es).clean ≡ w.clean
lines_stay_clean [] w none = refl
lines_stay_clean (e ∷ es) w none = lines_stay_clean es (step w e).0 (λ f m. none f (inr m)) ∙ (step_keeps w e).alike (none e (inl refl))

pub runs_stay_clean : RunsStayClean
runs_stay_clean es none = lines_stay_clean es empty_world none

module _ (before after : List Event) (e : Event) (may : MayAllHappen empty_world (before ++ e ∷ after)) (clean : (after_lines empty_world (before ++ e ∷ after)).clean ≡ true) where
  abbrev w : World
  w = after_lines empty_world before

  abbrev end : World
  end = after_lines empty_world (before ++ e ∷ after)

  parts : MayAllHappen empty_world before × MayHappen w e
  parts = line_may before after e empty_world may

  from_line : Keeps true (step w e).0 end
  from_line = subst (λ (v : World). Keeps true (step w e).0 v) (sym (run_goes_on before after e empty_world)) (lines_keep after (step w e).0)

  -- a run that ends clean was clean before
  sound_before : IsSoundWorld w
  sound_before = (runs_are_sound before parts.0).sound (by w.clean refl)
    where
      by : (b : Bool) → w.clean ≡ b → b ≡ true
      by true is = refl
      by false is = let t : end.clean ≡ false = from_line.unclean ((step_keeps w e).unclean is) in cc

  stays_in_view : (behind : World) → Keeps true behind end → (usn : ℕ) (k : IsAcknowledged w e usn behind) → AreInView end k.writer.safe.inv (acknowledged w k)
  stays_in_view behind kept usn k r m own u n =
      let x = flat_member (λ (x : Written). x.item.rows) (items_written k.writer.safe k.write.what w.time) u n in
      let i = (k.issued x.0 x.1).rows u x.2 in
      own_is_visible end ((runs_are_sound (before ++ e ∷ after) may).sound clean) r m u (kept.issued u i.0) (i.1.0 ∙ sym own)

pub acknowledged_stays_in_view : AcknowledgedStaysInView
acknowledged_stays_in_view before after e may clean usn a m is =
    let k = acknowledged_is_issued (w before after e may clean) e (sound_before before after e may clean) (parts before after e may clean).1 usn a m is in
    (k, stays_in_view before after e may clean (step (w before after e may clean) e).0 (from_line before after e may clean) usn k)
