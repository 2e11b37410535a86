-- What is claimed of a line follows of what it does.
use Rattle.std.proofs.Common.{◌≡◌, true, sym, subst}
use Rattle.adr_model.specs.Convergence.{AreAcknowledged, MayHappen}
use Rattle.adr_model.specs.Step.{step}
use Rattle.adr_law_convergence.proofs.Controllers.{shows_what_is_visible, equal_coverage_shows, own_is_visible}
use Rattle.adr_law_convergence.proofs.Traced.{times_are_true}
use Rattle.adr_run_world.specs.Door.{IsCompletedBy}
use Rattle.adr_run_world.specs.Rung.{IsRungBy}
use Rattle.adr_run_world.specs.Run.{world_of}
use Rattle.adr_run_world.proofs.Doors.{acknowledged_by, completed_by, rung_by}
use Rattle.adr_run_world.proofs.world.World.step.Goals as goal

pub returns-in_err-step-clause-sound : goal.returns-in_err-step-clause-sound
returns-in_err-step-clause-sound g c = c.step.ensures.sound.of_run

pub returns-in_err-step-clause-shown : goal.returns-in_err-step-clause-shown
returns-in_err-step-clause-shown g c clean = shows_what_is_visible (world_of c.step.new.self) (c.step.ensures.sound.of_run.sound clean)

pub returns-in_err-step-clause-equal : goal.returns-in_err-step-clause-equal
returns-in_err-step-clause-equal g c clean = equal_coverage_shows (world_of c.step.new.self) (c.step.ensures.sound.of_run.sound clean)

pub returns-in_err-step-clause-own : goal.returns-in_err-step-clause-own
returns-in_err-step-clause-own g c clean = own_is_visible (world_of c.step.new.self) (c.step.ensures.sound.of_run.sound clean)

pub returns-in_err-step-clause-told_times : goal.returns-in_err-step-clause-told_times
returns-in_err-step-clause-told_times g c clean = times_are_true (world_of c.step.new.self) (c.step.ensures.sound.of_run.sound clean)

pub returns-clause-sound : goal.returns-clause-sound
returns-clause-sound g c = c.step.ensures.sound.of_run

pub returns-clause-shown : goal.returns-clause-shown
returns-clause-shown g c clean = shows_what_is_visible (world_of c.step.new.self) (c.step.ensures.sound.of_run.sound clean)

pub returns-clause-equal : goal.returns-clause-equal
returns-clause-equal g c clean = equal_coverage_shows (world_of c.step.new.self) (c.step.ensures.sound.of_run.sound clean)

pub returns-clause-own : goal.returns-clause-own
returns-clause-own g c clean = own_is_visible (world_of c.step.new.self) (c.step.ensures.sound.of_run.sound clean)

pub returns-clause-told_times : goal.returns-clause-told_times
returns-clause-told_times g c clean = times_are_true (world_of c.step.new.self) (c.step.ensures.sound.of_run.sound clean)

pub returns-clause-acknowledged : goal.returns-clause-acknowledged
returns-clause-acknowledged g c clean =
    subst (λ w. AreAcknowledged w c.args.event.now (step w c.args.event.now).1 (world_of c.step.new.self)) c.self.view_is
    (acknowledged_by (world_of c.self.inside.run) c.args.event.now c.self.invariant.of_run (subst (λ w. MayHappen w c.args.event.now) (sym c.self.view_is) c.requires.may) (world_of c.step.new.self)
    c.in_ok-step.ensures.stepped clean)

pub returns-clause-completed : goal.returns-clause-completed
returns-clause-completed g c clean =
    subst (λ w. IsCompletedBy w c.args.event.now (step w c.args.event.now).1 (world_of c.step.new.self)) c.self.view_is
    (completed_by (world_of c.self.inside.run) c.args.event.now c.self.invariant.of_run (subst (λ w. MayHappen w c.args.event.now) (sym c.self.view_is) c.requires.may) (world_of c.step.new.self)
    c.in_ok-step.ensures.stepped clean)

pub returns-clause-rung : goal.returns-clause-rung
returns-clause-rung g c =
    subst (λ w. w.clean ≡ true → IsRungBy w c.args.event.now (step w c.args.event.now).1) c.self.view_is
    (rung_by (world_of c.self.inside.run) c.args.event.now c.self.invariant.of_run (subst (λ w. MayHappen w c.args.event.now) (sym c.self.view_is) c.requires.may))
