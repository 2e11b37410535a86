use Rattle.std.proofs.Common.{◌≡◌, subst, sym}
use Rattle.std.specs.Prelude.{OnErr}
use Rattle.adr_call.specs.declared.event.Event.TheVariants.{Meets}
use Rattle.adr_call.specs.declared.event.Meeting.{Meeting}
use Rattle.adr_model.specs.Step.{meets}
use Rattle.adr_model.specs.World.{Gone, Name, World, of_made, replica_at, stays}
use Rattle.adr_run_world.specs.Run.{world_of}
use Rattle.adr_run_world.specs.Short.{IsCutShort}
use Rattle.adr_run_world.proofs.Answered.{of_kind}
use Rattle.adr_run_world.proofs.run.Run.meets.Goals as goal

-- what befalls the controller of a name
abbrev befalls : World → Name → Meeting → Gone
befalls w name what = of_made (stays w) (replica_at w name) (λ r. meets w r what)

pub returns-in-Stop-clause-done : goal.returns-in-Stop-clause-done
returns-in-Stop-clause-done c =
    let w = world_of c.args.self.now in subst (λ (what : Meeting). befalls w c.args.name.now what ≡ (world_of c.stop.new.self, c.stop.result)) (sym c.in-Stop.is) c.stop.ensures.done

pub returns-in-StopAfter-clause-done : goal.returns-in-StopAfter-clause-done
returns-in-StopAfter-clause-done c =
    let w = world_of c.args.self.now in subst (λ (what : Meeting). befalls w c.args.name.now what ≡ (world_of c.stop_after.new.self, c.stop_after.result)) (sym c.in-StopAfter.is) c.stop_after.ensures.done

pub returns-in-Fail-clause-done : goal.returns-in-Fail-clause-done
returns-in-Fail-clause-done c =
    let w = world_of c.args.self.now in subst (λ (what : Meeting). befalls w c.args.name.now what ≡ (world_of c.fail_after.new.self, c.fail_after.result)) (sym c.in-Fail.is) c.fail_after.ensures.done

pub returns-in-Start-clause-done : goal.returns-in-Start-clause-done
returns-in-Start-clause-done c =
    of_kind (befalls (world_of c.args.self.now) c.args.name.now) c.args.what _ (world_of c.start.new.self) c.start.result c.in-Start.is c.start.ensures.done

pub returns-in-Start-clause-err : goal.returns-in-Start-clause-err
returns-in-Start-clause-err c =
    let w = world_of c.args.self.now in
    subst (λ (what : Meeting). OnErr c.start.result (IsCutShort w (Meets c.args.name.now what) (world_of c.start.new.self))) (sym c.in-Start.is) c.start.ensures.err
