use Rattle.std.proofs.Common.{◌≡◌, refl, Some, Ok, Err, [], ◌∷◌}
use Rattle.adr_law_journal.proofs.Told.{both_ok}
use Rattle.adr_call.specs.declared.call.Call.TheVariants as calls
use Rattle.adr_controller.specs.Ended.{call_hindrance}
use Rattle.adr_law_controller.specs.Called.{Does}
use Rattle.adr_law_controller.specs.Behind.{Calls, Stops, Starts}
use Rattle.adr_law_controller.specs.Laws.{Leads, StartsSo}
use Rattle.adr_test_logs.proofs.Clients.{found_behind}
use Rattle.adr_test_logs.proofs.client.write_and_restart.Goals as goal

pub returns : goal.returns
unfolding Leads
returns g c =
    let k = g.K.Keeper in
    let old = c.args.controller.now in
    let call = Does (calls.Write c.args.what.now) c.args.now in
    let how = call_hindrance c.write.result in
    let mid = c.write.new.self in
    let stopped = c.stop.new.self in
    let new = c.start-started.new.self in
    let so = c.start-started.ensures in
    both_ok c.start-started.result so.ok so.ok (λ begun _ s t told is ist.
    let starts : StartsSo k stopped new (Ok t) = record { ok = (ist, begun); err = tt; later = so.later; still_told = so.told; any_moment = so.any_moment; left = so.left } in
    let leads : Leads k old (Calls call how ∷ Stops ∷ Starts (Ok t) ∷ []) new = (mid, c.write.ensures.calls, c.state-2.ensures.in_order, (stopped, c.stop.ensures, c.state-3.ensures.in_order, (new, starts, c.state-4.ensures.in_order, refl))) in
    let law = c.controllers_stand_behind_their_steps.ensures in
    let stands = law.steps _ old new (Calls call how ∷ Stops ∷ Starts (Ok t) ∷ []) (law.up s old is c.state.ensures.in_order) leads in
    found_behind call s t how (stands.starts told))
