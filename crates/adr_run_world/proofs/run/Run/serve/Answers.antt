use Rattle.std.proofs.Common.{◌≡◌, ◌∙◌, Some, None, sym, ap, subst, refl}
use Rattle.adr_call.specs.declared.outcome.Outcome.{Outcome}
use Rattle.adr_call.specs.declared.outcome.Outcome.TheVariants as outcomes
use Rattle.adr_call.specs.declared.event.Made.TheVariants.{Serve}
use Rattle.adr_model.specs.Spelled.{IsSpelledReply}
use Rattle.adr_law_recorded.specs.Ranged.{IsRangedReply}
use Rattle.adr_model.specs.Serve.{Reply}
use Rattle.adr_model.specs.Step.{makes}
use Rattle.adr_model.specs.World.{bound_at, nothing, served, serves_request}
use Rattle.adr_answers.proofs.Results.{on_err}
use Rattle.adr_run_replica.specs.Past.{Past}
use Rattle.adr_run_world.specs.declared.run.Run.{Run}
use Rattle.adr_run_world.specs.Run.{IsTidy, with_past, world_of}
use Rattle.adr_run_world.proofs.Becoming.{Becomes, run_with, found_there, stands, undone, apart_with, led_to, tidy_with}
use Rattle.adr_run_world.proofs.Bindings.{each_bound, request_ranged, served_bound}
use Rattle.adr_run_world.proofs.Calls.{no_request_so, reaches_none, sent_keeps}
use Rattle.adr_run_world.proofs.Results.{either_so, on_err_both, on_ok_as}
use Rattle.adr_run_world.proofs.run.Run.serve.Goals as goal

pub returns-in_default-clause-done : goal.returns-in_default-clause-done
returns-in_default-clause-done c =
    let w = world_of c.args.self.now in
    served_bound w c.args.name.now c.args.request.now c.args.bound.now w outcomes.Absent None
    (reaches_none w c.args.name.now (nothing w) (λ r. served w r (bound_at w.requests c.args.request.now)) c.in_default.ensures.none)

pub returns-in_default-get-clause-done : goal.returns-in_default-get-clause-done
returns-in_default-get-clause-done c =
    let w = world_of c.args.self.now in
    served_bound w c.args.name.now c.args.request.now c.args.bound.now w c.not_there.result None
    (no_request_so w c.args.name.now c.index.result.now (found_there c.args.self.now c.args.name.now c.in-Some.place c.index.result.now c.in-Some.ensures.place c.index.ensures c.in-Some.ensures.found) c.not_there.result (c.not_there.ensures w) (bound_at w.requests c.args.request.now) c.in_default-get.ensures)

pub serve-requires : goal.serve-requires
serve-requires c = request_ranged c.args.self.now.requests c.args.request.now c.in-Some-get.request.now c.requires.tidy.requests c.in-Some-get.ensures

becomes_short : (c : goal.After-from_residual) → Becomes c.args.self.now c.args.name.now c.in-Some.place c.index_mut.result.now c.serve.new.self c.serve.new.past
becomes_short c = record { place = c.in-Some.ensures.place; read = c.index_mut.ensures.value; found = c.in-Some.ensures.found; tidy = c.requires.tidy; named = c.serve.ensures.name; given = c.serve.ensures.given }

pub returns-in_err-sent-clause-err : goal.returns-in_err-sent-clause-err
returns-in_err-sent-clause-err c =
    on_err c.from_residual.result
    (undone (becomes_short c) c.in_err-sent.ensures.err)

pub returns-in_err-sent-clause-tidy : goal.returns-in_err-sent-clause-tidy
returns-in_err-sent-clause-tidy c = tidy_with (becomes_short c) refl refl refl

becomes : (c : goal.After-bind_reply) → Becomes c.args.self.now c.args.name.now c.in-Some.place c.index_mut.result.now c.serve.new.self c.serve.new.past
becomes c = record { place = c.in-Some.ensures.place; read = c.index_mut.ensures.value; found = c.in-Some.ensures.found; tidy = c.requires.tidy; named = c.serve.ensures.name; given = c.serve.ensures.given }

-- what the request came to
sends : (c : goal.After-bind_reply)
    → let w = world_of c.args.self.now in
    serves_request w c.args.name.now (Some c.in-Some-get.request.now) ≡ (run_with c.args.self.now c.in-Some.place c.serve.new.self c.serve.new.past, c.in_ok-sent.sent.0, c.in_ok-sent.sent.1)
sends c =
    let w = world_of c.args.self.now in
    led_to (becomes c) (λ r. served w r (Some c.in-Some-get.request.now)) c.in_ok-sent.sent.0 c.in_ok-sent.sent.1 (c.in_ok-sent.ensures.served w refl (stands (becomes c)))

pub returns-clause-err : goal.returns-clause-err
returns-clause-err c =
    let w = world_of c.args.self.now in
    let v = run_with c.args.self.now c.in-Some.place c.serve.new.self c.serve.new.past in
    let sent = c.in_ok-sent.sent in
    on_err_both c.bind_reply.result c.bind_reply.ensures.err c.bind_reply.ensures.some
    (λ same some. ap world_of same ∙ sent_keeps w c.again-before.result c.args.name.now c.in-Some-get.request.now v sent.0 sent.1 some (sends c) ∙ ap (λ (p : Past). with_past p w) c.again-before.ensures)

pub returns-clause-done : goal.returns-clause-done
returns-clause-done c =
    let w = world_of c.args.self.now in
    let v = run_with c.args.self.now c.in-Some.place c.serve.new.self c.serve.new.past in
    let sent = c.in_ok-sent.sent in
    on_ok_as c.bind_reply.result sent.0 (λ (o : Outcome). makes w c.args.name.now (Serve c.args.request.now) c.args.bound.now ≡ (world_of c.bind_reply.new.self, o)) c.bind_reply.ensures.outcome c.bind_reply.ensures.ok
    (λ made. served_bound w c.args.name.now c.args.request.now c.args.bound.now v sent.0 sent.1 (ap (serves_request w c.args.name.now) (sym c.in-Some-get.ensures) ∙ sends c)
    ∙ ap (λ (r : Run). (world_of r, sent.0)) (sym made))

pub returns-clause-tidy : goal.returns-clause-tidy
returns-clause-tidy c = either_so c.bind_reply.result (IsTidy c.bind_reply.new.self) c.bind_reply.ensures.ok c.bind_reply.ensures.err
    (λ made. subst IsTidy (sym made) (record {
      apart = apart_with (becomes c);
      requests = c.requires.tidy.requests;
      replies = each_bound (λ (p : Reply). IsSpelledReply p × IsRangedReply p) c.args.self.now.replies c.args.bound.now c.in_ok-sent.sent.1 c.requires.tidy.replies c.in_ok-sent.ensures.spelled;
    }))
    (λ same. subst IsTidy (sym same) (record { apart = apart_with (becomes c); requests = c.requires.tidy.requests; replies = c.requires.tidy.replies }))
