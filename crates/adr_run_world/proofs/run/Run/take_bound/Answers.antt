use Rattle.std.proofs.Common.{◌∙◌, Some, ap, sym, refl}
use Rattle.std.proofs.lemmas.Result.{IfOk-weaker}
use Rattle.adr_model.specs.World.{bound_at, delivers, delivered, stays}
use Rattle.adr_run_world.specs.Run.{world_of}
use Rattle.adr_run_world.proofs.Becoming.{Becomes, found_there, stands, undone, led, tidy_with}
use Rattle.adr_run_world.proofs.Bindings.{reply_spelled}
use Rattle.adr_run_world.proofs.Calls.{reaches_none, no_reply_so}
use Rattle.adr_run_world.proofs.Results.{on_err_so}
use Rattle.adr_run_world.proofs.run.Run.take_bound.Goals as goal

pub returns-in_default-clause-taken : goal.returns-in_default-clause-taken
returns-in_default-clause-taken c =
    let w = world_of c.args.self.now in
    reaches_none w c.args.name.now (stays w) (λ r. delivered w r (bound_at w.replies c.args.reply.now)) c.in_default.ensures.none

pub returns-in_default-get-clause-taken : goal.returns-in_default-get-clause-taken
returns-in_default-get-clause-taken c =
    let w = world_of c.args.self.now in
    no_reply_so w c.args.name.now c.index.result.now (found_there c.args.self.now c.args.name.now c.in-Some.place c.index.result.now c.in-Some.ensures.place c.index.ensures c.in-Some.ensures.found) c.not_there.result (c.not_there.ensures w) (bound_at w.replies c.args.reply.now) c.in_default-get.ensures

pub take-requires-clause-spelled : goal.take-requires-clause-spelled
take-requires-clause-spelled c = (reply_spelled c.args.self.now.replies c.args.reply.now c.in-Some-get.reply.now c.requires.replies c.in-Some-get.ensures).0

pub take-requires-clause-ranged : goal.take-requires-clause-ranged
take-requires-clause-ranged c = (reply_spelled c.args.self.now.replies c.args.reply.now c.in-Some-get.reply.now c.requires.replies c.in-Some-get.ensures).1

becomes : (c : goal.After-self-1) → Becomes c.args.self.now c.args.name.now c.in-Some.place c.index_mut.result.now c.take.new.self c.take.new.past
becomes c = record { place = c.in-Some.ensures.place; read = c.index_mut.ensures.value; found = c.in-Some.ensures.found; tidy = c.requires; named = c.take.ensures.name; given = c.take.ensures.given }

pub returns-clause-taken : goal.returns-clause-taken
returns-clause-taken c =
    let w = world_of c.args.self.now in
    IfOk-weaker c.take.result _ _
    (λ sent is.
    ap (delivers w c.args.name.now) (sym c.in-Some-get.ensures)
    ∙ led (becomes c)
    (λ r. delivered w r (Some c.in-Some-get.reply.now)) sent (is w (stands (becomes c))))
    c.take.ensures.taken

pub returns-clause-err : goal.returns-clause-err
returns-clause-err c = on_err_so c.take.result c.take.ensures.err (undone (becomes c))

pub returns-clause-tidy : goal.returns-clause-tidy
returns-clause-tidy c = tidy_with (becomes c) refl refl refl
