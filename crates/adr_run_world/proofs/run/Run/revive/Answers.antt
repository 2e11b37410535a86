use Rattle.std.proofs.Common.{◌≡◌, ◌∙◌, ℕ, List, Option, Some, None, ap, sym, refl}
use Rattle.std.proofs.lemmas.Result.{IfOk-weaker}
use Rattle.adr_model.specs.Client.{done}
use Rattle.adr_model.specs.Replica.{Call, ToWrite}
use Rattle.adr_model.specs.Store.{Store}
use Rattle.adr_model.specs.Update.{Identifier}
use Rattle.adr_model.specs.World.{Gone, Name, World, after_call, bound_at, does, of_image, replica_at, stays}
use Rattle.adr_call.specs.declared.outcome.Outcome.TheVariants as outcomes
use Rattle.adr_model.specs.Write.{Revive}
use Rattle.adr_run_world.specs.Run.{world_of}
use Rattle.adr_run_world.proofs.Becoming.{Becomes, stands, undone, led, tidy_with}
use Rattle.adr_run_world.proofs.Calls.{reaches_none}
use Rattle.adr_run_world.proofs.Results.{on_err_so}
use Rattle.adr_run_world.proofs.run.Run.revive.Goals as goal

-- what comes of an image
abbrev comes : World → Name → Identifier → Identifier → List ℕ → Store → Gone
comes w name guid parent text i = does w name (ToWrite (Revive i guid parent text) w.time)

-- without the controller it is absent, whether or not there is an image
absent_so : (w : World) (name : Name) (guid parent : Identifier) (text : List ℕ) → replica_at w name ≡ None → (o : Option Store) → of_image w o (comes w name guid parent text) ≡ (w, outcomes.Absent)
absent_so w name guid parent text none None = refl
absent_so w name guid parent text none (Some i) =
    let call = ToWrite (Revive i guid parent text) w.time in
    reaches_none w name (stays w) (λ r. after_call w r call (done r.safe call)) none

pub returns-in_default-clause-revived : goal.returns-in_default-clause-revived
returns-in_default-clause-revived c =
    let w = world_of c.args.self.now in
    absent_so w c.args.name.now c.args.revival.now.guid c.args.revival.now.parent c.args.revival.now.text.now c.in_default.ensures.none (bound_at w.images c.args.image.now)

pub returns-in_default-get-clause-revived : goal.returns-in_default-get-clause-revived
returns-in_default-get-clause-revived c =
    let w = world_of c.args.self.now in
    ap (λ o. of_image w o (comes w c.args.name.now c.args.revival.now.guid c.args.revival.now.parent c.args.revival.now.text.now)) (sym c.in_default-get.ensures)

becomes : (c : goal.After-self-1) → Becomes c.args.self.now c.args.name.now c.in-Some.place c.index_mut.result.now c.revive.new.self c.revive.new.past
becomes c = record {
  place = c.in-Some.ensures.place;
  read = c.index_mut.ensures.value;
  found = c.in-Some.ensures.found;
  tidy = c.requires.tidy;
  named = c.revive.ensures.name;
  given = c.revive.ensures.given;
}

pub returns-clause-revived : goal.returns-clause-revived
returns-clause-revived c =
    let w = world_of c.args.self.now in
    let call = ToWrite (Revive c.in-Some-get.image.now c.args.revival.now.guid c.args.revival.now.parent c.args.revival.now.text.now) w.time in
    IfOk-weaker c.revive.result _ _
    (λ outcome is.
    ap (λ o. of_image w o (comes w c.args.name.now c.args.revival.now.guid c.args.revival.now.parent c.args.revival.now.text.now)) (sym c.in-Some-get.ensures)
    ∙ led (becomes c) (λ r. after_call w r call (done r.safe call)) outcome (is w (stands (becomes c))))
    c.revive.ensures.revived

pub returns-clause-err : goal.returns-clause-err
returns-clause-err c = on_err_so c.revive.result c.revive.ensures.err (undone (becomes c))

pub returns-clause-tidy : goal.returns-clause-tidy
returns-clause-tidy c = tidy_with (becomes c) refl refl refl
