use Rattle.std.proofs.Common.{◌≡◌, ◌≢◌, ◌∙◌, ◌++◌, ◌∷◌, [], ap, subst, sym}
use Rattle.adr_model.specs.Member.{Each}
use Rattle.adr_model.specs.Replica.{Replica}
use Rattle.adr_run_world.specs.Run.{AreApart, AreRanged, AreSpelled}
use Rattle.adr_run_world.proofs.Places.{apart_more}
use Rattle.adr_run_world.proofs.run.Run.controller.Goals as goal

pub returns-clause-tidy : goal.returns-clause-tidy
returns-clause-tidy c =
    let rs = c.args.self.now.controllers.items in
    let comes = c.in_ok-controller.controller in
    let named : comes.name ≡ c.args.name.now = ap (λ (r : Replica). r.name) c.in_ok-controller.ensures ∙ c.in_ok-name.ensures in
    record {
      apart = subst AreApart (sym (c.begin.ensures.items ∙ ap (λ xs. xs ++ comes ∷ []) c.reserve.ensures.items))
          (apart_more rs comes c.requires.tidy.apart (subst (λ n. Each (λ (r : Replica). r.name ≢ n) rs) (sym named) c.requires.new));
      requests = subst AreRanged (sym c.begin.ensures.requests) c.requires.tidy.requests;
      replies = subst AreSpelled (sym c.begin.ensures.replies) c.requires.tidy.replies;
    }
