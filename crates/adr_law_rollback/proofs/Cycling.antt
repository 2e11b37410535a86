-- Pulls and cycles of pulls leave a controller that is shut off so, and none of their answers says that it did anything.
use Rattle.std.proofs.Common.{◌≡◌, inl, inr, ⊎_elim, ℕ, zero, suc, List, [], ◌∷◌, ◌++◌, Bool, true, false, Option, Some, None, refl, sym, ap, ◌∙◌, codes}
use Rattle.adr_call.specs.declared.answer.Answer.{Answer}
use Rattle.adr_call.specs.declared.outcome.Outcome.{Outcome}
use Rattle.adr_call.specs.declared.outcome.Outcome.TheVariants as outcomes
use Rattle.adr_model.specs.Store.{Quarantined, State}
use Rattle.adr_model.specs.Serve.{Request, Reply}
use Rattle.adr_model.specs.World.{Name, World, answer, asks, serves_request, delivers}
use Rattle.adr_model.specs.Cycles.{Pulled, pull_served, pull_asked, pull, and_then, pulls, pull_version}
use Rattle.adr_model.proofs.Members.{member_of_either}
use Rattle.adr_law_rollback.specs.ShutOff.{RestsIn, is_done, DoesNothing}
use Rattle.adr_law_rollback.proofs.Calls.{asks_hold, serves_hold, delivers_hold}

module _ (name : Name) where
  pub silent : DoesNothing name []
  silent a m = absurd m

  pub one_more : (verb : List ℕ) (n : Name) (o : Outcome) (rest : List Answer) → (n ≡ name → is_done o ≡ false) → DoesNothing name rest
      → DoesNothing name (answer verb n o ∷ rest)
  one_more verb n o rest is all a (inl e) own = ap (λ (b : Answer). is_done b.outcome) e ∙ is (ap (λ (b : Answer). b.name) (sym e) ∙ own)
  one_more verb n o rest is all a (inr m) own = all a m own

  pub both_silent : (told more : List Answer) → DoesNothing name told → DoesNothing name more → DoesNothing name (told ++ more)
  both_silent told more all rest a m = ⊎_elim (λ l. all a l) (λ r. rest a r) (member_of_either told more a m)

module _ (name : Name) (s : State) (closed : s.mode ≡ Quarantined) where
  abbrev pub Still : World → List Answer → Type 0
  Still w told = RestsIn s w name × DoesNothing name told

  module _ (dest source : Name) (max : ℕ) where
    delivered : (w : World) → RestsIn s w name → (o : Option Reply) → Still (pull_served dest w o).0 (pull_served dest w o).1
    delivered w i None = (i, silent name)
    delivered w i (Some r) = let t = delivers_hold name s closed w i dest (Some r) in
        (t.0, one_more name (codes "deliver") dest (delivers w dest (Some r)).1 [] t.1 (silent name))

    served : (w : World) → RestsIn s w name → (o : Option Request) → Still (pull_asked dest source w o).0 (pull_asked dest source w o).1
    served w i None = (i, silent name)
    served w i (Some q) =
        let t = serves_hold name s closed w i source (Some q) in
        let v = delivered (serves_request w source (Some q)).0 t.0 (serves_request w source (Some q)).2 in (
          v.0,
          one_more name (codes "serve") source (serves_request w source (Some q)).1
              (pull_served dest (serves_request w source (Some q)).0 (serves_request w source (Some q)).2).1 t.1 v.1,
        )

    pub pull_still : (w : World) → RestsIn s w name → Still (pull w dest source max).0 (pull w dest source max).1
    pull_still w i =
        let t = asks_hold name s closed w i dest source max pull_version in
        let v = served (asks w dest source max pull_version).0 t.0 (asks w dest source max pull_version).2 in
        (v.0, one_more name (codes "ask") dest (asks w dest source max pull_version).1 (pull_asked dest source (asks w dest source max pull_version).0 (asks w dest source max pull_version).2).1 t.1 v.1)

    then_still : (p : Pulled) (go : World → World × List Answer) → Still p.0 p.1 → ((v : World) → RestsIn s v name → Still (go v).0 (go v).1)
        → Still (and_then p go).0 (and_then p go).1
    then_still p go is goes = by p.2
      where
        by : (b : Bool) → Still (and_then (p.0, p.1, b) go).0 (and_then (p.0, p.1, b) go).1
        by true = let t = goes p.0 is.0 in (t.0, both_silent name p.1 (go p.0).1 is.1 t.1)
        by false = is

    pub pulls_still : (n : ℕ) (w : World) → RestsIn s w name → Still (pulls n w dest source max).0 (pulls n w dest source max).1
    pulls_still zero w i = (i, one_more name (codes "cycle") dest outcomes.More [] (λ e. refl) (silent name))
    pulls_still (suc n) w i = then_still (pull w dest source max) (λ v. pulls n v dest source max) (pull_still w i) (λ v j. pulls_still n v j)
