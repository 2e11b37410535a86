-- The answers of a pull, one behind another.
use Rattle.std.proofs.Common.{◌≡◌, ◌∙◌, sym, ap, ℕ, List, [], ◌∷◌, ◌++◌, Option, Some, false, codes}
use Rattle.std.proofs.lemmas.List.{append-nil, append_assoc}
use Rattle.adr_call.specs.declared.answer.Answer.{Answer}
use Rattle.adr_call.specs.declared.outcome.Outcome.{Outcome}
use Rattle.adr_model.specs.Serve.{Request, Reply}
use Rattle.adr_model.specs.World.{Name, World, Sent, answer, asks, serves_request}
use Rattle.adr_model.specs.Cycles.{Pulled, first_told, pull, pull_asked, pull_served, pull_version}
use Rattle.adr_run_replica.specs.Past.{Past}
use Rattle.adr_run_world.specs.Pulls.{behind}
use Rattle.adr_run_world.specs.Run.{with_past}
use Rattle.adr_run_world.proofs.Calls.{reply_keeps}

pub behind_none : (w : World) (all : List Answer) → behind all (w, [], false) ≡ (w, all, false)
behind_none w all = ap (λ (xs : List Answer). (w, xs, false)) (append-nil all)

behind_first : (before : List Answer) (a : Answer) (p : Pulled) → behind before (first_told a p) ≡ behind (before ++ a ∷ []) p
behind_first before a p = ap (λ (xs : List Answer). (p.0, xs, p.2)) (sym (append_assoc before (a ∷ []) p.1))

module _ (w : World) (dest source : Name) (before now : List Answer) (p : Pulled) where
  -- a pull, by what comes of its request
  pub pulled_on : (max : ℕ) (o : Option Request) → asks w dest source max pull_version ≡ (w, (asks w dest source max pull_version).1, o) → now ≡ before ++ answer (codes "ask") dest (asks w dest source max pull_version).1 ∷ []
      → behind now (pull_asked dest source w o) ≡ p → behind before (pull w dest source max) ≡ p
  pulled_on max o sent told rest =
      let t = asks w dest source max pull_version in
      behind_first before (answer (codes "ask") dest t.1) (pull_asked dest source t.0 t.2)
      ∙ ap (λ (xs : List Answer). behind xs (pull_asked dest source t.0 t.2)) (sym told)
      ∙ ap (λ (s : Sent Request). behind now (pull_asked dest source s.0 s.2)) sent ∙ rest

  -- and the rest of it, by what comes of its reply
  pub asked_on : (q : Request) (u : World) (o : Option Reply) → serves_request w source (Some q) ≡ (u, (serves_request w source (Some q)).1, o)
      → now ≡ before ++ answer (codes "serve") source (serves_request w source (Some q)).1 ∷ [] → behind now (pull_served dest u o) ≡ p → behind before (pull_asked dest source w (Some q)) ≡ p
  asked_on q u o sent told rest =
      let t = serves_request w source (Some q) in
      behind_first before (answer (codes "serve") source t.1) (pull_served dest t.0 t.2)
      ∙ ap (λ (xs : List Answer). behind xs (pull_served dest t.0 t.2)) (sym told)
      ∙ ap (λ (s : Sent Reply). behind now (pull_served dest s.0 s.2)) sent ∙ rest

-- where the source made a reply the world is as it was, with the same past, so that a pull that wants memory behind it leaves that
pub served_short : (w : World) (p : Past) (source : Name) (v : World) (q : Request) (u : World) (o : Outcome) (r : Reply) → serves_request w source (Some q) ≡ (u, o, Some r) → v ≡ with_past p u → v ≡ with_past p w
served_short w p source v q u o r sent same = same ∙ reply_keeps w p source q u o r sent
