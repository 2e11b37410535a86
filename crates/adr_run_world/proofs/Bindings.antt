-- What lines bound to names is in its ranges, and what comes of it.
use Rattle.std.proofs.Common.{◌≡◌, ◌∙◌, ◌⊎◌, sym, ap, subst, inl, inr, ℕ, List, [], ◌∷◌, Option, Some, None}
use Rattle.std.specs.Prelude.{IfSome}
use Rattle.adr_call.specs.declared.answer.Answer.{Answer}
use Rattle.adr_call.specs.declared.outcome.Outcome.{Outcome}
use Rattle.adr_call.specs.declared.event.Made.TheVariants.{Serve}
use Rattle.adr_model.specs.Spelled.{IsSpelledReply}
use Rattle.adr_law_recorded.specs.Ranged.{IsRangedRequest, IsRangedReply}
use Rattle.adr_model.specs.Member.{Member, Each}
use Rattle.adr_model.specs.Serve.{Request, Reply}
use Rattle.adr_model.specs.World.{Name, World, Sent, bound, bound_at, serves_request, answer}
use Rattle.adr_model.specs.Step.{made_bound, makes}
use Rattle.adr_model.proofs.Members.{member_of_either}
use Rattle.adr_law_convergence.proofs.Found.{bound_member}
use Rattle.adr_run_world.specs.Run.{AreRanged, AreSpelled}

pub request_ranged : (requests : List (Name × Request)) (name : Name) (q : Request) → AreRanged requests → Some q ≡ bound_at requests name → IsRangedRequest q
request_ranged requests name q all is = bound_member IsRangedRequest requests name q all (sym is)

pub reply_spelled : (replies : List (Name × Reply)) (name : Name) (r : Reply) → AreSpelled replies → Some r ≡ bound_at replies name → IsSpelledReply r × IsRangedReply r
reply_spelled replies name r all is = bound_member (λ (x : Reply). IsSpelledReply x × IsRangedReply x) replies name r all (sym is)

-- and so it stays where one more is bound
pub each_bound : {A : Type 0} (P : A → Type 0) (xs : List (Name × A)) (name : Name) (o : Option A) → Each (λ (x : Name × A). P x.1) xs → IfSome o P → Each (λ (x : Name × A). P x.1) (bound xs name o)
each_bound P xs name None all new = all
each_bound {A = A} P xs name (Some a) all new = λ x m. by x (member_of_either xs ((name, a) ∷ []) x m)
  where
    by : (x : Name × A) → Member x xs ⊎ Member x ((name, a) ∷ []) → P x.1
    by x (inl n) = all x n
    by x (inr (inl e)) = subst (λ (y : Name × A). P y.1) (sym e) new
    by x (inr (inr n)) = absurd n

-- an answer, by the heading that was made before
pub headed : (made : Answer) (v n verb : List ℕ) (name : Name) (o : Outcome) → made ≡ answer v n o → (v ≡ verb) × (n ≡ name) → made ≡ answer verb name o
headed made v n verb name o is made_of = is ∙ ap (λ x. answer x n o) made_of.0 ∙ ap (λ x. answer verb x o) made_of.1

-- the reply of a serve is bound, by what comes of its request
module _ (w : World) (name request bind : Name) where
  pub served_bound : (v : World) (x : Outcome) (r : Option Reply) → serves_request w name (bound_at w.requests request) ≡ (v, x, r)
      → makes w name (Serve request) bind ≡ (record v { replies = bound v.replies bind r }, x)
  served_bound v x r served = ap (λ (t : Sent Reply). made_bound t (λ v p. record v { replies = bound v.replies bind p })) served
