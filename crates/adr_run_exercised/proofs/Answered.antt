-- A pull between two controllers that are up, with nothing planned, is answered well or refused, and so is a cycle that isn't cut off.
use Rattle.std.proofs.Common.{◌≡◌, ◌⊎◌, inl, inr, ⊎_elim, ◌+◌, ℕ, zero, suc, List, [], ◌∷◌, Bool, true, false, cond, Option, Some, None, Result, Ok, Err, refl, sym, ap, ◌∙◌, subst, codes, length}
use Rattle.std.specs.List.{find}
use Rattle.std.specs.Str.{bytes_eq}
use Rattle.adr_call.specs.declared.answer.Answer.{Answer}
use Rattle.adr_call.specs.declared.outcome.Outcome.{Outcome}
use Rattle.adr_call.specs.declared.outcome.Outcome.TheVariants as outcomes
use Rattle.adr_call.specs.declared.refusal.ServeRefusal.{ServeRefusal}
use Rattle.adr_call.specs.declared.refusal.ServeRefusal.TheVariants as serves
use Rattle.adr_call.specs.declared.refusal.TakeRefusal.{TakeRefusal}
use Rattle.adr_call.specs.declared.refusal.TakeRefusal.TheVariants as takes
use Rattle.adr_model.specs.Member.{Member, Each}
use Rattle.adr_model.specs.Change.{Change}
use Rattle.adr_model.specs.Collect.{quarantine}
use Rattle.adr_model.specs.Lengths.{change_fits}
use Rattle.adr_model.specs.Refused.{serve_refused, take_refused}
use Rattle.adr_disk.specs.declared.memory.Plan.{Plan}
use Rattle.adr_model.specs.Replica.{Pending, ToTake, ToQuarantine, Standing, Replica, went, behind, calls_before, outcome_after, commit_goes}
use Rattle.adr_model.specs.Serve.{Request, Reply, serve}
use Rattle.adr_model.specs.Take.{take}
use Rattle.adr_model.specs.World.{Name, World, Gone, Sent, answer, stays, nothing, replica_at, of_made, where_up, of_controller, committed, commit, asks, after_serve, served, serves_request, after_take, delivered, delivers}
use Rattle.adr_model.specs.Cycles.{Pulled, pull_served, pull_asked, pull, and_then, pulls, pull_version}
use Rattle.adr_model.specs.Rings.{is_fine}
use Rattle.adr_model.proofs.Members.{member_of_either, found_member}
use Rattle.adr_law_convergence.proofs.Found.{same_name_tests}
use Rattle.adr_law_convergence.proofs.Reached.{within_case}
use Rattle.adr_run_exercise.specs.Summary.{refusals_in}
use Rattle.adr_run_exercised.proofs.Manned.{IsReady, AreManned, asking, serving, pulling_manned}

-- an answer is well or a refusal
abbrev pub IsTold : Outcome → Type 0
IsTold o = (is_fine o ≡ true) ⊎ (refusals_in o ≡ 1)

serve_refusal_told : (x : ServeRefusal) → IsTold (serve_refused x)
serve_refusal_told serves.Quarantined = inr refl
serve_refusal_told x = inr refl

take_refusal_told : (x : TakeRefusal) → IsTold (take_refused x)
take_refusal_told takes.Quarantined = inr refl
take_refusal_told x = inr refl

-- who is there is found
finds : {A : Type 0} (test : A → Bool) (xs : List A) (x : A) → Member x xs → test x ≡ true → (y : A) × (find test xs ≡ Some y)
finds {A} test xs x m is = by (find test xs) refl
  where
    none : (ys : List A) → Member x ys → find test ys ≡ None → ⊥
    none [] k e = k
    none (y ∷ ys) k e = on (test y) refl k e (none ys)
      where
        on : (b : Bool) → test y ≡ b → Member x (y ∷ ys) → find test (y ∷ ys) ≡ None → (Member x ys → find test ys ≡ None → ⊥) → ⊥
        on true is k e rest = let f : find test (y ∷ ys) ≡ Some y = ap (λ c. cond c (Some y) (find test ys)) is in absurd (cc)
        on false isnt (inl same) e rest = let t : test x ≡ false = ap test same ∙ isnt in absurd (cc)
        on false isnt (inr l) e rest = rest l (sym (ap (λ c. cond c (Some y) (find test ys)) isnt) ∙ e)

    by : (o : Option A) → find test xs ≡ o → (y : A) × (find test xs ≡ Some y)
    by None e = absurd (none xs m e)
    by (Some y) e = (y, e)

module _ (names : List Name) (w : World) (are : AreManned names w.replicas) where
  pub finds_named : (name : Name) → Member name names → (r : Replica) × (replica_at w name ≡ Some r)
  finds_named name named = let t = are.there name named in finds (λ (r : Replica). bytes_eq r.name name) w.replicas t.0 t.1 (same_name_tests t.0.name name t.2)

  -- a call of one of these reaches it
  made : {A : Type 0} (Q : A → Type 0) (name : Name) → Member name names → (other : Outcome → A) (act : Replica → A) → ((r : Replica) → IsReady r → Q (act r)) → Q (of_made other (replica_at w name) act)
  made Q name named other act acts = let f = finds_named name named in
      subst (λ (o : Option Replica). Q (of_made other o act)) (sym f.1) (acts f.0 (are.ready f.0 (found_member (λ (r : Replica). bytes_eq r.name name) w.replicas f.0 f.1).0))

  up : {A : Type 0} (Q : A → Type 0) (other : Outcome → A) (r : Replica) → IsReady r → (gone : A) → Q gone → Q (where_up other r.standing gone)
  up Q other r is gone h = subst (λ (s : Standing). Q (where_up other s gone)) (sym is.0) h

  reached : {A : Type 0} (Q : A → Type 0) (name : Name) → Member name names → (other : Outcome → A) (act : Replica → A) → ((r : Replica) → IsReady r → Q (act r)) → Q (of_controller w name other act)
  reached Q name named other act acts = made Q name named other (λ r. where_up other r.standing (act r)) (λ r is. up Q other r is (act r) (acts r is))

  abbrev Tells : Gone → Type 0
  Tells g = IsTold g.1

  abbrev TellsSent : {A : Type 0} → Sent A → Type 0
  TellsSent t = IsTold t.1

  commit_told : (r : Replica) → IsReady r → (p : Pending) (o : Outcome) → IsTold o → Tells (commit w r p o)
  commit_told r is p o told = within_case Tells w (change_fits r.device.safe_log r.safe.store p.change) (committed w r p o) (inr refl) (subst IsTold (sym passes) told)
    where
      passes : outcome_after (commit_goes r p) o ≡ o
      passes = ap (λ (plan : Option Plan). outcome_after (behind (calls_before r p) (went plan (calls_before r p + 4))) o) is.1

  pub asks_told : (dest source : Name) (max version : ℕ) → Member dest names → Member source names → TellsSent (asks w dest source max version)
  asks_told dest source max version m n =
      made TellsSent dest m (nothing w) _ (λ r is. made TellsSent source n (nothing w) _ (λ p also. up TellsSent (nothing w) r is _ (inl refl)))

  serve_told : (r : Replica) → IsReady r → (t : Result Reply ServeRefusal) → TellsSent (after_serve w r t)
  serve_told r is (Ok reply) = inl refl
  serve_told r is (Err (serves.RolledBack inv mine shown)) = commit_told r is (record { call = ToQuarantine; change = quarantine r.safe }) (serve_refused (serves.RolledBack inv mine shown)) (inr refl)
  serve_told r is (Err x) = serve_refusal_told x

  pub serves_told : (source : Name) (q : Request) → Member source names → TellsSent (serves_request w source (Some q))
  serves_told source q n = reached TellsSent source n (nothing w) (λ r. served w r (Some q)) (λ r is. serve_told r is (serve r.safe q w.time))

  take_told : (r : Replica) → IsReady r → (p : Reply) (t : Result Change TakeRefusal) → Tells (after_take w r p t)
  take_told r is p (Ok c) = commit_told r is (record { call = ToTake p; change = c }) (outcomes.Took (length p.items) (length c.writes) c.usn) (inl refl)
  take_told r is p (Err (takes.RolledBack inv mine shown)) = commit_told r is (record { call = ToQuarantine; change = quarantine r.safe }) (take_refused (takes.RolledBack inv mine shown)) (inr refl)
  take_told r is p (Err x) = take_refusal_told x

  pub delivers_told : (dest : Name) (p : Reply) → Member dest names → Tells (delivers w dest (Some p))
  delivers_told dest p m = reached Tells dest m (stays w) (λ r. delivered w r (Some p)) (λ r is. take_told r is p (take r.safe p))

-- ---- pulls and cycles

abbrev pub AllTold : List Answer → Type 0
AllTold told = Each (λ a. IsTold a.outcome) told

one_more : (verb : List ℕ) (name : Name) (o : Outcome) (rest : List Answer) → IsTold o → AllTold rest → AllTold (answer verb name o ∷ rest)
one_more verb name o rest is all a (inl e) = subst (λ (b : Answer). IsTold b.outcome) (sym e) is
one_more verb name o rest is all a (inr m) = all a m

module _ (names : List Name) (dest source : Name) (max : ℕ) (d : Member dest names) (s : Member source names) where
  delivery_told : (w : World) → AreManned names w.replicas → (o : Option Reply) → AllTold (pull_served dest w o).1
  delivery_told w are None = λ a m. absurd m
  delivery_told w are (Some r) = one_more (codes "deliver") dest (delivers w dest (Some r)).1 [] (delivers_told names w are dest r d) (λ a m. absurd m)

  service_told : (w : World) → AreManned names w.replicas → (o : Option Request) → AllTold (pull_asked dest source w o).1
  service_told w are None = λ a m. absurd m
  service_told w are (Some q) = let t = serves_request w source (Some q) in
      one_more (codes "serve") source t.1 (pull_served dest t.0 t.2).1 (serves_told names w are source q s) (delivery_told t.0 (serving names w are source (Some q)) t.2)

  pub pull_told : (w : World) → AreManned names w.replicas → AllTold (pull w dest source max).1
  pull_told w are = let t = asks w dest source max pull_version in
      one_more (codes "ask") dest t.1 (pull_asked dest source t.0 t.2).1 (asks_told names w are dest source max pull_version d s) (service_told t.0 (asking names w are dest source max pull_version) t.2)

  -- or the cycle was cut off
  abbrev pub AllToldOrCut : List Answer → Type 0
  AllToldOrCut told = Each (λ a. IsTold a.outcome ⊎ (a.outcome ≡ outcomes.More)) told

  then_told : (p : Pulled) (go : World → World × List Answer) → AllTold p.1 → AllToldOrCut (go p.0).1 → AllToldOrCut (and_then p go).1
  then_told p go all rest = by p.2
    where
      by : (b : Bool) → AllToldOrCut (and_then (p.0, p.1, b) go).1
      by true a m = ⊎_elim (λ l. inl (all a l)) (λ r. rest a r) (member_of_either p.1 (go p.0).1 a m)
      by false a m = inl (all a m)

  pub pulls_told : (n : ℕ) (w : World) → AreManned names w.replicas → AllToldOrCut (pulls n w dest source max).1
  pulls_told zero w are a (inl e) = inr (ap (λ (b : Answer). b.outcome) e)
  pulls_told zero w are a (inr m) = absurd m
  pulls_told (suc n) w are a m = then_told (pull w dest source max) (λ v. pulls n v dest source max) (pull_told w are) (pulls_told n (pull w dest source max).0 (pulling_manned names dest source max w are)) a m
