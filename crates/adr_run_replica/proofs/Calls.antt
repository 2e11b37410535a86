-- What each call of a controller is answered, by how it ended.
use Rattle.std.proofs.Common.{◌≡◌, ◌∙◌, refl, sym, ap, ℕ, Bool, Option, Some, None, Result, Ok, Err, length, is_some}
use Rattle.std.specs.Prelude.{IfOk, IfSome, OnErr}
use Rattle.adr_call.specs.declared.outcome.Outcome.{Outcome}
use Rattle.adr_call.specs.declared.outcome.Outcome.TheVariants as outcomes
use Rattle.adr_call.specs.declared.refusal.ServeRefusal.{ServeRefusal}
use Rattle.adr_call.specs.declared.refusal.TakeRefusal.{TakeRefusal}
use Rattle.adr_model.specs.Store.{State}
use Rattle.adr_model.specs.Change.{Change}
use Rattle.adr_model.specs.Client.{done}
use Rattle.adr_model.specs.Refused.{serve_refused, take_refused}
use Rattle.adr_model.specs.Replica.{Call, Replica, Pending}
use Rattle.adr_model.specs.Serve.{Request, Reply, serve}
use Rattle.adr_model.specs.Take.{take}
use Rattle.adr_model.specs.World.{World, Sent, after_call, after_serve, after_take, stays, nothing, rows_in, where_up}
use Rattle.adr_controller.specs.Ended.{call_hindrance}
use Rattle.adr_controller.specs.declared.messages.Taken.{Taken}
use Rattle.adr_controller.specs.declared.refusal.CallRefusal.{CallRefusal}
use Rattle.adr_controller.specs.declared.refusal.CallRefusal.TheVariants.{Refused}
use Rattle.adr_controller.specs.declared.refusal.Hindrance.{Hindrance}
use Rattle.adr_run_replica.specs.Past.{Past, noting}
use Rattle.adr_run_replica.specs.Pending.{calling, served_by, serving, taking}
use Rattle.adr_run_replica.specs.Settled.{hindered_so}
use Rattle.adr_run_replica.specs.Led.{StandsIn, world_with, IsUndone, Leads, LeadsAt}
use Rattle.adr_run_replica.proofs.Came.{Came, gone_so, sent_so}
use Rattle.adr_run_replica.proofs.Ending.{EndsTold, EndsSent, if_told, unless_told, if_sent, sent_holds, unless_sent}
use Rattle.adr_run_replica.proofs.Results.{if_ok_is}
use Rattle.adr_run_replica.proofs.Answered.{IsDoneSo, call_makes, take_told, take_makes, serve_told, serve_sent, serve_makes, gone_made, sent_made, served_at}

module _ (is_held : Type 0) (v q : Replica) (past later : Past) (state : Option State) (stopped : Bool) (how : Option Hindrance) where
  module _ {M R E : Type 0} {made : Result M (CallRefusal R)} {r : Result Outcome E} {d : Bool} {ok : M → Outcome} {no : R → Outcome} {po : Option Pending}
      (came : Came is_held v q past later po state stopped how) (says : how ≡ call_hindrance made) (ends : EndsTold made r d ok no) where
    -- what a call is answered that is said to be answered this where nothing hindered it
    answered : (P : Outcome → Type 0) (said : Outcome) → (how ≡ None → (told : Outcome) → said ≡ told → P told)
        → ((h : Hindrance) → how ≡ Some h → (told : Outcome) → hindered_so h stopped ≡ Some told → P told) → d ≡ stopped
        → ((x : M) → made ≡ Ok x → state ≡ Some v.safe → said ≡ ok x) → ((refusal : R) → made ≡ Err (Refused refusal) → state ≡ Some v.safe → said ≡ no refusal) → IfOk r P
    answered P said as_said hindered same makes refuses =
        if_told P ends
        (λ x is. let none : how ≡ None = says ∙ ap call_hindrance is in as_said none (ok x) (makes x is (came.was_up none).1))
        (λ refusal is. let none : how ≡ None = says ∙ ap call_hindrance is in as_said none (no refusal) (refuses refusal is (came.was_up none).1))
        (λ h is told tells. hindered h (says ∙ ap call_hindrance is) told (ap (hindered_so h) (sym same) ∙ tells))

    -- one that wasn't answered changed nothing
    pub call_undone : OnErr r (IsUndone v past q later)
    call_undone = unless_told (IsUndone v past q later) ends (λ h is. came.wanted h (says ∙ ap call_hindrance is))

  -- ---- what a client calls for

  module _ (call : Call) (so : IsDoneSo v.safe call) (came : Came is_held v q past later (calling call v.safe) state stopped how) where
    abbrev CalledAs : Outcome → Type 0
    CalledAs told = Leads v past (λ w. where_up (stays w) v.standing (after_call w v call (done v.safe call))) q later told

    call_made_as : how ≡ None → (told : Outcome) → (done v.safe call).0 ≡ told → CalledAs told
    call_made_as none told tells w stands =
        gone_made is_held v q past later (calling call v.safe) state stopped how came none w (after_call w v call (done v.safe call)) (done v.safe call).0 stands
        (call_makes w v call so) ∙ ap (λ t. (world_with w q later, t)) tells

    hindered_call : (h : Hindrance) → how ≡ Some h → (told : Outcome) → hindered_so h stopped ≡ Some told → CalledAs told
    hindered_call h is told tells w stands =
        gone_so w v q past later (calling call v.safe) told (after_call w v call (done v.safe call)) (came.hinders h is told tells) stands
        (λ p up ofp. ((done v.safe call).0, (call_makes w v call so).1 p ofp))

    pub ok_called : {M R E : Type 0} {made : Result M (CallRefusal R)} {r : Result Outcome E} {d : Bool} {ok : M → Outcome} {no : R → Outcome} → how ≡ call_hindrance made → d ≡ stopped
        → EndsTold made r d ok no → IfOk made (λ x. (s : State) → state ≡ Some s → ok x ≡ (done s call).0)
        → ((s : State) (refusal : R) → state ≡ Some s → made ≡ Err (Refused refusal) → no refusal ≡ (done s call).0) → IfOk r CalledAs
    ok_called {made = made} says same ends makes refuses =
        answered came says ends CalledAs (done v.safe call).0 call_made_as hindered_call same
        (λ x is there. sym (if_ok_is _ made x is makes v.safe there))
        (λ refusal is there. sym (refuses v.safe refusal there is))

  -- ---- a reply

  module _ (reply : Reply) (came : Came is_held v q past later (taking reply v.safe) state stopped how) where
    abbrev TakenAs : Outcome → Type 0
    TakenAs told = Leads v past (λ w. where_up (stays w) v.standing (after_take w v reply (take v.safe reply))) q later told

    take_made_as : how ≡ None → (told : Outcome) → take_told reply (take v.safe reply) ≡ told → TakenAs told
    take_made_as none told tells w stands =
        gone_made is_held v q past later (taking reply v.safe) state stopped how came none w (after_take w v reply (take v.safe reply)) (take_told reply (take v.safe reply)) stands
        (take_makes w v reply (take v.safe reply)) ∙ ap (λ t. (world_with w q later, t)) tells

    hindered_take : (h : Hindrance) → how ≡ Some h → (told : Outcome) → hindered_so h stopped ≡ Some told → TakenAs told
    hindered_take h is told tells w stands =
        gone_so w v q past later (taking reply v.safe) told (after_take w v reply (take v.safe reply)) (came.hinders h is told tells) stands
        (λ p up ofp. (take_told reply (take v.safe reply), (take_makes w v reply (take v.safe reply)).1 p ofp))

    pub ok_taken : {E : Type 0} {made : Result Taken (CallRefusal TakeRefusal)} {r : Result Outcome E} {d : Bool} → how ≡ call_hindrance made → d ≡ stopped
        → EndsTold made r d (λ taken. outcomes.Took taken.items taken.wrote taken.usn) take_refused
        → IfOk made (λ taken. (s : State) → state ≡ Some s
        → (c : Change) × (take s reply ≡ Ok c) × ◌≡◌ {A = Taken} taken (record { items = length reply.items; wrote = length c.writes; usn = c.usn }))
        → ((s : State) (refusal : TakeRefusal) → state ≡ Some s → made ≡ Err (Refused refusal) → take s reply ≡ Err refusal) → IfOk r TakenAs
    ok_taken {made = made} says same ends makes refuses =
        answered came says ends TakenAs (take_told reply (take v.safe reply)) take_made_as hindered_take same
        (λ taken is there. let x = if_ok_is _ made taken is makes v.safe there in ap (take_told reply) x.1 ∙ sym (ap (λ (t : Taken). outcomes.Took t.items t.wrote t.usn) x.2))
        (λ refusal is there. ap (take_told reply) (refuses v.safe refusal there is))

  -- ---- a request

  module _ (request : Request) (now : ℕ) (came : Came is_held v q past later (serving request v.safe) state stopped how) where
    abbrev ServedAs : Outcome → Option Reply → Type 0
    ServedAs told sent = LeadsAt now v past (λ w. where_up (nothing w) v.standing (after_serve w v (serve v.safe request w.time))) q (noting later now sent) told sent

    serving_then : (w : World) → serving request v.safe ≡ served_by v.safe (serve v.safe request w.time)
    serving_then w = served_at v.safe request 0 w.time

    made_sent : how ≡ None → (w : World) → StandsIn w v past → (t : Result Reply ServeRefusal) → serve v.safe request w.time ≡ t
        → where_up (nothing w) v.standing (after_serve w v (serve v.safe request w.time)) ≡ (world_with w q (noting later w.time (serve_sent t)), serve_told t, serve_sent t)
    made_sent none w stands t is =
        sent_made is_held v q past later (serving request v.safe) state stopped how came none w (serve v.safe request w.time) stands (serving_then w)
        ∙ ap (λ t. (world_with w q (noting later w.time (serve_sent t)), serve_told t, serve_sent t)) is

    -- what is answered now is answered in a world of this time
    then_so : (w : World) (t : Result Reply ServeRefusal) → w.time ≡ now → serve v.safe request now ≡ t → serve v.safe request w.time ≡ t
    then_so w t time is = ap (serve v.safe request) time ∙ is

    served_so : how ≡ None → (reply : Reply) → ((s : State) → state ≡ Some s → serve s request now ≡ Ok reply)
        → (told : Outcome) (sent : Option Reply) → sent ≡ Some reply → told ≡ outcomes.Served reply.from reply.to (length reply.items) (rows_in reply) (is_some reply.last)
        → ServedAs told sent
    served_so none reply serves told sent sends tells w time stands =
        made_sent none w stands (Ok reply) (then_so w (Ok reply) time (serves v.safe (came.was_up none).1))
        ∙ ap (λ n. let made : Sent Reply = (world_with w q (noting later n (Some reply)), serve_told (Ok reply), Some reply) in made) time
        ∙ ap (λ o. let made : Sent Reply = (world_with w q (noting later now (Some reply)), o, Some reply) in made) (sym tells)
        ∙ ap (λ m. let made : Sent Reply = (world_with w q (noting later now m), told, m) in made) (sym sends)

    unserved_so : how ≡ None → (refusal : ServeRefusal) → ((s : State) → state ≡ Some s → serve s request now ≡ Err refusal)
        → (told : Outcome) → told ≡ serve_refused refusal → ServedAs told None
    unserved_so none refusal refuses told tells w time stands =
        made_sent none w stands (Err refusal) (then_so w (Err refusal) time (refuses v.safe (came.was_up none).1))
        ∙ ap (λ o. let sent : Sent Reply = nothing (world_with w q later) o in sent) (sym tells)

    -- where a reply was made nothing was committed
    served_undone : how ≡ None → (reply : Reply) → ((s : State) → state ≡ Some s → serve s request now ≡ Ok reply) → IsUndone v past q later
    served_undone none reply serves = came.idle none (served_at v.safe request 0 now ∙ ap (served_by v.safe) (serves v.safe (came.was_up none).1))

    hindered_serve : (h : Hindrance) → how ≡ Some h → (told : Outcome) → hindered_so h stopped ≡ Some told → ServedAs told None
    hindered_serve h is told tells w time stands =
        let t = serve v.safe request w.time in
        sent_so w v q past later (serving request v.safe) told (after_serve w v t) (came.hinders h is told tells) stands
        (λ p up ofp. (serve_told t, ((serve_makes w v t).1 p (sym (serving_then w) ∙ ofp)).0))

    abbrev ServedBy : Outcome × Option Reply → Type 0
    ServedBy sent = ServedAs sent.0 sent.1

    -- what is known of the call alone
    abbrev Serves : Result Reply (CallRefusal ServeRefusal) → Type 0
    Serves made = IfOk made (λ reply. (s : State) → state ≡ Some s → serve s request now ≡ Ok reply)

    module _ {E : Type 0} {made : Result Reply (CallRefusal ServeRefusal)} {r : Result (Outcome × Option Reply) E} {d : Bool} (says : how ≡ call_hindrance made) (ends : EndsSent made r d) (serves : Serves made) where
      pub ok_served : d ≡ stopped → ((s : State) (refusal : ServeRefusal) → state ≡ Some s → made ≡ Err (Refused refusal) → serve s request now ≡ Err refusal) → IfOk r ServedBy
      ok_served same refuses =
          if_sent ServedBy ends
          (λ reply is sent both. served_so (says ∙ ap call_hindrance is) reply (if_ok_is _ made reply is serves) sent.0 sent.1 both.0 both.1)
          (λ refusal is. unserved_so (says ∙ ap call_hindrance is) refusal (λ s there. refuses s refusal there is) (serve_refused refusal) refl)
          (λ h is told tells. hindered_serve h (says ∙ ap call_hindrance is) told (ap (hindered_so h) (sym same) ∙ tells))

      -- a reply that is sent is one that its state serves
      pub served_spelled : (P : Reply → Type 0) → ((reply : Reply) → state ≡ Some v.safe → serve v.safe request now ≡ Ok reply → P reply) → IfOk r (λ sent. IfSome sent.1 P)
      served_spelled P spelled = sent_holds P ends
          (λ reply is. let there = (came.was_up (says ∙ ap call_hindrance is)).1 in spelled reply there (if_ok_is _ made reply is serves v.safe there))

      pub serve_undone : OnErr r (IsUndone v past q later)
      serve_undone = unless_sent (IsUndone v past q later) ends
          (λ reply is. served_undone (says ∙ ap call_hindrance is) reply (if_ok_is _ made reply is serves))
          (λ h is. came.wanted h (says ∙ ap call_hindrance is))
