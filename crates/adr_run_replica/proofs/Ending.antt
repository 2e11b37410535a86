-- How a call of a controller ended that may be refused or hindered, and what is returned then.
use Rattle.std.proofs.Common.{◌≡◌, sym, subst, Bool, Option, Some, None, Result, Ok, Err, length, is_some}
use Rattle.std.specs.Prelude.{IfOk, IfSome, OnErr}
use Rattle.adr_call.specs.declared.outcome.Outcome.{Outcome}
use Rattle.adr_call.specs.declared.outcome.Outcome.TheVariants as outcomes
use Rattle.adr_call.specs.declared.refusal.ServeRefusal.{ServeRefusal}
use Rattle.adr_model.specs.Refused.{serve_refused}
use Rattle.adr_model.specs.Serve.{Reply}
use Rattle.adr_model.specs.World.{rows_in}
use Rattle.adr_controller.specs.declared.refusal.CallRefusal.{CallRefusal}
use Rattle.adr_controller.specs.declared.refusal.CallRefusal.TheVariants.{Refused, Hindered}
use Rattle.adr_controller.specs.declared.refusal.Hindrance.{Hindrance}
use Rattle.adr_controller.specs.declared.refusal.Hindrance.TheVariants.{NoMemory}
use Rattle.adr_outcome.specs.Unsent.{unsent}
use Rattle.adr_run_replica.specs.Settled.{hindered_so}
use Rattle.adr_run_replica.proofs.Results.{if_ok_at, if_ok_as, no_err, on_err, on_err_as, on_err_unsent, none_sent, one_sent}

-- a call that is answered an outcome
pub data EndsTold {M R E : Type 0} (made : Result M (CallRefusal R)) (r : Result Outcome E) (stopped : Bool) (ok : M → Outcome) (no : R → Outcome) : Type 0 where
  ToldMade : (x : M) → made ≡ Ok x → r ≡ Ok (ok x) → EndsTold made r stopped ok no
  ToldRefused : (refusal : R) → made ≡ Err (Refused refusal) → (told : Outcome) → r ≡ Ok told → told ≡ no refusal → EndsTold made r stopped ok no
  ToldHindered : (h : Hindrance) → made ≡ Err (Hindered h) → (t : Result Outcome E) → r ≡ t → IfOk t (λ told. hindered_so h stopped ≡ Some told) → OnErr t (h ≡ NoMemory)
      → EndsTold made r stopped ok no

pub if_told : {M R E : Type 0} {made : Result M (CallRefusal R)} {r : Result Outcome E} {stopped : Bool} {ok : M → Outcome} {no : R → Outcome} (P : Outcome → Type 0)
    → EndsTold made r stopped ok no → ((x : M) → made ≡ Ok x → P (ok x)) → ((refusal : R) → made ≡ Err (Refused refusal) → P (no refusal))
    → ((h : Hindrance) → made ≡ Err (Hindered h) → (told : Outcome) → hindered_so h stopped ≡ Some told → P told) → IfOk r P
if_told {r = r} {ok = ok} P (ToldMade x is tells) makes refuses hinders = if_ok_at P r (ok x) tells (makes x is)
if_told {r = r} P (ToldRefused refusal is told tells so) makes refuses hinders = if_ok_at P r told tells (subst P (sym so) (refuses refusal is))
if_told {r = r} {stopped = stopped} P (ToldHindered h is t tells good bad) makes refuses hinders = if_ok_as (λ told. hindered_so h stopped ≡ Some told) P r t tells good (hinders h is)

-- it isn't answered where it wanted memory
pub unless_told : {M R E : Type 0} {made : Result M (CallRefusal R)} {r : Result Outcome E} {stopped : Bool} {ok : M → Outcome} {no : R → Outcome} (Q : Type 0)
    → EndsTold made r stopped ok no → ((h : Hindrance) → made ≡ Err (Hindered h) → h ≡ NoMemory → Q) → OnErr r Q
unless_told {r = r} {ok = ok} Q (ToldMade x is tells) wanted = no_err Q r (ok x) tells
unless_told {r = r} Q (ToldRefused refusal is told tells so) wanted = no_err Q r told tells
unless_told {r = r} Q (ToldHindered h is t tells good bad) wanted = on_err_as (h ≡ NoMemory) Q r t tells bad (wanted h is)

-- ---- a request, whose reply is sent beside the outcome

abbrev pub IsSent : Reply → Outcome × Option Reply → Type 0
IsSent reply sent = (sent.1 ≡ Some reply) × (sent.0 ≡ outcomes.Served reply.from reply.to (length reply.items) (rows_in reply) (is_some reply.last))

pub data EndsSent {E : Type 0} (made : Result Reply (CallRefusal ServeRefusal)) (r : Result (Outcome × Option Reply) E) (stopped : Bool) : Type 0 where
  SentMade : (reply : Reply) → made ≡ Ok reply → (t : Result (Outcome × Option Reply) E) → r ≡ t → IfOk t (IsSent reply) → EndsSent made r stopped
  SentRefused : (refusal : ServeRefusal) → made ≡ Err (Refused refusal) → (told : Outcome) → r ≡ Ok (told, None) → told ≡ serve_refused refusal → EndsSent made r stopped
  SentHindered : (h : Hindrance) → made ≡ Err (Hindered h) → (o : Result Outcome E) → r ≡ unsent o → IfOk o (λ told. hindered_so h stopped ≡ Some told) → OnErr o (h ≡ NoMemory)
      → EndsSent made r stopped

-- where it is answered without a reply
if_unsent : {E : Type 0} (P : Outcome → Type 0) (Q : Outcome × Option Reply → Type 0) (r : Result (Outcome × Option Reply) E) (o : Result Outcome E) → r ≡ unsent o → IfOk o P
    → ((told : Outcome) → P told → Q (told, None)) → IfOk r Q
if_unsent {E} P Q r o is tells so = subst (λ x. IfOk x Q) (sym is) (by o tells)
  where
    by : (o : Result Outcome E) → IfOk o P → IfOk (unsent o) Q
    by (Ok told) p = so told p
    by (Err e) p = tt

pub if_sent : {E : Type 0} {made : Result Reply (CallRefusal ServeRefusal)} {r : Result (Outcome × Option Reply) E} {stopped : Bool} (P : Outcome × Option Reply → Type 0)
    → EndsSent made r stopped → ((reply : Reply) → made ≡ Ok reply → (sent : Outcome × Option Reply) → IsSent reply sent → P sent)
    → ((refusal : ServeRefusal) → made ≡ Err (Refused refusal) → P (serve_refused refusal, None))
    → ((h : Hindrance) → made ≡ Err (Hindered h) → (told : Outcome) → hindered_so h stopped ≡ Some told → P (told, None)) → IfOk r P
if_sent {r = r} P (SentMade reply is t tells good) makes refuses hinders = if_ok_as (IsSent reply) P r t tells good (makes reply is)
if_sent {r = r} P (SentRefused refusal is told tells so) makes refuses hinders = if_ok_at P r (told, None) tells (subst (λ o. P (o, None)) (sym so) (refuses refusal is))
if_sent {r = r} {stopped = stopped} P (SentHindered h is o tells good bad) makes refuses hinders = if_unsent (λ told. hindered_so h stopped ≡ Some told) P r o tells good (hinders h is)

-- a reply that was sent is the one that was made
pub sent_holds : {E : Type 0} {made : Result Reply (CallRefusal ServeRefusal)} {r : Result (Outcome × Option Reply) E} {stopped : Bool} (P : Reply → Type 0)
    → EndsSent made r stopped → ((reply : Reply) → made ≡ Ok reply → P reply) → IfOk r (λ sent. IfSome sent.1 P)
sent_holds {r = r} P (SentMade reply is t tells good) makes =
    one_sent P (λ told. told ≡ outcomes.Served reply.from reply.to (length reply.items) (rows_in reply) (is_some reply.last)) r t reply tells good (makes reply is)
sent_holds {r = r} P (SentRefused refusal is told tells so) makes = if_ok_at (λ sent. IfSome sent.1 P) r (told, None) tells tt
sent_holds {r = r} P (SentHindered h is o tells good bad) makes = none_sent P r o tells

-- it isn't answered where memory was wanting, for the call or for the answer to a reply
pub unless_sent : {E : Type 0} {made : Result Reply (CallRefusal ServeRefusal)} {r : Result (Outcome × Option Reply) E} {stopped : Bool} (Q : Type 0)
    → EndsSent made r stopped → ((reply : Reply) → made ≡ Ok reply → Q) → ((h : Hindrance) → made ≡ Err (Hindered h) → h ≡ NoMemory → Q) → OnErr r Q
unless_sent {r = r} Q (SentMade reply is t tells good) makes wanted = on_err Q r (makes reply is)
unless_sent {r = r} Q (SentRefused refusal is told tells so) makes wanted = no_err Q r (told, None) tells
unless_sent {r = r} Q (SentHindered h is o tells good bad) makes wanted = on_err_unsent (h ≡ NoMemory) Q r o tells bad (wanted h is)
