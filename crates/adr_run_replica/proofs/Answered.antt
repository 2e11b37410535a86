-- What calls of a controller come to, as the definitions say.
use Rattle.std.proofs.Common.{◌≡◌, ◌∙◌, refl, sym, ap, subst, ℕ, Bool, Option, Some, None, Result, Ok, Err, length, is_some}
use Rattle.std.specs.Option.{option_map}
use Rattle.adr_call.specs.declared.outcome.Outcome.{Outcome}
use Rattle.adr_call.specs.declared.outcome.Outcome.TheVariants as outcomes
use Rattle.adr_call.specs.declared.refusal.ServeRefusal.{ServeRefusal}
use Rattle.adr_call.specs.declared.refusal.ServeRefusal.TheVariants as serves
use Rattle.adr_call.specs.declared.refusal.TakeRefusal.{TakeRefusal}
use Rattle.adr_call.specs.declared.refusal.TakeRefusal.TheVariants as takes
use Rattle.adr_call.specs.declared.refusal.WriteRefusal.{WriteRefusal}
use Rattle.adr_model.specs.Store.{State}
use Rattle.adr_model.specs.Change.{Change}
use Rattle.adr_model.specs.Client.{Done, done, written}
use Rattle.adr_model.specs.Refused.{serve_refused, take_refused}
use Rattle.adr_model.specs.Replica.{Replica, Pending, Call, ToWrite, change_in, change_of}
use Rattle.adr_model.specs.Refusing.{unless}
use Rattle.adr_model.specs.Serve.{Request, Reply, reply_to, serve, serve_refusal}
use Rattle.adr_model.specs.Take.{take}
use Rattle.adr_model.specs.Write.{Write, write}
use Rattle.adr_model.specs.World.{World, Gone, Sent, after_call, after_serve, after_take, commit, stays, nothing, not_sent, rows_in, where_up}
use Rattle.adr_controller.specs.Able.{served_in, taken_in, change_of_served, change_of_taken}
use Rattle.adr_controller.specs.declared.refusal.Hindrance.{Hindrance}
use Rattle.adr_run_replica.specs.Past.{Past, noted_in, noting}
use Rattle.adr_run_replica.specs.Pending.{with_call, calling, served_by, serving, taken_by, taking}
use Rattle.adr_run_replica.specs.Led.{StandsIn, world_with}
use Rattle.adr_run_replica.proofs.Came.{Came, same_world, some_same, by_option}

-- ---- what is pending is a call with the change that the controller makes

with_change : (call : Call) (o : Option Change) → option_map (λ (p : Pending). p.change) (with_call call o) ≡ o
with_change call None = refl
with_change call (Some c) = refl

pub same_called : (call : Call) (s : State) → option_map (λ (p : Pending). p.change) (calling call s) ≡ change_of s call
same_called call s = with_change call (change_of s call)

-- a request commits the same at every time
pub served_at : (s : State) (q : Request) (now later : ℕ) → served_by s (serve s q now) ≡ served_by s (serve s q later)
served_at s q now later = by (serve_refusal s q)
  where
    by : (o : Option ServeRefusal) → served_by s (unless o (reply_to s q now)) ≡ served_by s (unless o (reply_to s q later))
    by None = refl
    by (Some refusal) = refl

pub same_served : (request : Request) (now : ℕ) (s : State) → option_map (λ (p : Pending). p.change) (serving request s) ≡ served_in request now s
same_served request now s = ap (λ (o : Option Pending). option_map (λ (p : Pending). p.change) o) (served_at s request 0 now) ∙ by (serve s request now)
  where
    by : (t : Result Reply ServeRefusal) → option_map (λ (p : Pending). p.change) (served_by s t) ≡ change_of_served s t
    by (Ok reply) = refl
    by (Err refusal) = with_change _ _

pub same_taken : (reply : Reply) (s : State) → option_map (λ (p : Pending). p.change) (taking reply s) ≡ taken_in reply s
same_taken reply s = by (take s reply)
  where
    by : (t : Result Change TakeRefusal) → option_map (λ (p : Pending). p.change) (taken_by reply s t) ≡ change_of_taken s t
    by (Ok c) = refl
    by (Err refusal) = with_change _ _

-- ---- what the definitions make of a call

-- with nothing to commit it is answered so, and else so when that is committed
abbrev pub Makes : World → Replica → Option Pending → Gone → Outcome → Type 0
Makes w r po gone told = (po ≡ None → gone ≡ (w, told)) × ((p : Pending) → po ≡ Some p → gone ≡ commit w r p told)

done_makes : (w : World) (r : Replica) (call : Call) (d : Done) → Makes w r (with_call call d.1) (after_call w r call d) d.0
done_makes w r call (told, None) = (λ none. refl, λ p of. absurd (cc of))
done_makes w r call (told, Some c) = (λ none. absurd (cc none), λ p of. ap (λ x. commit w r x told) (some_same _ p of))

-- the change that a call makes is its change
abbrev pub IsDoneSo : State → Call → Type 0
IsDoneSo s call = (done s call).1 ≡ change_of s call

pub write_done : (s : State) (what : Write) (now : ℕ) → IsDoneSo s (ToWrite what now)
write_done s what now = by (write s what now)
  where
    by : (t : Result Change WriteRefusal) → (written t).1 ≡ change_in t
    by (Ok c) = refl
    by (Err refusal) = refl

pub call_makes : (w : World) (r : Replica) (call : Call) → IsDoneSo r.safe call → Makes w r (calling call r.safe) (after_call w r call (done r.safe call)) (done r.safe call).0
call_makes w r call so =
    subst (λ (o : Option Change). Makes w r (with_call call o) (after_call w r call (done r.safe call)) (done r.safe call).0) so (done_makes w r call (done r.safe call))

abbrev pub take_told : Reply → Result Change TakeRefusal → Outcome
take_told reply (Ok c) = outcomes.Took (length reply.items) (length c.writes) c.usn
take_told reply (Err refusal) = take_refused refusal

pub take_makes : (w : World) (r : Replica) (reply : Reply) (t : Result Change TakeRefusal) → Makes w r (taken_by reply r.safe t) (after_take w r reply t) (take_told reply t)
take_makes w r reply (Ok c) = (λ none. absurd (cc none), λ p of. ap (λ x. commit w r x (take_told reply (Ok c))) (some_same _ p of))
take_makes w r reply (Err (takes.RolledBack inv mine shown)) = (λ none. absurd (cc none), λ p of. ap (λ x. commit w r x (take_refused (takes.RolledBack inv mine shown))) (some_same _ p of))
take_makes w r reply (Err _) = (λ none. refl, λ p of. absurd (cc of))

abbrev pub serve_told : Result Reply ServeRefusal → Outcome
serve_told (Ok reply) = outcomes.Served reply.from reply.to (length reply.items) (rows_in reply) (is_some reply.last)
serve_told (Err refusal) = serve_refused refusal

abbrev pub serve_sent : Result Reply ServeRefusal → Option Reply
serve_sent (Ok reply) = Some reply
serve_sent (Err refusal) = None

-- what was sent is noted
abbrev pub noted_world : World → Option Reply → World
noted_world w sent = record w { last_replies = noted_in w.last_replies w.time sent }

pub serve_makes : (w : World) (r : Replica) (t : Result Reply ServeRefusal)
    → (served_by r.safe t ≡ None → after_serve w r t ≡ (noted_world w (serve_sent t), serve_told t, serve_sent t))
    × ((p : Pending) → served_by r.safe t ≡ Some p → (after_serve w r t ≡ not_sent (commit w r p (serve_told t))) × (serve_sent t ≡ None))
serve_makes w r (Ok reply) = (λ none. refl, λ p of. absurd (cc of))
serve_makes w r (Err (serves.RolledBack inv mine shown)) =
    (λ none. absurd (cc none), λ p of. (ap (λ x. let sent : Sent Reply = not_sent (commit w r x (serve_refused (serves.RolledBack inv mine shown))) in sent) (some_same _ p of), refl))
serve_makes w r (Err _) = (λ none. refl, λ p of. absurd (cc of))

-- ---- a call that was made

module _ (is_held : Type 0) (r q : Replica) (past later : Past) (po : Option Pending) (state : Option State) (stopped : Bool) (how : Option Hindrance) (came : Came is_held r q past later po state stopped how) (none : how ≡ None) where
  pub gone_made : (w : World) (gone : Gone) (told : Outcome) → StandsIn w r past → Makes w r po gone told → where_up (stays w) r.standing gone ≡ (world_with w q later, told)
  gone_made w gone told stands makes =
      ap (λ st. where_up (stays w) st gone) (came.was_up none).0
      ∙ by_option po (gone ≡ (world_with w q later, told))
      (λ idle. makes.0 idle ∙ ap (λ x. (x, told)) (same_world w r q past later stands (came.idle none idle).0 (came.idle none idle).1))
      (λ p of. makes.1 p of ∙ came.done none p of w told stands)

  -- a call that sent something, or not
  pub sent_made : (w : World) (t : Result Reply ServeRefusal) → StandsIn w r past → po ≡ served_by r.safe t
      → where_up (nothing w) r.standing (after_serve w r t) ≡ (world_with w q (noting later w.time (serve_sent t)), serve_told t, serve_sent t)
  sent_made w t stands is =
      let makes = serve_makes w r t in
      ap (λ st. where_up (nothing w) st (after_serve w r t)) (came.was_up none).0
      ∙ by_option po (after_serve w r t ≡ (world_with w q (noting later w.time (serve_sent t)), serve_told t, serve_sent t))
      (λ idle. makes.0 (sym is ∙ idle) ∙ ap (λ (x : World). (noted_world x (serve_sent t), serve_told t, serve_sent t)) (same_world w r q past later stands (came.idle none idle).0 (came.idle none idle).1))
      (λ p of.
      let made = makes.1 p (sym is ∙ of) in
      made.0 ∙ ap not_sent (came.done none p of w (serve_told t) stands) ∙ ap (λ o. (world_with w q (noting later w.time o), serve_told t, o)) (sym made.1))
