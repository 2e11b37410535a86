-- What calls are answered is where their changes lead, and what is told of them.
use Rattle.std.proofs.Common.{◌≡◌, ◌∙◌, sym, ap, subst, refl, ℕ, List, ◌∷◌, Option, Some, None, Result, Ok, Err}
use Rattle.std.specs.Prelude.{IsSome}
use Rattle.adr_call.specs.declared.refusal.ServeRefusal.{ServeRefusal}
use Rattle.adr_call.specs.declared.refusal.ServeRefusal.TheVariants as serves
use Rattle.adr_call.specs.declared.refusal.Table.TheVariants.{Log}
use Rattle.adr_model.specs.Lengths.{log_limit}
use Rattle.adr_model.specs.Client.{Done, call_meant, done}
use Rattle.adr_model.specs.Refused.{full}
use Rattle.adr_model.proofs.Calling.{done_change}
use Rattle.adr_model.specs.Serve.{Reply, Request, serve}
use Rattle.adr_model.specs.Store.{State}
use Rattle.adr_law_journal.specs.Areas.{Found}
use Rattle.adr_journal.specs.declared.keeper.Keeper.{Ghosts}
use Rattle.adr_packet.specs.Replies.{reply_bytes}
use Rattle.adr_packet.specs.declared.refusal.Refusal.TheVariants.{Serve, LogFull}
use Rattle.adr_controller.specs.Able.{called_in, change_of_served, served_in}
use Rattle.adr_controller.specs.Did.{Calls}
use Rattle.adr_controller.specs.Running.{IsInOrder, Running}
use Rattle.adr_controller.specs.declared.refusal.Hindrance.{Hindrance}
use Rattle.adr_session.specs.declared.ending.ServeFault.{ServeFault}
use Rattle.adr_call.specs.declared.call.Call.{Call}
use Rattle.adr_law_controller.specs.Keeping.{Stands}
use Rattle.adr_session.specs.Talk.{did, refused, replies, told}
use Rattle.adr_session.specs.Made.{led, Makes, Tells}
use Rattle.adr_law_controller.proofs.Crashes.{LeavesLaw, OnlyNowLaw}
use Rattle.adr_session.proofs.Making.{makes}

-- ---- what is told

pub tells_at : {V : Type 0} (items : V → List ℕ) (said full : List ℕ) (how h : Option Hindrance) (r x : Result V ServeFault) → how ≡ h → r ≡ x → Tells items said full h x → Tells items said full how r
tells_at {V} items said full how h r x e d t = subst (λ (h : Option Hindrance). Tells items said full h r) (sym e) (subst (λ (r : Result V ServeFault). Tells items said full h r) (sym d) t)

-- ---- calls

-- what is told of a log that has no room for the change of a call
abbrev pub full_of : Call → List ℕ
full_of call = told call (full Log log_limit)

pub did_done : (f : Found State) (call : Call) (d : Done) → did f call d ≡ led f d.1 (told call d.0) (full_of call)
did_done f call (outcome, None) = refl
did_done f call (outcome, Some c) = refl

-- ---- requests

-- what is told of a request, but for a full log
abbrev pub served_told : Result Reply ServeRefusal → List ℕ
served_told (Ok reply) = 2 ∷ reply_bytes reply
served_told (Err refusal) = refused (Serve refusal)

abbrev pub log_full : List ℕ
log_full = refused (LogFull log_limit)

pub replies_led : (f : Found State) (r : Result Reply ServeRefusal) → replies f r ≡ led f (change_of_served f.state r) (served_told r) log_full
replies_led f (Ok reply) = refl
replies_led f (Err serves.Quarantined) = refl
replies_led f (Err (serves.WrongController mine asked)) = refl
replies_led f (Err (serves.BadMark prop obj seen)) = refl
replies_led f (Err (serves.RolledBack inv mine shown)) = refl
replies_led f (Err (serves.SchemaMismatch mine theirs)) = refl
replies_led f (Err (serves.TooOld inv purged has)) = refl

-- ---- calls that were answered, or couldn't be

module _ {K V : Type 0} (k : Ghosts K) (leaves : LeavesLaw k) (only_now : OnlyNowLaw k) (old new : Running K) (how : Option Hindrance) (order : IsInOrder k old) (up : IsSome old.state)
    (h : Option Hindrance) (r x : Result V ServeFault) (ended : how ≡ h) (is : r ≡ x) where
  -- a request
  pub serves_makes : (items : V → List ℕ) (request : Request) (now : ℕ) → Calls k (served_in request now) old new how
      → ((f : Found State) → Stands k f old → Tells items (served_told (serve f.state request now)) log_full h x) → Makes items k (λ f. replies f (serve f.state request now)) old new r
  serves_makes items request now calls tells =
      makes items k leaves only_now (served_in request now) (λ f. replies f (serve f.state request now)) old new how r order up calls (λ f stands.
      let said = served_told (serve f.state request now) in
      (said, log_full, replies_led f (serve f.state request now), tells_at items said log_full how h r x ended is (tells f stands)))

  -- what a client calls for
  pub call_makes : (items : V → List ℕ) (call : Call) (now : ℕ) → Calls k (called_in call now) old new how
      → ((f : Found State) → Stands k f old → Tells items (told call (done f.state (call_meant call now)).0) (full_of call) h x)
      → Makes items k (λ f. did f call (done f.state (call_meant call now))) old new r
  call_makes items call now calls tells =
      makes items k leaves only_now (called_in call now) (λ f. did f call (done f.state (call_meant call now))) old new how r order up calls (λ f stands.
      let d = done f.state (call_meant call now) in
      let said = told call d.0 in
      (said, full_of call, did_done f call d ∙ ap (λ o. led f o said (full_of call)) (done_change f.state call now), tells_at items said (full_of call) how h r x ended is (tells f stands)))
