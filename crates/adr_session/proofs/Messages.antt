-- One message of a connection: what was heard, what it came to, and what was sent.
use Rattle.std.proofs.Common.{◌≡◌, ◌⊎◌, inl, inr, ℕ, List, ◌++◌, take, Option, Some, None, Result, Ok, Err, refl, sym, ap, subst, ◌∙◌}
use Rattle.std.specs.Prelude.{IfSome, IsErrOf, OnErr, OnOk}
use Rattle.adr_io.specs.declared.Fault.{Fault}
use Rattle.adr_io.specs.declared.Fault.TheVariants as io
use Rattle.adr_model.specs.Store.{State}
use Rattle.adr_law_journal.specs.Areas.{Started}
use Rattle.adr_law_journal.proofs.Told.{at_told}
use Rattle.adr_journal.specs.declared.keeper.Keeper.{Ghosts}
use Rattle.adr_controller.specs.Running.{Running}
use Rattle.adr_outside.specs.Traffic.{IsShort, Traffic, Sends as SendsAll, SendsFront}
use Rattle.adr_frames.specs.Frames.{IsFrame, frame, next_in}
use Rattle.adr_session.specs.declared.ending.End.{End}
use Rattle.adr_session.specs.declared.ending.End.TheVariants as ended
use Rattle.adr_session.specs.declared.ending.ServeFault.{ServeFault}
use Rattle.adr_session.specs.declared.ending.ServeFault.TheVariants as faults
use Rattle.adr_session.specs.Talk.{Point, Stops, Reaction, Sends, Leaves, turn, takes, does, reaction}
use Rattle.adr_session.specs.Told.{FindsNear, FindsOneOf, IsTimed, IsTimedBehind, IsTimedNear, ReactsSo, ReactsTo, TakesAMoment, StandsNear, TakesTurn}
use Rattle.adr_session.specs.Turns.{sent}

-- the message that comes next is what a frame comes to
pub turn_is :
    (p : Point) (bytes rest : List ℕ) → next_in p.left ≡ IsFrame bytes rest
    → turn p ≡ does p rest (reaction p.stands p.moments bytes)
turn_is p bytes rest next = ap (takes p) next

-- a start finds the one state or the other
pub one_near :
    (p : Point) (rest : List ℕ) (r : Reaction) → turn p ≡ does p rest r → (s : Started State) → FindsOneOf p.stands r s
    → FindsNear p s
one_near p rest (Sends a moments) is s (inl here) = (p, inl refl, here)
one_near p rest (Sends a moments) is s (inr next) = (record { stands = a.0; moments = moments; left = rest; sent = p.sent ++ frame a.1 }, inr is, next)
one_near p rest (Leaves ends) is s here = (p, inl refl, here)

-- the message that comes next has taken its moment, or not
timed_behind : (p : Point) (rest : List ℕ) (r : Reaction) → turn p ≡ does p rest r → (clock : Option (List ℕ)) → IsTimed r clock → IsTimedBehind p clock
timed_behind p rest (Sends a moments) is clock timed = (record { stands = a.0; moments = moments; left = rest; sent = p.sent ++ frame a.1 }, is, timed)
timed_behind p rest (Leaves ends) is clock timed = absurd timed

timed_near : (p : Point) (rest : List ℕ) (r : Reaction) → turn p ≡ does p rest r → (clock : Option (List ℕ)) → (clock ≡ Some p.moments) ⊎ IsTimed r clock → IsTimedNear p clock
timed_near p rest r is clock (inl here) = inl here
timed_near p rest r is clock (inr timed) = inr (timed_behind p rest r is clock timed)

module _ {K V : Type 0} (items : V → List ℕ) (k : Ghosts K) (t : Traffic) (p : Point) (rest : List ℕ) (c : Running K) (clock : Option (List ℕ)) where
  abbrev pub heard : Traffic
  heard = record t { left = rest; sent = p.sent }

  abbrev Reacted : Option V → Reaction → Type 0
  Reacted o r = ReactsTo items k p.stands p.moments o r c clock

  -- no message of a client
  pub ends_malformed :
      (o : Option V) (r : Reaction) → o ≡ None → turn p ≡ does p rest r → Reacted o r → (net : Option Traffic) → net ≡ Some heard
      → TakesTurn k t p (Ok (Some ended.Malformed)) c net clock
  ends_malformed o r none is reacts net now = by r is (subst (λ (x : Option V). Reacted x r) none reacts)
    where
      by : (r : Reaction) → turn p ≡ does p rest r → Reacted None r → TakesTurn k t p (Ok (Some ended.Malformed)) c net clock
      by (Sends a moments) is reacts = absurd reacts
      by (Leaves ends) is reacts = (is ∙ ap Stops reacts.0, record { stands = reacts.1; net = (rest, now); clock = reacts.2 })

  -- its frame was sent
  sent_all :
      (v : V) (r : Reaction) → turn p ≡ does p rest r → Reacted (Some v) r → (net : Option Traffic)
      → SendsAll heard net (frame (items v)) → TakesTurn k t p (Ok None) c net clock
  sent_all v (Leaves ends) is reacts net sends = absurd reacts
  sent_all v (Sends a moments) is reacts net sends = (
    record { stands = a.0; moments = moments; left = rest; sent = p.sent ++ frame a.1 },
    is,
    record {
      stands = reacts.1;
      net = sends.1 ∙ ap (λ (bytes : List ℕ). Some (record t { left = rest; sent = p.sent ++ frame bytes })) reacts.0;
      clock = reacts.2;
    },
  )

  -- a front of it was sent
  sent_front :
      (v : V) (r : Reaction) → turn p ≡ does p rest r → Reacted (Some v) r → (net : Option Traffic)
      → SendsFront heard net (frame (items v)) → TakesTurn k t p (Ok (Some ended.Fault)) c net clock
  sent_front v (Leaves ends) is reacts net sends = absurd reacts
  sent_front v (Sends a moments) is reacts net sends = (
    record { stands = a.0; moments = moments; left = rest; sent = p.sent ++ frame a.1 },
    record {
      near = inr is;
      stands = reacts.1;
      due = frame a.1;
      whole = refl;
      count = sends.0;
      short = subst (λ (bytes : List ℕ). IsShort sends.0 (frame bytes)) reacts.0 sends.1;
      net = (rest, sends.2 ∙ ap (λ (bytes : List ℕ). Some (record t { left = rest; sent = p.sent ++ take sends.0 (frame bytes) })) reacts.0);
      clock = reacts.2;
    },
  )

  -- nothing of it was sent
  sent_none :
      (v : V) (r : Reaction) → turn p ≡ does p rest r → Reacted (Some v) r → (net : Option Traffic) → net ≡ Some heard
      → TakesTurn k t p (Err faults.NoMemory) c net clock
  sent_none v (Leaves ends) is reacts net now = absurd reacts
  sent_none v (Sends a moments) is reacts net now = (
    record { stands = a.0; moments = moments; left = rest; sent = p.sent ++ frame a.1 },
    record { near = inr is; stands = reacts.1; net = (rest, now); clock = inr (timed_behind p rest (Sends a moments) is clock reacts.2) },
  )

  module _ (o : Option V) (v : V) (r : Reaction) (some : o ≡ Some v) (is : turn p ≡ does p rest r) (reacts : Reacted o r) where
    reacts_some : Reacted (Some v) r
    reacts_some = subst (λ (x : Option V). Reacted x r) some reacts

    -- its frame was sent, or a front of it, or memory was wanting for it
    pub sent_so :
        (before net : Option Traffic) (bytes : List ℕ) → before ≡ Some heard → bytes ≡ items v → (said : Result Unit Fault)
        → OnOk said (IfSome before (λ u. SendsAll u net (frame bytes))) → OnErr said (IfSome before (λ u. SendsFront u net (frame bytes)))
        → (IsErrOf said io.NoMemory → net ≡ before) → TakesTurn k t p (sent said) c net clock
    sent_so before net bytes now same (Ok u) all front none =
        sent_all v r is reacts_some net
        (subst (λ (b : List ℕ). SendsAll heard net (frame b)) same (at_told before (λ u. SendsAll u net (frame bytes)) heard now all))
    sent_so before net bytes now same (Err io.Failed) all front none =
        sent_front v r is reacts_some net
        (subst (λ (b : List ℕ). SendsFront heard net (frame b)) same (at_told before (λ u. SendsFront u net (frame bytes)) heard now front))
    sent_so before net bytes now same (Err io.NoMemory) all front none = sent_none v r is reacts_some net (none refl ∙ now)

  wanting_near :
      (r : Reaction) → turn p ≡ does p rest r → StandsNear k p.stands r c → IsTimedNear p clock → (net : Option Traffic) → net ≡ Some heard
      → TakesTurn k t p (Err faults.NoMemory) c net clock
  wanting_near (Leaves ends) is near timed net now = (p, record { near = inl refl; stands = near; net = (rest, now); clock = timed })
  wanting_near (Sends a moments) is (inl here) timed net now = (p, record { near = inl refl; stands = here; net = (rest, now); clock = timed })
  wanting_near (Sends a moments) is (inr there) timed net now = (
    record { stands = a.0; moments = moments; left = rest; sent = p.sent ++ frame a.1 },
    record { near = inr is; stands = there; net = (rest, now); clock = timed },
  )

  -- the node can't go on
  pub fails_so :
      (bytes : List ℕ) (fault : ServeFault) → next_in p.left ≡ IsFrame bytes rest
      → ReactsSo items k p.stands p.moments (reaction p.stands p.moments bytes) (Err fault) c clock
      → (fault ≡ faults.Clock → TakesAMoment bytes) → (net : Option Traffic) → net ≡ Some heard → TakesTurn k t p (Err fault) c net clock
  fails_so bytes faults.Disk next reacts line net now = record {
    state = reacts.0;
    net = (rest, now);
    clock = timed_behind p rest (reaction p.stands p.moments bytes) (turn_is p bytes rest next) clock reacts.1;
  }
  fails_so bytes faults.Clock next reacts line net now = (
    (bytes, rest, next, line refl),
    record { stands = reacts.0; net = (rest, now); clock = reacts.1 },
  )
  fails_so bytes faults.NoMemory next reacts line net now =
      let r = reaction p.stands p.moments bytes in
      let is = turn_is p bytes rest next in
      wanting_near r is reacts.0 (timed_near p rest r is clock reacts.1) net now

-- a fault that is handed on
pub handed_on :
    {K : Type 0} (k : Ghosts K) (t : Traffic) (p : Point) (c : Running K) (net : Option Traffic) (clock : Option (List ℕ)) (r : Result (Option End) ServeFault) (e f : ServeFault)
    → r ≡ Err e → e ≡ f → TakesTurn k t p (Err f) c net clock → TakesTurn k t p r c net clock
handed_on k t p c net clock r e f is same turn =
    subst (λ (x : Result (Option End) ServeFault). TakesTurn k t p x c net clock) (sym (is ∙ ap (λ (x : ServeFault). let y : Result (Option End) ServeFault = Err x in y) same)) turn
