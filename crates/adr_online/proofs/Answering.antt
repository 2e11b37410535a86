-- What a session's end is to the server, once the connection is hung up.
use Rattle.std.proofs.Common.{◌≡◌, ◌⊎◌, inl, inr, refl, ap, ⊎_elim, ℕ, List, [], ◌++◌, take, Option, Some, None, Result, Ok, Err, IfSome, arith, ◌≤◌, ◌<◌}
use Rattle.std.specs.Option.{option_map}
use Rattle.std.specs.Prelude.{IfErr, IfOk, IsErrOf, OnErr}
use Rattle.adr_disk.specs.Disk.{Among}
use Rattle.adr_model.specs.Store.{State}
use Rattle.adr_law_journal.specs.Areas.{Started}
use Rattle.adr_law_journal.proofs.Told.{if_told}
use Rattle.adr_journal.specs.declared.keeper.Keeper.{Ghosts as KeeperGhosts}
use Rattle.adr_controller.specs.Running.{Running}
use Rattle.adr_outside.specs.Traffic.{Traffic, hung_up, open_line}
use Rattle.adr_session.specs.declared.ending.End.{End}
use Rattle.adr_session.specs.declared.ending.End.TheVariants as ended
use Rattle.adr_session.specs.declared.ending.Served.{Served}
use Rattle.adr_session.specs.declared.ending.ServeFault.{ServeFault}
use Rattle.adr_session.specs.declared.ending.ServeFault.TheVariants as faults
use Rattle.adr_law_controller.specs.Keeping.{Stands}
use Rattle.adr_session.specs.Talk.{Point, Reaches, message_limit}
use Rattle.adr_session.specs.Told.{EndsByFault, HasSent, IsAt, FindsNear, LeavesBehind, ServedTo, Serves}
use Rattle.adr_online.specs.declared.ended.Stop.TheVariants as stops
use Rattle.adr_online.specs.Posts.{Post, Fails, done, opened}
use Rattle.adr_online.specs.Served.{AnswersAll, HangsUp, stopped}
use Rattle.adr_online.proofs.Hanging.{hung}

-- the connection was opened, and nothing was done in it yet
pub begun : {K : Type 0} (k : KeeperGhosts K) (p : Post) (came : List ℕ) (rest : List (List ℕ)) (c : Running K) (net : Option Traffic) (clock : Option (List ℕ))
    → Stands k p.stands c → net ≡ Some (open_line rest (done p) came []) → clock ≡ Some p.moments
    → IsAt k (open_line rest (done p) came []) (opened p came) c net clock
begun k p came rest c net clock stands opens moments = record { stands = stands; net = opens; clock = moments }

module _ {K : Type 0} (k : KeeperGhosts K) (before : K) (p : Post) (came : List ℕ) (rest : List (List ℕ)) (c : Running K) (net new : Option Traffic)
    (clock : Option (List ℕ)) (is : new ≡ option_map hung_up net) where
  abbrev line : Traffic
  line = open_line rest (done p) came []

  pub answered_to : (n : ℕ) (end : End) → ServedTo k line (opened p came) n end c net clock
      → AnswersAll k before p came rest (Ok (record { messages = n; end = end })) c new clock
  answered_to n ended.Hung b = (b.0, b.0.sent, (b.1, refl), b.2.stands, hung rest (done p) came b.0.sent net new is b.2.net, b.2.clock)
  answered_to n ended.Malformed b = (b.0, b.0.sent, (b.1, refl), b.2.stands, hung rest (done p) came b.0.sent net new is b.2.net, b.2.clock)
  answered_to n ended.Limit b = (b.0, b.0.sent, (b.1, refl), b.2.stands, hung rest (done p) came b.0.sent net new is (b.0.left, b.2.net), b.2.clock)
  answered_to n ended.Fault b =
      let m = b.1 in
      let cut = m.2.1 in (
        m.2.0,
        m.0.sent ++ take cut.count cut.due,
        (b.0, m.0, m.1, cut.near, (cut.due, cut.count, cut.whole, cut.short, refl)),
        cut.stands,
        hung rest (done p) came (m.0.sent ++ take cut.count cut.due) net new is cut.net,
        cut.clock,
      )

  hangs_up : (n : ℕ) (x : Point) → n < message_limit → Reaches n (opened p came) x → HasSent line x.sent net → HangsUp p came rest n x new
  hangs_up n x lt reaches has = (lt, reaches, hung rest (done p) came x.sent net new is has)

  pub answered_clock : Serves k line (opened p came) (Err faults.Clock) c net clock → AnswersAll k before p came rest (Err stops.Clock) c new clock
  answered_clock s =
      let m = s.2 in
      (m.0, s.0, hangs_up s.0 m.0 s.1 m.1 m.2.1.net, m.2.0, m.2.1.stands, m.2.1.clock)

  pub answered_memory : Serves k line (opened p came) (Err faults.NoMemory) c net clock → AnswersAll k before p came rest (Err stops.NoMemory) c new clock
  answered_memory s =
      let m = s.2 in
      let wants = m.2.1 in
      (m.0, s.0, hangs_up s.0 m.0 s.1 m.1 wants.net, wants.clock, (m.2.0, wants.near, wants.stands))

  -- the point is the one of which it is told what a start finds, where that is told
  pub answered_disk : Serves k line (opened p came) (Err faults.Disk) c net clock
      → IfSome (k.told before) (λ _. LeavesBehind k line (opened p came) (Err faults.Disk) c net clock)
      → AnswersAll k before p came rest (Err stops.Disk) c new clock
  answered_disk s left = by_told (k.told before) refl left
    where
      by_told : (o : Option (Started State)) → k.told before ≡ o → IfSome o (λ _. LeavesBehind k line (opened p came) (Err faults.Disk) c net clock)
          → AnswersAll k before p came rest (Err stops.Disk) c new clock
      by_told None told left =
          let m = s.2 in
          let q = m.0 in
          let none : IfSome (k.told before) (λ _. Among (FindsNear q) (k.may_leave c.keeper)) = rw told tt in
          (q, s.0, hangs_up s.0 q s.1 m.1 m.2.net, (m.2.state, none), m.2.clock)
      by_told (Some x) told left =
          let m = left.2 in
          let q = m.0 in
          let failed = m.2.0 in (
            q,
            left.0,
            hangs_up left.0 q left.1 m.1 failed.net,
            (failed.state, if_told (k.told before) (λ _. Among (FindsNear q) (k.may_leave c.keeper)) (λ t tells. m.2.1)),
            failed.clock,
          )

  -- however the session ended
  pub answered_so : (r : Result Served ServeFault) → Serves k line (opened p came) r c net clock
      → IfSome (k.told before) (λ _. LeavesBehind k line (opened p came) r c net clock) → AnswersAll k before p came rest (stopped r) c new clock
  answered_so (Ok s) serves left = answered_to s.messages s.end serves
  answered_so (Err faults.Disk) serves left = answered_disk serves left
  answered_so (Err faults.Clock) serves left = answered_clock serves
  answered_so (Err faults.NoMemory) serves left = answered_memory serves

-- ---- why the server stops

pub stopped_ok : (A : Type 0) (r : Result Served ServeFault) → IfOk r (λ _. A) → IfOk (stopped r) (λ _. A)
stopped_ok A (Ok s) a = a
stopped_ok A (Err faults.Disk) a = tt
stopped_ok A (Err faults.Clock) a = tt
stopped_ok A (Err faults.NoMemory) a = tt

pub stopped_only : (r : Result Served ServeFault) → IfErr (stopped r) (λ stop. (stop ≡ stops.Disk) ⊎ ((stop ≡ stops.Clock) ⊎ (stop ≡ stops.NoMemory)))
stopped_only (Ok s) = tt
stopped_only (Err faults.Disk) = inl refl
stopped_only (Err faults.Clock) = inr (inl refl)
stopped_only (Err faults.NoMemory) = inr (inr refl)

pub stopped_disk : (r : Result Served ServeFault) → IsErrOf (stopped r) stops.Disk → IsErrOf r faults.Disk
stopped_disk (Ok s) is = absurd (cc is)
stopped_disk (Err faults.Disk) is = refl
stopped_disk (Err faults.Clock) is = absurd (cc is)
stopped_disk (Err faults.NoMemory) is = absurd (cc is)

pub stopped_clock : (r : Result Served ServeFault) → IsErrOf (stopped r) stops.Clock → IsErrOf r faults.Clock
stopped_clock (Ok s) is = absurd (cc is)
stopped_clock (Err faults.Disk) is = absurd (cc is)
stopped_clock (Err faults.Clock) is = refl
stopped_clock (Err faults.NoMemory) is = absurd (cc is)

-- the clock failed just where that stops it
pub clock_stopped : (r : Result Served ServeFault) (old new : ℕ) → IsErrOf r faults.Clock ⊎ (new ≡ old) → old < new → IsErrOf (stopped r) stops.Clock
clock_stopped r old new (inl is) rose = ap stopped is
clock_stopped r old new (inr same) rose = absurd (omega (arith, rose, same))

-- ---- whether a call failed in the connection

fails_so : (end : End) (old new : ℕ) → (end ≡ ended.Fault → old < new) → (end ≡ ended.Fault) ⊎ (new ≡ old) → Fails end old new
fails_so ended.Fault old new rose either = rose refl
fails_so ended.Hung old new rose (inl is) = absurd (cc is)
fails_so ended.Hung old new rose (inr same) = same
fails_so ended.Malformed old new rose (inl is) = absurd (cc is)
fails_so ended.Malformed old new rose (inr same) = same
fails_so ended.Limit old new rose (inl is) = absurd (cc is)
fails_so ended.Limit old new rose (inr same) = same

pub stopped_fails : (r : Result Served ServeFault) (old new : ℕ) → (EndsByFault r → old < new) → EndsByFault r ⊎ (new ≡ old)
    → IfOk (stopped r) (λ s. Fails s.end old new)
stopped_fails (Ok s) old new rose either = fails_so s.end old new rose either
stopped_fails (Err faults.Disk) old new rose either = tt
stopped_fails (Err faults.Clock) old new rose either = tt
stopped_fails (Err faults.NoMemory) old new rose either = tt

pub stopped_still : (r : Result Served ServeFault) (old new : ℕ) → EndsByFault r ⊎ (new ≡ old) → OnErr (stopped r) (new ≡ old)
stopped_still (Ok s) old new either = tt
stopped_still (Err faults.Disk) old new (inl ends) = absurd ends
stopped_still (Err faults.Disk) old new (inr same) = same
stopped_still (Err faults.Clock) old new (inl ends) = absurd ends
stopped_still (Err faults.Clock) old new (inr same) = same
stopped_still (Err faults.NoMemory) old new (inl ends) = absurd ends
stopped_still (Err faults.NoMemory) old new (inr same) = same

-- no call of a line failed, or one did
pub lines_later : (A : Type 0) (old new : ℕ) → (A → old < new) → A ⊎ (new ≡ old) → old ≤ new
lines_later A old new rose either = ⊎_elim (λ a. let h : old < new = rose a in omega arith) (λ same. let h : new ≡ old = same in omega arith) either
