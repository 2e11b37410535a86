-- A turn with what of it is counted: where nothing was done, where a frame was heard, and where it was answered.
use Rattle.std.proofs.Common.{◌≡◌, ◌⊎◌, ◌<◌, ◌≤◌, ◌∙◌, inl, inr, ⊎_elim, refl, ℕ, List, Option, Some, None, Result, Ok, Err, arith}
use Rattle.std.specs.Prelude.{IfOk, IsErrOf, IsSome}
use Rattle.adr_io.specs.declared.Fault.{Fault}
use Rattle.adr_io.specs.declared.Fault.TheVariants as io
use Rattle.adr_journal.specs.declared.keeper.Keeper.{Ghosts}
use Rattle.adr_controller.specs.Running.{IsInOrder, Running}
use Rattle.adr_outside.specs.Calls.{CountsLine}
use Rattle.adr_outside.specs.Traffic.{Traffic}
use Rattle.adr_outside.specs.declared.net.Net.{Ghosts as NetGhosts}
use Rattle.adr_outside.specs.declared.clock.Clock.{Ghosts as ClockGhosts}
use Rattle.adr_session.specs.declared.ending.End.{End}
use Rattle.adr_session.specs.declared.ending.End.TheVariants as ended
use Rattle.adr_session.specs.declared.ending.ServeFault.{ServeFault}
use Rattle.adr_session.specs.declared.ending.ServeFault.TheVariants as faults
use Rattle.adr_session.specs.Talk.{Point, reaction, said_in}
use Rattle.adr_session.specs.Told.{FindsNear, FindsOneOf, HasHeard, IsAt, TakesTurn}
use Rattle.adr_session.specs.Made.{Reacts}
use Rattle.adr_session.specs.Turns.{Turns, sent}
use Rattle.adr_law_controller.proofs.Crashes.{LeavesLaw, OnlyNowLaw, crash_by, left_by, still_crashes, still_left}
use Rattle.adr_session.proofs.Reacting.{if_ok_any}
use Rattle.adr_session.proofs.Messages.{one_near, turn_is}

module _ {K N C : Type 0} (k : Ghosts K) (n : NetGhosts N) (c : ClockGhosts C) where
  -- nothing was done
  pub undone : LeavesLaw k → OnlyNowLaw k → (here : Running K) (net after : N) (time : C) (result : Result (Option End) ServeFault) → IsInOrder k here → IsSome here.state
      → ((t : Traffic) (p : Point) → IsAt k t p here (n.traffic net) (c.moments time) → TakesTurn k t p result here (n.traffic after) (c.moments time))
      → (IsErrOf result faults.Disk → ⊥) → (IsErrOf result faults.Clock → ⊥) → (result ≡ Ok (Some ended.Fault) → n.lines net < n.lines after)
      → (result ≡ Ok (Some ended.Fault)) ⊎ (n.lines after ≡ n.lines net) → n.doors after ≡ n.doors net
      → Turns k n c (λ t p. IsAt k t p here (n.traffic net) (c.moments time)) here here net after time time result
  undone leaves only_now here net after time result order up turns no_disk no_clock fault no_fault doors = record {
    up = if_ok_any (IsSome here.state) result up;
    in_order = order;
    turn = turns;
    any_moment = λ t p at. still_crashes k leaves only_now (FindsNear p) p.stands here at.stands order (λ s finds. (p, inl refl, finds));
    left = λ t p at. still_left k leaves (FindsNear p) p.stands here here.keeper at.stands order (λ s left. left) (λ s finds. (p, inl refl, finds));
    told = λ is. is;
    disk = λ is. absurd (no_disk is);
    disk_never_falls = omega arith;
    clock = λ is. absurd (no_clock is);
    clock_never_falls = omega arith;
    no_clock_fault = inr refl;
    fault = fault;
    no_fault = no_fault;
    doors = doors;
  }

  -- a frame was heard, and this is what it came to
  pub heard_turns : (here new : Running K) (net mid after : N) (time time_after : C) (bytes : List ℕ) (result : Result (Option End) ServeFault)
      → n.lines mid ≡ n.lines net → n.doors mid ≡ n.doors net
      → ((t : Traffic) (p : Point) → IsAt k t p here (n.traffic net) (c.moments time) → HasHeard k t p bytes here (n.traffic mid) (c.moments time))
      → Turns k n c (λ t p. HasHeard k t p bytes here (n.traffic mid) (c.moments time)) here new mid after time time_after result
      → Turns k n c (λ t p. IsAt k t p here (n.traffic net) (c.moments time)) here new net after time time_after result
  heard_turns here new net mid after time time_after bytes result lines doors hears so = record {
    up = so.up;
    in_order = so.in_order;
    turn = λ t p at. so.turn t p (hears t p at);
    any_moment = λ t p at. so.any_moment t p (hears t p at);
    left = λ t p at. so.left t p (hears t p at);
    told = so.told;
    disk = so.disk;
    disk_never_falls = so.disk_never_falls;
    clock = so.clock;
    clock_never_falls = so.clock_never_falls;
    no_clock_fault = so.no_clock_fault;
    fault = λ is. omega (arith, lines, so.fault is);
    no_fault = ⊎_elim (λ cut. inl cut) (λ same. inr (same ∙ lines)) so.no_fault;
    doors = so.doors ∙ doors;
  }

  -- it was answered, or couldn't be
  pub reacted_turns : {V : Type 0} (items : V → List ℕ) (old new : Running K) (net after : N) (time time_after : C) (bytes : List ℕ) (r : Result (Option V) ServeFault)
      (result : Result (Option End) ServeFault) → Reacts items k (said_in bytes) old new r (c.moments time) (c.moments time_after) → IsInOrder k new
      → ((t : Traffic) (p : Point) → HasHeard k t p bytes old (n.traffic net) (c.moments time) → TakesTurn k t p result new (n.traffic after) (c.moments time_after))
      → IfOk result (λ _. IsSome new.state) → (IsErrOf result faults.Disk → IsErrOf r faults.Disk) → (IsErrOf result faults.Clock → c.faults time < c.faults time_after)
      → c.faults time ≤ c.faults time_after → IsErrOf result faults.Clock ⊎ (c.faults time_after ≡ c.faults time)
      → (result ≡ Ok (Some ended.Fault) → n.lines net < n.lines after)
      → (result ≡ Ok (Some ended.Fault)) ⊎ (n.lines after ≡ n.lines net) → n.doors after ≡ n.doors net
      → Turns k n c (λ t p. HasHeard k t p bytes old (n.traffic net) (c.moments time)) old new net after time time_after result
  reacted_turns items old new net after time time_after bytes r result e order turns up disk time_fault time_later no_time_fault fault no_fault doors = record {
    up = up;
    in_order = order;
    turn = turns;
    any_moment = λ t p h.
        let a = reaction p.stands p.moments bytes in
        crash_by k old.keeper new.keeper (FindsOneOf p.stands a) (FindsNear p) (one_near p h.rest a (turn_is p bytes h.rest h.next)) (e.any_moment p.stands p.moments h.stands h.clock);
    left = λ t p h.
        let a = reaction p.stands p.moments bytes in
        left_by k old.keeper new.keeper (FindsOneOf p.stands a) (FindsNear p) (one_near p h.rest a (turn_is p bytes h.rest h.next)) (e.left p.stands p.moments h.stands h.clock);
    told = e.told;
    disk = λ is. e.disk (disk is);
    disk_never_falls = e.disk_never_falls;
    clock = time_fault;
    clock_never_falls = time_later;
    no_clock_fault = no_time_fault;
    fault = fault;
    no_fault = no_fault;
    doors = doors;
  }

  -- its answer was sent, or wasn't
  pub sent_turns : {V : Type 0} (items : V → List ℕ) (old new : Running K) (net after : N) (time time_after : C) (bytes : List ℕ) (o : Option V) (said : Result Unit Fault)
      → (let r : Result (Option V) ServeFault = Ok o in Reacts items k (said_in bytes) old new r (c.moments time) (c.moments time_after)) → IsInOrder k new
      → ((t : Traffic) (p : Point) → HasHeard k t p bytes old (n.traffic net) (c.moments time) → TakesTurn k t p (sent said) new (n.traffic after) (c.moments time_after))
      → c.faults time ≤ c.faults time_after → c.faults time_after ≡ c.faults time → CountsLine n net after said
      → Turns k n c (λ t p. HasHeard k t p bytes old (n.traffic net) (c.moments time)) old new net after time time_after (sent said)
  sent_turns items old new net after time time_after bytes o (Ok u) e order turns later still counts =
      reacted_turns items old new net after time time_after bytes (Ok o) (Ok None) e order turns e.up (λ is. absurd (cc is)) (λ is. absurd (cc is)) later (inr still)
      (λ is. absurd (cc is)) (inr counts.passed) counts.other
  sent_turns items old new net after time time_after bytes o (Err io.Failed) e order turns later still counts =
      reacted_turns items old new net after time time_after bytes (Ok o) (Ok (Some ended.Fault)) e order turns e.up (λ is. absurd (cc is)) (λ is. absurd (cc is)) later (inr still)
      (λ is. counts.failed refl) (inl refl) counts.other
  sent_turns items old new net after time time_after bytes o (Err io.NoMemory) e order turns later still counts =
      reacted_turns items old new net after time time_after bytes (Ok o) (Err faults.NoMemory) e order turns tt (λ is. absurd (cc is)) (λ is. absurd (cc is)) later (inr still)
      (λ is. absurd (cc is)) (inr (counts.no_memory refl)) counts.other
