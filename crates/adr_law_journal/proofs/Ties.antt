-- What a commit and a start do to a disk in memory is what the definitions say of its replica.
use Rattle.std.proofs.Common.{◌≡◌, inl, inr, ℕ, ◌+◌, ◌-◌, ◌<◌, ◌^◌, List, [], ◌∷◌, length, Bool, true, false, Option, Some, None, Ok, refl, sym, ◌∙◌, ap, subst, arith, if◌then◌else◌}
use Rattle.std.specs.Prelude.{fold}
use Rattle.adr_io.specs.declared.Fault.{Fault as Cause}
use Rattle.adr_io.specs.declared.Fault.TheVariants.{Failed as failed_call}
use Rattle.adr_disk.specs.declared.memory.Crash.TheVariants.{Kept, Lost, Torn}
use Rattle.adr_disk.specs.declared.memory.Mishap.{Mishap}
use Rattle.adr_disk.specs.declared.memory.Mishap.TheVariants.{Fails, Stops}
use Rattle.adr_disk.specs.Disk.{put, Only, Writes, Syncs}
use Rattle.adr_disk.proofs.Bytes.{Torn-put}
use Rattle.adr_disk.specs.Memory.{DiskState, read_of, IsImage, torn_half, left_by, Does}
use Rattle.adr_disk.proofs.Writes.{length-torn_half}
use Rattle.adr_disk.proofs.Outcomes.{IsImage-left_by}
use Rattle.adr_model.specs.Store.{State}
use Rattle.adr_model.specs.Change.{after}
use Rattle.adr_model.specs.Lengths.{Log, area_version, change_length, is_due, checkpointed, log_after}
use Rattle.adr_disk.specs.declared.memory.Plan.{Plan}
use Rattle.adr_model.specs.Replica.{Pending, Failed, Replica, Device, Book, Went, Passed, Met, went, behind, moved, moves_of_commit, moves_of_start, standing_after, plan_after, logs_of_record, logs_of_checkpoint, logs_of_start, torn_log, recorded_on, checkpointed_on, commit_goes, device_after_commit}
use Rattle.adr_law_journal.specs.Log.{open_gate, record_of}
use Rattle.adr_law_journal.specs.Areas.{Found, found, Started, IsFree, other_log}
use Rattle.adr_law_journal.specs.Commits.{Commits, Checkpoints}
use Rattle.adr_law_journal.specs.Due.{record_goes}
use Rattle.adr_law_journal.specs.Kept.{Layout, starts, Rests}
use Rattle.adr_law_journal.specs.Planned.{IsReadyToCommit, IsNextArea}
use Rattle.adr_law_journal.specs.Replicas.{standing_of, IsRunning, read_found, safe_found, torn_found, Has, IsOn, committed, started, CommitLeads, StartLeads}
use Rattle.adr_law_journal.proofs.NineCalls.{two_runs}
use Rattle.adr_law_journal.proofs.Placing.{free_place, next_area, written_now}
use Rattle.adr_law_journal.proofs.Recording.{torn_record, staged, opened_up}
use Rattle.adr_law_journal.proofs.Settled.{stands}
use Rattle.adr_law_journal.proofs.Stages.{Stage, step_write, step_sync, fail_write, fail_sync}
use Rattle.adr_law_journal.proofs.Moves.{Three, all_of, three_of, three_after, Shows, Holds, MeetsMishap, passed_holds, failed_holds, met_fails, none_yet, torn_beside, rest_of}
use Rattle.adr_law_journal.proofs.Planned.{Selected, checkpoint_three, selected, unselected}

-- ---- the four calls of a record

-- a replica after the moves of a commit that went so
abbrev gone : Book → Replica → Pending → Went → Replica
gone book r p g = (fold moved (book, r) (moves_of_commit p g)).1

abbrev record_three : Book → Replica → Pending → Log → Went → Three State
record_three book r p log g = three_of (gone book r p g).read (gone book r p g).safe (logs_of_record log (log_after log p.change) g)

module _ (book : Book) (r : Replica) (p : Pending) (log : Log) (same : r.read ≡ r.safe) where
  abbrev here : Found State
  here = found r.safe log

  abbrev next : Log
  next = log_after log p.change

  abbrev with_record : Found State
  with_record = found (after r.safe p.change) next

  abbrev begun : Three State
  begun = (with_record, here, with_record)

  abbrev Agrees : ℕ → Mishap → Three State → Three State → Type 0
  Agrees k m before begun = record_three book r p log (Met k m) ≡ three_after m before begun

  quiet : three_of r.read r.safe (log, log) ≡ all_of here
  quiet = ap (λ (s : State). three_of s r.safe (log, log)) same ∙ rest_of r.safe log

  settled : three_of (after r.safe p.change) (after r.safe p.change) (next, next) ≡ all_of with_record
  settled = rest_of (after r.safe p.change) next

  at_0 : (m : Mishap) → Agrees 0 m (all_of here) (all_of here)
  at_0 Fails = quiet
  at_0 (Stops Kept) = quiet
  at_0 (Stops Lost) = quiet
  at_0 (Stops Torn) = quiet

  at_1 : (m : Mishap) → Agrees 1 m (all_of here) (all_of here)
  at_1 Fails = quiet
  at_1 (Stops Kept) = quiet
  at_1 (Stops Lost) = quiet
  at_1 (Stops Torn) = quiet

  at_2 : (m : Mishap) → Agrees 2 m (all_of here) begun
  at_2 Fails = quiet
  at_2 (Stops Kept) = settled
  at_2 (Stops Lost) = quiet
  at_2 (Stops Torn) = settled

  at_3 : (m : Mishap) → Agrees 3 m begun begun
  at_3 Fails = λ i. (with_record, here, found (after r.safe p.change) (torn_beside log next refl i))
  at_3 (Stops Kept) = settled
  at_3 (Stops Lost) = rest_of r.safe log
  at_3 (Stops Torn) = settled

  module _ {H : Type 0} (l : Layout H State) (old new : DiskState) (body : List ℕ) (up : old.stopped ≡ false)
      (rests : Rests l r.safe log (read_of old.held.surface)) (only : Only (read_of old.held.surface) (IsImage old.held.surface))
      (follows : l.following log.version r.safe body ≡ Some (after r.safe p.change)) (fits : length body < 2 ^ 32) (long : length body ≡ change_length p.change) where
    abbrev end : ℕ
    end = log.log_end

    abbrev gate : ℕ
    gate = end - 1

    abbrev there : List ℕ
    there = read_of old.held.surface

    abbrev written : List ℕ
    written = record_of body

    abbrev staged_bytes : List ℕ
    staged_bytes = put there end written

    abbrev torn_bytes : List ℕ
    torn_bytes = put there end (torn_half written)

    abbrev open_bytes : List ℕ
    open_bytes = put staged_bytes gate (open_gate ∷ [])

    gate_is : gate + 1 ≡ end
    gate_is = let is = rests.ready.stands in omega (arith, is.long)

    there_is : starts l there ≡ Ok here
    there_is = stands l r.safe log there rests

    staged_is : starts l staged_bytes ≡ Ok here
    staged_is = stands l r.safe log staged_bytes (staged l.head l.area l.following l.front l.told l.is_head r.safe log body there rests).rests

    torn_is : starts l torn_bytes ≡ Ok here
    torn_is = stands l r.safe log torn_bytes
        (torn_record l.head l.area l.following l.front l.told l.is_head r.safe log (length written) there torn_bytes rests (Torn-put there end (length written) (torn_half written) (length-torn_half written)))

    open_is : starts l open_bytes ≡ Ok with_record
    open_is = stands l (after r.safe p.change) next open_bytes (subst (λ (n : ℕ). Rests l (after r.safe p.change) (record log { log_end = log.log_end + 5 + n }) open_bytes) long
        (opened_up l.head l.area l.following l.front l.told l.is_head r.safe log (after r.safe p.change) gate gate_is body staged_bytes (staged l.head l.area l.following l.front l.told l.is_head r.safe log body there rests) follows fits))

    all : (x y z : List ℕ) (f : Found State) → starts l x ≡ Ok f → starts l y ≡ Ok here → starts l z ≡ Ok f → Shows (starts l) x y z (f, here, f)
    all x y z f ix iy iz = record { in_read = ix; in_lost = iy; in_torn = iz }

    stage_0 : Stage old.plan 0 old there there there
    stage_0 = none_yet old there there there up (record { is_read = refl; is_lost = only old.held.surface.synced (IsImage-left_by Lost old.held.surface); is_torn = only _ (IsImage-left_by Torn old.held.surface) })

    stage_1 : (d : DiskState) → Does old (Writes end written) None d → Stage old.plan 1 d staged_bytes there torn_bytes
    stage_1 d does = step_write old.plan 0 old there there there stage_0 end written d does

    stage_2 : (d e : DiskState) → Does old (Writes end written) None d → Does d Syncs None e → Stage old.plan 2 e staged_bytes staged_bytes staged_bytes
    stage_2 d e does syncs = step_sync old.plan 1 d staged_bytes there torn_bytes (stage_1 d does) e syncs

    stage_3 : (d e f : DiskState) → Does old (Writes end written) None d → Does d Syncs None e → Does e (Writes gate (open_gate ∷ [])) None f → Stage old.plan 3 f open_bytes staged_bytes open_bytes
    stage_3 d e f does syncs opens = step_write old.plan 2 e staged_bytes staged_bytes staged_bytes (stage_2 d e does syncs) gate (open_gate ∷ []) f opens

    abbrev Goes : Option Cause → Type 0
    Goes e = Holds (starts l) new (record_three book r p log (went old.plan 4)) Failed e (went old.plan 4)

    all_passed : Commits Does end written old None new → Goes None
    all_passed (mid, (d, w, s), (f, o, last)) =
        passed_holds (starts l) new (record_three book r p log) Failed old.plan 4 open_bytes with_record (step_sync old.plan 3 f open_bytes staged_bytes open_bytes (stage_3 d mid f w s o) new last) open_is (λ left. settled)

    abbrev Failing : Type 0
    Failing = MeetsMishap (starts l) new (record_three book r p log) Failed old.plan 4

    one_failed : Commits Does end written old (Some failed_call) new → Failing
    one_failed (inl (inl w)) =
        met_fails (starts l) new (record_three book r p log) Failed old.plan 4 0 there there there staged_bytes there torn_bytes (all_of here) (all_of here) (omega arith)
        (all there there there here there_is there_is there_is) (all staged_bytes there torn_bytes here staged_is there_is torn_is) at_0 (fail_write old.plan 0 old there there there stage_0 end written new w)
    one_failed (inl (inr (d, w, s))) =
        let so_far = all staged_bytes there torn_bytes here staged_is there_is torn_is in
        met_fails (starts l) new (record_three book r p log) Failed old.plan 4 1 staged_bytes there torn_bytes staged_bytes there torn_bytes (all_of here) (all_of here) (omega arith)
        so_far so_far at_1 (fail_sync old.plan 1 d staged_bytes there torn_bytes (stage_1 d w) new s)
    one_failed (inr (mid, (d, w, s), inl o)) =
        met_fails (starts l) new (record_three book r p log) Failed old.plan 4 2 staged_bytes staged_bytes staged_bytes open_bytes staged_bytes open_bytes (all_of here) begun (omega arith)
        (all staged_bytes staged_bytes staged_bytes here staged_is staged_is staged_is) (all open_bytes staged_bytes open_bytes with_record open_is staged_is open_is) at_2
        (fail_write old.plan 2 mid staged_bytes staged_bytes staged_bytes (stage_2 d mid w s) gate (open_gate ∷ []) new o)
    one_failed (inr (mid, (d, w, s), inr (f, o, last))) =
        let so_far = all open_bytes staged_bytes open_bytes with_record open_is staged_is open_is in
        met_fails (starts l) new (record_three book r p log) Failed old.plan 4 3 open_bytes staged_bytes open_bytes open_bytes staged_bytes open_bytes begun begun (omega arith)
        so_far so_far at_3 (fail_sync old.plan 3 f open_bytes staged_bytes open_bytes (stage_3 d mid f w s o) new last)

    pub record_passed : Commits Does end written old None new → Goes None
    record_passed commits = all_passed commits

    pub record_failed : Commits Does end written old (Some failed_call) new → Goes (Some failed_call)
    record_failed commits = failed_holds (starts l) new (record_three book r p log) Failed old.plan 4 (one_failed commits)

-- ---- a commit

-- how a replica is after a commit that went so, on this device
abbrev committed_as : Book → Replica → Pending → Went → Device → Replica
committed_as book r p g d = record (gone book r p g) { standing = standing_after Failed g; device = d }

abbrev device_as : Log × Log → Went → Device
device_as logs g = record { read_log = logs.0; safe_log = logs.1; plan = plan_after g }

behind_none : (g : Went) → behind 0 g ≡ g
behind_none (Passed left) = refl
behind_none (Met place mishap) = let same : place - 0 ≡ place = omega arith in ap (λ (n : ℕ). Met n mishap) same

module _ {H : Type 0} (l : Layout H State) (book : Book) (r : Replica) (p : Pending) (new : DiskState) where
  abbrev log : Log
  log = r.device.safe_log

  abbrev LeadsTo : Option Cause → Replica → Type 0
  LeadsTo e c = IsOn l c new × (standing_of e new.stopped Failed ≡ c.standing) × IsRunning e new.stopped

  leads : (e : Option Cause) (g h : Went) (logs : Log × Log) → Holds (starts l) new (three_of (gone book r p g).read (gone book r p g).safe logs) Failed e h → standing_after Failed h ≡ standing_after Failed g
      → commit_goes r p ≡ g → device_after_commit r p ≡ device_as logs h → CommitLeads l book r p new e
  leads e g h logs holds stand goes device =
      let so : committed book r p ≡ committed_as book r p g (device_as logs h) = λ i. committed_as book r p (goes i) (device i) in
      subst (LeadsTo e) (sym so) (record { is_read = holds.shows.in_read; is_safe = holds.shows.in_lost; is_torn = holds.shows.in_torn; is_plan = holds.plan }, holds.stands ∙ stand, holds.running)

  -- where no checkpoint is due
  module _ (old : DiskState) (body : List ℕ) (ready : IsReadyToCommit l r p body old) (undue : is_due log p.change ≡ false) where
    abbrev plain_goes : Went
    plain_goes = went old.plan 4

    goes_plain : commit_goes r p ≡ plain_goes
    goes_plain =
        ap (λ (b : Bool). let n : ℕ = if b then 5 else 0 in behind n (went r.device.plan (n + 4))) undue ∙ behind_none (went r.device.plan 4)
        ∙ ap (λ (q : Option Plan). went q 4) (sym ready.is_plan)

    device_plain : device_after_commit r p ≡ device_as (logs_of_record log (log_after log p.change) plain_goes) plain_goes
    device_plain =
        ap (λ (b : Bool).
        let before : Log = if b then checkpointed log r.safe.store else log in
        let later : Log = log_after before p.change in
        if b then checkpointed_on log before later (went r.device.plan 5) else recorded_on log later r.device.plan) undue
        ∙ ap (λ (q : Option Plan). recorded_on log (log_after log p.change) q) (sym ready.is_plan)

    version_is : l.following log.version r.safe body ≡ Some (after r.safe p.change)
    version_is = ap (λ (n : ℕ). l.following n r.safe body) (written_now log p.change undue ready.version) ∙ ready.follows

    read_is : r.read ≡ r.safe
    read_is = ap (λ (f : Found State). f.state) ready.settled

    pub commit_passed : Commits Does log.log_end (record_of body) old None new → CommitLeads l book r p new None
    commit_passed ran = leads None plain_goes plain_goes (logs_of_record log (log_after log p.change) plain_goes)
        (record_passed book r p log read_is l old new body ready.running ready.rests ready.synced version_is ready.fits ready.is_long ran) refl goes_plain device_plain

    pub commit_failed : Commits Does log.log_end (record_of body) old (Some failed_call) new → CommitLeads l book r p new (Some failed_call)
    commit_failed ran = leads (Some failed_call) plain_goes plain_goes (logs_of_record log (log_after log p.change) plain_goes)
        (record_failed book r p log read_is l old new body ready.running ready.rests ready.synced version_is ready.fits ready.is_long ran) refl goes_plain device_plain

  -- where one is due
  module _ (old : DiskState) (body written : List ℕ) (ready : IsReadyToCommit l r p body old) (area : IsNextArea l r written) (due : is_due log p.change ≡ true) where
    abbrev mid_log : Log
    mid_log = checkpointed log r.safe.store

    abbrev last_log : Log
    last_log = log_after mid_log p.change

    read_so : r.read ≡ r.safe
    read_so = ap (λ (f : Found State). f.state) ready.settled

    free : IsFree log mid_log.place (length area.image + 1)
    free = free_place log r.safe.store (length area.image + 1) (omega (arith, area.is_long))

    other_is : other_log log mid_log.place area_version (length area.image) ≡ mid_log
    other_is = next_area log r.safe.store (length area.image) area.is_long

    goes_due : (g : Went) → went old.plan 5 ≡ g → commit_goes r p ≡ record_goes g
    goes_due g is =
        ap (λ (b : Bool). let n : ℕ = if b then 5 else 0 in behind n (went r.device.plan (n + 4))) due
        ∙ two_runs r.device.plan
        ∙ ap (λ (q : Option Plan). record_goes (went q 5)) (sym ready.is_plan)
        ∙ ap record_goes is

    device_due : (g : Went) → went old.plan 5 ≡ g → device_after_commit r p ≡ checkpointed_on log mid_log last_log g
    device_due g is =
        ap (λ (b : Bool).
        let before : Log = if b then mid_log else log in
        let later : Log = log_after before p.change in
        if b then checkpointed_on log before later (went r.device.plan 5) else recorded_on log later r.device.plan) due
        ∙ ap (λ (q : Option Plan). checkpointed_on log mid_log last_log (went q 5)) (sym ready.is_plan)
        ∙ ap (checkpointed_on log mid_log last_log) is

    -- it was made, and then the record
    module _ (mid : DiskState) (ran : Checkpoints Does mid_log.place written mid_log.second old None mid) where
      made : Selected l r.safe (other_log log mid_log.place area_version (length area.image)) old mid
      made = selected l r.safe log mid_log.place area_version area.image old mid ready.running ready.rests ready.synced free area.tells area.near
          (subst (λ (w : List ℕ). Checkpoints Does mid_log.place w mid_log.second old None mid) area.is ran)

      abbrev left : Option Plan
      left = mid.plan

      abbrev due_goes : Went
      due_goes = went left 4

      rests_there : Rests l r.safe mid_log (read_of mid.held.surface)
      rests_there = subst (λ (o : Log). Rests l r.safe o (read_of mid.held.surface)) other_is made.rests

      pub due_passed : Commits Does mid_log.log_end (record_of body) mid None new → CommitLeads l book r p new None
      due_passed records = leads None due_goes due_goes (logs_of_record mid_log last_log due_goes)
          (record_passed book r p mid_log read_so l mid new body made.up rests_there made.only ready.follows ready.fits ready.is_long records) refl (goes_due (Passed left) made.goes) (device_due (Passed left) made.goes)

      pub due_failed : Commits Does mid_log.log_end (record_of body) mid (Some failed_call) new → CommitLeads l book r p new (Some failed_call)
      due_failed records = leads (Some failed_call) due_goes due_goes (logs_of_record mid_log last_log due_goes)
          (record_failed book r p mid_log read_so l mid new body made.up rests_there made.only ready.follows ready.fits ready.is_long records) refl (goes_due (Passed left) made.goes) (device_due (Passed left) made.goes)

    -- or it failed
    unmoved : (mishap : Mishap) → gone book r p (Met 0 mishap) ≡ r
    unmoved Fails = refl
    unmoved (Stops Kept) = refl
    unmoved (Stops Lost) = refl
    unmoved (Stops Torn) = refl

    stand_as : (k : ℕ) (mishap : Mishap) → standing_after Failed (Met k mishap) ≡ standing_after Failed (Met 0 mishap)
    stand_as k Fails = refl
    stand_as k (Stops how) = refl

    pub checkpoint_failed : Checkpoints Does mid_log.place written mid_log.second old (Some failed_call) new → CommitLeads l book r p new (Some failed_call)
    checkpoint_failed ran =
        let fails = unselected l r.safe log mid_log.place area_version area.image old new ready.running ready.rests ready.synced free area.tells area.near
        (subst (λ (w : List ℕ). Checkpoints Does mid_log.place w mid_log.second old (Some failed_call) new) area.is ran) in
        let g : Went = Met fails.place fails.mishap in
        let none : fails.place - 5 ≡ 0 = omega (arith, fails.within) in
        let logs : Log × Log = logs_of_checkpoint log mid_log g in
        let shown = subst (λ (o : Log). Holds (starts l) new (checkpoint_three r.safe log o g) Failed (Some failed_call) g) other_is fails.holds in
        let as_gone : three_of r.safe r.safe logs ≡ three_of (gone book r p (Met 0 fails.mishap)).read (gone book r p (Met 0 fails.mishap)).safe logs =
        (λ i. three_of (sym read_so i) r.safe logs) ∙ (λ i. three_of (sym (unmoved fails.mishap) i).read (sym (unmoved fails.mishap) i).safe logs) in
        leads (Some failed_call) (Met 0 fails.mishap) g logs (subst (λ (t : Three State). Holds (starts l) new t Failed (Some failed_call) g) as_gone shown) (stand_as fails.place fails.mishap)
        (goes_due g fails.goes ∙ ap (λ (n : ℕ). Met n fails.mishap) none) (device_due g fails.goes)

-- ---- a start

-- by whatever is found in bytes
module _ (find : List ℕ → Started State) (book : Book) (r : Replica) (old new : DiskState) (up : old.stopped ≡ false)
    (on : Has (λ (d : DiskState). find (read_of d.held.surface)) (λ (d : DiskState). find d.held.surface.synced) (λ (d : DiskState). find (left_by Torn d.held.surface)) (λ (d : DiskState). d.plan) old r) where
  abbrev r0 : List ℕ
  r0 = read_of old.held.surface

  abbrev l0 : List ℕ
  l0 = old.held.surface.synced

  abbrev t0 : List ℕ
  t0 = left_by Torn old.held.surface

  abbrev start_three : Went → Three State
  start_three g =
      let m = (fold moved (book, r) (moves_of_start g)).1 in
      three_of m.read m.safe (logs_of_start r.device.read_log r.device.safe_log g)

  abbrev so_far : Three State
  so_far = (read_found r, safe_found r, torn_found r)

  begin : Stage old.plan 0 old r0 l0 t0
  begin = none_yet old r0 l0 t0 up (record { is_read = refl; is_lost = refl; is_torn = refl })

  shown : Shows find r0 l0 t0 so_far
  shown = record { in_read = on.is_read; in_lost = on.is_safe; in_torn = on.is_torn }

  agrees : (m : Mishap) → start_three (Met 0 m) ≡ three_after m so_far so_far
  agrees Fails = refl
  agrees (Stops Kept) = rest_of r.read r.device.read_log
  agrees (Stops Lost) = rest_of r.safe r.device.safe_log
  agrees (Stops Torn) = rest_of r.read (torn_log r.device.read_log r.device.safe_log)

  abbrev pub LeadsBy : Option Cause → Type 0
  LeadsBy e =
      Has (λ (d : DiskState). find (read_of d.held.surface)) (λ (d : DiskState). find d.held.surface.synced) (λ (d : DiskState). find (left_by Torn d.held.surface)) (λ (d : DiskState). d.plan) new (started book r)
      × (standing_of e new.stopped r.standing ≡ (started book r).standing) × IsRunning e new.stopped

  start_leads : (e : Option Cause) → Holds find new (start_three (went old.plan 1)) r.standing e (went old.plan 1) → LeadsBy e
  start_leads e holds =
      let h = subst (λ (q : Option Plan). Holds find new (start_three (went q 1)) r.standing e (went q 1)) on.is_plan holds in
      (record { is_read = h.shows.in_read; is_safe = h.shows.in_lost; is_torn = h.shows.in_torn; is_plan = h.plan }, h.stands, h.running)

  pub passed_by : Does old Syncs None new → LeadsBy None
  passed_by does = start_leads None (passed_holds find new start_three r.standing old.plan 1 r0 (read_found r) (step_sync old.plan 0 old r0 l0 t0 begin new does) on.is_read (λ left. rest_of r.read r.device.read_log))

  pub failed_by : Does old Syncs (Some failed_call) new → LeadsBy (Some failed_call)
  failed_by does = start_leads (Some failed_call) (failed_holds find new start_three r.standing old.plan 1
      (met_fails find new start_three r.standing old.plan 1 0 r0 l0 t0 r0 l0 t0 so_far so_far (omega arith) shown shown agrees (fail_sync old.plan 0 old r0 l0 t0 begin new does)))

module _ {H : Type 0} (l : Layout H State) (book : Book) (r : Replica) (old new : DiskState) (up : old.stopped ≡ false) (on : IsOn l r old) where
  pub start_passed : Does old Syncs None new → StartLeads l book r new None
  start_passed does = passed_by (starts l) book r old new up on does

  pub start_failed : Does old Syncs (Some failed_call) new → StartLeads l book r new (Some failed_call)
  start_failed does = failed_by (starts l) book r old new up on does
