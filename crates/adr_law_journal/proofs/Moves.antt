-- What device calls that went so leave of a disk in memory: what is found of it, its plan, and how the controller stands.
use Rattle.std.proofs.Common.{◌≡◌, ℕ, ◌<◌, List, Bool, true, false, Option, Some, None, Ok, refl, sym, ◌∙◌, ap, subst, arith, if◌then◌else◌}
use Rattle.std.specs.Prelude.{not, ◌&&◌}
use Rattle.adr_io.specs.declared.Fault.{Fault as Cause}
use Rattle.adr_io.specs.declared.Fault.TheVariants.{Failed as failed_call}
use Rattle.adr_disk.specs.declared.memory.Crash.TheVariants.{Kept, Lost, Torn}
use Rattle.adr_disk.specs.declared.memory.Mishap.{Mishap}
use Rattle.adr_disk.specs.declared.memory.Mishap.TheVariants.{Fails, Stops}
use Rattle.adr_disk.specs.declared.memory.Plan.{Plan}
use Rattle.adr_disk.specs.Memory.{DiskState, read_of, left_by}
use Rattle.adr_model.specs.Lengths.{Log}
use Rattle.adr_model.specs.Replica.{Standing, Went, Passed, Met, went, standing_after, plan_after, torn_log}
use Rattle.adr_law_journal.specs.Areas.{Found, found, Started}
use Rattle.adr_law_journal.specs.Replicas.{standing_of, IsRunning}
use Rattle.adr_law_journal.proofs.Seen.{Seen}
use Rattle.adr_law_journal.proofs.Stages.{less, less_none, Waits, IsMet, Stage, Ends, Left}
use Rattle.adr_law_journal.proofs.Counts.{enough, too_few}

-- ---- how calls went

pub went_passed : (plan : Option Plan) (n : ℕ) → Waits plan n → went plan n ≡ Passed (less n plan)
went_passed None n waits = refl
went_passed (Some q) n waits = enough n q.calls _ _ waits

pub went_met : (plan : Option Plan) (k n : ℕ) (m : Mishap) → IsMet k plan m → k < n → went plan n ≡ Met k m
went_met plan k n m met lt =
    ap (λ (p : Option Plan). went p n) met.is
    ∙ too_few n met.q.calls _ _ (omega (arith, met.here, lt))
    ∙ (λ i. Met (met.here i) (met.mishap i))

-- ---- what is found

-- in what is read, in what is synced, and in what is torn
abbrev pub Three : Type 0 → Type 0
Three S = Found S × Found S × Found S

abbrev pub all_of : {S : Type 0} → Found S → Three S
all_of f = (f, f, f)

-- these states with these logs
abbrev pub three_of : {S : Type 0} → S → S → Log × Log → Three S
three_of read safe logs = (found read logs.0, found safe logs.1, found read (torn_log logs.0 logs.1))

pub record Shows {S : Type 0} (starts : List ℕ → Started S) (read lost torn : List ℕ) (f : Three S) : Type 0 where
  pub in_read : starts read ≡ Ok f.0
  pub in_lost : starts lost ≡ Ok f.1
  pub in_torn : starts torn ≡ Ok f.2

pub one : {S : Type 0} (starts : List ℕ → Started S) (x : List ℕ) (f : Found S) → starts x ≡ Ok f → Shows starts x x x (all_of f)
one starts x f is = record { in_read = is; in_lost = is; in_torn = is }

-- after a mishap: what was found before, or what was found with the call that it met
abbrev pub three_after : {S : Type 0} → Mishap → Three S → Three S → Three S
three_after Fails before begun = before
three_after (Stops Kept) before begun = all_of begun.0
three_after (Stops Lost) before begun = all_of begun.1
three_after (Stops Torn) before begun = all_of begun.2

pub record Holds {S : Type 0} (starts : List ℕ → Started S) (new : DiskState) (f : Three S) (faulty : Standing) (e : Option Cause) (g : Went) : Type 0 where
  pub shows : Shows starts (read_of new.held.surface) new.held.surface.synced (left_by Torn new.held.surface) f
  pub plan : new.plan ≡ plan_after g
  pub stands : standing_of e new.stopped faulty ≡ standing_after faulty g
  pub running : IsRunning e new.stopped

-- one of the calls met a mishap
pub record MeetsMishap {S : Type 0} (starts : List ℕ → Started S) (new : DiskState) (three : Went → Three S) (faulty : Standing) (plan : Option Plan) (n : ℕ) : Type 0 where
  pub place : ℕ
  pub mishap : Mishap
  pub within : place < n
  pub goes : went plan n ≡ Met place mishap
  pub holds : Holds starts new (three (Met place mishap)) faulty (Some failed_call) (Met place mishap)

module _ {S : Type 0} (starts : List ℕ → Started S) (new : DiskState) where
  abbrev ShowsNow : Three S → Type 0
  ShowsNow f = Shows starts (read_of new.held.surface) new.held.surface.synced (left_by Torn new.held.surface) f

  now : (x y z : List ℕ) (f : Three S) → Seen new.held.surface x y z → Shows starts x y z f → ShowsNow f
  now x y z f seen shows = record {
    in_read = ap starts seen.is_read ∙ shows.in_read;
    in_lost = ap starts seen.is_lost ∙ shows.in_lost;
    in_torn = ap starts seen.is_torn ∙ shows.in_torn;
  }

  module _ (three : Went → Three S) (faulty : Standing) (plan : Option Plan) (n : ℕ) where
    abbrev Goes : Option Cause → Type 0
    Goes e = Holds starts new (three (went plan n)) faulty e (went plan n)

    goes_so : (e : Option Cause) (g : Went) → went plan n ≡ g → Holds starts new (three g) faulty e g → Goes e
    goes_so e g is holds = subst (λ (g : Went). Holds starts new (three g) faulty e g) (sym is) holds

    pub passed_holds : (x : List ℕ) (f : Found S) → Stage plan n new x x x → starts x ≡ Ok f → ((left : _) → three (Passed left) ≡ all_of f) → Goes None
    passed_holds x f stage is agrees = goes_so None (Passed (less n plan)) (went_passed plan n stage.waits) (record {
      shows = subst ShowsNow (sym (agrees (less n plan))) (now x x x (all_of f) stage.seen (one starts x f is));
      plan = stage.left;
      stands = refl;
      running = stage.up;
    })

    pub failed_holds : MeetsMishap starts new three faulty plan n → Goes (Some failed_call)
    failed_holds f = goes_so (Some failed_call) (Met f.place f.mishap) f.goes f.holds

    module _ (k : ℕ) (a b c x y z : List ℕ) (before begun : Three S) (lt : k < n) (so_far : Shows starts a b c before) (next : Shows starts x y z begun) where
      left_now : (m : Mishap) → Left m new (a, b, c) (x, y, z)
          → ShowsNow (three_after m before begun) × (new.plan ≡ None) × (standing_of (Some failed_call) new.stopped faulty ≡ standing_after faulty (Met k m))
      left_now Fails left = (now a b c before left.0 so_far, left.1, ap (λ (b : Bool). standing_of (Some failed_call) b faulty) left.2)
      left_now (Stops Kept) left = (now x x x (all_of begun.0) left.0 (one starts x begun.0 next.in_read), left.1, ap (λ (b : Bool). standing_of (Some failed_call) b faulty) left.2)
      left_now (Stops Lost) left = (now y y y (all_of begun.1) left.0 (one starts y begun.1 next.in_lost), left.1, ap (λ (b : Bool). standing_of (Some failed_call) b faulty) left.2)
      left_now (Stops Torn) left = (now z z z (all_of begun.2) left.0 (one starts z begun.2 next.in_torn), left.1, ap (λ (b : Bool). standing_of (Some failed_call) b faulty) left.2)

      pub met_fails : ((m : Mishap) → three (Met k m) ≡ three_after m before begun) → Ends plan k new (a, b, c) (x, y, z) → MeetsMishap starts new three faulty plan n
      met_fails agrees ends =
          let m = ends.mishap in
          let l = left_now m ends.left in
          record {
            place = k;
            mishap = m;
            within = lt;
            goes = went_met plan k n m ends.met lt;
            holds = record { shows = subst ShowsNow (sym (agrees m)) l.0; plan = l.1; stands = l.2; running = tt };
          }

-- ---- before the first call

pub waits_none : (plan : Option Plan) → Waits plan 0
waits_none None = tt
waits_none (Some q) = omega arith

pub none_yet : (old : DiskState) (x y z : List ℕ) → old.stopped ≡ false → Seen old.held.surface x y z → Stage old.plan 0 old x y z
none_yet old x y z up seen = record { seen = seen; left = sym (less_none old.plan); up = up; waits = waits_none old.plan }

-- ---- torn logs

pub torn_same : (l : Log) → torn_log l l ≡ l
torn_same l = by l.second
  where
    by : (b : Bool) → (if b && not b then l else l) ≡ l
    by true = refl
    by false = refl

-- of two logs in one slot, the one that is read
pub torn_beside : (log next : Log) → next.second ≡ log.second → torn_log next log ≡ next
torn_beside log next is = ap (λ (b : Bool). if log.second && not b then log else next) is ∙ by log.second
  where
    by : (b : Bool) → (if b && not b then log else next) ≡ next
    by true = refl
    by false = refl

-- and in different slots, the one in the second
pub torn_of_two : (log other : Log) → other.second ≡ not log.second → torn_log other log ≡ (if other.second then other else log)
torn_of_two log other is = ap (λ (b : Bool). if log.second && not b then log else other) is ∙ by log.second ∙ ap (λ (b : Bool). if b then other else log) (sym is)
  where
    by : (b : Bool) → (if b && not (not b) then log else other) ≡ (if not b then other else log)
    by true = refl
    by false = refl

-- one state with one log
pub rest_of : {S : Type 0} (s : S) (l : Log) → three_of s s (l, l) ≡ all_of (found s l)
rest_of s l = λ i. (found s l, found s l, found s (torn_same l i))
