-- What calls and moves leave of orderly states and controllers.
use Rattle.std.proofs.Common.{◌≡◌, ◌≢◌, inl, inr, ⊎_elim, ℕ, List, [], ◌∷◌, Bool, true, false, not, ◌&&◌, Option, Some, None, Ok, refl, sym, subst, fold, nat_le, ◌==◌, if◌then◌else◌}
use Rattle.std.proofs.lemmas.Bool.{eqb-true}
use Rattle.adr_disk.specs.declared.memory.Crash.TheVariants.{Kept, Lost, Torn}
use Rattle.adr_call.specs.declared.call.Call.{Call as Asked}
use Rattle.adr_call.specs.declared.call.Call.TheVariants as calls
use Rattle.adr_model.specs.Member.{Member}
use Rattle.adr_model.specs.Update.{Identifier}
use Rattle.adr_model.specs.Store.{Normal, Store, State}
use Rattle.adr_model.specs.Change.{Change, after}
use Rattle.adr_model.specs.Formed.{IsFormed}
use Rattle.adr_model.specs.Given.{IsWellGiven}
use Rattle.adr_model.specs.Spelled.{IsSpelledReply}
use Rattle.adr_model.specs.Lengths.{Log, change_fits}
use Rattle.adr_model.specs.Write.{write}
use Rattle.adr_model.specs.Take.{take}
use Rattle.adr_model.specs.Collect.{collect, adopt, woken, quarantine}
use Rattle.adr_model.specs.Upgrade.{upgrade}
use Rattle.adr_disk.specs.declared.memory.Mishap.TheVariants.{Fails, Stops}
use Rattle.adr_disk.specs.declared.memory.Plan.{Plan}
use Rattle.adr_model.specs.Client.{IsWellAsked, call_meant}
use Rattle.adr_model.specs.Replica.{Call, ToWrite, ToTake, ToCollect, ToUpgrade, ToQuarantine, change_of, Pending, Standing, Up, Down, Failed, Device, Replica, on_disk, Book, Move, Begin, Settle, Forget, moved, Went, Passed, Met, moves_of_commit, moves_of_start, standing_after, plan_after, torn_log, logs_of_start, commit_goes, device_after_commit, device_settled}
use Rattle.adr_model.specs.World.{Name, World}
use Rattle.adr_model.specs.Sound.{IsOrderlyStore, IsOrderlyState, IsOrderlyLog, IsSettled, IsOrderlyReplica}
use Rattle.adr_law_calls.proofs.Woken.{adopted_is_woken}
use Rattle.adr_law_calls.specs.Follow.{CanFollow}
use Rattle.adr_law_calls.proofs.EachWrite.{write_follows}
use Rattle.adr_law_calls.proofs.TakenFollow.{taken_follows}
use Rattle.adr_law_calls.proofs.Collected.{collected_follows}
use Rattle.adr_law_calls.proofs.Still.{quarantine_follows, upgrade_follows, adopted_is_formed}
use Rattle.adr_law_calls.proofs.Served.{still_say}
use Rattle.adr_law_convergence.proofs.Calls.{in_change}
use Rattle.adr_law_convergence.proofs.OrderlyLogs.{LogsLead, commit_leads}

-- ---- states

-- a call of what clients can send, or of a reply that is spelled
abbrev pub IsGivenCall : Call → Type 0
IsGivenCall (ToWrite what now) = IsWellGiven what
IsGivenCall (ToTake reply) = IsSpelledReply reply
IsGivenCall (ToCollect now lifetime) = Unit {0}
IsGivenCall ToUpgrade = Unit {0}
IsGivenCall ToQuarantine = Unit {0}

pub asked_given : (what : Asked) (now : ℕ) → IsWellAsked what → IsGivenCall (call_meant what now)
asked_given (calls.Write what) now is = is
asked_given (calls.Collect lifetime) now is = tt
asked_given calls.Upgrade now is = tt

module _ (w : World) where
  -- a change that can follow, of whatever mode
  followed : (s : State) (c : Change) → IsOrderlyState w s → CanFollow s c → IsOrderlyState w (after s c)
  followed s c is follows = record {
    dsa = is.dsa;
    inv = is.inv;
    formed = follows.formed;
    store = record { formed = follows.formed.store; classes = follows.classes; says = still_say s c is.store.says follows };
  }

  quarantined : (s : State) → IsOrderlyState w s → IsOrderlyState w (after s (quarantine s))
  quarantined s is = record { dsa = left.dsa; inv = left.inv; formed = record { store = left.formed.store; own = left.formed.own }; store = left.store }
    where
      up : State
      up = record s { mode = Normal }

      formed : IsFormed up
      formed = record { store = is.formed.store; own = is.formed.own }

      left : IsOrderlyState w (after up (quarantine up))
      left = followed up (quarantine up) (record { dsa = is.dsa; inv = is.inv; formed = formed; store = is.store }) (quarantine_follows up formed is.store.classes refl)

  -- behind a call a state is orderly
  pub call_orderly : (s : State) (call : Call) (c : Change) → IsOrderlyState w s → IsGivenCall call → change_of s call ≡ Some c → IsOrderlyState w (after s c)
  call_orderly s (ToWrite what now) c is given made = followed s c is (write_follows s what now c is.formed is.store.classes given (in_change (write s what now) c made))
  call_orderly s (ToTake reply) c is given made = followed s c is (taken_follows s reply c is.formed is.store.classes given (in_change (take s reply) c made))
  call_orderly s (ToCollect now lifetime) c is given made = followed s c is (collected_follows s now lifetime c is.formed is.store.classes (in_change (collect s now lifetime) c made))
  call_orderly s ToUpgrade c is given made = followed s c is (upgrade_follows s c is.formed is.store.classes (in_change (upgrade s) c made))
  call_orderly s ToQuarantine c is given made = let same : quarantine s ≡ c = cc in subst (λ (d : Change). IsOrderlyState w (after s d)) same (quarantined s is)

  -- a state of an image, with identifiers that lines gave
  pub woken_orderly : (image : Store) (dsa inv : Identifier) (s : State) → IsOrderlyStore image → Member dsa w.given.dsas → Member inv w.given.invs → adopt image dsa inv ≡ Ok s → IsOrderlyState w s
  woken_orderly image dsa inv s is d i e =
      subst (IsOrderlyState w) (adopted_is_woken image dsa inv s e) (record { dsa = d; inv = i; formed = formed; store = record { formed = formed.store; classes = is.classes; says = is.says } })
    where
      formed : IsFormed (woken image dsa inv)
      formed = subst IsFormed (sym (adopted_is_woken image dsa inv s e)) (adopted_is_formed image dsa inv s is.formed e)

-- what a state is in one world it is in another
pub replica_in : (w v : World) → ((s : State) → IsOrderlyState w s → IsOrderlyState v s) → (r : Replica) → IsOrderlyReplica w r → IsOrderlyReplica v r
replica_in w v into r is = record { safe = into r.safe is.safe; read = into r.read is.read; safe_log = is.safe_log; read_log = is.read_log; up = is.up; up_log = is.up_log; settled = is.settled }

-- ---- moves

module _ (w : World) where
  pub on_disk_orderly : (name : Name) (s : State) (log : Log) → IsOrderlyState w s → IsOrderlyLog log → IsOrderlyReplica w (on_disk name s log)
  on_disk_orderly name s log is fits = record { safe = is; read = is; safe_log = fits; read_log = fits; up = λ e. (refl, refl); up_log = λ e. refl; settled = inl (refl, refl) }

  -- a controller behind moves, as it stands then
  abbrev pub Leaves : Book × Replica → Standing → Device → Type 0
  Leaves m standing device = IsOrderlyReplica w (record m.1 { standing = standing; device = device })

  module _ (book : Book) (r : Replica) (is : IsOrderlyReplica w r) where
    -- no move, and no other log
    stays_orderly : (standing : Standing) (plan : Option Plan) → (standing ≡ Up → r.standing ≡ Up) → Leaves (book, r) standing (record r.device { plan = plan })
    stays_orderly standing plan up = record {
      safe = is.safe;
      read = is.read;
      safe_log = is.safe_log;
      read_log = is.read_log;
      up = λ e. is.up (up e);
      up_log = λ e. is.up_log (up e);
      settled = ⊎_elim (λ settled. inl settled) (λ p. inr (p.0, record { kept = p.1.kept; read = p.1.read; read_log = p.1.read_log })) is.settled;
    }

    -- both states are the one that was found, in one log
    settles_orderly : (standing : Standing) (log : Log) (plan : Option Plan) → IsOrderlyLog log → Leaves (moved (book, r) Settle) standing (record { read_log = log; safe_log = log; plan = plan })
    settles_orderly standing log plan fits = record { safe = is.read; read = is.read; safe_log = fits; read_log = fits; up = λ e. (refl, refl); up_log = λ e. refl; settled = inl (refl, refl) }

    -- both states are the one that was safe, in one log
    forgets_orderly : (standing : Standing) (log : Log) (plan : Option Plan) → IsOrderlyLog log → Leaves (moved (book, r) Forget) standing (record { read_log = log; safe_log = log; plan = plan })
    forgets_orderly standing log plan fits = record { safe = is.safe; read = is.safe; safe_log = fits; read_log = fits; up = λ e. (refl, refl); up_log = λ e. refl; settled = inl (refl, refl) }

    pub plan_orderly : (plan : Option Plan) → Leaves (book, r) r.standing (record r.device { plan = plan })
    plan_orderly plan = stays_orderly r.standing plan (λ up. up)

    pub stop_orderly : Leaves (moved (book, r) Settle) Down (device_settled r)
    stop_orderly = settles_orderly Down r.device.read_log None is.read_log

    torn_orderly : (b : Bool) → IsOrderlyLog (if b then r.device.safe_log else r.device.read_log)
    torn_orderly true = is.safe_log
    torn_orderly false = is.read_log

    abbrev started_on : Went → Device
    started_on g = record { read_log = (logs_of_start r.device.read_log r.device.safe_log g).0; safe_log = (logs_of_start r.device.read_log r.device.safe_log g).1; plan = plan_after g }

    -- the moves of a start, however the controller stands then, but not up where the start failed
    pub start_orderly : (g : Went) (standing : Standing) → ((place : ℕ) → g ≡ Met place Fails → standing ≢ Up) → Leaves (fold moved (book, r) (moves_of_start g)) standing (started_on g)
    start_orderly (Passed left) standing stands = settles_orderly standing r.device.read_log left is.read_log
    start_orderly (Met place Fails) standing stands = stays_orderly standing None (λ up. absurd (stands place refl up))
    start_orderly (Met place (Stops Lost)) standing stands = forgets_orderly standing r.device.safe_log None is.safe_log
    start_orderly (Met place (Stops Kept)) standing stands = settles_orderly standing r.device.read_log None is.read_log
    start_orderly (Met place (Stops Torn)) standing stands = settles_orderly standing (torn_log r.device.read_log r.device.safe_log) None (torn_orderly (r.device.safe_log.second && not r.device.read_log.second))

    module _ (settled : IsSettled r) (p : Pending) (new : IsOrderlyState w (after r.safe p.change)) where
      module _ (device : Device) where
        unmoved : (g : Went) (standing : Standing) → standing ≢ Up → LogsLead p.change g device → Leaves (book, r) standing device
        unmoved g standing not_up logs = record { safe = is.safe; read = is.read; safe_log = logs.safe_log; read_log = logs.read_log; up = λ e. absurd (not_up e); up_log = λ e. absurd (not_up e); settled = inl settled }

        begins_orderly : LogsLead p.change (Met 3 Fails) device → Leaves (moved (book, r) (Begin p)) Failed device
        begins_orderly logs = record { safe = is.safe; read = new; safe_log = logs.safe_log; read_log = logs.read_log; up = λ e. absurd (cc); up_log = λ e. absurd (cc); settled = inr (p, record { kept = refl; read = refl; read_log = logs.begun refl }) }

        done_orderly : (g : Went) (standing : Standing) → (standing ≡ Up → device.read_log ≡ device.safe_log) → LogsLead p.change g device → Leaves (fold moved (book, r) (Begin p ∷ Settle ∷ [])) standing device
        done_orderly g standing one logs = record { safe = new; read = new; safe_log = logs.safe_log; read_log = logs.read_log; up = λ e. (refl, refl); up_log = one; settled = inl (refl, refl) }

        undone_orderly : (g : Went) → LogsLead p.change g device → Leaves (fold moved (book, r) (Begin p ∷ Forget ∷ [])) Down device
        undone_orderly g logs = record { safe = is.safe; read = is.safe; safe_log = logs.safe_log; read_log = logs.read_log; up = λ e. absurd (cc); up_log = λ e. absurd (cc); settled = inl (refl, refl) }

        where_so : (b : Bool) (ms : List Move) → Leaves (book, r) Down device → Leaves (fold moved (book, r) ms) Down device → Leaves (fold moved (book, r) (if b then ms else [])) Down device
        where_so true ms not_moved left = left
        where_so false ms not_moved left = not_moved

        down : (g : Went) → LogsLead p.change g device → Leaves (book, r) Down device
        down g logs = unmoved g Down (λ e. absurd (cc)) logs

        -- the moves of a commit, with what its calls left of the logs
        led_orderly : (g : Went) → LogsLead p.change g device → Leaves (fold moved (book, r) (moves_of_commit p g)) (standing_after Failed g) device
        led_orderly (Passed left) logs = done_orderly (Passed left) Up (λ e. logs.one left refl) logs
        led_orderly (Met place Fails) logs = by (place == 3) refl
          where
            by : (b : Bool) → (place == 3) ≡ b → Leaves (fold moved (book, r) (if b then Begin p ∷ [] else [])) Failed device
            by true e = begins_orderly (subst (λ (n : ℕ). LogsLead p.change (Met n Fails) device) (eqb-true place 3 e) logs)
            by false e = unmoved (Met place Fails) Failed (λ up. absurd (cc)) logs
        led_orderly (Met place (Stops Lost)) logs = where_so (place == 3) (Begin p ∷ Forget ∷ []) (down (Met place (Stops Lost)) logs) (undone_orderly (Met place (Stops Lost)) logs)
        led_orderly (Met place (Stops Kept)) logs = where_so (nat_le 2 place) (Begin p ∷ Settle ∷ []) (down (Met place (Stops Kept)) logs) (done_orderly (Met place (Stops Kept)) Down (λ e. absurd (cc)) logs)
        led_orderly (Met place (Stops Torn)) logs = where_so (nat_le 2 place) (Begin p ∷ Settle ∷ []) (down (Met place (Stops Torn)) logs) (done_orderly (Met place (Stops Torn)) Down (λ e. absurd (cc)) logs)

      pub commit_orderly : change_fits r.device.safe_log r.safe.store p.change ≡ true → Leaves (fold moved (book, r) (moves_of_commit p (commit_goes r p))) (standing_after Failed (commit_goes r p)) (device_after_commit r p)
      commit_orderly fits = led_orderly (device_after_commit r p) (commit_goes r p) (commit_leads r p is.safe_log fits)
