-- What a start, or a refused one, leaves of a keeper, and what a command then is that looks at it.
use Rattle.std.proofs.Common.{◌≡◌, ◌⊎◌, ◌<◌, ◌≤◌, ◌↔◌, inl, inr, ⊎_elim, refl, sym, ap, ◌∙◌, subst, ℕ, List, Bool, true, false, Option, None, Some, IfOk, IfSome, IsSome, Ok, Err, arith}
use Rattle.adr_disk.specs.Disk.{Among, LeavesOnly}
use Rattle.adr_io.specs.declared.Fault.{Fault}
use Rattle.adr_io.specs.declared.Fault.TheVariants.{Failed, NoMemory}
use Rattle.adr_io.specs.declared.Sink.{Ghosts as SinkGhosts}
use Rattle.adr_model.specs.Store.{State}
use Rattle.adr_law_journal.specs.Areas.{Found, Started, found}
use Rattle.adr_journal.specs.Ended.{IsDamageOf, ReadsOnly, StillReads}
use Rattle.adr_journal.specs.declared.keeper.Keeper.{Ghosts as KeeperGhosts}
use Rattle.adr_journal.specs.declared.keeper.StartRefusal.{StartRefusal}
use Rattle.adr_journal.specs.declared.keeper.StartRefusal.TheVariants as starts
use Rattle.adr_records.specs.Logged.{IsLogged}
use Rattle.adr_controller.specs.Running.{IsInOrder, Running}
use Rattle.adr_node.specs.Seen.{Seen, StandsAs, Stays, of_keeper}
use Rattle.adr_node.specs.Begins.{Begun, IsDamaged, IsHindered, IsUnbegun, TellsDamage, TellsRefusal}
use Rattle.adr_node.specs.Lines.{damaged_line}
use Rattle.adr_node.specs.Looks.{Looks, Tells, IsWhole, due_of, unseen}
use Rattle.adr_node.specs.declared.ended.Looked.{Looked}
use Rattle.adr_node.specs.declared.ended.Looked.TheVariants as backed
use Rattle.adr_node.specs.declared.ended.Unbegun.{Unbegun}
use Rattle.adr_node.specs.declared.ended.Unbegun.TheVariants as unbegun
use Rattle.adr_node.proofs.Formatted.{stands_so}
use Rattle.adr_node.proofs.Writes.{all_added, no_fewer, tells_disk_fault, tells_no_memory}

pub same_told : {T : Type 0} (a b : Option T) (t : T) → (IsSome b ↔ IsSome a) → IfSome a (λ x. x ≡ t) → IfSome b (λ x. x ≡ t) → b ≡ a
same_told None None t both was is = refl
same_told None (Some y) t both was is = absurd (cc (both.0 refl))
same_told (Some x) None t both was is = absurd (cc (both.1 refl))
same_told {T} (Some x) (Some y) t both was is = ap (λ (z : T). let o : Option T = Some z in o) (is ∙ sym was)

-- what is read alone, of which this is told
only_so : (told : Option (Started State)) (left : Started State → Type 0) (this : Started State) → IfSome told (λ t. t ≡ this) → IfSome told (λ there. Among (λ f. f ≡ there) left)
    → IfSome told (λ t. (t ≡ this) × Among (λ f. f ≡ this) left)
only_so None left this is only = tt
only_so (Some t) left this is only = (is, λ f may. only f may ∙ is)

pub reads_so : {D : Type 0} (d : Seen D) (old new : D) (this : Started State) → IfSome (d.told old) (λ t. t ≡ this) → ReadsOnly d.told d.may_leave old new → StandsAs d this new
reads_so d old new this is still =
    subst (λ (o : Option (Started State)). IfSome o (λ t. (t ≡ this) × Among (λ f. f ≡ this) (d.may_leave new))) (sym still.0)
    (only_so (d.told old) (d.may_leave new) this is still.1)

-- what is there, where it is told
pub there_is : (o : Option (Started State)) → (t : Started State) × IfSome o (λ x. x ≡ t)
there_is None = (Err 0, tt)
there_is (Some x) = (x, refl)

-- ---- no controller was started

-- a call of the disk failed, or memory was wanting
abbrev pub Wants : {D : Type 0} → Seen D → D → D → Unbegun → Type 0
Wants d old new why =
    ((why ≡ unbegun.DiskFault) × (d.faults old < d.faults new)) ⊎ ((why ≡ unbegun.NoMemory) × Stays d old new)

-- by the fault of a call
pub wants_by : {D : Type 0} (d : Seen D) (old new : D) (fault : Fault) (why : Unbegun) → (fault ≡ Failed → why ≡ unbegun.DiskFault) → (fault ≡ NoMemory → why ≡ unbegun.NoMemory)
    → (fault ≡ Failed → d.faults old < d.faults new) → Stays d old new → Wants d old new why
wants_by d old new Failed why failed wanting rose same = inl (failed refl, rose refl)
wants_by d old new NoMemory why failed wanting rose same = inr (wanting refl, same)

-- what is told the same is told still
pub still_told : {D : Type 0} (d : Seen D) (old new : D) → d.told new ≡ d.told old → IsSome (d.told old) → IsSome (d.told new)
still_told d old new same was = subst (λ (o : Option (Started State)). IsSome o) (sym same) was

pub wanting : {D S : Type 0} (d : Seen D) (k : SinkGhosts S) (old new : D) (before after : S) (why : Unbegun) → Wants d old new why → d.faults old ≤ d.faults new
    → (IsSome (d.told old) → IsSome (d.told new)) → LeavesOnly d.moment d.left_since old new (d.may_leave old) → Among (d.may_leave old) (d.may_leave new) → after ≡ before
    → IsUnbegun d k old new before after why
wanting d k old new before after why wants later told moments left silent = record {
  found = (there_is (d.told old)).0;
  is_found = (there_is (d.told old)).1;
  ends = (inl (⊎_elim (λ w. inl w.0) (λ w. inr w) wants, silent), left);
  still_told = told;
  any_moment = moments;
  write_fault = λ is. ⊎_elim (λ w. absurd (cc (sym w.0 ∙ is))) (λ w. absurd (cc (sym w.0 ∙ is))) wants;
  write_ends = λ rose. let same : k.faults after ≡ k.faults before = ap k.faults silent in absurd (omega (arith, rose, same));
  disk_fault = λ is. ⊎_elim (λ w. w.1) (λ w. absurd (cc (sym w.0 ∙ is))) wants;
  sink_later = no_fewer k before after silent;
  disk_later = later;
}

-- a start that was refused
module _ {K S : Type 0} (k : KeeperGhosts K) (sink : SinkGhosts S) (old new : K) (before after : S) (why : Unbegun) where
  bytes_stay : (refusal : StartRefusal) → (refusal ≡ starts.DiskFault → ⊥) → (refusal ≡ starts.DiskFault) ⊎ (k.content new ≡ k.content old) → k.content new ≡ k.content old
  bytes_stay refusal passed unwritten = ⊎_elim (λ is. absurd (passed is)) (λ same. same) unwritten

  pub refused_unbegun : (refusal : StartRefusal) → IsDamageOf refusal (k.told old) → (refusal ≡ starts.DiskFault → k.faults old < k.faults new)
      → StillReads k.told k.may_leave k.moment k.left_since refusal old new → (refusal ≡ starts.DiskFault) ⊎ (k.content new ≡ k.content old) → k.faults old ≤ k.faults new → (IsSome (k.told old) → IsSome (k.told new))
      → LeavesOnly k.moment k.left_since old new (k.may_leave old) → Among (k.may_leave old) (k.may_leave new)
      → TellsRefusal sink refusal before after why → (why ≡ unbegun.WriteFault → sink.faults before < sink.faults after)
      → (sink.faults before < sink.faults after → why ≡ unbegun.WriteFault) → sink.faults before ≤ sink.faults after
      → IsUnbegun (of_keeper k) sink old new before after why
  refused_unbegun starts.DiskFault damaged fault still unwritten later told moments left tells write ends sink_later =
      wanting (of_keeper k) sink old new before after why (inl (tells.0, fault refl)) later told moments left tells.1
  refused_unbegun (starts.Damaged place) damaged fault still unwritten later told moments left tells write ends sink_later =
      let there : Started State = Err place in
      record {
        found = there;
        is_found = damaged;
        ends = (inr (tells, (bytes_stay (starts.Damaged place) (λ is. cc is) unwritten, still.0), reads_so (of_keeper k) old new there damaged still), left);
        still_told = told;
        any_moment = moments;
        write_fault = write;
        write_ends = ends;
        disk_fault = λ is. absurd (subst (λ (w : Unbegun). TellsDamage sink place before after w) is tells);
        sink_later = sink_later;
        disk_later = later;
      }
  refused_unbegun (starts.NoMemory true) damaged fault still unwritten later told moments left tells write ends sink_later =
      wanting (of_keeper k) sink old new before after why (inr (tells.0, (bytes_stay (starts.NoMemory true) (λ is. cc is) unwritten, still.0))) later told moments left tells.1
  refused_unbegun (starts.NoMemory false) damaged fault still unwritten later told moments left tells write ends sink_later =
      wanting (of_keeper k) sink old new before after why (inr (tells.0, (bytes_stay (starts.NoMemory false) (λ is. cc is) unwritten, still.content_stays))) later told moments left tells.1

-- ---- what a command then is that only looks

-- one that had no controller to look at
module _ {D K : Type 0} (d : Seen D) (k : SinkGhosts K) (refuses : State → Bool) (bytes : State → List ℕ) (old new : D) (before after : K) where
  logged_unseen : (there : Started State) (why : Unbegun) → IsHindered d old new before after why ⊎ IsDamaged d k there old new before after why → IsWhole (unseen why)
      → IfOk there (λ f. IsLogged f.state)
  logged_unseen (Err place) why ends whole = tt
  logged_unseen (Ok f) why (inr h) whole = absurd h
  logged_unseen (Ok f) why (inl (inl fault, silent)) whole = absurd (subst (λ (w : Unbegun). IsWhole (unseen w)) fault whole)
  logged_unseen (Ok f) why (inl (inr wants, silent)) whole = absurd (subst (λ (w : Unbegun). IsWhole (unseen w)) wants.0 whole)

  tells_damage : (place : ℕ) (why : Unbegun) → TellsDamage k place before after why → (why ≡ unbegun.WriteFault → k.faults before < k.faults after)
      → k.faults before ≤ k.faults after → Tells k (due_of refuses bytes (Err place)) before after (unseen why)
  tells_damage place (unbegun.Damaged there) tells write later = record {
    whole = λ is. (ap (λ (n : ℕ). backed.Damaged n) tells.0, tells.1);
    front = all_added (k.written before) (k.written after) (damaged_line place) tells.1;
    write_fault = λ is. absurd (cc is);
    later = later;
  }
  tells_damage place unbegun.WriteFault tells write later = record { whole = λ is. absurd is; front = tells; write_fault = λ is. write refl; later = later }
  tells_damage place unbegun.DiskFault tells write later = absurd tells
  tells_damage place unbegun.NoMemory tells write later = record { whole = λ is. absurd is; front = tells; write_fault = λ is. absurd (cc is); later = later }

  tells_unseen : (there : Started State) (why : Unbegun) → IsHindered d old new before after why ⊎ IsDamaged d k there old new before after why
      → (why ≡ unbegun.WriteFault → k.faults before < k.faults after) → k.faults before ≤ k.faults after → Tells k (due_of refuses bytes there) before after (unseen why)
  tells_unseen there why (inl (inl fault, silent)) write later =
      tells_disk_fault k (due_of refuses bytes there) before after (unseen why) silent (ap unseen fault)
  tells_unseen there why (inl (inr wants, silent)) write later =
      tells_no_memory k (due_of refuses bytes there) before after (unseen why) silent (ap unseen wants.0)
  tells_unseen (Ok f) why (inr h) write later = absurd h
  tells_unseen (Err place) why (inr h) write later = tells_damage place why h.0 write later

  fault_unseen : (why : Unbegun) → unseen why ≡ backed.DiskFault → why ≡ unbegun.DiskFault
  fault_unseen (unbegun.Damaged place) is = absurd (cc is)
  fault_unseen unbegun.WriteFault is = absurd (cc is)
  fault_unseen unbegun.DiskFault is = refl
  fault_unseen unbegun.NoMemory is = absurd (cc is)

  silent_unseen : (there : Started State) (why : Unbegun) → IsHindered d old new before after why ⊎ IsDamaged d k there old new before after why → why ≡ unbegun.DiskFault → after ≡ before
  silent_unseen there why (inl h) is = h.1
  silent_unseen (Ok f) why (inr h) is = absurd h
  silent_unseen (Err place) why (inr h) is = absurd (subst (λ (w : Unbegun). TellsDamage k place before after w) is h.0)

  stays_unseen : (there : Started State) (why : Unbegun) → IsHindered d old new before after why ⊎ IsDamaged d k there old new before after why → (unseen why ≡ backed.DiskFault → ⊥)
      → Stays d old new
  stays_unseen there why (inl (inl fault, silent)) passed = absurd (passed (ap unseen fault))
  stays_unseen there why (inl (inr wants, silent)) passed = wants.1
  stays_unseen (Ok f) why (inr h) passed = absurd h
  stays_unseen (Err place) why (inr h) passed = h.1

  durable_unseen : (there : Started State) (why : Unbegun) → IsHindered d old new before after why ⊎ IsDamaged d k there old new before after why
      → StandsAs d there new ⊎ (((unseen why ≡ backed.DiskFault) ⊎ (unseen why ≡ backed.NoMemory)) × (after ≡ before))
  durable_unseen there why (inl (inl fault, silent)) = inr (inl (ap unseen fault), silent)
  durable_unseen there why (inl (inr wants, silent)) = inr (inr (ap unseen wants.0), silent)
  durable_unseen (Ok f) why (inr h) = absurd h
  durable_unseen (Err place) why (inr h) = inl h.2

  pub unbegun_looks : (why : Unbegun) → IsUnbegun d k old new before after why → Looks d k (due_of refuses bytes) old new before after (unseen why)
  unbegun_looks why u = record {
    found = u.found;
    is_found = u.is_found;
    logged = logged_unseen u.found why u.ends.0;
    tells = tells_unseen u.found why u.ends.0 u.write_fault u.sink_later;
    disk_fault = λ is. let fault = fault_unseen why is in (u.disk_fault fault, silent_unseen u.found why u.ends.0 fault);
    later = u.disk_later;
    stays = stays_unseen u.found why u.ends.0;
    durable = durable_unseen u.found why u.ends.0;
    still_told = u.still_told;
    any_moment = u.any_moment;
    left = u.ends.1;
  }

-- one that began with a controller
module _ {K S : Type 0} (k : KeeperGhosts K) (sink : SinkGhosts S) (refuses : State → Bool) (bytes : State → List ℕ) where
  pub started_looks : (law : (x : K) (f : Found State) → k.is_at x f → k.is_failed x ≡ false → IfSome (k.told x) (λ t. t ≡ Ok f))
      → (left_law : (x : K) (f : Found State) (t : Started State) → k.is_at x f → k.is_failed x ≡ false → IsSome (k.told x) → k.may_leave x t → t ≡ Ok f)
      → (old : K) (c : Running K) (before after : S) (how : Looked) (b : Begun k old c) → IsInOrder k c
      → Tells sink (due_of refuses bytes (Ok (found b.started.state b.started.log))) before after how → IsLogged b.started.state → (how ≡ backed.DiskFault → ⊥)
      → Looks (of_keeper k) sink (due_of refuses bytes) old c.keeper before after how
  started_looks law left_law old c before after how b order tells logged passed =
      let at : Found State = found b.started.state b.started.log in
      let there : Started State = Ok at in
      let up : k.is_failed c.keeper ≡ false = (order.up b.started.state b.started.in_memory).0.running in
      record {
        found = there;
        is_found = b.started.told;
        logged = λ whole. logged;
        tells = tells;
        disk_fault = λ is. absurd (passed is);
        later = b.later;
        stays = λ no_fault. (b.unwritten, same_told (k.told old) (k.told c.keeper) there b.told b.started.told (law c.keeper at b.started.at up));
        durable = inl (stands_so (k.told c.keeper) (k.may_leave c.keeper) at (law c.keeper at b.started.at up) (λ told t may. left_law c.keeper at t b.started.at up told may));
        still_told = b.told.1;
        any_moment = b.any_moment;
        left = b.left;
      }
