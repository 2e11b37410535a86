-- Why a journal on a disk in memory goes as planned.
use Rattle.std.specs.Prelude.{◌≡◌, ◌⊎◌, ℕ, ◌+◌, ◌≤◌, ◌<◌, ◌^◌, List, [], ◌∷◌, ◌++◌, length, Bool, true, false, not, ◌&&◌, ◌||◌, nat_le, nat_lt, Option, Some, None, IsSomeAnd, Ok, if◌then◌else◌}
use Rattle.std.proofs.Common.{inl, inr, ⊎_elim, refl, sym, ◌∙◌, ap, subst, arith, length-append}
use Rattle.std.proofs.lemmas.Bool.{cases_lt, ltb-true}
use Rattle.adr_io.specs.declared.Fault.{Fault as Cause}
use Rattle.adr_io.specs.declared.Fault.TheVariants.{Failed as failed_call, NoMemory as no_memory}
use Rattle.adr_disk.specs.declared.memory.Crash.TheVariants.{Lost, Torn}
use Rattle.adr_disk.specs.declared.memory.Mishap.{Mishap}
use Rattle.adr_disk.specs.declared.memory.Mishap.TheVariants.{Fails}
use Rattle.adr_disk.specs.Disk.{Looks, Syncs, Writes, Call, Through}
use Rattle.adr_disk.specs.Memory.{DiskState, Surface, read_of, left_by, IsImage, SameState, meets, planned, failed, one_less, Does}
use Rattle.adr_disk.proofs.Outcomes.{IsImage-left_by}
use Rattle.adr_wire.specs.Reading.{Reading}
use Rattle.adr_wire.specs.Fields.{u32}
use Rattle.adr_model.specs.Store.{State, Store}
use Rattle.adr_model.specs.Change.{Change, after}
use Rattle.adr_model.specs.Lengths.{Log, area_version, length_limit, log_limit, change_length, image_length, is_due, checkpointed, log_after, next_log, change_fits}
use Rattle.adr_model.specs.Replica.{Replica, Pending, Book}
use Rattle.adr_law_journal.specs.Log.{Following, with_length, record_of}
use Rattle.adr_law_journal.specs.Areas.{Began, Found, Started, start_of, TellsArea}
use Rattle.adr_law_journal.specs.Commits.{Commits, Checkpoints}
use Rattle.adr_law_journal.specs.Kept.{Layout}
use Rattle.adr_law_journal.specs.Planned.{IsReadyToCommit, IsNextArea}
use Rattle.adr_law_journal.specs.Replicas.{read_found, safe_found, Has, CommitLeads, committed, started}
use Rattle.adr_law_journal.proofs.Counts.{enough, too_few}
use Rattle.adr_law_journal.proofs.Logs.{length_u32}
use Rattle.adr_law_journal.proofs.Settled.{stands}
use Rattle.adr_law_journal.proofs.Ties.{commit_passed, commit_failed, due_passed, due_failed, checkpoint_failed, passed_by, failed_by}
use Rattle.adr_journal.specs.Kept.{Ids, ids_of, layout_of, IsAt, IsAreaFor}
use Rattle.adr_run_keeper.specs.Planned.{CommitsAs, StartsAs}
use Rattle.adr_journal.specs.Ran.{Prepares, CommitsDisk, record_place, Reads, Starts, Formats, FormatsDisk}
use Rattle.adr_journal.specs.declared.keeper.KeeperRefusal.{KeeperRefusal}
use Rattle.adr_journal.specs.declared.keeper.KeeperRefusal.TheVariants.{DiskFault, Failed, Full, NoMemory}
use Rattle.adr_journal.specs.declared.keeper.StartRefusal.{StartRefusal}
use Rattle.adr_journal.specs.declared.keeper.StartRefusal.TheVariants as starts

-- a disk in memory that isn't stopped lets itself be looked at
no_look : (old new : DiskState) → old.stopped ≡ false → Does old Looks (Some failed_call) new → ⊥
no_look old new up does =
    let none : meets old Looks ≡ None = ap (λ (b : Bool). if b then Some Fails else planned old.plan Looks) up in
    subst (λ (o : Option Mishap). IsSomeAnd o (λ mishap. SameState (failed mishap Looks old) new)) none does

-- what fits: a change, and an image where a checkpoint is due
module _ (log : Log) (s : Store) (c : Change) (fits : change_fits log s c ≡ true) where
  parts_of : (x y z : Bool) → (x && y && z) ≡ true → (y ≡ true) × (z ≡ true)
  parts_of true true true is = (refl, refl)
  parts_of true true false is = absurd (cc is)
  parts_of true false true is = absurd (cc is)
  parts_of true false false is = absurd (cc is)
  parts_of false true true is = absurd (cc is)
  parts_of false true false is = absurd (cc is)
  parts_of false false true is = absurd (cc is)
  parts_of false false false is = absurd (cc is)

  pub short_change : change_length c < length_limit
  short_change = ltb-true (change_length c) length_limit (parts_of _ _ _ fits).0

  pub short_image : is_due log c ≡ true → image_length s < length_limit
  short_image due =
      let or : (not (is_due log c) || nat_lt (image_length s) length_limit) ≡ true = (parts_of (nat_le (next_log log s c).log_end log_limit) _ _ fits).1 in
      ltb-true (image_length s) length_limit (sym (ap (λ (b : Bool). not b || nat_lt (image_length s) length_limit) due) ∙ or)

-- the place of a new area is far below 2^64
low_place : (log : Log) (s : Store) → log.log_end < 2 ^ 63 → (checkpointed log s).place < 2 ^ 64
low_place log s ends = ⊎_elim
    (λ (short : log.place < 63 + image_length s). let is : (checkpointed log s).place ≡ log.log_end = too_few (63 + image_length s) log.place 56 log.log_end short in omega (arith, is, ends))
    (λ (room : 63 + image_length s ≤ log.place). let is : (checkpointed log s).place ≡ 56 = enough (63 + image_length s) log.place 56 log.log_end room in omega (arith, is))
    (cases_lt log.place (63 + image_length s))

record_long : (body : List ℕ) → length (record_of body) ≡ 5 + length body
record_long body = omega (arith, length-append (with_length body) (0 ∷ []), length-append (u32 (length body)) body, length_u32 (length body))

-- a record that ends where a log does begins where the log before it does
place_of : (l next : Log) (c : Change) (body : List ℕ) → next ≡ log_after l c → length body ≡ change_length c → record_place next body ≡ l.log_end
place_of l next c body is long = omega (arith, ap (λ (n : Log). n.log_end) is, record_long body, long)

module _ {K : Type 0} (head : Reading Ids) (area : Ids → Reading (Began State)) (following : ℕ → Following State) (disk : K → DiskState) where
  abbrev find : List ℕ → Started State
  find = start_of head area following

  abbrev pub has : K → Replica → Type 0
  has = Has (λ k. find (read_of (disk k).held.surface)) (λ k. find (disk k).held.surface.synced) (λ k. find (left_by Torn (disk k).held.surface)) (λ k. (disk k).plan)

  abbrev is_on : DiskState → Replica → Type 0
  is_on = Has (λ (d : DiskState). find (read_of d.held.surface)) (λ (d : DiskState). find d.held.surface.synced) (λ (d : DiskState). find (left_by Torn d.held.surface)) (λ (d : DiskState). d.plan)

  abbrev pub is_stopped : K → Bool
  is_stopped k = (disk k).stopped

  has_it : (k : K) (r : Replica) → is_on (disk k) r → has k r
  has_it k r on = record { is_read = on.is_read; is_safe = on.is_safe; is_torn = on.is_torn; is_plan = on.is_plan }

  on_it : (k : K) (r : Replica) → has k r → is_on (disk k) r
  on_it k r h = record { is_read = h.is_read; is_safe = h.is_safe; is_torn = h.is_torn; is_plan = h.is_plan }

  same_on : (r : Replica) (old new : DiskState) → SameState old new → is_on old r → is_on new r
  same_on r old new same on = record {
    is_read = ap (λ (s : Surface). find (read_of s)) same.held.surface ∙ on.is_read;
    is_safe = ap (λ (s : Surface). find s.synced) same.held.surface ∙ on.is_safe;
    is_torn = ap (λ (s : Surface). find (left_by Torn s)) same.held.surface ∙ on.is_torn;
    is_plan = same.plan ∙ on.is_plan;
  }

  -- ---- before a commit

  pub prepares_so : (k new : K) (e : Option KeeperRefusal) (r : Replica) → is_stopped k ≡ false → has k r → Prepares Does (disk k) e (disk new)
      → has new r × (is_stopped new ≡ false) × (e ≡ Some DiskFault → ⊥)
  prepares_so k new None r up h ran = (has_it new r (same_on r (disk k) (disk new) ran.1 (on_it k r h)), ran.1.stopped ∙ up, λ is. cc is)
  prepares_so k new (Some DiskFault) r up h ran = absurd (no_look (disk k) (disk new) up ran)
  prepares_so k new (Some NoMemory) r up h (inl is) = (has_it new r (subst (λ (d : DiskState). is_on d r) (sym is) (on_it k r h)), ap (λ (d : DiskState). d.stopped) is ∙ up, λ is. cc is)
  prepares_so k new (Some NoMemory) r up h (inr ran) = (has_it new r (same_on r (disk k) (disk new) ran (on_it k r h)), ran.stopped ∙ up, λ is. cc is)
  prepares_so k new (Some Full) r up h is = (has_it new r (subst (λ (d : DiskState). is_on d r) (sym is) (on_it k r h)), ap (λ (d : DiskState). d.stopped) is ∙ up, λ is. cc is)
  prepares_so k new (Some Failed) r up h is = (has_it new r (subst (λ (d : DiskState). is_on d r) (sym is) (on_it k r h)), ap (λ (d : DiskState). d.stopped) is ∙ up, λ is. cc is)

  -- ---- a commit

  module _ (k new : K) (log next : Log) (areas written image body : List ℕ) (c : Change) (book : Book) (r : Replica) (p : Pending)
      (at : IsAt head area following (λ (d : DiskState). Some (read_of d.held.surface)) (λ (d : DiskState) bytes. IsImage d.held.surface bytes) (disk k) log (safe_found r))
      (before : IsAreaFor log c image areas) (leads : next ≡ next_log log r.safe.store c) (fits : change_fits log r.safe.store c ≡ true)
      (tells : image_length r.safe.store < length_limit → (place : ℕ) → TellsArea (area (ids_of r.safe)) place image area_version r.safe) (image_long : image_length r.safe.store < length_limit → length image ≡ 6 + image_length r.safe.store)
      (follows : following area_version r.safe body ≡ Some (after r.safe c)) (long : length body ≡ change_length c)
      (up : is_stopped k ≡ false) (same : read_found r ≡ safe_found r) (h : has k r) (of_p : p.change ≡ c) where
    abbrev l : Layout Ids State
    l = layout_of head area following at.front (ids_of r.safe) at.is_head

    abbrev safe_log : Log
    safe_log = r.device.safe_log

    abbrev there : List ℕ
    there = read_of (disk k).held.surface

    ready : IsReadyToCommit l r p body (disk k)
    ready = record {
      settled = same;
      running = up;
      is_plan = h.is_plan;
      rests = at.settled.at_rest there refl;
      synced = at.settled.synced there refl;
      version = omega (arith, ap (λ (x : Log). x.version) at.is_log, at.version);
      follows = follows ∙ ap (λ (c : Change). Some (after r.safe c)) (sym of_p);
      is_long = long ∙ ap change_length (sym of_p);
      fits = omega (arith, long, short_change log r.safe.store c fits);
    }

    due_is : is_due safe_log p.change ≡ is_due log c
    due_is = λ i. is_due (at.is_log i) (of_p i)

    leads_safe : next ≡ next_log safe_log r.safe.store p.change
    leads_safe = leads ∙ (λ i. next_log (sym at.is_log i) r.safe.store (sym of_p i))

    length_is : length body ≡ change_length p.change
    length_is = ready.is_long

    abbrev Goes : List ℕ → Option KeeperRefusal → Type 0
    Goes areas e = CommitsDisk Does areas next body (disk k) e (disk new) → CommitsAs has is_stopped e (committed book r p) new

    led : (e : Option Cause) → CommitLeads l book r p (disk new) e → has new (committed book r p)
    led e leads = record { is_read = leads.0.is_read; is_safe = leads.0.is_safe; is_torn = leads.0.is_torn; is_plan = leads.0.is_plan }

    -- where no checkpoint is due
    module _ (undue : is_due log c ≡ false) where
      next_is : next ≡ log_after safe_log p.change
      next_is = leads_safe ∙ ap (λ (b : Bool). log_after (if b then checkpointed safe_log r.safe.store else safe_log) p.change) (due_is ∙ undue)

      ends_at : record_place next body ≡ safe_log.log_end
      ends_at = place_of safe_log next p.change body next_is length_is

      abbrev Ran : Option Cause → Type 0
      Ran e = Commits Does safe_log.log_end (record_of body) (disk k) e (disk new)

      goes_plain : (e : Option KeeperRefusal) → Goes [] e
      goes_plain None ran =
          let both = commit_passed l book r p (disk new) (disk k) body ready (due_is ∙ undue) (subst (λ (n : ℕ). Commits Does n (record_of body) (disk k) None (disk new)) ends_at ran) in
          (led None both, both.1, both.2)
      goes_plain (Some DiskFault) ran =
          let both = commit_failed l book r p (disk new) (disk k) body ready (due_is ∙ undue) (subst (λ (n : ℕ). Commits Does n (record_of body) (disk k) (Some failed_call) (disk new)) ends_at ran) in
          (led (Some failed_call) both, both.1, both.2)
      goes_plain (Some NoMemory) ran = absurd ran
      goes_plain (Some Full) ran = absurd ran
      goes_plain (Some Failed) ran = absurd ran

    -- where one is due
    module _ (due : is_due log c ≡ true) where
      abbrev mid_log : Log
      mid_log = checkpointed safe_log r.safe.store

      is_short : image_length r.safe.store < length_limit
      is_short = short_image log r.safe.store c fits due

      next_due : next ≡ log_after mid_log p.change
      next_due = leads_safe ∙ ap (λ (b : Bool). log_after (if b then checkpointed safe_log r.safe.store else safe_log) p.change) (due_is ∙ due)

      ends_due : record_place next body ≡ mid_log.log_end
      ends_due = place_of mid_log next p.change body next_due length_is

      next_area : (written : List ℕ) → written ≡ image ++ 0 ∷ [] → IsNextArea l r written
      next_area written is = record {
        image = image;
        is = is;
        tells = tells is_short mid_log.place;
        is_long = image_long is_short;
        near = low_place safe_log r.safe.store (omega (arith, ap (λ (x : Log). x.log_end) at.is_log, at.ends));
      }

      made : (written : List ℕ) (e : Option Cause) (mid : DiskState) → Checkpoints Does next.place written next.second (disk k) e mid → Checkpoints Does mid_log.place written mid_log.second (disk k) e mid
      made written e mid ran = subst (λ (n : Log). Checkpoints Does n.place written n.second (disk k) e mid) next_due ran

      goes_due : (written : List ℕ) → written ≡ image ++ 0 ∷ [] → (e : Option KeeperRefusal) → Goes written e
      goes_due [] is e ran = absurd (let no : ⊥ = omega (arith, ap length is, length-append image (0 ∷ [])) in no)
      goes_due (b ∷ written) is None (mid, checkpoint, ran) =
          let both = due_passed l book r p (disk new) (disk k) body (b ∷ written) ready (next_area (b ∷ written) is) (due_is ∙ due) mid (made (b ∷ written) None mid checkpoint)
          (subst (λ (n : ℕ). Commits Does n (record_of body) mid None (disk new)) ends_due ran) in
          (led None both, both.1, both.2)
      goes_due (b ∷ written) is (Some DiskFault) (inl checkpoint) =
          let both = checkpoint_failed l book r p (disk new) (disk k) body (b ∷ written) ready (next_area (b ∷ written) is) (due_is ∙ due) (made (b ∷ written) (Some failed_call) (disk new) checkpoint) in
          (led (Some failed_call) both, both.1, both.2)
      goes_due (b ∷ written) is (Some DiskFault) (inr (mid, checkpoint, ran)) =
          let both = due_failed l book r p (disk new) (disk k) body (b ∷ written) ready (next_area (b ∷ written) is) (due_is ∙ due) mid (made (b ∷ written) None mid checkpoint)
          (subst (λ (n : ℕ). Commits Does n (record_of body) mid (Some failed_call) (disk new)) ends_due ran) in
          (led (Some failed_call) both, both.1, both.2)
      goes_due (b ∷ written) is (Some NoMemory) ran = absurd ran
      goes_due (b ∷ written) is (Some Full) ran = absurd ran
      goes_due (b ∷ written) is (Some Failed) ran = absurd ran

    pub commits_so : (e : Option KeeperRefusal) → CommitsDisk Does areas next body (disk k) e (disk new) → CommitsAs has is_stopped e (committed book r p) new
    commits_so e ran = ⊎_elim
        (λ (none : (is_due log c ≡ false) × (areas ≡ [])). goes_plain none.0 e (subst (λ (a : List ℕ). CommitsDisk Does a next body (disk k) e (disk new)) none.1 ran))
        (λ (some : (is_due log c ≡ true) × (areas ≡ image ++ 0 ∷ [])). goes_due some.0 areas some.1 e ran)
        before

  -- ---- a start

  looked : (old mid new : DiskState) → SameState old mid → SameState mid new → SameState old new
  looked old mid new first second = record {
    held = record { surface = second.held.surface ∙ first.held.surface; past = second.held.past ∙ first.held.past };
    plan = second.plan ∙ first.plan;
    stopped = second.stopped ∙ first.stopped;
    faults = second.faults ∙ first.faults;
  }

  read_same : (old new : DiskState) → Reads Does old None new → SameState old new
  read_same old new (mid, first, second) = looked old mid new first.1 second.1

  read_none : (old new : DiskState) → old.stopped ≡ false → Reads Does old (Some failed_call) new → ⊥
  read_none old new up (inl look) = no_look old new up look
  read_none old new up (inr (mid, first, second)) = no_look mid new (first.1.stopped ∙ up) second

  read_short : (old new : DiskState) → Reads Does old (Some no_memory) new → SameState old new
  read_short old new (inl look) = look
  read_short old new (inr (mid, first, inl is)) = subst (λ (d : DiskState). SameState old d) (sym is) first.1
  read_short old new (inr (mid, first, inr look)) = looked old mid new first.1 look

  module _ (k new : K) (book : Book) (r : Replica) (up : is_stopped k ≡ false) (h : has k r) where
    behind_sync : (mid : DiskState) → Does (disk k) Syncs None mid → SameState mid (disk new) → has new (started book r)
    behind_sync mid sync same = has_it new (started book r) (same_on (started book r) mid (disk new) same (passed_by find book r (disk k) mid up (on_it k r h) sync).0)

    up_behind : (mid : DiskState) → Does (disk k) Syncs None mid → mid.stopped ≡ false
    up_behind mid sync = sync.1.stopped ∙ up

    pub starts_so : (e : Option StartRefusal) → Starts Does (disk k) e (disk new) → StartsAs has is_stopped e r (started book r) new
    starts_so None (mid, sync, reads) =
        let same = read_same mid (disk new) reads in
        let passed = passed_by find book r (disk k) mid up (on_it k r h) sync in
        (behind_sync mid sync same, passed.1, same.stopped ∙ passed.2)
    starts_so (Some starts.DiskFault) (inl sync) =
        let both = failed_by find book r (disk k) (disk new) up (on_it k r h) sync in
        (has_it new (started book r) both.0, both.1)
    starts_so (Some starts.DiskFault) (inr (mid, sync, reads)) = absurd (read_none mid (disk new) (up_behind mid sync) reads)
    starts_so (Some (starts.Damaged place)) (mid, sync, reads) = behind_sync mid sync (read_same mid (disk new) reads)
    starts_so (Some (starts.NoMemory true)) (inl (mid, sync, reads)) = behind_sync mid sync (read_same mid (disk new) reads)
    starts_so (Some (starts.NoMemory true)) (inr (mid, sync, reads)) = behind_sync mid sync (read_short mid (disk new) reads)
    starts_so (Some (starts.NoMemory false)) sync = has_it new r (same_on r (disk k) (disk new) sync (on_it k r h))

  -- ---- a format

  abbrev Quiet : DiskState → Type 0
  Quiet d = (d.plan ≡ None) × (d.stopped ≡ false)

  unmet : (d : DiskState) (call : Call) → Quiet d → meets d call ≡ None
  unmet d call quiet = ap (λ (b : Bool). if b then Some Fails else planned d.plan call) quiet.1 ∙ ap (λ p. planned p call) quiet.0 ∙ by call
    where
      by : (call : Call) → planned None call ≡ None
      by Looks = refl
      by Syncs = refl
      by (Writes at bytes) = refl

  no_fault : (d new : DiskState) (call : Call) → Quiet d → Does d call (Some failed_call) new → ⊥
  no_fault d new call quiet does = subst (λ (o : Option Mishap). IsSomeAnd o (λ mishap. SameState (failed mishap call d) new)) (unmet d call quiet) does

  still : (d new : DiskState) (call : Call) → Quiet d → Does d call None new → Quiet new
  still d new Looks quiet does = (does.1.plan ∙ quiet.0, does.1.stopped ∙ quiet.1)
  still d new Syncs quiet does = (does.1.plan ∙ ap one_less quiet.0, does.1.stopped ∙ quiet.1)
  still d new (Writes at bytes) quiet does = (does.1.plan ∙ ap one_less quiet.0, does.1.stopped ∙ quiet.1)

  still_through : (d new : DiskState) (at : ℕ) (bytes : List ℕ) → Quiet d → Through Does at bytes d None new → Quiet new
  still_through d new at bytes quiet (mid, w, s) = still mid new Syncs (still d mid (Writes at bytes) quiet w) s

  no_through : (d new : DiskState) (at : ℕ) (bytes : List ℕ) → Quiet d → Through Does at bytes d (Some failed_call) new → ⊥
  no_through d new at bytes quiet (inl w) = no_fault d new (Writes at bytes) quiet w
  no_through d new at bytes quiet (inr (mid, w, s)) = no_fault mid new Syncs (still d mid (Writes at bytes) quiet w) s

  format_fails : (written : List ℕ) (d new : DiskState) → Quiet d → Formats Does written d (Some failed_call) new → ⊥
  format_fails written d new quiet (inl a) = no_through d new 0 _ quiet a
  format_fails written d new quiet (inr (first, a, inl b)) = no_through first new 1 written (still_through d first 0 _ quiet a) b
  format_fails written d new quiet (inr (first, a, inr (second, b, c))) = no_through second new 0 _ (still_through first second 1 written (still_through d first 0 _ quiet a) b) c

  pub formats_so : (k new : K) (e : Option KeeperRefusal) → is_stopped k ≡ false → (disk k).plan ≡ None → FormatsDisk Does (disk k) e (disk new)
      → ((disk new).plan ≡ None) × (is_stopped new ≡ false) × (e ≡ Some DiskFault → ⊥)
  formats_so k new e up none ran = by e ran
    where
      quiet : Quiet (disk k)
      quiet = (none, up)

      by : (e : Option KeeperRefusal) → FormatsDisk Does (disk k) e (disk new) → ((disk new).plan ≡ None) × (is_stopped new ≡ false) × (e ≡ Some DiskFault → ⊥)
      by None (mid, look, (written, (first, second, a, b, c))) =
          let q : Quiet (disk new) = still_through second (disk new) 0 _ (still_through first second 1 written (still_through mid first 0 _ (still (disk k) mid Looks quiet look) a) b) c in
          (q.0, q.1, λ is. cc is)
      by (Some DiskFault) (inl look) = absurd (no_fault (disk k) (disk new) Looks quiet look)
      by (Some DiskFault) (inr (mid, look, (written, f))) = absurd (format_fails written mid (disk new) (still (disk k) mid Looks quiet look) f)
      by (Some NoMemory) (inl is) = let q : Quiet (disk new) = subst Quiet (sym is) quiet in (q.0, q.1, λ is. cc is)
      by (Some NoMemory) (inr look) = let q : Quiet (disk new) = (look.plan ∙ quiet.0, look.stopped ∙ quiet.1) in (q.0, q.1, λ is. cc is)
      by (Some Full) is = let q : Quiet (disk new) = subst Quiet (sym is) quiet in (q.0, q.1, λ is. cc is)
      by (Some Failed) ran = absurd ran

-- ---- what a crash leaves

pub keeps_so : (head : Reading Ids) (area : Ids → Reading (Began State)) (following : ℕ → Following State) (d : DiskState) (log : Log) (f : Found State)
    → IsAt head area following (λ (d : DiskState). Some (read_of d.held.surface)) (λ (d : DiskState) bytes. IsImage d.held.surface bytes) d log f
    → (start_of head area following (read_of d.held.surface) ≡ Ok f) × (start_of head area following d.held.surface.synced ≡ Ok f) × (start_of head area following (left_by Torn d.held.surface) ≡ Ok f)
keeps_so head area following d log f at =
    let there = read_of d.held.surface in
    let only = at.settled.synced there refl in
    let find = start_of head area following in
    let is : find there ≡ Ok f = stands (layout_of head area following at.front (ids_of f.state) at.is_head) f.state f.log there (at.settled.at_rest there refl) in
    (is, ap find (only d.held.surface.synced (IsImage-left_by Lost d.held.surface)) ∙ is, ap find (only (left_by Torn d.held.surface) (IsImage-left_by Torn d.held.surface)) ∙ is)
