-- What is found, by other words.
use Rattle.std.proofs.Common.{◌≡◌, ◌⊎◌, inl, inr, ⊎_elim, ℕ, ◌+◌, List, [], ◌∷◌, length, Option, Some, None, Result, Ok, Err, IfSome, refl, sym, ◌∙◌, ap, subst, arith, length-append}
use Rattle.std.specs.Prelude.{◌↔◌, IsSome, IsErrOf, true, false}
use Rattle.std.specs.Option.{ForSome, option_map}
use Rattle.adr_disk.specs.Disk.{Among, Elapses, Keeps, LeavesOnly}
use Rattle.adr_disk.specs.declared.disk.Disk.{Ghosts as DiskGhosts}
use Rattle.adr_disk.proofs.Moments.{goes_on, started}
use Rattle.adr_wire.specs.Fields.{u32}
use Rattle.adr_model.specs.Store.{State}
use Rattle.adr_model.specs.Lengths.{Log}
use Rattle.adr_law_journal.specs.Log.{with_length, record_of}
use Rattle.adr_law_journal.specs.Areas.{Found, Started, start_of}
use Rattle.adr_law_journal.specs.Kept.{Finds}
use Rattle.adr_law_journal.proofs.Lifts.{after_kept, finds_each, kept_leaves, kept_same, lifted, settled_kept}
use Rattle.adr_law_journal.proofs.Logs.{length_u32}
use Rattle.adr_law_journal.proofs.Settled.{stands}
use Rattle.adr_law_journal.proofs.Told.{at_told, if_mapped, if_told, is_some_of, same_keeps, some_of}
use Rattle.adr_journal.specs.Ended.{IsNewOrNone, ReadsOnly, StillReads}
use Rattle.adr_journal.specs.Kept.{ids_of, layout_of, IsAt, IsEmpty, IsWithin}
use Rattle.adr_journal.specs.declared.form.Form.{Ghosts as FormGhosts}
use Rattle.adr_journal.specs.declared.keeper.KeeperRefusal.{KeeperRefusal}
use Rattle.adr_journal.specs.declared.keeper.StartRefusal.{StartRefusal}
use Rattle.adr_journal.specs.declared.keeper.StartRefusal.TheVariants.{DiskFault, Damaged, NoMemory}

pub record_length : (body : List ℕ) → length (record_of body) ≡ 5 + length body
record_length body = omega (arith, length-append (with_length body) (0 ∷ []), length-append (u32 (length body)) body, length_u32 (length body))

-- a told list has this
pub for_some : {A : Type 0} (o : Option A) (P : A → Type 0) → IfSome o P → ForSome o P
for_some {A} o P h x is = let Q : Option A → Type 0 = λ o. IfSome o P in subst Q is h

-- what is found is told where the bytes are
pub told_as : {A B : Type 0} (f : A → B) (o p : Option A) → (IsSome o ↔ IsSome p) → IsSome (option_map f o) ↔ IsSome (option_map f p)
told_as f None None both = both
told_as f None (Some y) both = absurd (cc (both.1 refl))
told_as f (Some x) None both = absurd (cc (both.0 refl))
told_as f (Some x) (Some y) both = (λ is. refl, λ is. refl)

-- ---- a sync, and calls that change nothing behind it

abbrev pub KeepsDisk : {D : Type 0} → DiskGhosts D → D → D → Type 0
KeepsDisk d old new = Keeps d.content d.may_leave d.moment d.left_since old new

-- a disk that is as it was
pub same_disk : {D : Type 0} (d : DiskGhosts D) (disk : D) → KeepsDisk d disk disk
same_disk d disk = same_keeps d.content d.may_leave d.moment d.left_since disk

module _ {D : Type 0} (d : DiskGhosts D) (old mid new : D) where
  pub kept_again : KeepsDisk d old mid → KeepsDisk d mid new → KeepsDisk d old new
  kept_again first second = record {
    content_stays = second.content_stays ∙ first.content_stays;
    no_more = λ x h. first.no_more x (second.no_more x h);
    no_fewer = λ x h. second.no_fewer x (first.no_fewer x h);
    moment_stays = second.moment_stays ∙ first.moment_stays;
    past_stays = λ t x h. first.past_stays t x (second.past_stays t x h);
    past_kept = λ t x h. second.past_kept t x (first.past_kept t x h);
  }

  pub still_leaves : (P : List ℕ → Type 0) → LeavesOnly d.moment d.left_since old mid P → KeepsDisk d mid new → LeavesOnly d.moment d.left_since old new P
  still_leaves P h keeps = record {
    later = omega (arith, h.later, keeps.moment_stays);
    each = λ x left. h.each x (keeps.past_stays (d.moment old) x left);
    before = λ t x le left. h.before t x le (keeps.past_stays t x left);
  }

pub synced_leaves : {D : Type 0} (d : DiskGhosts D) (old new : D) → ((disk : D) (bytes : List ℕ) → d.left_since disk (d.moment disk) bytes → d.may_leave disk bytes) → Elapses (d.moment old) (d.moment new) (d.left_since old) (d.left_since new) (d.may_leave old)
    → LeavesOnly d.moment d.left_since old new (d.may_leave old)
synced_leaves d old new only_now time =
    goes_on d.moment d.left_since old old new (d.may_leave old) (d.may_leave old) (started d.moment d.left_since old (d.may_leave old) (only_now old)) time (λ bytes left. left)

-- a disk that is empty and stays as it is
pub still_empty : {D : Type 0} (d : DiskGhosts D) {old new : D} → KeepsDisk d old new → IsEmpty d.content d.may_leave old → IsEmpty d.content d.may_leave new
still_empty d keeps is = record {
  empty = λ there told. is.empty there (sym keeps.content_stays ∙ told);
  synced = λ there told bytes left. is.synced there (sym keeps.content_stays ∙ told) bytes (keeps.no_more bytes left);
}

-- ---- a disk whose bytes are of a form

module _ {D F : Type 0} (d : DiskGhosts D) (form : FormGhosts F) where
  -- what a start finds, where that is told, and what it may find after a crash
  abbrev pub told_of : D → Option (Started State)
  told_of disk = option_map (start_of form.head form.area form.following) (d.content disk)

  abbrev pub left_of : D → Started State → Type 0
  left_of disk = Finds form.head form.area form.following (d.may_leave disk)

  abbrev pub IsAtOn : D → Log → Found State → Type 0
  IsAtOn disk log f = IsAt form.head form.area form.following d.content d.may_leave disk log f

  abbrev pub IsWithinOn : D → ℕ → ℕ → ℕ → Type 0
  IsWithinOn disk file image longest = IsWithin form.head form.area form.following d.content d.may_leave disk file image longest

  -- what it stands for is found
  pub found_there : (disk : D) (log : Log) (f : Found State) → IsAtOn disk log f → IfSome (d.content disk) (λ there. start_of form.head form.area form.following there ≡ Ok f)
  found_there disk log f at =
      if_told (d.content disk) _ (λ there told. stands (layout_of form.head form.area form.following at.front (ids_of f.state) at.is_head) f.state f.log there (at.settled.at_rest there told))

  module _ (old new : D) where
    pub told_both : (IsSome (d.content new) ↔ IsSome (d.content old)) → IsSome (told_of new) ↔ IsSome (told_of old)
    told_both both = told_as (start_of form.head form.area form.following) (d.content new) (d.content old) both

    -- it has become no longer where a crash leaves no more
    pub still_within : (IsSome (d.content new) ↔ IsSome (d.content old)) → Among (d.may_leave old) (d.may_leave new) → (file image longest : ℕ) → IsWithinOn old file image longest → IsWithinOn new file image longest
    still_within both fewer file image longest within =
        if_told (d.content new) _ (λ there told bytes left.
        let was = some_of (d.content old) (both.0 (is_some_of (d.content new) there told)) in
        at_told (d.content old) _ was.0 was.1 within bytes (fewer bytes left))

    -- where nothing has changed, it stands for the same
    module _ (keeps : KeepsDisk d old new) where
      pub still_at : (log : Log) (f : Found State) → IsAtOn old log f → IsAtOn new log f
      still_at log f at = record {
        is_log = at.is_log;
        version = at.version;
        front = at.front;
        is_head = at.is_head;
        settled = settled_kept (layout_of form.head form.area form.following at.front (ids_of f.state) at.is_head) d.content d.may_leave d.moment d.left_since old new f.state f.log keeps at.settled;
        place = at.place;
        first = at.first;
        begun = at.begun;
        ends = at.ends;
      }

      pub kept_within : (file image longest : ℕ) → IsWithinOn old file image longest → IsWithinOn new file image longest
      kept_within = still_within (subst (λ (o : Option (List ℕ)). IsSome o ↔ IsSome (d.content old)) (sym keeps.content_stays) (λ is. is, λ is. is)) keeps.no_more

      -- a disk that has no log has none
      none_bytes : (s : State) → IsEmpty d.content d.may_leave old → (there : List ℕ) → d.content old ≡ Some there → Among (λ bytes. IsNewOrNone s (start_of form.head form.area form.following bytes)) (d.may_leave old)
      none_bytes s is there told bytes left = inl (ap (start_of form.head form.area form.following) (is.synced there told bytes left ∙ is.empty there told))

      pub none_left : (s : State) → IsEmpty d.content d.may_leave old → IfSome (told_of old) (λ _. Among (IsNewOrNone s) (left_of new))
      none_left s is =
          if_mapped (start_of form.head form.area form.following) (d.content old) _ (λ there told t left.
          subst (IsNewOrNone s) left.2 (none_bytes s is there told left.0 (keeps.no_more left.0 left.1)))

  -- what a call leaves behind one that changed nothing
  pub left_behind : (old mid new : D) → KeepsDisk d old mid → (P : Started State → Type 0)
      → IfSome (d.content mid) (λ _. Among (λ bytes. P (start_of form.head form.area form.following bytes)) (d.may_leave new)) → IfSome (told_of old) (λ _. Among P (left_of new))
  left_behind old mid new keeps P leaves =
      if_mapped (start_of form.head form.area form.following) (d.content old) _ (λ there told.
      finds_each form.head form.area form.following (d.may_leave new) P (at_told (d.content mid) _ there (keeps.content_stays ∙ told) leaves))

-- a start that was refused without a fault, behind its sync
pub read_still : {D O : Type 0} (content : D → Option O) (may_leave : D → O → Type 0) (moment : D → ℕ) (left_since : D → ℕ → O → Type 0) (old new : D) (e : StartRefusal) → (e ≡ NoMemory false → ⊥)
    → ReadsOnly content may_leave old new → StillReads content may_leave moment left_since e old new
read_still content may_leave moment left_since old new DiskFault settled h = tt
read_still content may_leave moment left_since old new (Damaged place) settled h = h
read_still content may_leave moment left_since old new (NoMemory true) settled h = h
read_still content may_leave moment left_since old new (NoMemory false) settled h = absurd (settled refl)

-- but for a fault of the disk, what is read stays
pub still_there : {D O : Type 0} (content : D → Option O) (may_leave : D → O → Type 0) (moment : D → ℕ) (left_since : D → ℕ → O → Type 0) (old new : D) (e : StartRefusal)
    → StillReads content may_leave moment left_since e old new → (e ≡ DiskFault) ⊎ (content new ≡ content old)
still_there content may_leave moment left_since old new DiskFault h = inl refl
still_there content may_leave moment left_since old new (Damaged place) h = inr h.0
still_there content may_leave moment left_since old new (NoMemory true) h = inr h.0
still_there content may_leave moment left_since old new (NoMemory false) h = inr h.content_stays

-- ---- whatever has such a disk

module _ {K D F : Type 0} (d : DiskGhosts D) (form : FormGhosts F) (disk : K → D) (old new : K) where
  abbrev told_by : K → Option (Started State)
  told_by k = told_of d form (disk k)

  abbrev left_by : K → Started State → Type 0
  left_by k = left_of d form (disk k)

  abbrev moment_by : K → ℕ
  moment_by k = d.moment (disk k)

  abbrev since_by : K → ℕ → Started State → Type 0
  since_by k t = Finds form.head form.area form.following (d.left_since (disk k) t)

  pub found_keeps : KeepsDisk d (disk old) (disk new) → Keeps told_by left_by moment_by since_by old new
  found_keeps keeps = kept_same form.head form.area form.following disk d.content d.may_leave d.moment d.left_since old new keeps

  -- a call that leaves what might have been left before
  pub left_before : LeavesOnly d.moment d.left_since (disk old) (disk new) (d.may_leave (disk old)) → LeavesOnly moment_by since_by old new (left_by old)
  left_before h = record {
    later = h.later;
    each = λ f left. (left.0, h.each left.0 left.1, left.2);
    before = λ t f le left. ⊎_elim (λ was. inl (left.0, was, left.2)) (λ is. inr (left.0, is, left.2)) (h.before t left.0 le left.1);
  }

  -- a call that changes nothing of a disk that has no log
  pub none_moments : ((disk : D) (bytes : List ℕ) → d.left_since disk (d.moment disk) bytes → d.may_leave disk bytes) → KeepsDisk d (disk old) (disk new) → (s : State) → IsEmpty d.content d.may_leave (disk old)
      → IfSome (told_by old) (λ _. LeavesOnly moment_by since_by old new (IsNewOrNone s))
  none_moments only_now keeps s is =
      if_mapped (start_of form.head form.area form.following) (d.content (disk old)) _ (λ there told.
      lifted form.head form.area form.following disk d.content d.may_leave d.moment d.left_since old new (IsNewOrNone s)
      (kept_leaves form.head form.area form.following disk d.content d.may_leave d.moment d.left_since old new only_now (λ bytes. IsNewOrNone s (start_of form.head form.area form.following bytes)) (none_bytes d form (disk old) (disk new) keeps s is there told) keeps))

  -- a call behind one that changed nothing
  pub moments_behind : (mid : D) → KeepsDisk d (disk old) mid → (P : Started State → Type 0)
      → IfSome (d.content mid) (λ _. LeavesOnly d.moment d.left_since mid (disk new) (λ bytes. P (start_of form.head form.area form.following bytes))) → IfSome (told_by old) (λ _. LeavesOnly moment_by since_by old new P)
  moments_behind mid keeps P leaves =
      if_mapped (start_of form.head form.area form.following) (d.content (disk old)) _ (λ there told.
      lifted form.head form.area form.following disk d.content d.may_leave d.moment d.left_since old new P
      (after_kept d.content d.may_leave d.moment d.left_since (disk old) mid (disk new) (λ bytes. P (start_of form.head form.area form.following bytes)) keeps (at_told (d.content mid) _ there (keeps.content_stays ∙ told) leaves)))

  -- a call alone
  pub found_moments : (P : Started State → Type 0)
      → IfSome (d.content (disk old)) (λ _. LeavesOnly d.moment d.left_since (disk old) (disk new) (λ bytes. P (start_of form.head form.area form.following bytes))) → IfSome (told_by old) (λ _. LeavesOnly moment_by since_by old new P)
  found_moments = moments_behind (disk old) (same_disk d (disk old))

  -- a start that was refused
  only_found : ReadsOnly d.content d.may_leave (disk old) (disk new) → ReadsOnly told_by left_by old new
  only_found h = (
    ap (option_map (start_of form.head form.area form.following)) h.0,
    if_mapped (start_of form.head form.area form.following) (d.content (disk old)) (λ t. Among (λ left. left ≡ t) (left_by new)) (λ there told t left.
        sym left.2 ∙ ap (start_of form.head form.area form.following) (at_told (d.content (disk old)) (λ there. Among (λ left. left ≡ there) (d.may_leave (disk new))) there told h.1 left.0 left.1)),
  )

  pub still_found : (e : StartRefusal) → StillReads d.content d.may_leave d.moment d.left_since e (disk old) (disk new) → StillReads told_by left_by moment_by since_by e old new
  still_found DiskFault h = tt
  still_found (Damaged place) h = only_found h
  still_found (NoMemory true) h = only_found h
  still_found (NoMemory false) h = found_keeps h

-- which refusal it is, whatever an `Ok` would be
abbrev refusal_of : {T E : Type 0} → E → Result T E → E
refusal_of e (Ok x) = e
refusal_of e (Err refusal) = refusal

pub refused_so : (e x : KeeperRefusal) → IsErrOf {T = Unit {0}} (Err e) x → e ≡ x
refused_so e x is = ap (refusal_of e) is
