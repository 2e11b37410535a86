-- What is found once what is held is written.
use Rattle.std.proofs.Common.{◌≡◌, inl, inr, ⊎_elim, ℕ, ◌+◌, List, [], length, Option, Some, None, IfSome, refl, sym, ◌∙◌, ap, subst, arith}
use Rattle.std.specs.Prelude.{◌↔◌, IsSome, true, false}
use Rattle.std.specs.Option.{option_map}
use Rattle.adr_disk.specs.Disk.{Among, Keeps, LeavesOnly}
use Rattle.adr_disk.specs.declared.disk.Disk.{Ghosts as DiskGhosts}
use Rattle.adr_model.specs.Store.{State}
use Rattle.adr_model.specs.Lengths.{Log}
use Rattle.adr_law_journal.specs.Areas.{Found, Started, start_of, IsHead}
use Rattle.adr_law_journal.specs.Kept.{Finds, IsSettled, Layout}
use Rattle.adr_law_journal.proofs.Lifts.{finds_each, kept_same, settled_kept}
use Rattle.adr_law_journal.proofs.Told.{if_told, at_told, if_mapped}
use Rattle.adr_law_journal.proofs.Settled.{stands}
use Rattle.adr_journal.specs.Written.{IsEitherLog}
use Rattle.adr_journal.specs.Ended.{IsDamageOf, ReadsOnly, StillReads}
use Rattle.adr_journal.specs.Kept.{Ids, ids_of, layout_of, IsAt}
use Rattle.adr_journal.specs.declared.form.Form.{Ghosts as FormGhosts}
use Rattle.adr_journal.specs.declared.keeper.StartRefusal.{StartRefusal}
use Rattle.adr_journal.specs.declared.keeper.StartRefusal.TheVariants.{DiskFault, Damaged, NoMemory}
use Rattle.adr_journal.proofs.Found.{KeepsDisk, told_as}
use Rattle.adr_gather.specs.Held.{once_written, with_held}
use Rattle.adr_gather.specs.Gathered.{Gathered, IsBeforeOr, IsGathered, content_of, images_of, gathered}
use Rattle.adr_gather.proofs.Viewing.{images_fewer, is_same, settled_holds, told_with}

-- the outcomes of a keeper whose moments aren't told apart
pub now_leaves : {K O : Type 0} (left : K → O → Type 0) (old new : K) (P : O → Type 0) → Among P (left new) → LeavesOnly (λ (k : K). 0) (λ (k : K) (t : ℕ). left k) old new P
now_leaves left old new P h = record { later = omega arith; each = λ x is. h x is; before = λ t x le is. inr (h x is) }

pub told_leaves : {K O A : Type 0} (left : K → O → Type 0) (old new : K) (o : Option A) (P : O → Type 0) → IfSome o (λ _. Among P (left new)) → IfSome o (λ _. LeavesOnly (λ (k : K). 0) (λ (k : K) (t : ℕ). left k) old new P)
told_leaves left old new o P h = if_told o _ (λ there told. now_leaves left old new P (at_told o _ there told h))

module _ {D : Type 0} (d : DiskGhosts D) where
  abbrev pub View : Type 0
  View = Gathered D

  abbrev pub content : View → Option (List ℕ)
  content = content_of d.content

  abbrev pub images : View → List ℕ → Type 0
  images = images_of d.content d.may_leave

  abbrev pub KeepsView : View → View → Type 0
  KeepsView old new = Keeps content images (λ (g : View). 0) (λ (g : View) (t : ℕ). images g) old new

  -- a disk that is as it was, with the same bytes held
  pub kept_view : (old new : D) (gate : ℕ) (held more : List ℕ) → more ≡ held → KeepsDisk d old new → KeepsView (gathered old gate held) (gathered new gate more)
  kept_view old new gate held more same keeps =
      let both : IsSome (d.content new) ↔ IsSome (d.content old) = is_same (d.content old) (d.content new) keeps.content_stays in
      let there : IsSome (d.content old) ↔ IsSome (d.content new) = is_same (d.content new) (d.content old) (sym keeps.content_stays) in
      let fewer : Among (images (gathered old gate held)) (images (gathered new gate held)) = images_fewer d.content d.may_leave old new gate held both keeps.no_more in
      let more_left : Among (images (gathered new gate held)) (images (gathered old gate held)) = images_fewer d.content d.may_leave new old gate held there keeps.no_fewer in
      let by : KeepsView (gathered old gate held) (gathered new gate held) = record {
        content_stays = ap (λ (o : Option (List ℕ)). once_written o gate held) keeps.content_stays;
        no_more = fewer;
        no_fewer = more_left;
        moment_stays = refl;
        past_stays = λ t. fewer;
        past_kept = λ t. more_left;
      } in
      subst (λ (h : List ℕ). KeepsView (gathered old gate held) (gathered new gate h)) (sym same) by

  module _ {F : Type 0} (form : FormGhosts F) where
    abbrev pub told_of : View → Option (Started State)
    told_of g = option_map (start_of form.head form.area form.following) (content g)

    abbrev pub left_of : View → Started State → Type 0
    left_of g = Finds form.head form.area form.following (images g)

    abbrev pub IsOn : View → Log → Found State → Type 0
    IsOn g log f = IsGathered form.head form.area form.following d.content d.may_leave g log f

    pub told_both : (old new : View) → (IsSome (d.content new.disk) ↔ IsSome (d.content old.disk)) → IsSome (told_of new) ↔ IsSome (told_of old)
    told_both old new both = told_as (start_of form.head form.area form.following) (content new) (content old) (told_with d.content d.may_leave old new both)

    -- what each outcome has, what is found has
    pub found_left : (g : View) (o : Option (List ℕ)) (P : Started State → Type 0) → IfSome o (λ _. Among (λ bytes. P (start_of form.head form.area form.following bytes)) (images g)) → IfSome o (λ _. Among P (left_of g))
    found_left g o P h = if_told o _ (λ there told. finds_each form.head form.area form.following (images g) P (at_told o _ there told h))

    if_held : (old : View) (P : Type 0) (there : List ℕ) (o : Option (List ℕ)) → option_map (with_held old.gate old.held) o ≡ Some there → IfSome o (λ _. P) → P
    if_held old P there None told h = absurd (cc told)
    if_held old P there (Some x) told h = h

    pub told_left : (old : View) (P : Type 0) → IfSome (d.content old.disk) (λ _. P) → IfSome (told_of old) (λ _. P)
    told_left old P h = if_mapped (start_of form.head form.area form.following) (content old) (λ _. P) (λ there told. if_held old P there (d.content old.disk) told h)

    pub fewer_left : (old new : View) → Among (images old) (images new) → Among (left_of old) (left_of new)
    fewer_left old new fewer t left = (left.0, fewer left.0 left.1, left.2)

    -- it stands for the same
    pub still_on : (old new : D) (gate : ℕ) (held more : List ℕ) → more ≡ held → KeepsDisk d old new → (log : Log) (f : Found State) → IsOn (gathered old gate held) log f → IsOn (gathered new gate more) log f
    still_on old new gate held more same keeps log f is =
        let at = is.at in
        let l = layout_of form.head form.area form.following at.front (ids_of f.state) at.is_head in
        let view = kept_view old new gate held more same keeps in
        let whole = settled_kept l content images (λ (g : View). 0) (λ (g : View) (t : ℕ). images g) (gathered old gate held) (gathered new gate more) f.state f.log view at.settled in
        record {
          at = record {
            is_log = at.is_log;
            version = at.version;
            front = at.front;
            is_head = at.is_head;
            settled = whole;
            place = at.place;
            first = at.first;
            begun = at.begun;
            ends = at.ends;
          };
          holds = record {
            whole = whole;
            ends = omega (arith, is.holds.ends, ap length same);
            base = is.holds.base;
            settled = settled_kept l d.content d.may_leave d.moment d.left_since old new is.holds.base.state is.holds.base.log keeps is.holds.settled;
            base_ends = is.holds.base_ends;
          };
        }

-- ---- whatever has such a disk

module _ {K D F : Type 0} (d : DiskGhosts D) (form : FormGhosts F) (view : K → Gathered D) (old new : K) where
  abbrev told_by : K → Option (Started State)
  told_by k = told_of d form (view k)

  abbrev left_by : K → Started State → Type 0
  left_by k = left_of d form (view k)

  pub keeps_found : KeepsView d (view old) (view new) → Keeps told_by left_by (λ (k : K). 0) (λ (k : K) (t : ℕ). left_by k) old new
  keeps_found keeps = kept_same form.head form.area form.following view (content d) (images d) (λ (g : Gathered D). 0) (λ (g : Gathered D) (t : ℕ). images d g) old new keeps

  -- a start that was refused
  only_found : ReadsOnly (content d) (images d) (view old) (view new) → ReadsOnly told_by left_by old new
  only_found h = (
    ap (option_map (start_of form.head form.area form.following)) h.0,
    if_mapped (start_of form.head form.area form.following) (content d (view old)) (λ t. Among (λ left. left ≡ t) (left_by new)) (λ there told t left.
        sym left.2 ∙ ap (start_of form.head form.area form.following) (at_told (content d (view old)) (λ there. Among (λ left. left ≡ there) (images d (view new))) there told h.1 left.0 left.1)),
  )

  pub still_by : (e : StartRefusal) → StillReads (content d) (images d) (λ (g : Gathered D). 0) (λ (g : Gathered D) (t : ℕ). images d g) e (view old) (view new)
      → StillReads told_by left_by (λ (k : K). 0) (λ (k : K) (t : ℕ). left_by k) e old new
  still_by DiskFault h = tt
  still_by (Damaged place) h = only_found h
  still_by (NoMemory true) h = only_found h
  still_by (NoMemory false) h = keeps_found h

-- ---- what is settled

module _ {D F : Type 0} (d : DiskGhosts D) (form : FormGhosts F) where
  abbrev pub under_head : (f : Found State) (front : List ℕ) → IsHead form.head front (ids_of f.state) → Layout Ids State
  under_head f front is_head = layout_of form.head form.area form.following front (ids_of f.state) is_head

  -- with nothing held, it stands for the same by its disk
  pub settled_on : (g h : Gathered D) (log : Log) (f : Found State) (is : IsOn d form g log f) → h.held ≡ [] → h.gate + 1 ≡ log.log_end → IsSettled (under_head f is.at.front is.at.is_head) d.content d.may_leave h.disk f.state f.log → IsOn d form h log f
  settled_on g h log f is none ends settled =
      let at = is.at in
      let holds = settled_holds d.content d.may_leave (under_head f at.front at.is_head) h f.state f.log none (omega (arith, ends, ap (λ (l : Log). l.log_end) at.is_log)) settled in
      record {
        at = record {
          is_log = at.is_log;
          version = at.version;
          front = at.front;
          is_head = at.is_head;
          settled = holds.whole;
          place = at.place;
          first = at.first;
          begun = at.begun;
          ends = at.ends;
        };
        holds = holds;
      }

  pub disk_at : (g : Gathered D) (log : Log) (f : Found State) (is : IsOn d form g log f) (new : D) → IsSettled (under_head f is.at.front is.at.is_head) d.content d.may_leave new f.state f.log → IsAt form.head form.area form.following d.content d.may_leave new f.log f
  disk_at g log f is new settled =
      let at = is.at in
      record {
        is_log = refl;
        version = omega (arith, at.version, ap (λ (l : Log). l.version) at.is_log);
        front = at.front;
        is_head = at.is_head;
        settled = settled;
        place = omega (arith, at.place, ap (λ (l : Log). l.place) at.is_log);
        first = omega (arith, at.first, ap (λ (l : Log). l.first) at.is_log);
        begun = omega (arith, at.begun, ap (λ (l : Log). l.place) at.is_log, ap (λ (l : Log). l.log_end) at.is_log);
        ends = omega (arith, at.ends, ap (λ (l : Log). l.log_end) at.is_log);
      }

  -- none of what is held, or all
  pub before_or : (g : Gathered D) (log : Log) (f : Found State) (is : IsOn d form g log f) (there : List ℕ) → d.content g.disk ≡ Some there → (bytes : List ℕ)
      → IsEitherLog is.holds.base.state is.holds.base.log f.state f.log (start_of form.head form.area form.following bytes) → IsBeforeOr (start_of form.head form.area form.following) f there bytes
  before_or g log f is there told bytes either = ⊎_elim
      (λ was. inl (was ∙ sym (stands (under_head f is.at.front is.at.is_head) is.holds.base.state is.holds.base.log there (is.holds.settled.at_rest there told))))
      (λ all. inr all) either

  -- what is damaged there is damaged in what was read
  pub damage_so : (e : StartRefusal) (o : Option (List ℕ)) (bytes : List ℕ) → IfSome o (λ there. bytes ≡ there) → IsDamageOf e (Some (start_of form.head form.area form.following bytes)) → IsDamageOf e (option_map (start_of form.head form.area form.following) o)
  damage_so DiskFault o bytes is h = tt
  damage_so (Damaged place) o bytes is h = if_mapped (start_of form.head form.area form.following) o _ (λ there told. sym (ap (start_of form.head form.area form.following) (at_told o (λ there. bytes ≡ there) there told is)) ∙ h)
  damage_so (NoMemory settled) o bytes is h = tt
