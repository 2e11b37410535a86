-- How long a commit and a format let a disk become.
use Rattle.std.proofs.Common.{◌≡◌, ◌⊎◌, inl, inr, ⊎_elim, ℕ, ◌+◌, ◌≤◌, ◌<◌, List, length, Bool, true, false, Option, Ok, Err, IfSome, IsSome, refl, sym, ◌∙◌, ap, subst, arith, if◌then◌else◌}
use Rattle.std.specs.Prelude.{◌↔◌, ◌&&◌, ◌||◌, max, nat_le, nat_lt}
use Rattle.std.proofs.lemmas.Bool.{leb-true, leb-false, ltb-false}
use Rattle.adr_disk.specs.Disk.{Among}
use Rattle.adr_wire.specs.Reading.{Reading}
use Rattle.adr_model.specs.Store.{State}
use Rattle.adr_model.specs.Change.{Change}
use Rattle.adr_model.specs.Lengths.{Log, new_log, area_version, first_area, checkpointed, change_length, image_bytes, image_length, record_bytes, is_due, log_before, next_log}
use Rattle.adr_law_journal.specs.Log.{Following}
use Rattle.adr_law_journal.specs.Areas.{Began, Found, found, Started, start_of}
use Rattle.adr_law_journal.specs.Bound.{IsBounded, IsPlaced, IsUndue}
use Rattle.adr_law_journal.proofs.Bounds.{records_stay, areas_stay, files_stay}
use Rattle.adr_law_journal.proofs.Settled.{stands}
use Rattle.adr_law_journal.proofs.Told.{if_told, at_told, some_of, is_some_of}
use Rattle.adr_journal.specs.Kept.{Ids, ids_of, layout_of, IsAt, IsWithin}
use Rattle.adr_journal.specs.Written.{AreNoLonger, IsNone, IsOneOfThree}

wider : (file image longest more longer : ℕ) (l : Log) → image ≤ more → longest ≤ longer → IsBounded file image longest l → IsBounded file more longer l
wider file image longest more longer l wide long is = record {
  starts = is.starts;
  ends = is.ends;
  images = omega (arith, is.images, wide);
  area = ⊎_elim (λ within. inl within) (λ short. inr (omega (arith, short, wide, long))) is.area;
  low = omega (arith, is.low, wide, long);
}

placed : (l : Log) (n : ℕ) (before : Bool) → nat_le (first_area + 7 + n) l.place ≡ before → IsPlaced l n (if before then first_area else l.log_end)
placed l n true is = inl (refl, leb-true (first_area + 7 + n) l.place is)
placed l n false is = inr (refl, leb-false (first_area + 7 + n) l.place is)

none_or_few : (a b late : Bool) → ((a && b) || late) ≡ false → (a ≡ false) ⊎ (b ≡ false)
none_or_few true true late is = absurd (cc is)
none_or_few true false late is = inr refl
none_or_few false b late is = inl refl

undue_is : (l : Log) (c : Change) → is_due l c ≡ false → IsUndue l (5 + change_length c)
undue_is l c undue = ⊎_elim
    (λ none. let no : record_bytes l ≡ 0 = omega (arith, ltb-false 0 (record_bytes l) none) in inl no)
    (λ few. let n : record_bytes l + (5 + change_length c) ≤ image_bytes l + 65536 = omega (arith, ltb-false (image_bytes l + 65536) (record_bytes l + 5 + change_length c) few) in inr n)
    (none_or_few (nat_lt 0 (record_bytes l)) (nat_lt (image_bytes l + 65536) (record_bytes l + 5 + change_length c)) (nat_lt l.version area_version) undue)

module _ (file image longest : ℕ) (l : Log) (s : State) (c : Change) (is : IsBounded file image longest l) where
  n : ℕ
  n = image_length s.store

  abbrev pub more : ℕ
  more = max image (if is_due l c then image_length s.store else 0)

  abbrev pub longer : ℕ
  longer = max longest (5 + change_length c)

  -- the log that the record goes to
  mid_bounded : (due : Bool) → is_due l c ≡ due → IsBounded file (max image (if due then image_length s.store else 0)) longest (if due then checkpointed l s.store else l) × IsUndue (if due then checkpointed l s.store else l) (5 + change_length c)
  mid_bounded true is_it =
      let no : record_bytes (checkpointed l s.store) ≡ 0 = omega arith in
      (areas_stay file image longest (image_length s.store) (checkpointed l s.store).place l (checkpointed l s.store) is (placed l (image_length s.store) (nat_le (first_area + 7 + image_length s.store) l.place) refl) refl refl refl, inl no)
  mid_bounded false is_it = (wider file image longest (max image 0) longest l (omega arith) (omega arith) is, undue_is l c is_it)

  pub before_bounded : IsBounded file more longer (log_before l s.store c)
  before_bounded = wider file more longest more longer (log_before l s.store c) (omega arith) (omega arith) (mid_bounded (is_due l c) refl).0

  pub next_bounded : IsBounded file more longer (next_log l s.store c)
  next_bounded =
      let mid = log_before l s.store c in
      let both = mid_bounded (is_due l c) refl in
      let end : mid.log_end + (5 + change_length c) ≡ mid.log_end + 5 + change_length c = omega arith in
      subst (λ (e : ℕ). IsBounded file more longer (record mid { log_end = e })) end (records_stay file more longest (5 + change_length c) mid both.0 both.1)

  pub still_bounded : IsBounded file more longer l
  still_bounded = wider file image longest more longer l (omega arith) (omega arith) is

same_log : {s : State} (l : Log) (t : Started State) (f : Found State) → t ≡ Ok (found s l) → t ≡ Ok f → l ≡ f.log
same_log {s} l t f is was = ap (λ (t : Started State). by t) (sym is ∙ was)
  where
    by : Started State → Log
    by (Ok f) = f.log
    by (Err place) = l

same_found : (f g : Found State) → (let x : Started State = Ok f in x) ≡ Ok g → f ≡ g
same_found f g is = ap (λ (t : Started State). by t) is
  where
    by : Started State → Found State
    by (Ok h) = h
    by (Err place) = f

new_bounded : (s : State) → IsBounded 0 (image_length s.store) 0 (new_log s)
new_bounded s = record { starts = omega arith; ends = omega arith; images = omega arith; area = inr (omega arith); low = omega arith }

module _ {D : Type 0} (head : Reading Ids) (area : Ids → Reading (Began State)) (following : ℕ → Following State) (content : D → Option (List ℕ)) (may_leave : D → List ℕ → Type 0) (old new : D) (both : IsSome (content new) ↔ IsSome (content old)) where
  -- a commit
  pub commit_within : (file image longest : ℕ) (l : Log) (s t : State) (c : Change) → IfSome (content old) (λ there. start_of head area following there ≡ Ok (found s l)) → IfSome (content old) (may_leave old)
      → AreNoLonger (content old) (may_leave new) (next_log l s.store c).log_end
      → IfSome (content old) (λ _. Among (λ bytes. IsOneOfThree s l (log_before l s.store c) t (next_log l s.store c) (start_of head area following bytes)) (may_leave new))
      → IsWithin head area following content may_leave old file image longest
      → IsWithin head area following content may_leave new file (max image (if is_due l c then image_length s.store else 0)) (max longest (5 + change_length c))
  commit_within file image longest l s t c finds honest no_longer left within =
      if_told (content new) _ (λ x told.
      let was = some_of (content old) (both.0 (is_some_of (content new) x told)) in
      let there = at_told (content old) _ was.0 was.1 within was.0 (at_told (content old) _ was.0 was.1 honest) in
      let is : IsBounded file image longest l = there.1 (found s l) (at_told (content old) _ was.0 was.1 finds) in
      let far = files_stay file (more file image longest l s c is) (longer file image longest l s c is) (next_log l s.store c) (next_bounded file image longest l s c is) in
      λ bytes may.
      let long = at_told (content old) _ was.0 was.1 no_longer bytes may in (
        omega (arith, there.0, far, long),
        (λ f found_it. elim (at_told (content old) _ was.0 was.1 left bytes may) [
          | inl (inl at) ↦ subst (λ (m : Log). IsBounded file (max image (if is_due l c then image_length s.store else 0)) (max longest (5 + change_length c)) m) (same_log l _ f at found_it) (still_bounded file image longest l s c is)
          | inl (inr at) ↦ subst (λ (m : Log). IsBounded file (max image (if is_due l c then image_length s.store else 0)) (max longest (5 + change_length c)) m) (same_log (log_before l s.store c) _ f at found_it) (before_bounded file image longest l s c is)
          | inr at ↦ subst (λ (m : Log). IsBounded file (max image (if is_due l c then image_length s.store else 0)) (max longest (5 + change_length c)) m) (same_log (next_log l s.store c) _ f at found_it) (next_bounded file image longest l s c is)
        ]),
      ))

  -- a format
  pub format_within : (s : State) → IfSome (content old) (λ there. length there ≡ 0) → AreNoLonger (content old) (may_leave new) (new_log s).log_end
      → IfSome (content old) (λ _. Among (λ bytes. IsNone s (new_log s) (start_of head area following bytes)) (may_leave new))
      → IsWithin head area following content may_leave new 0 (image_length s.store) 0
  format_within s empty no_longer left =
      if_told (content new) _ (λ x told.
      let was = some_of (content old) (both.0 (is_some_of (content new) x told)) in
      let none = at_told (content old) _ was.0 was.1 empty in
      λ bytes may.
      let long = at_told (content old) _ was.0 was.1 no_longer bytes may in (
        omega (arith, none, long),
        (λ f found_it. elim (at_told (content old) _ was.0 was.1 left bytes may) [
          | inl damaged ↦ absurd (cc (sym damaged ∙ found_it))
          | inr at ↦ subst (λ (m : Log). IsBounded 0 (image_length s.store) 0 m) (same_log (new_log s) _ f at found_it) (new_bounded s)
        ]),
      ))

-- a start
found_bounded : (file : ℕ) (l : Log) → l.place + 6 ≤ l.first → l.first < l.log_end → l.log_end ≤ file → IsBounded file (image_bytes l) 0 l
found_bounded file l apart first ends = record {
  starts = apart;
  ends = omega (arith, first);
  images = omega arith;
  area = inl ends;
  low = omega (arith, apart, first, ends);
}

pub found_within : {D : Type 0} (head : Reading Ids) (area : Ids → Reading (Began State)) (following : ℕ → Following State) (content : D → Option (List ℕ)) (may_leave : D → List ℕ → Type 0) (disk : D) (log : Log) (f : Found State)
    → IsAt head area following content may_leave disk log f → f.log.place + 6 ≤ f.log.first → f.log.first < f.log.log_end → IfSome (content disk) (λ there. f.log.log_end ≤ length there)
    → IfSome (content disk) (λ there. IsWithin head area following content may_leave disk (length there) (image_bytes f.log) 0)
found_within head area following content may_leave disk log f at apart first ends =
    if_told (content disk) (λ there. IsWithin head area following content may_leave disk (length there) (image_bytes f.log) 0) (λ there told.
    if_told (content disk) _ (λ other known bytes left.
    let is : bytes ≡ there = at.settled.synced there told bytes left in
    let finds = stands (layout_of head area following at.front (ids_of f.state) at.is_head) f.state f.log there (at.settled.at_rest there told) in
    let bounded = found_bounded (length there) f.log apart first (at_told (content disk) (λ there. f.log.log_end ≤ length there) there told ends) in (
      omega (arith, ap length is),
      λ g found_it. subst (λ (h : Found State). IsBounded (length there) (image_bytes f.log) 0 h.log) (same_found f g (sym finds ∙ ap (start_of head area following) (sym is) ∙ found_it)) bounded,
    )))
