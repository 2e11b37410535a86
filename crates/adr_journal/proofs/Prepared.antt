-- What a journal is ready to write, its log takes; and what the journal stands for behind it.
use Rattle.std.proofs.Common.{◌≡◌, ◌⊎◌, inl, inr, ⊎_elim, ℕ, ◌+◌, ◌-◌, ◌≤◌, ◌<◌, ◌^◌, List, [], ◌∷◌, ◌++◌, length, Bool, true, false, Option, Some, refl, sym, ◌∙◌, ap, subst, arith, length-append, if◌then◌else◌}
use Rattle.std.specs.Prelude.{not, nat_le, nat_lt}
use Rattle.std.proofs.lemmas.Bool.{leb-true, ltb-true}
use Rattle.adr_wire.specs.Reading.{Reading}
use Rattle.adr_model.specs.Store.{State}
use Rattle.adr_model.specs.Change.{Change, after}
use Rattle.adr_model.specs.Lengths.{Log, log_limit, area_version, length_limit, first_area, checkpointed, change_length, image_length, is_due, log_after, log_before, next_log}
use Rattle.adr_law_journal.specs.Log.{Following}
use Rattle.adr_law_journal.specs.Areas.{Began, Found, slot_place, IsFree, TellsArea, other_log}
use Rattle.adr_law_journal.specs.Kept.{Layout, IsSettled, Stages}
use Rattle.adr_law_journal.specs.Recording.{log_behind}
use Rattle.adr_journal.specs.Ended.{found_after}
use Rattle.adr_journal.specs.Kept.{Ids, ids_of, layout_of, IsAt, IsPrepared}
use Rattle.adr_journal.specs.Written.{IsBefore, TakesBoth}
use Rattle.adr_journal.proofs.Fitting.{fits_parts, log_due, log_undue, version_is}
use Rattle.adr_journal.proofs.Found.{record_length}

-- where a new area of so many bytes stands
abbrev place_of : Log → ℕ → ℕ
place_of log n = if nat_le (first_area + 7 + n) log.place then first_area else log.log_end

free_there : (log : Log) (n : ℕ) (before : Bool) → nat_le (first_area + 7 + n) log.place ≡ before → IsFree log (if before then first_area else log.log_end) (7 + n)
free_there log n true is = inr (omega arith, omega (arith, leb-true (first_area + 7 + n) log.place is))
free_there log n false is = inl refl

place_is : (log : Log) (before : Bool) → ((if before then first_area else log.log_end) ≡ first_area) ⊎ ((if before then first_area else log.log_end) ≡ log.log_end)
place_is log true = inl refl
place_is log false = inr refl

other_is : (log : Log) (place n m : ℕ) → m ≡ 6 + n → record { second = not log.second; place = place; version = area_version; first = place + 6 + n; log_end = place + 7 + n } ≡ other_log log place area_version m
other_is log place n m is =
    let first : place + 6 + n ≡ place + m = omega (arith, is) in
    let end : place + 7 + n ≡ place + m + 1 = omega (arith, is) in
    (λ i. let log : Log = record { second = not log.second; place = place; version = area_version; first = first i; log_end = end i } in log)

-- what is known of a log that a journal has
pub record IsLow (log : Log) : Type 0 where
  pub version : log.version ≤ area_version
  pub place : first_area ≤ log.place
  pub first : log.first < 2 ^ 63
  pub begun : log.place < log.log_end
  pub ends : log.log_end < 2 ^ 63

-- what a journal is ready for: it stands for this, what is written is prepared, and its form has these laws
pub record IsReadyFor {D : Type 0} (head : Reading Ids) (area : Ids → Reading (Began State)) (following : ℕ → Following State) (content : D → Option (List ℕ)) (may_leave : D → List ℕ → Type 0) (spare_calls spare_bytes : D → ℕ) (disk : D) (log next : Log) (new_area written image body : List ℕ) (f : Found State) (c : Change) : Type 0 where
  pub at : IsAt head area following content may_leave disk log f
  pub prepared : IsPrepared spare_calls spare_bytes disk log next new_area written image body f.state c
  pub follows : following area_version f.state body ≡ Some (after f.state c)
  pub long : length body ≡ change_length c
  pub tells : image_length f.state.store < length_limit → (place : ℕ) → TellsArea (area (ids_of f.state)) place image area_version f.state
  pub area_long : image_length f.state.store < length_limit → length image ≡ 6 + image_length f.state.store

-- by the same bytes
pub ready : {D : Type 0} {head : Reading Ids} {area : Ids → Reading (Began State)} {following : ℕ → Following State} {content : D → Option (List ℕ)} {may_leave : D → List ℕ → Type 0} {spare_calls spare_bytes : D → ℕ} {disk : D} {log next : Log} {new_area areas written bytes image body : List ℕ} {f : Found State} {c : Change}
    → IsAt head area following content may_leave disk log f → IsPrepared spare_calls spare_bytes disk log next areas bytes image body f.state c → new_area ≡ areas → written ≡ bytes
    → following area_version f.state body ≡ Some (after f.state c) → length body ≡ change_length c
    → (image_length f.state.store < length_limit → (place : ℕ) → TellsArea (area (ids_of f.state)) place image area_version f.state) → (image_length f.state.store < length_limit → length image ≡ 6 + image_length f.state.store)
    → IsReadyFor head area following content may_leave spare_calls spare_bytes disk log next new_area written image body f c
ready {spare_calls = spare_calls} {spare_bytes = spare_bytes} {disk = disk} {log = log} {next = next} {new_area = new_area} {bytes = bytes} {image = image} {body = body} {f = f} {c = c} at prepared areas_are bytes_are follows long tells area_long = record {
  at = at;
  prepared = subst (λ (w : List ℕ). IsPrepared spare_calls spare_bytes disk log next new_area w image body f.state c) (sym bytes_are) (subst (λ (a : List ℕ). IsPrepared spare_calls spare_bytes disk log next a bytes image body f.state c) (sym areas_are) prepared);
  follows = follows;
  long = long;
  tells = tells;
  area_long = area_long;
}

low_of : {D : Type 0} {head : Reading Ids} {area : Ids → Reading (Began State)} {following : ℕ → Following State} {content : D → Option (List ℕ)} {may_leave : D → List ℕ → Type 0} {disk : D} {log : Log} {f : Found State}
    → IsAt head area following content may_leave disk log f → IsLow log
low_of at = record { version = at.version; place = at.place; first = at.first; begun = at.begun; ends = at.ends }

module _ {D : Type 0} {head : Reading Ids} {area : Ids → Reading (Began State)} {following : ℕ → Following State} {content : D → Option (List ℕ)} {may_leave : D → List ℕ → Type 0} {spare_calls spare_bytes : D → ℕ} {disk : D} {log next : Log} {new_area written image body : List ℕ} {f : Found State} {c : Change}
    (r : IsReadyFor head area following content may_leave spare_calls spare_bytes disk log next new_area written image body f c) where
  abbrev pub layout : Layout Ids State
  layout = layout_of head area following r.at.front (ids_of f.state) r.at.is_head

  -- the log that the record goes to
  abbrev pub mid : Log
  mid = log_before log f.state.store c

  abbrev other : Log
  other = checkpointed log f.state.store

  settled : IsSettled layout content may_leave disk f.state log
  settled = subst (λ (l : Log). IsSettled layout content may_leave disk f.state l) r.at.is_log r.at.settled

  parts : (nat_le (next_log log f.state.store c).log_end log_limit ≡ true) × (nat_lt (change_length c) length_limit ≡ true) × (is_due log c ≡ true → nat_lt (image_length f.state.store) length_limit ≡ true)
  parts = fits_parts (nat_le (next_log log f.state.store c).log_end log_limit) (nat_lt (change_length c) length_limit) (is_due log c) (nat_lt (image_length f.state.store) length_limit) r.prepared.fits

  ends_low : next.log_end ≤ log_limit
  ends_low = omega (arith, ap (λ (l : Log). l.log_end) r.prepared.leads, leb-true (next_log log f.state.store c).log_end log_limit parts.0)

  short_change : change_length c < length_limit
  short_change = ltb-true (change_length c) length_limit parts.1

  short_image : is_due log c ≡ true → image_length f.state.store < length_limit
  short_image due = ltb-true (image_length f.state.store) length_limit (parts.2 due)

  next_end : next.log_end ≡ mid.log_end + 5 + change_length c
  next_end = ap (λ (l : Log). l.log_end) r.prepared.leads

  written_long : length written ≡ 5 + length body
  written_long = ap length r.prepared.is ∙ record_length body

  is_mid : is_due log c ≡ true → mid ≡ other
  is_mid due = log_due (is_due log c) log other due

  still : is_due log c ≡ false → mid ≡ log
  still undue = log_undue (is_due log c) log other undue

  -- what is known of it
  mid_low : IsLow mid × (mid.version ≡ area_version)
  mid_low = ⊎_elim
      (λ undue.
      let is = still undue.0 in
      let version = version_is log c undue.0 r.at.version in
      subst (λ (l : Log). IsLow l × (l.version ≡ area_version)) (sym is) (low_of r.at, version))
      (λ due.
      let is = is_mid due.0 in
      let place = place_is log (nat_le (first_area + 7 + image_length f.state.store) log.place) in
      let near : other.log_end ≤ log_limit = omega (arith, ends_low, next_end, ap (λ (l : Log). l.log_end) is) in
      let far : first_area ≤ other.place = ⊎_elim (λ first. omega (arith, first)) (λ last. omega (arith, last, r.at.place, r.at.begun)) place in
      subst (λ (l : Log). IsLow l × (l.version ≡ area_version)) (sym is)
      (record { version = omega arith; place = far; first = omega (arith, near); begun = omega arith; ends = omega (arith, near) }, refl))
      r.prepared.before

  stages : is_due log c ≡ true → new_area ≡ image ++ 0 ∷ [] → Stages layout content may_leave disk next.place new_area (slot_place next.second) f.state log mid × (next.second ≡ mid.second)
  stages due is =
      let place : next.place ≡ other.place = ap (λ (l : Log). l.place) (r.prepared.leads ∙ ap (λ (l : Log). log_after l c) (is_mid due)) in
      let second : next.second ≡ other.second = ap (λ (l : Log). l.second) (r.prepared.leads ∙ ap (λ (l : Log). log_after l c) (is_mid due)) in
      let long_image = r.area_long (short_image due) in
      let free = free_there log (image_length f.state.store) (nat_le (first_area + 7 + image_length f.state.store) log.place) refl in (
        record {
          settled = settled;
          version = area_version;
          image = image;
          is = is;
          tells = r.tells (short_image due) next.place;
          free = subst (λ (p : ℕ). IsFree log p (length image + 1)) (sym place) (subst (λ (m : ℕ). IsFree log other.place m) (omega (arith, long_image)) free);
          slot_is = ap slot_place second;
          becomes = is_mid due ∙ other_is log other.place (image_length f.state.store) (length image) long_image ∙ ap (λ (p : ℕ). other_log log p area_version (length image)) (sym place);
          fits = ⊎_elim (λ first. omega (arith, first, place)) (λ last. omega (arith, last, place, r.at.ends)) (place_is log (nat_le (first_area + 7 + image_length f.state.store) log.place));
        },
        second ∙ ap (λ (l : Log). l.second) (sym (is_mid due)),
      )

  before : IsBefore layout content may_leave disk new_area next f.state log mid
  before = ⊎_elim
      (λ undue. inl (undue.1, still undue.0))
      (λ due. inr ((λ none. let some : 1 ≤ length new_area = omega (arith, ap length due.1, length-append image (0 ∷ [])) in absurd (omega (arith, some, ap length none))), (stages due.0 due.1).0, (stages due.0 due.1).1)) r.prepared.before

  pub record_within : length written < next.log_end
  record_within = omega (arith, written_long, r.long, next_end, mid_low.0.begun)

  pub near_end : next.log_end < 2 ^ 63
  near_end = omega (arith, ends_low)

  pub takes_both : TakesBoth layout content may_leave disk new_area next (next.log_end - length written) written f.state (after f.state c) log mid body
  takes_both = record {
    settled = settled;
    before = before;
    ends = omega (arith, next_end, written_long, r.long);
    follows = subst (λ (v : ℕ). following v f.state body ≡ Some (after f.state c)) (sym mid_low.1) r.follows;
    is = r.prepared.is;
    fits = omega (arith, r.long, short_change);
  }

  pub behind_is : log_behind mid body ≡ next
  behind_is = (let end : mid.log_end + 5 + length body ≡ mid.log_end + 5 + change_length c = omega (arith, r.long) in ap (λ (e : ℕ). record mid { log_end = e }) end) ∙ sym r.prepared.leads

  -- the area ends before the record does
  pub area_within : (new_area ≡ []) ⊎ (next.place + length new_area ≤ next.log_end)
  area_within = ⊎_elim
      (λ undue. inl undue.1)
      (λ due.
      let place : next.place ≡ other.place = ap (λ (l : Log). l.place) (r.prepared.leads ∙ ap (λ (l : Log). log_after l c) (is_mid due.0)) in
      let near : next.place + length new_area ≤ next.log_end = omega (arith, place, ap length due.1, length-append image (0 ∷ []), r.area_long (short_image due.0), next_end, ap (λ (l : Log). l.log_end) (is_mid due.0)) in
      inr near)
      r.prepared.before

  -- behind it
  pub next_at : (new : D) → IsSettled layout content may_leave new (after f.state c) (log_behind mid body) → IsAt head area following content may_leave new next (found_after f c)
  next_at new settled =
      let found_log : next_log f.log f.state.store c ≡ next = ap (λ (l : Log). next_log l f.state.store c) r.at.is_log ∙ sym r.prepared.leads in
      let low = mid_low.0 in
      record {
        is_log = found_log;
        version = omega (arith, ap (λ (l : Log). l.version) r.prepared.leads, low.version);
        front = r.at.front;
        is_head = r.at.is_head;
        settled = subst (λ (l : Log). IsSettled layout content may_leave new (after f.state c) l) (behind_is ∙ sym found_log) settled;
        place = omega (arith, ap (λ (l : Log). l.place) r.prepared.leads, low.place);
        first = omega (arith, ap (λ (l : Log). l.first) r.prepared.leads, low.first);
        begun = omega (arith, ap (λ (l : Log). l.place) r.prepared.leads, low.begun, next_end);
        ends = near_end;
      }
