-- What a commit makes of what is held.
use Rattle.std.proofs.Common.{◌≡◌, ◌⊎◌, inr, ⊎_elim, ℕ, ◌+◌, ◌-◌, ◌<◌, List, [], length, Option, Some, sym, ◌∙◌, ap, subst, arith}
use Rattle.adr_wire.specs.Reading.{Reading}
use Rattle.adr_model.specs.Store.{State}
use Rattle.adr_model.specs.Change.{Change, after}
use Rattle.adr_model.specs.Lengths.{Log, area_version, length_limit, image_length, change_length, next_log}
use Rattle.adr_law_journal.specs.Log.{Following}
use Rattle.adr_law_journal.specs.Areas.{Began, Found, TellsArea}
use Rattle.adr_law_journal.specs.Kept.{Layout}
use Rattle.adr_journal.specs.Ended.{found_after}
use Rattle.adr_journal.specs.Kept.{Ids, ids_of}
use Rattle.adr_journal.proofs.Prepared.{IsReadyFor, layout, mid, next_at, takes_both, behind_is, record_within}
use Rattle.adr_gather.specs.Held.{joined}
use Rattle.adr_gather.specs.Taken.{Moves}
use Rattle.adr_gather.specs.Gathered.{Gathered, Holds, IsGathered, IsNext, content_of, images_of}
use Rattle.adr_gather.proofs.Joined.{joined_holds}

-- by the same bytes
pub next_so : {D : Type 0} {spare_calls spare_bytes : D → ℕ} {disk : D} {capacity : ℕ} {held : List ℕ} {log next : Log} {areas written image body : List ℕ} {s : State} {c : Change} (area bytes : List ℕ) → area ≡ areas → bytes ≡ written
    → IsNext spare_calls spare_bytes disk capacity held log next areas written image body s c → IsNext spare_calls spare_bytes disk capacity held log next area bytes image body s c
next_so {D} {spare_calls} {spare_bytes} {disk} {capacity} {held} {log} {next} {areas} {written} {image} {body} {s} {c} area bytes area_is bytes_are n =
    subst (λ (w : List ℕ). IsNext spare_calls spare_bytes disk capacity held log next area w image body s c) (sym bytes_are)
    (subst (λ (a : List ℕ). IsNext spare_calls spare_bytes disk capacity held log next a written image body s c) (sym area_is) n)

-- memory is not wanting
pub room_suffices : {D : Type 0} {spare_calls spare_bytes : D → ℕ} {disk : D} {capacity : ℕ} {held : List ℕ} {log next : Log} {area written image body : List ℕ} {s : State} {c : Change}
    → IsNext spare_calls spare_bytes disk capacity held log next area written image body s c
    → (area ≡ [] → ⊥) × ((spare_calls disk < 9) ⊎ (spare_bytes disk < length held + length area + 10)) → ⊥
room_suffices {D} {spare_calls} {spare_bytes} {disk} {capacity} {held} {area = area} n wants = ⊎_elim
    (λ none. wants.0 none)
    (λ room. ⊎_elim
    (λ (few : spare_calls disk < 9). let no : ⊥ = omega (arith, few, room.0) in no)
    (λ (short : spare_bytes disk < length held + length area + 10). let no : ⊥ = omega (arith, short, room.1) in no) wants.1) n.spare

-- what a keeper is ready for: it stands for this, what is written is prepared, and its form has these laws
pub record IsReady {D : Type 0} (head : Reading Ids) (area : Ids → Reading (Began State)) (following : ℕ → Following State) (content : D → Option (List ℕ)) (may_leave : D → List ℕ → Type 0) (spare_calls spare_bytes : D → ℕ) (g : Gathered D) (capacity : ℕ) (log next : Log) (areas written image body : List ℕ) (f : Found State) (c : Change) : Type 0 where
  pub is : IsGathered head area following content may_leave g log f
  pub prepared : IsNext spare_calls spare_bytes g.disk capacity g.held log next areas written image body f.state c
  pub follows : following area_version f.state body ≡ Some (after f.state c)
  pub long : length body ≡ change_length c
  pub tells : image_length f.state.store < length_limit → (place : ℕ) → TellsArea (area (ids_of f.state)) place image area_version f.state
  pub area_long : image_length f.state.store < length_limit → length image ≡ 6 + image_length f.state.store

module _ {D : Type 0} {head : Reading Ids} {area : Ids → Reading (Began State)} {following : ℕ → Following State} {content : D → Option (List ℕ)} {may_leave : D → List ℕ → Type 0} {spare_calls spare_bytes : D → ℕ} {g : Gathered D} {capacity : ℕ} {log next : Log} {areas written image body : List ℕ} {f : Found State} {c : Change}
    (r : IsReady head area following content may_leave spare_calls spare_bytes g capacity log next areas written image body f c) where
  pub ready : IsReadyFor head area following (content_of content) (images_of content may_leave) (λ (g : Gathered D). 9) (λ (g : Gathered D). length areas + length written + 10) g log next areas written image body f c
  ready = record {
    at = r.is.at;
    prepared = record { is = r.prepared.is; before = r.prepared.before; leads = r.prepared.leads; fits = r.prepared.fits; spare = inr (omega arith, omega arith) };
    follows = r.follows;
    long = r.long;
    tells = r.tells;
    area_long = r.area_long;
  }

  abbrev pub under : Layout Ids State
  under = layout ready

  abbrev pub between : Log
  between = mid ready

  pub moves : (size : ℕ) → size ≡ length written → Moves under content may_leave g areas next size f.state log between
  unfolding ready
  moves size is_size =
      let both = takes_both ready in
      let within = record_within ready in
      record {
        holds = subst (λ (m : Log). Holds under content may_leave g f.state m) r.is.at.is_log r.is.holds;
        low = r.is.at.ends;
        before = both.before;
        ends = omega (arith, both.ends, within, is_size);
        begun = omega (arith, both.ends, within);
      }

  -- one more record is held
  pub gathered_on : (h : Gathered D) → Holds under content may_leave h f.state between → IsGathered head area following content may_leave (record h { held = joined h.held written }) next (found_after f c)
  unfolding ready
  gathered_on h holds =
      let both = takes_both ready in
      let more : Gathered D = record h { held = joined h.held written } in
      let later = joined_holds under content may_leave h f.state between holds (after f.state c) body written r.prepared.is both.follows both.fits in
      let found_log : next ≡ next_log f.log f.state.store c = r.prepared.leads ∙ ap (λ (l : Log). next_log l f.state.store c) (sym r.is.at.is_log) in
      let all : Holds under content may_leave more (after f.state c) (next_log f.log f.state.store c) = subst (λ (m : Log). Holds under content may_leave more (after f.state c) m) (behind_is ready ∙ found_log) later in
      let n = next_at ready more later.whole in
      record {
        at = record {
          is_log = n.is_log;
          version = n.version;
          front = r.is.at.front;
          is_head = r.is.at.is_head;
          settled = all.whole;
          place = n.place;
          first = n.first;
          begun = n.begun;
          ends = n.ends;
        };
        holds = all;
      }
