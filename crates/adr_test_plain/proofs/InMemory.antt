-- A log in memory with one more record, and with a new area.
use Rattle.std.proofs.Common.{◌≡◌, inr, ℕ, ◌+◌, ◌-◌, ◌≤◌, ◌<◌, List, [], ◌∷◌, length, Bool, true, false, Option, Some, refl, sym, ◌∙◌, ap, subst, arith, ◌==◌}
use Rattle.std.specs.Prelude.{not}
use Rattle.std.specs.Int.{w64, to_be_bytes}
use Rattle.adr_disk.specs.Disk.{put}
use Rattle.adr_disk.proofs.Bytes.{length-put}
use Rattle.adr_wire.specs.Fields.{u64}
use Rattle.adr_wire.specs.Reading.{Reading}
use Rattle.adr_model.specs.Store.{State}
use Rattle.adr_model.specs.Change.{Change, after}
use Rattle.adr_model.specs.Lengths.{Log, area_version, length_limit, image_length, change_length}
use Rattle.adr_law_journal.specs.Log.{Following, open_gate}
use Rattle.adr_law_journal.specs.Areas.{Began, Found, Started, start_of, selects_second, selector_place, slot_place, TellsArea}
use Rattle.adr_law_journal.specs.Commits.{selector_of}
use Rattle.adr_law_journal.specs.Kept.{Layout, IsSettled, IsBeside, Stages}
use Rattle.adr_law_journal.specs.Recording.{log_behind}
use Rattle.adr_law_journal.proofs.Settled.{settled_after}
use Rattle.adr_journal.specs.Ended.{StillReads}
use Rattle.adr_journal.specs.Kept.{Ids, ids_of}
use Rattle.adr_journal.specs.Written.{Takes, TakesBoth}
use Rattle.adr_journal.specs.declared.keeper.StartRefusal.{StartRefusal}
use Rattle.adr_journal.specs.declared.keeper.StartRefusal.TheVariants.{NoMemory}
use Rattle.adr_journal.proofs.Commits.{ends_within, stages_within, takes_none, takes_then, stages_it}
use Rattle.adr_journal.proofs.Found.{read_still}
use Rattle.adr_journal.proofs.Prepared.{IsReadyFor}
use Rattle.adr_journal.proofs.Staging.{beside_after, selected_after}
use Rattle.adr_test_plain.specs.Kept.{told_as, StaysAs, IsAtBytes, IsNext}

-- what is put within bytes or at their end
pub put_within : (old : List ℕ) (at : ℕ) (x : List ℕ) → at + length x ≤ length old → length (put old at x) ≡ length old
put_within old at x le = length-put old at x ∙ omega (arith, le)

pub put_long : (old : List ℕ) (at : ℕ) (x : List ℕ) → at ≤ length old → (length old ≤ length (put old at x)) × (length (put old at x) ≤ length old + length x)
put_long old at x le = (omega (arith, length-put old at x, le), omega (arith, length-put old at x, le))

-- a new area with its slot
pub area_long : (old : List ℕ) (place slot : ℕ) (area spelled x y : List ℕ) → place ≤ length old → 57 ≤ length old → slot ≤ 48 → length spelled ≡ 8 → x ≡ put old place area → y ≡ put x slot spelled
    → (57 ≤ length y) × (length y ≤ length old + length area)
area_long old place slot area spelled x y within long low eight is_x is_y =
    let first = put_long old place area within in
    let one : 57 ≤ length x = omega (arith, first.0, ap length is_x, long) in
    let second = put_within x slot spelled (omega (arith, one, low, eight)) in
    (omega (arith, one, ap length is_y, second), omega (arith, first.1, ap length is_x, ap length is_y, second))

pub eight_bytes : (n : ℕ) → length (to_be_bytes w64 n) ≡ 8
eight_bytes n = refl

pub spelled_so : (n : ℕ) → to_be_bytes w64 n ≡ u64 n
unfolding u64
spelled_so n = refl

selects_so : (second : Bool) → (selector_of second == selects_second) ≡ second
selects_so true = refl
selects_so false = refl

module _ (l : Layout Ids State) (s t : State) where
  -- one more record
  pub recorded : (old : List ℕ) (log : Log) (end : ℕ) (written body : List ℕ) → 1 ≤ end → Takes l told_as StaysAs old end written s t log body
      → IsSettled l told_as StaysAs (put (put old end written) (end - 1) (open_gate ∷ [])) t (log_behind log body)
  recorded old log end written body some takes =
      let there : List ℕ = put old log.log_end written in
      let is_at : log.log_end - 1 + 1 ≡ log.log_end = omega (arith, some, takes.ends) in
      let settled = settled_after l told_as StaysAs old there (put there (log.log_end - 1) (open_gate ∷ [])) s log body written takes.is takes.settled refl (λ x left. left) ((λ is. refl), (λ is. refl))
      (log.log_end - 1) is_at t takes.follows takes.fits refl (λ x left. left) ((λ is. refl), (λ is. refl)) in
      subst (λ (n : ℕ). IsSettled l told_as StaysAs (put (put old n written) (n - 1) (open_gate ∷ [])) t (log_behind log body)) takes.ends settled

  module _ (old area : List ℕ) (next : Log) (end : ℕ) (written : List ℕ) (log mid : Log) (body : List ℕ) (both : TakesBoth l told_as StaysAs old area next end written s t log mid body) where
    pub record_near : area ≡ [] → end ≤ length old
    record_near none = let takes = takes_none l told_as StaysAs old area next end written s t log mid body both end refl none in ends_within l told_as StaysAs old s mid end takes.ends takes.settled old refl

    pub recorded_alone : 1 ≤ end → area ≡ [] → IsSettled l told_as StaysAs (put (put old end written) (end - 1) (open_gate ∷ [])) t (log_behind mid body)
    recorded_alone some none = recorded old mid end written body some (takes_none l told_as StaysAs old area next end written s t log mid body both end refl none)

    module _ (is_area : area ≡ [] → ⊥) where
      abbrev with_area : List ℕ
      with_area = put (put (put old next.place area) (slot_place next.second) (u64 next.place)) selector_place (selector_of next.second ∷ [])

      stages : Stages l told_as StaysAs old next.place area (slot_place next.second) s log mid × (next.second ≡ mid.second)
      stages = stages_it l told_as StaysAs old area next end written s t log mid body both next.place next.second refl refl is_area

      pub area_near : (next.place ≤ length old) × (57 ≤ length old)
      area_near = stages_within l told_as StaysAs old next.place area (slot_place next.second) s log mid stages.0 old refl

      beside : IsBeside l told_as StaysAs (put (put old next.place area) (slot_place next.second) (u64 next.place)) s log mid
      beside = beside_after l told_as StaysAs old s log mid next.place area (slot_place next.second) 8 refl stages.0 (put (put old next.place area) (slot_place next.second) (u64 next.place)) (u64 next.place) refl refl (λ x left. left) ((λ is. refl), (λ is. refl))

      is_other : mid.second ≡ not log.second
      is_other = ap (λ (o : Log). o.second) stages.0.becomes

      selected : IsSettled l told_as StaysAs with_area s mid
      selected = selected_after l told_as StaysAs (put (put old next.place area) (slot_place next.second) (u64 next.place)) s log mid beside is_other with_area (selector_of next.second) (selects_so next.second ∙ stages.1) refl (λ x left. left) ((λ is. refl), (λ is. refl))

      pub then_near : end ≤ length with_area
      then_near = let takes = takes_then l told_as StaysAs old area next end written s t log mid body both end refl with_area selected in ends_within l told_as StaysAs with_area s mid end takes.ends takes.settled with_area refl

      pub recorded_behind : 1 ≤ end → IsSettled l told_as StaysAs (put (put with_area end written) (end - 1) (open_gate ∷ [])) t (log_behind mid body)
      recorded_behind some = recorded with_area mid end written body some (takes_then l told_as StaysAs old area next end written s t log mid body both end refl with_area selected)

-- ---- a keeper

module _ (head : Reading Ids) (area : Ids → Reading (Began State)) (following : ℕ → Following State) where
  -- while its bytes stay, so does what it stands for
  pub still_at : (f : Found State) (log : Log) (bytes same : List ℕ) → same ≡ bytes → IsAtBytes head area following bytes log f → IsAtBytes head area following same log f
  still_at f log bytes same is at = subst (λ (l : List ℕ). IsAtBytes head area following l log f) (sym is) at

  -- a start that is refused leaves the log as it was
  pub still_in : {K : Type 0} (bytes : K → List ℕ) (k : K) (e : StartRefusal) → (e ≡ NoMemory false → ⊥)
      → StillReads (λ k. let x : Option (Started State) = Some (start_of head area following (bytes k)) in x) (λ k t. t ≡ start_of head area following (bytes k)) (λ k. 0) (λ k n t. t ≡ start_of head area following (bytes k)) e k k
  still_in bytes k e settled =
      read_still (λ k. let x : Option (Started State) = Some (start_of head area following (bytes k)) in x) (λ k t. t ≡ start_of head area following (bytes k)) (λ k. 0) (λ k n t. t ≡ start_of head area following (bytes k)) k k e settled
      (refl, λ t left. left)

  -- what it is ready for
  pub ready_for : (capacity : ℕ) (bytes : List ℕ) (log next : Log) (new_area written image body : List ℕ) (f : Found State) (c : Change) → IsAtBytes head area following bytes log f → IsNext capacity bytes log next new_area written image body f.state c
      → following area_version f.state body ≡ Some (after f.state c) → length body ≡ change_length c
      → (image_length f.state.store < length_limit → (place : ℕ) → TellsArea (area (ids_of f.state)) place image area_version f.state) → (image_length f.state.store < length_limit → length image ≡ 6 + image_length f.state.store)
      → IsReadyFor head area following told_as StaysAs (λ there. 9) (λ there. length new_area + 9 + length written + 1) bytes log next new_area written image body f c
  ready_for capacity bytes log next new_area written image body f c at is_next follows long tells area_long = record {
    at = at;
    prepared = record { is = is_next.is; before = is_next.before; leads = is_next.leads; fits = is_next.fits; spare = inr (omega arith, omega arith) };
    follows = follows;
    long = long;
    tells = tells;
    area_long = area_long;
  }
