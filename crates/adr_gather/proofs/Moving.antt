-- What a checkpoint makes of what is held.
use Rattle.std.proofs.Common.{◌≡◌, ◌⊎◌, inl, inr, ⊎_elim, ℕ, ◌+◌, List, [], Option, Ok, IfSome, sym, subst, arith}
use Rattle.adr_disk.specs.Disk.{Among, Only}
use Rattle.adr_model.specs.Store.{State}
use Rattle.adr_model.specs.Lengths.{Log}
use Rattle.adr_wire.specs.Reading.{Reading}
use Rattle.adr_law_journal.specs.Log.{Following}
use Rattle.adr_law_journal.specs.Areas.{Began, Found, Started, found, slot_place, start_of}
use Rattle.adr_law_journal.specs.Kept.{Layout, FindsEither, Stages, IsSettled, IsOneOf, starts}
use Rattle.adr_law_journal.proofs.Told.{if_told, at_told}
use Rattle.adr_journal.specs.Kept.{Ids, ids_of, layout_of}
use Rattle.adr_gather.specs.Gathered.{Gathered, Holds, IsGathered, content_of, images_of, gathered}
use Rattle.adr_gather.specs.Taken.{Moves}
use Rattle.adr_gather.proofs.Viewing.{only_finds, settled_holds, stages_on, whole_only}

module _ {D : Type 0} (l : Layout Ids State) (content : D → Option (List ℕ)) (may_leave : D → List ℕ → Type 0) (g : Gathered D) (area : List ℕ) (next : Log) (size : ℕ) (s : State) (log mid : Log) (m : Moves l content may_leave g area next size s log mid) where
  -- no area: the log stays where it is
  pub stays_held : area ≡ [] → Holds l content may_leave g s mid
  stays_held none = ⊎_elim (λ same. subst (λ (n : Log). Holds l content may_leave g s n) (sym same.1) m.holds) (λ some. absurd (some.0 none)) m.before

  pub one_of : (new : Gathered D) → IfSome (content_of content g) (λ there. Only there (images_of content may_leave new))
      → IfSome (content g.disk) (λ _. Among (λ bytes. IsOneOf s log mid (starts l bytes)) (images_of content may_leave new))
  one_of new only =
      if_told (content g.disk) _ (λ there told bytes image. inl (at_told (content g.disk) (λ (_ : List ℕ). Among (λ bytes. starts l bytes ≡ Ok (found s log)) (images_of content may_leave new)) there told (only_finds content may_leave l g s log new m.holds only) bytes image))

  -- an area: what is settled takes it
  pub area_stages : (new : D) (place : ℕ) (second : _) → place ≡ next.place → second ≡ next.second → (area ≡ [] → ⊥) → IsSettled l content may_leave new s log
      → Stages l content may_leave new place area (slot_place second) s log mid × (second ≡ mid.second)
  area_stages new place second at is some settled = ⊎_elim
      (λ none. absurd (some none.0))
      (λ due.
      let there = stages_on content may_leave l g s log new next.place area (slot_place next.second) mid settled due.1 in
      subst (λ p. Stages l content may_leave new p area (slot_place second) s log mid × (second ≡ mid.second)) (sym at)
      (subst (λ b. Stages l content may_leave new next.place area (slot_place b) s log mid × (b ≡ mid.second)) (sym is) (there, due.2)))
      m.before

  -- and then the record goes behind its gate
  pub moved_holds : (new : D) (gate : ℕ) (held : List ℕ) → held ≡ [] → gate + 1 + size ≡ next.log_end → IsSettled l content may_leave new s mid → Holds l content may_leave (gathered new gate held) s mid
  moved_holds new gate held none at settled = settled_holds content may_leave l (gathered new gate held) s mid none (omega (arith, m.ends, at)) settled

-- ---- what is found

pub one_either : (s : State) (log mid : Log) (t : State) (f : Started State) → IsOneOf s log mid f → FindsEither s t f
one_either s log mid t f (inl is) = inl (log, is)
one_either s log mid t f (inr is) = inl (mid, is)

-- what a keeper stands for is found of each outcome
pub holds_finds : {D : Type 0} (head : Reading Ids) (area : Ids → Reading (Began State)) (following : ℕ → Following State) (content : D → Option (List ℕ)) (may_leave : D → List ℕ → Type 0) (g : Gathered D) (log : Log) (f : Found State) → IsGathered head area following content may_leave g log f
    → (s : State) → IfSome (content g.disk) (λ _. Among (λ bytes. FindsEither s f.state (start_of head area following bytes)) (images_of content may_leave g))
holds_finds head area following content may_leave g log f is s =
    let l = layout_of head area following is.at.front (ids_of f.state) is.at.is_head in
    if_told (content g.disk) _ (λ there told bytes image.
    inr (f.log, at_told (content g.disk) (λ (_ : List ℕ). Among (λ bytes. starts l bytes ≡ Ok (found f.state f.log)) (images_of content may_leave g)) there told (only_finds content may_leave l g f.state f.log g is.holds (whole_only content may_leave l g f.state f.log is.holds)) bytes image))
