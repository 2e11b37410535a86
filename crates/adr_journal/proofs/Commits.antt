-- What a commit writes and leaves, a checkpoint first where one is due.
use Rattle.std.proofs.Common.{◌≡◌, inl, inr, ⊎_elim, ℕ, ◌+◌, ◌-◌, ◌≤◌, ◌<◌, ◌⊎◌, List, [], ◌∷◌, length, Bool, true, false, Option, Some, None, refl, sym, ◌∙◌, ap, subst, arith, ◌==◌}
use Rattle.std.proofs.lemmas.Bool.{eqb-true}
use Rattle.std.specs.Prelude.{IsErrOf, Err}
use Rattle.std.specs.Option.{ForSome}
use Rattle.adr_io.specs.declared.Fault.{Fault as Cause}
use Rattle.adr_io.specs.declared.Fault.TheVariants.{Failed, NoMemory}
use Rattle.adr_disk.specs.Disk.{Call}
use Rattle.adr_model.specs.Store.{State}
use Rattle.adr_model.specs.Lengths.{Log}
use Rattle.adr_law_journal.specs.Areas.{Started, slot_place}
use Rattle.adr_law_journal.specs.Commits.{Commits, Checkpoints}
use Rattle.adr_law_journal.specs.Kept.{Layout, FindsEither, IsSettled, Stages}
use Rattle.adr_law_journal.proofs.Reading.{area_long}
use Rattle.adr_law_journal.proofs.Settled.{rests_long}
use Rattle.adr_journal.specs.Kept.{Ids, IsRoom}
use Rattle.adr_journal.specs.Ran.{Makes}
use Rattle.adr_journal.specs.Written.{IsEitherLog, IsOneOfThree, Takes, TakesBoth}

pub none_there : (l : List ℕ) → (length l == 0) ≡ true → l ≡ []
none_there [] is = refl
none_there (b ∷ l) is = absurd (let none = eqb-true (length (b ∷ l)) 0 is in omega (arith, none))

pub some_there : (l : List ℕ) → (length l == 0) ≡ false → l ≡ [] → ⊥
some_there l is none = let yes : (length l == 0) ≡ true = ap (λ (l : List ℕ). length l == 0) none in absurd (cc)

-- a settled log ends within what is there
pub ends_within : {D : Type 0} (l : Layout Ids State) (content : D → Option (List ℕ)) (may_leave : D → List ℕ → Type 0) (disk : D) (s : State) (log : Log) (end : ℕ) → log.log_end ≡ end → IsSettled l content may_leave disk s log → ForSome (content disk) (λ there. end ≤ length there)
ends_within l content may_leave disk s log end ends settled there told =
    let far = rests_long l s log there (settled.at_rest there told) in
    omega (arith, ends, far.1)

-- and so does a place where a new area may stand
pub stages_within : {D : Type 0} (l : Layout Ids State) (content : D → Option (List ℕ)) (may_leave : D → List ℕ → Type 0) (disk : D) (place : ℕ) (written : List ℕ) (slot : ℕ) (s : State) (log other : Log) → Stages l content may_leave disk place written slot s log other
    → ForSome (content disk) (λ there. (place ≤ length there) × (57 ≤ length there))
stages_within l content may_leave disk place written slot s log other stages there told =
    let rests = stages.settled.at_rest there told in
    let long = rests_long l s log there rests in
    let far = area_long (l.area l.told) l.following s log.place log.version log.first log.log_end there rests.ready.stands in
    let near : place ≤ length there = ⊎_elim
    (λ (at : place ≡ log.log_end). let n : place ≤ length there = omega (arith, at, long.1) in n)
    (λ before. let fits = before.1 in let n : place ≤ length there = omega (arith, fits, far.0, far.1) in n) stages.free in
    (near, long.0)

module _ {D : Type 0} (l : Layout Ids State) (content : D → Option (List ℕ)) (may_leave : D → List ℕ → Type 0) (old : D) (area : List ℕ) (next : Log) (end : ℕ) (written : List ℕ) (s t : State) (log mid : Log) (body : List ℕ)
    (both : TakesBoth l content may_leave old area next end written s t log mid body) where
  -- no area: the log takes the record
  pub takes_none : (later : ℕ) → later ≡ end → area ≡ [] → Takes l content may_leave old later written s t mid body
  takes_none later is none =
      let settled : IsSettled l content may_leave old s mid =
      ⊎_elim (λ same. subst (λ (m : Log). IsSettled l content may_leave old s m) (sym same.1) both.settled) (λ some. absurd (some.0 none)) both.before in
      record { settled = settled; ends = both.ends ∙ sym is; follows = both.follows; is = both.is; fits = both.fits }

  -- an area: it is staged, and the log behind takes the record
  pub stages_it : (place : ℕ) (second : Bool) → place ≡ next.place → second ≡ next.second → (area ≡ [] → ⊥) → Stages l content may_leave old place area (slot_place second) s log mid × (second ≡ mid.second)
  stages_it place second at is some =
      let both : Stages l content may_leave old next.place area (slot_place next.second) s log mid × (next.second ≡ mid.second) = ⊎_elim (λ none. absurd (some none.0)) (λ due. (due.1, due.2)) both.before in
      subst (λ (p : ℕ). Stages l content may_leave old p area (slot_place second) s log mid × (second ≡ mid.second)) (sym at)
      (subst (λ (b : Bool). Stages l content may_leave old next.place area (slot_place b) s log mid × (b ≡ mid.second)) (sym is) both)

  pub takes_then : (later : ℕ) → later ≡ end → (new : D) → IsSettled l content may_leave new s mid → Takes l content may_leave new later written s t mid body
  takes_then later is new settled = record { settled = settled; ends = both.ends ∙ sym is; follows = both.follows; is = both.is; fits = both.fits }

-- ---- what is found

pub of_record : (s t : State) (log mid next : Log) (f : Started State) → IsEitherLog s mid t next f → IsOneOfThree s log mid t next f
of_record s t log mid next f (inl is) = inl (inr is)
of_record s t log mid next f (inr is) = inr is

pub either_of : (s t : State) (log mid next : Log) (f : Started State) → IsOneOfThree s log mid t next f → FindsEither s t f
either_of s t log mid next f (inl (inl is)) = inl (log, is)
either_of s t log mid next f (inl (inr is)) = inl (mid, is)
either_of s t log mid next f (inr is) = inr (next, is)

-- ---- the calls

module _ {D : Type 0} (gives : D → Call → Option Cause → D → Type 0) (next : Log) (written : List ℕ) (old new : D) where
  pub makes_none : (area : List ℕ) → area ≡ [] → (e : Option Cause) → Commits gives (next.log_end - length written) written old e new → Makes gives area next written old e new
  makes_none area is e h = subst (λ (a : List ℕ). Makes gives a next written old e new) (sym is) h

  pub makes_part : (area : List ℕ) → (area ≡ [] → ⊥) → (cause : Cause) → Checkpoints gives next.place area next.second old (Some cause) new → Makes gives area next written old (Some cause) new
  makes_part [] some cause h = absurd (some refl)
  makes_part (b ∷ area) some cause h = inl h

  pub makes_both : (area : List ℕ) → (area ≡ [] → ⊥) → (mid : D) (e : Option Cause) → Checkpoints gives next.place area next.second old None mid → Commits gives (next.log_end - length written) written mid e new → Makes gives area next written old e new
  makes_both [] some mid e first second = absurd (some refl)
  makes_both (b ∷ area) some mid None first second = (mid, first, second)
  makes_both (b ∷ area) some mid (Some cause) first second = inr (mid, first, second)

-- ---- memory

-- where there is room, memory is not wanting
pub room_suffices : (area written : List ℕ) (calls bytes : ℕ) → IsRoom area written calls bytes
    → (area ≡ [] → (calls < 4) ⊎ (bytes < length written + 1)) × ((calls < 9) ⊎ (bytes < length area + 9 + length written + 1)) → ⊥
room_suffices area written calls bytes (inl none) wants = ⊎_elim
    (λ (few : calls < 4). let no : ⊥ = omega (arith, few, none.1.0) in no)
    (λ (short : bytes < length written + 1). let no : ⊥ = omega (arith, short, none.1.1) in no) (wants.0 none.0)
room_suffices area written calls bytes (inr some) wants = ⊎_elim
    (λ (few : calls < 9). let no : ⊥ = omega (arith, few, some.0) in no)
    (λ (short : bytes < length area + 9 + length written + 1). let no : ⊥ = omega (arith, short, some.1) in no) wants.1

pub failed_so : (e : Cause) → (IsErrOf {T = Unit {0}} (Err e) NoMemory → ⊥) → e ≡ Failed
failed_so Failed enough = refl
failed_so NoMemory enough = absurd (enough refl)
