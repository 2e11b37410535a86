-- What was read by a form stands in the line, and what stands there is read: once for each kind, and once for all forms.
use Rattle.std.proofs.Common.{◌≡◌, ◌⊎◌, ℕ, ◌<◌, ◌≤◌, Bool, true, false, List, [], ◌∷◌, length, Option, Some, None, refl, subst, inl, inr, arith}
use Rattle.std.specs.Prelude.{◌==◌, if◌then◌else◌, codes}
use Rattle.std.specs.Option.{option_map}
use Rattle.std.proofs.lemmas.Bool.{eqb-false, ne_eqb}
use Rattle.adr_disk.specs.declared.memory.Crash.{Crash}
use Rattle.adr_values.specs.Assignments.{Given}
use Rattle.adr_call.specs.declared.event.Event.{Event}
use Rattle.adr_token.specs.Gives.{◌>>=◌}
use Rattle.adr_token.specs.Words.{unspaced, said, name_at}
use Rattle.adr_token.proofs.WordLaws.{bind_some, if_some}
use Rattle.adr_schedule.specs.Limits.{plan_limit}
use Rattle.adr_schedule.specs.Crashes.{crash_word}
use Rattle.adr_schedule.specs.Sets.{rising, sets_at}
use Rattle.adr_schedule.specs.Members.{names_at}
use Rattle.adr_schedule.specs.Forms as kinds
use Rattle.adr_schedule.specs.Forms.{Kind, Of, Read, calls_at, crash_at, first_version, kind_at, made_of, members_at, plan_at, planned_at, some_sets_at, version_at}
use Rattle.adr_schedule.specs.Grammar.{Word, Name, Number, Identifier, Class, Attribute, Quoted, sets, named, IsNext, AreSpelled, IsLimit, AreRounds, AreMembers}
use Rattle.adr_schedule.proofs.LineNames.{names_were, names_read}
use Rattle.adr_schedule.proofs.LineSets.{none_left, sets_read, sets_were}
use Rattle.adr_schedule.proofs.RisingLemmas.{unless_some}
use Rattle.adr_schedule.proofs.TokenLaws.{attribute_next, attribute_read, bound_next, bound_read, calls_next, calls_read, class_next, class_read, crash_next, crash_read, identifier_next, identifier_read, limit_next, limit_read, name_next, name_read, number_next, number_read, rounds_next, rounds_read, said_next, text_next, text_read, word_left, word_read}

-- ---- what stands in a line

-- sets that give these values
abbrev pub AreOrdered : List Given → List ℕ → Type 0
AreOrdered values bytes = (order : List Given) × (rising order ≡ Some values) × AreSpelled (sets order) bytes

-- nothing, and it is left as it is
abbrev pub IsLast : List ℕ → List ℕ → Type 0
IsLast bytes rest = (unspaced bytes ≡ []) × (rest ≡ bytes)

abbrev pub IsBound : List ℕ → List ℕ → List ℕ → Type 0
IsBound name bytes rest = (between : List ℕ) × IsNext (Word (codes "as")) bytes between × IsNext (Name name) between rest

abbrev pub AreCalls : ℕ → List ℕ → List ℕ → Type 0
AreCalls calls bytes rest = (calls ≤ plan_limit) × ((between : List ℕ) × IsNext (Word (codes "after")) bytes between × IsNext (Number calls) between rest)

abbrev pub IsVersionAt : ℕ → List ℕ → List ℕ → Type 0
IsVersionAt version bytes rest = ((version ≡ 1) × IsNext (Word (codes "v1")) bytes rest) ⊎ ((version ≡ 2) × IsLast bytes rest)

abbrev pub IsPlan : Option (ℕ × Crash) → List ℕ → List ℕ → Type 0
IsPlan None bytes rest = IsLast bytes rest
IsPlan (Some plan) bytes rest = (between : List ℕ) × AreCalls plan.0 bytes between × IsNext (Word (crash_word plan.1)) between rest

-- something of this kind stands at the front, and this is left behind it
abbrev pub StandsAs : (kind : Kind) → Of kind → List ℕ → List ℕ → Type 0
StandsAs kinds.Name x bytes rest = IsNext (Name x) bytes rest
StandsAs kinds.Number x bytes rest = IsNext (Number x) bytes rest
StandsAs kinds.Identifier x bytes rest = IsNext (Identifier x) bytes rest
StandsAs kinds.Class x bytes rest = IsNext (Class x) bytes rest
StandsAs kinds.Attribute x bytes rest = IsNext (Attribute x) bytes rest
StandsAs kinds.Quoted x bytes rest = IsNext (Quoted x) bytes rest
StandsAs kinds.Limit x bytes rest = IsLimit x × IsNext (Number x) bytes rest
StandsAs kinds.Rounds x bytes rest = AreRounds x × IsNext (Number x) bytes rest
StandsAs kinds.Bound x bytes rest = IsBound x bytes rest
StandsAs kinds.After x bytes rest = AreCalls x bytes rest
StandsAs kinds.Version x bytes rest = IsVersionAt x bytes rest
StandsAs kinds.Plan x bytes rest = IsPlan x bytes rest
StandsAs kinds.Members x bytes rest = AreMembers x.0 x.1 × AreSpelled (Name x.0 ∷ named x.1) bytes × (rest ≡ [])
StandsAs kinds.Sets x bytes rest = AreOrdered x bytes × (rest ≡ [])
StandsAs kinds.SomeSets x bytes rest = (0 < length x) × AreOrdered x bytes × (rest ≡ [])

-- these stand one after the other, and nothing else
abbrev pub Stand : (kinds : List Kind) → Read kinds → List ℕ → Type 0
Stand [] v bytes = unspaced bytes ≡ []
Stand (kind ∷ kinds) v bytes = (rest : List ℕ) × StandsAs kind v.0 bytes rest × Stand kinds v.1 rest

-- ---- what was read stands there

version_was : (bytes : List ℕ) (t : ℕ × List ℕ) → version_at bytes ≡ Some t → IsVersionAt t.0 bytes t.1
unfolding version_at
version_was bytes t h = by (length (unspaced bytes) == 0) refl h
  where
    by : (b : Bool) → (length (unspaced bytes) == 0) ≡ b → (if b then Some (2, bytes) else first_version bytes) ≡ Some t → IsVersionAt t.0 bytes t.1
    by true ends told =
        let same : (2, bytes) ≡ t = cc in
        subst (λ (x : ℕ × List ℕ). IsVersionAt x.0 bytes x.1) same (inr (refl, (none_left bytes ends, refl)))
    by false more told =
        let s = bind_some (said (codes "v1") bytes) (λ word. Some (1, word.1)) t told in
        let same : (1, s.0.1) ≡ t = cc in
        subst (λ (x : ℕ × List ℕ). IsVersionAt x.0 bytes x.1) same (inl (refl, said_next (codes "v1") bytes s.0 s.1))

abbrev Planned : Type 0
Planned = Option (ℕ × Crash) × List ℕ

planned_was : (bytes : List ℕ) (t : Planned) → planned_at bytes ≡ Some t → IsPlan t.0 bytes t.1
planned_was bytes t h =
    let c = bind_some (calls_at bytes) (λ calls. crash_at calls.1 >>= λ how. Some (Some (calls.0, how.0), how.1)) t h in
    let k = bind_some (crash_at c.0.1) (λ how. Some (Some (c.0.0, how.0), how.1)) t c.2 in
    let same : (Some (c.0.0, k.0.0), k.0.1) ≡ t = cc in
    subst (λ (x : Planned). IsPlan x.0 bytes x.1) same (c.0.1, calls_next bytes c.0 c.1, crash_next c.0.1 k.0 k.1)

plan_was : (bytes : List ℕ) (t : Planned) → plan_at bytes ≡ Some t → IsPlan t.0 bytes t.1
plan_was bytes t h = by (length (unspaced bytes) == 0) refl h
  where
    by : (b : Bool) → (length (unspaced bytes) == 0) ≡ b → (if b then Some (None, bytes) else planned_at bytes) ≡ Some t → IsPlan t.0 bytes t.1
    by true ends told =
        let same : (None, bytes) ≡ t = cc in
        subst (λ (x : Planned). IsPlan x.0 bytes x.1) same (none_left bytes ends, refl)
    by false more told = planned_was bytes t told

-- where there are some of what a line has to have
with_some : {A : Type 0} (count : ℕ) (x y : A) → (if count == 0 then None else Some x) ≡ Some y → (0 < count) × (x ≡ y)
with_some count x y h =
    let s = unless_some (count == 0) x y h in
    let some = eqb-false count 0 s.0 in
    (omega (arith, some), s.1)

abbrev Joined : Type 0
Joined = (List ℕ × List (List ℕ)) × List ℕ

members_was : (bytes : List ℕ) (t : Joined) → members_at bytes ≡ Some t → StandsAs kinds.Members t.0 bytes t.1
members_was bytes t h =
    let n = bind_some (name_at bytes) (λ name. names_at name.0 name.1 >>= λ others. if length others == 0 then None else Some ((name.0, others), [])) t h in
    let o = bind_some (names_at n.0.0 n.0.1) (λ others. if length others == 0 then None else Some ((n.0.0, others), [])) t n.2 in
    let m = with_some (length o.0) ((n.0.0, o.0), []) t o.2 in
    let s = names_were n.0.0 n.0.1 o.0 o.1 in
    subst (λ (x : Joined). StandsAs kinds.Members x.0 bytes x.1) m.1 ((m.0, s.0), (n.0.1, name_next bytes n.0 n.1, s.1), refl)

abbrev Placed : Type 0
Placed = List Given × List ℕ

ordered_were : (bytes : List ℕ) (values : List Given) → sets_at bytes ≡ Some values → AreOrdered values bytes
ordered_were bytes values h = let s = sets_were bytes values h in (s.order, s.give, s.spelled)

all_were : (bytes : List ℕ) (o : Option (List Given)) (t : Placed) → sets_at bytes ≡ o → option_map (λ values. (values, [])) o ≡ Some t → StandsAs kinds.Sets t.0 bytes t.1
all_were bytes None t at h = absurd (cc)
all_were bytes (Some values) t at h =
    let same : (values, []) ≡ t = cc in
    subst (λ (x : Placed). StandsAs kinds.Sets x.0 bytes x.1) same (ordered_were bytes values at, refl)

some_were : (bytes : List ℕ) (t : Placed) → some_sets_at bytes ≡ Some t → StandsAs kinds.SomeSets t.0 bytes t.1
some_were bytes t h =
    let s = bind_some (sets_at bytes) (λ values. if length values == 0 then None else Some (values, [])) t h in
    let m = with_some (length s.0) (s.0, []) t s.2 in
    subst (λ (x : Placed). StandsAs kinds.SomeSets x.0 bytes x.1) m.1 (m.0, ordered_were bytes s.0 s.1, refl)

kind_was : (kind : Kind) (bytes : List ℕ) (t : Of kind × List ℕ) → kind_at kind bytes ≡ Some t → StandsAs kind t.0 bytes t.1
kind_was kinds.Name bytes t h = name_next bytes t h
kind_was kinds.Number bytes t h = number_next bytes t h
kind_was kinds.Identifier bytes t h = identifier_next bytes t h
kind_was kinds.Class bytes t h = class_next bytes t h
kind_was kinds.Attribute bytes t h = attribute_next bytes t h
kind_was kinds.Quoted bytes t h = text_next bytes t h
kind_was kinds.Limit bytes t h = limit_next bytes t h
kind_was kinds.Rounds bytes t h = rounds_next bytes t h
kind_was kinds.Bound bytes t h = bound_next bytes t h
kind_was kinds.After bytes t h = calls_next bytes t h
kind_was kinds.Version bytes t h = version_was bytes t h
kind_was kinds.Plan bytes t h = plan_was bytes t h
kind_was kinds.Members bytes t h = members_was bytes t h
kind_was kinds.Sets bytes t h = all_were bytes (sets_at bytes) t refl h
kind_was kinds.SomeSets bytes t h = some_were bytes t h

-- what a line of a form said was made of what stands there
pub record Made (kinds : List Kind) (make : Read kinds → Event) (bytes : List ℕ) (event : Event) : Type 0 where
  pub parts : Read kinds
  pub makes : make parts ≡ event
  pub stand : Stand kinds parts bytes

pub form_was : (kinds : List Kind) (make : Read kinds → Event) (bytes : List ℕ) (event : Event) → made_of kinds make bytes ≡ Some event → Made kinds make bytes event
form_was [] make bytes event h =
    let last = if_some (length (unspaced bytes) == 0) (make tt) event h in
    record { parts = tt; makes = last.1; stand = none_left bytes last.0 }
form_was (kind ∷ kinds) make bytes event h =
    let s = bind_some (kind_at kind bytes) (λ part. made_of kinds (λ more. make (part.0, more)) part.1) event h in
    let more = form_was kinds (λ more. make (s.0.0, more)) s.0.1 event s.2 in
    record { parts = (s.0.0, more.parts); makes = more.makes; stand = (s.0.1, kind_was kind bytes s.0 s.1, more.stand) }

-- ---- what stands there is read

left_none : (bytes : List ℕ) → unspaced bytes ≡ [] → (length (unspaced bytes) == 0) ≡ true
left_none bytes h = rw h refl

version_read : (version : ℕ) (bytes rest : List ℕ) → IsVersionAt version bytes rest → version_at bytes ≡ Some (version, rest)
unfolding version_at said
version_read version bytes rest (inl h) =
    rw (h.0, word_read (codes "v1") bytes rest refl (omega arith) h.1, word_left (codes "v1") bytes rest (omega arith) h.1) refl
version_read version bytes rest (inr h) = rw (h.0, h.1.1, left_none bytes h.1.0) refl

plan_read : (plan : Option (ℕ × Crash)) (bytes rest : List ℕ) → IsPlan plan bytes rest → plan_at bytes ≡ Some (plan, rest)
plan_read None bytes rest h = rw (h.1, left_none bytes h.0) refl
plan_read (Some plan) bytes rest h =
    rw (
      word_left (codes "after") bytes h.1.1.0 (omega arith) h.1.1.1,
      calls_read plan.0 bytes h.1.1.0 h.0 h.1.0 h.1.1.1 h.1.1.2,
      crash_read plan.1 h.0 rest h.2,
    ) refl

some_left : {A : Type 0} (xs : List A) → 0 < length xs → (length xs == 0) ≡ false
some_left xs some = ne_eqb (length xs) 0 (λ none. omega (arith, some))

members_read : (x : List ℕ × List (List ℕ)) (bytes rest : List ℕ) → StandsAs kinds.Members x bytes rest → members_at bytes ≡ Some (x, rest)
members_read x bytes rest h =
    let s = h.1 in
    rw (h.2, name_read x.0 bytes s.0 s.1, names_read x.0 s.0 x.1 h.0.1 s.2, some_left x.1 h.0.0) refl

all_read : (values : List Given) (bytes rest : List ℕ) → StandsAs kinds.Sets values bytes rest → kind_at kinds.Sets bytes ≡ Some (values, rest)
all_read values bytes rest h = rw (h.1, sets_read values h.0.0 bytes h.0.1 h.0.2) refl

some_read : (values : List Given) (bytes rest : List ℕ) → StandsAs kinds.SomeSets values bytes rest → some_sets_at bytes ≡ Some (values, rest)
some_read values bytes rest h = rw (h.2, sets_read values h.1.0 bytes h.1.1 h.1.2, some_left values h.0) refl

kind_read : (kind : Kind) (x : Of kind) (bytes rest : List ℕ) → StandsAs kind x bytes rest → kind_at kind bytes ≡ Some (x, rest)
kind_read kinds.Name x bytes rest h = name_read x bytes rest h
kind_read kinds.Number x bytes rest h = number_read x bytes rest h
kind_read kinds.Identifier x bytes rest h = identifier_read x bytes rest h
kind_read kinds.Class x bytes rest h = class_read x bytes rest h
kind_read kinds.Attribute x bytes rest h = attribute_read x bytes rest h
kind_read kinds.Quoted x bytes rest h = text_read x bytes rest h
kind_read kinds.Limit x bytes rest h = limit_read x bytes rest h.0 h.1
kind_read kinds.Rounds x bytes rest h = rounds_read x bytes rest h.0 h.1
kind_read kinds.Bound x bytes rest h = bound_read x bytes h.0 rest h.1 h.2
kind_read kinds.After x bytes rest h = calls_read x bytes h.1.0 rest h.0 h.1.1 h.1.2
kind_read kinds.Version x bytes rest h = version_read x bytes rest h
kind_read kinds.Plan x bytes rest h = plan_read x bytes rest h
kind_read kinds.Members x bytes rest h = members_read x bytes rest h
kind_read kinds.Sets x bytes rest h = all_read x bytes rest h
kind_read kinds.SomeSets x bytes rest h = some_read x bytes rest h

pub form_read : (kinds : List Kind) (make : Read kinds → Event) (parts : Read kinds) (bytes : List ℕ) → Stand kinds parts bytes → made_of kinds make bytes ≡ Some (make parts)
form_read [] make parts bytes h = rw (left_none bytes h) refl
form_read (kind ∷ kinds) make parts bytes h = rw (kind_read kind parts.0 bytes h.0 h.1) (form_read kinds (λ more. make (parts.0, more)) parts.1 h.0 h.2)
