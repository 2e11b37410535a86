-- The laws, as facts: a formed state is formed behind each change of a call, which can follow it.
use Rattle.std.specs.Prelude.{◌≡◌, ◌⊎◌, ◌≤◌, ℕ, List, [], map, true, None, Some, unwrap_or, Ok}
use Rattle.std.specs.List.Sorted.{IsStrictlySortedBy}
use Rattle.adr_values.specs.Order.{identifier_order, object_order}
use Rattle.adr_values.specs.Numbered.{numbered}
use Rattle.adr_values.specs.Table.{Table}
use Rattle.adr_values.specs.Vector.{Cursors}
use Rattle.adr_model.specs.Member.{Member, Each}
use Rattle.adr_model.specs.Update.{Identifier}
use Rattle.adr_model.specs.Store.{Held, PartnerMark, Normal, Store, State, updates_of, empty_state}
use Rattle.adr_model.specs.Change.{Item, Written, Change, updates_written, after}
use Rattle.adr_model.specs.Formed.{AreRising, AreFormedRows, IsFormedStore, IsFormed}
use Rattle.adr_model.specs.Sound.{AreClassesKnown}
use Rattle.adr_model.specs.Serve.{Request, Reply, serve}
use Rattle.adr_model.specs.Write.{Write, write, usn_limit}
use Rattle.adr_model.specs.Given.{IsWellGiven}
use Rattle.adr_model.specs.Take.{rows_taken, item_refusal, times_brought, take}
use Rattle.adr_model.specs.Upgrade.{upgrade}
use Rattle.adr_model.specs.Collect.{collect, adopt, quarantine}
use Rattle.adr_model.specs.Spelled.{SayOfTheirKeys, IsSpelledItem, IsSpelledReply, IsSpelledWrite, IsSpelledChange}
use Rattle.adr_law_calls.specs.Follow.{MayFollowInTurn, HasKnownClasses, CanFollow}
use Rattle.adr_law_calls.specs.Touched.{CanFollowByTouched}
use Rattle.adr_law_calls.specs.Tested.{may_follow_in_turn, can_follow}
use Rattle.adr_law_calls.specs.Taken.{MayBeTaken, AreBare}

-- ---- where states begin

-- a new controller is formed, and so is one that is made of a formed image
abbrev pub NewIsFormed : Type 0
NewIsFormed = (dsa inv : Identifier) → IsFormed (empty_state dsa inv) × HasKnownClasses (empty_state dsa inv)

abbrev pub AdoptedIsFormed : Type 0
AdoptedIsFormed =
    (image : Store) (dsa inv : Identifier) (s : State) → IsFormedStore image → adopt image dsa inv ≡ Ok s
    → IsFormed s

abbrev pub AdoptedHasKnownClasses : Type 0
AdoptedHasKnownClasses =
    (image : Store) (dsa inv : Identifier) (s : State)
    → AreClassesKnown (numbered image.schema) (updates_of image.rows) → adopt image dsa inv ≡ Ok s
    → HasKnownClasses s

-- ---- what calls change

-- whether the reply is true doesn't matter
abbrev pub TakenFollows : Type 0
TakenFollows =
    (s : State) (r : Reply) (c : Change) → IsFormed s → HasKnownClasses s → IsSpelledReply r → take s r ≡ Ok c
    → CanFollow s c

abbrev pub WrittenFollows : Type 0
WrittenFollows =
    (s : State) (w : Write) (now : ℕ) (c : Change) → IsFormed s → HasKnownClasses s → IsWellGiven w
    → write s w now ≡ Ok c → CanFollow s c

abbrev pub CollectedFollows : Type 0
CollectedFollows =
    (s : State) (now lifetime : ℕ) (c : Change) → IsFormed s → HasKnownClasses s → collect s now lifetime ≡ Ok c
    → CanFollow s c

abbrev pub UpgradeFollows : Type 0
UpgradeFollows = (s : State) (c : Change) → IsFormed s → HasKnownClasses s → upgrade s ≡ Ok c → CanFollow s c

abbrev pub QuarantineFollows : Type 0
QuarantineFollows =
    (s : State) → IsFormed s → HasKnownClasses s → s.mode ≡ Normal → CanFollow s (quarantine s)

-- what rows say they say behind each change that can follow
abbrev pub SaidsStay : Type 0
SaidsStay =
    (s : State) (c : Change) → SayOfTheirKeys (updates_of s.store.rows) → CanFollow s c
    → SayOfTheirKeys (updates_of (after s c).store.rows)

-- what a formed state whose rows say so answers is spelled, whatever was asked
abbrev pub ServedIsSpelled : Type 0
ServedIsSpelled =
    (s : State) (q : Request) (r : Reply) (now : ℕ) → IsFormed s → SayOfTheirKeys (updates_of s.store.rows)
    → serve s q now ≡ Ok r → IsSpelledReply r

-- of a spelled item that isn't refused nothing is taken, or rows that may be
abbrev pub ItemsMayBeTaken : Type 0
ItemsMayBeTaken =
    (schema : ℕ) (vector : Cursors) (rows : List Held) (place : ℕ) (i : Item)
    → AreRising rows → AreFormedRows (numbered schema) (updates_of rows) → IsSpelledItem i
    → item_refusal (numbered schema) vector rows place i ≡ None
    → (rows_taken vector rows i ≡ []) ⊎ MayBeTaken schema vector rows i.unit (rows_taken vector rows i)

-- ---- what calls write so, though no record is asked for it

abbrev pub TakenIsBare : Type 0
TakenIsBare =
    (s : State) (r : Reply) (c : Change) → IsFormed s → HasKnownClasses s → IsSpelledReply r → take s r ≡ Ok c
    → Each (λ w. AreBare w.item.rows) c.writes

abbrev pub WrittenIsBare : Type 0
WrittenIsBare =
    (s : State) (w : Write) (now : ℕ) (c : Change) → IsFormed s → IsWellGiven w → write s w now ≡ Ok c
    → Each (λ v. AreBare v.item.rows) c.writes

abbrev pub CollectedRises : Type 0
CollectedRises =
    (s : State) (now lifetime : ℕ) (c : Change) → AreRising s.store.rows → collect s now lifetime ≡ Ok c
    → IsStrictlySortedBy object_order c.removed

-- ---- what is enough to look at

-- it is enough to look at what a change touches, and no more is asked so
abbrev pub TouchedIsEnough : Type 0
TouchedIsEnough =
    (s : State) (c : Change) → IsFormed s → HasKnownClasses s → CanFollowByTouched s c → CanFollow s c

abbrev pub TouchedIsAsked : Type 0
TouchedIsAsked = (s : State) (c : Change) → IsFormed s → CanFollow s c → CanFollowByTouched s c

-- the test tells which writes may follow
abbrev pub WritesAreTold : Type 0
WritesAreTold =
    (table : Table) (vector : Cursors) (rows : List Held) (ws : List Written) → Each IsSpelledWrite ws
    → may_follow_in_turn table vector rows ws ≡ true → MayFollowInTurn table vector rows ws

abbrev pub WritesPass : Type 0
WritesPass =
    (table : Table) (vector : Cursors) (rows : List Held) (ws : List Written)
    → MayFollowInTurn table vector rows ws → may_follow_in_turn table vector rows ws ≡ true

-- and which changes can
abbrev pub ChangesAreTold : Type 0
ChangesAreTold =
    (s : State) (c : Change) → IsFormed s → HasKnownClasses s → IsSpelledChange s.store.usn c
    → can_follow s c ≡ true → CanFollow s c

abbrev pub ChangesPass : Type 0
ChangesPass = (s : State) (c : Change) → IsFormed s → CanFollow s c → can_follow s c ≡ true

-- ---- whence all comes that a state has

abbrev pub RowsStoodOrCame : Type 0
RowsStoodOrCame =
    (s : State) (c : Change)
    → Each (λ u. Member u (updates_of s.store.rows) ⊎ Member u (updates_written c))
    (updates_of (after s c).store.rows)

-- a cursor stood, was joined, or is the own one
abbrev pub CursorsStoodOrCame : Type 0
CursorsStoodOrCame =
    (s : State) (c : Change)
    → Each (λ e. Member e s.store.vector ⊎ (Member e c.joined ⊎ ((e ≡ (s.inv, c.usn)) × (1 ≤ c.usn))))
    (after s c).store.vector

abbrev pub PurgedStoodOrCame : Type 0
PurgedStoodOrCame =
    (s : State) (c : Change)
    → Each (λ e. Member e s.store.purged ⊎ Member e c.purged) (after s c).store.purged

abbrev pub MarksStoodOrCame : Type 0
MarksStoodOrCame =
    (s : State) (c : Change)
    → Each (λ k. Member k s.store.marks ⊎ (c.mark ≡ Some k)) (after s c).store.marks

abbrev pub TimesStoodOrCame : Type 0
TimesStoodOrCame = (s : State) (c : Change) → Each (λ t. Member t s.store.times ⊎ Member t c.times) (after s c).store.times

-- partners of marks rise
abbrev pub ArePartnersRising : List (Identifier × PartnerMark) → Type 0
ArePartnersRising marks = IsStrictlySortedBy identifier_order (map (λ (k : Identifier × PartnerMark). k.0) marks)

abbrev pub PartnersStayRising : Type 0
PartnersStayRising =
    (s : State) (c : Change) → ArePartnersRising s.store.marks → ArePartnersRising (after s c).store.marks

-- what a taken reply brings is of the reply, under a USN within the limit
abbrev pub TakenIsOfReply : Type 0
TakenIsOfReply =
    (s : State) (r : Reply) (c : Change) → take s r ≡ Ok c
    → Each (λ u. (i : Item) × Member i r.items × Member u i.rows) (updates_written c)
    × (c.usn ≤ usn_limit) × (c.joined ≡ unwrap_or r.last []) × (c.times ≡ times_brought r)
    × (c.mark ≡ Some (r.source, record { inv = r.inv; mark = r.to })) × (c.purged ≡ [])
