-- The laws, as facts: every change that a call makes of a state of a log can be recorded, and messages stay in their ranges.
use Rattle.std.specs.Prelude.{◌≡◌, ◌<◌, ◌^◌, ℕ, Ok, true}
use Rattle.adr_wire.specs.Headed.{is_version}
use Rattle.adr_wire.specs.Ranges.{IsId, IsU32}
use Rattle.adr_model.specs.Update.{Identifier}
use Rattle.adr_model.specs.Formed.{IsFormedStore}
use Rattle.adr_model.specs.Store.{Normal, State, Store, empty_state}
use Rattle.adr_model.specs.Change.{Change, after}
use Rattle.adr_model.specs.Serve.{Request, Reply, ask, serve}
use Rattle.adr_model.specs.Take.{take}
use Rattle.adr_model.specs.Write.{Write, write}
use Rattle.adr_model.specs.Given.{IsWellGiven}
use Rattle.adr_model.specs.Collect.{adopt, collect, quarantine}
use Rattle.adr_model.specs.Upgrade.{upgrade}
use Rattle.adr_state.specs.Refusal.{IsOverfull}
use Rattle.adr_model.specs.Spelled.{IsSpelledReply}
use Rattle.adr_image.specs.Stored.{IsSpelled}
use Rattle.adr_records.specs.Logged.{IsLogged, MayBegin, MayBeRecorded}
use Rattle.adr_law_recorded.specs.Typed.{IsTypedWrite}
use Rattle.adr_law_recorded.specs.Ranged.{IsRangedRequest, IsRangedReply}

-- ---- where logs begin, and how they go on

abbrev pub NewMayBegin : Type 0
NewMayBegin = (dsa inv : Identifier) → IsId dsa → IsId inv → MayBegin (empty_state dsa inv)

-- a controller of an image is up, and its state is one of a log
abbrev pub AdoptedIsLogged : Type 0
AdoptedIsLogged =
    (image : Store) (dsa inv : Identifier) (s : State) → IsFormedStore image → IsSpelled image → IsId dsa → IsId inv → adopt image dsa inv ≡ Ok s
    → IsLogged s × (s.mode ≡ Normal)

-- what was recorded leads to a state of a log, and every one of those fits into memory
abbrev pub RecordedIsLogged : Type 0
RecordedIsLogged = (s : State) (c : Change) → MayBeRecorded s c → IsLogged (after s c)

abbrev pub LoggedFits : Type 0
LoggedFits = (s : State) → IsLogged s → IsOverfull s → ⊥

-- ---- what calls change

abbrev pub WrittenIsRecorded : Type 0
WrittenIsRecorded =
    (s : State) (w : Write) (now : ℕ) (c : Change) → IsLogged s → IsWellGiven w → IsTypedWrite w → now < 2 ^ 64 → write s w now ≡ Ok c
    → MayBeRecorded s c

abbrev pub TakenIsRecorded : Type 0
TakenIsRecorded =
    (s : State) (r : Reply) (c : Change) → IsLogged s → IsSpelledReply r → IsRangedReply r → take s r ≡ Ok c → MayBeRecorded s c

abbrev pub CollectedIsRecorded : Type 0
CollectedIsRecorded =
    (s : State) (now lifetime : ℕ) (c : Change) → IsLogged s → collect s now lifetime ≡ Ok c → MayBeRecorded s c

abbrev pub QuarantineIsRecorded : Type 0
QuarantineIsRecorded = (s : State) → IsLogged s → s.mode ≡ Normal → MayBeRecorded s (quarantine s)

abbrev pub UpgradeIsRecorded : Type 0
UpgradeIsRecorded = (s : State) (c : Change) → IsLogged s → upgrade s ≡ Ok c → MayBeRecorded s c

-- ---- messages

abbrev pub AskedIsRanged : Type 0
AskedIsRanged =
    (s : State) (partner : Identifier) (max version : ℕ) → IsLogged s → IsU32 max → is_version version ≡ true
    → IsRangedRequest (ask s partner max version)

abbrev pub ServedIsRanged : Type 0
ServedIsRanged =
    (s : State) (q : Request) (r : Reply) (now : ℕ) → IsLogged s → IsRangedRequest q → now < 2 ^ 64 → serve s q now ≡ Ok r
    → IsSpelledReply r × IsRangedReply r
