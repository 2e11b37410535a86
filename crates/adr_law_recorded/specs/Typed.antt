-- What an event's types say beyond the definitions: the identifiers that it gives and writes have sixteen bytes, written texts are UTF-8, number values have 64
-- bits, and a request is of a version that is known.
use Rattle.std.specs.Prelude.{◌≡◌, List, true, FitsSigned}
use Rattle.std.specs.Int.{w64}
use Rattle.std.specs.Str.{is_utf8}
use Rattle.adr_values.specs.Assignments.{Given}
use Rattle.adr_values.specs.declared.content.Value.{Value as Item}
use Rattle.adr_values.specs.declared.content.Value.TheVariants.{Text, Number, Flag, Octets, Ref}
use Rattle.adr_call.specs.declared.call.Call.{Call}
use Rattle.adr_call.specs.declared.call.Call.TheVariants as calls
use Rattle.adr_call.specs.declared.event.Event.{Event}
use Rattle.adr_call.specs.declared.event.Event.TheVariants as events
use Rattle.adr_call.specs.declared.event.Coming.TheVariants as comings
use Rattle.adr_call.specs.declared.event.Use.TheVariants as used
use Rattle.adr_call.specs.declared.event.Made.TheVariants as mades
use Rattle.adr_wire.specs.Headed.{is_version}
use Rattle.adr_wire.specs.Ranges.{IsId}
use Rattle.adr_model.specs.Member.{Each}
use Rattle.adr_model.specs.Write.{Write, AddObject, Modify, Rename, Delete, AddLink, RemoveLink, Revive, write_meant}
use Rattle.adr_image.specs.Stored.{IsSpelled}

abbrev pub IsTypedValue : Item → Type 0
IsTypedValue (Text bytes) = is_utf8 bytes ≡ true
IsTypedValue (Number number) = FitsSigned w64 number
IsTypedValue (Flag flag) = Unit {0}
IsTypedValue (Octets bytes) = Unit {0}
IsTypedValue (Ref guid) = IsId guid

abbrev pub AreTypedValues : List Given → Type 0
AreTypedValues values = Each (λ (g : Given). Each IsTypedValue g.1) values

abbrev pub IsTypedWrite : Write → Type 0
IsTypedWrite (AddObject guid class parent text values) = IsId guid × IsId parent × (is_utf8 text ≡ true) × AreTypedValues values
IsTypedWrite (Modify guid values) = IsId guid × AreTypedValues values
IsTypedWrite (Rename guid parent text) = IsId guid × IsId parent × (is_utf8 text ≡ true)
IsTypedWrite (Delete guid) = IsId guid
IsTypedWrite (AddLink from attr to) = IsId from × IsId to
IsTypedWrite (RemoveLink from attr to) = IsId from × IsId to
IsTypedWrite (Revive image guid parent text) = IsSpelled image × IsId guid × IsId parent × (is_utf8 text ≡ true)

-- a client's call whose write is so
abbrev pub IsTypedCall : Call → Type 0
IsTypedCall (calls.Write what) = IsTypedWrite (write_meant what)
IsTypedCall _ = Unit {0}

-- an event whose write is so, or which gives identifiers that are; the image of a revival isn't the event's
abbrev pub IsTyped : Event → Type 0
IsTyped (events.Comes name inv (comings.Fresh dsa)) = IsId dsa × IsId inv
IsTyped (events.Comes name inv (comings.Restored image)) = IsId inv
IsTyped (events.Comes name inv (comings.Installed dsa image)) = IsId dsa × IsId inv
IsTyped (events.Uses name (used.Revive guid parent text) image) = IsId guid × IsId parent × (is_utf8 text ≡ true)
IsTyped (events.Calls name what) = IsTypedCall what
IsTyped (events.Binds name (mades.Ask partner max version) bind) = is_version version ≡ true
IsTyped e = Unit {0}

abbrev pub AreTyped : List Event → Type 0
AreTyped events = Each IsTyped events
