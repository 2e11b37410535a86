-- Refusals as they are answered: a number, a name and fields.
use Rattle.std.specs.Prelude.{ℕ, List, [], ◌∷◌, codes}
use Rattle.adr_call.specs.declared.outcome.Field.{Field}
use Rattle.adr_call.specs.declared.outcome.Plainly.{Plainly}
use Rattle.adr_call.specs.declared.outcome.Plainly.TheVariants.{Id, Number, Mark as OneMark, Attr, Word}
use Rattle.adr_call.specs.declared.outcome.Outcome.{Outcome}
use Rattle.adr_call.specs.declared.outcome.Outcome.TheVariants as outcomes
use Rattle.adr_call.specs.declared.refusal.Table.{Table}
use Rattle.adr_call.specs.declared.refusal.Table.TheVariants as tables
use Rattle.adr_call.specs.declared.refusal.WriteRefusal.{WriteRefusal}
use Rattle.adr_call.specs.declared.refusal.WriteRefusal.TheVariants as writes
use Rattle.adr_values.specs.declared.refusal.SchemaRefusal.{SchemaRefusal}
use Rattle.adr_values.specs.declared.refusal.SchemaRefusal.TheVariants as schema
use Rattle.adr_call.specs.declared.refusal.ItemFault.{ItemFault}
use Rattle.adr_call.specs.declared.refusal.ItemFault.TheVariants as faults
use Rattle.adr_call.specs.declared.refusal.ServeRefusal.{ServeRefusal}
use Rattle.adr_call.specs.declared.refusal.ServeRefusal.TheVariants as serves
use Rattle.adr_call.specs.declared.refusal.TakeRefusal.{TakeRefusal}
use Rattle.adr_call.specs.declared.refusal.TakeRefusal.TheVariants as takes
use Rattle.adr_call.specs.declared.refusal.CollectRefusal.{CollectRefusal}
use Rattle.adr_call.specs.declared.refusal.CollectRefusal.TheVariants as collects
use Rattle.adr_call.specs.declared.refusal.UpgradeRefusal.{UpgradeRefusal}
use Rattle.adr_call.specs.declared.refusal.UpgradeRefusal.TheVariants as upgrades
use Rattle.adr_call.specs.declared.refusal.AdoptRefusal.{AdoptRefusal}
use Rattle.adr_call.specs.declared.refusal.AdoptRefusal.TheVariants as adopts

abbrev pub field : List ℕ → Plainly → Field
field name value = record { name = name; value = value }

abbrev pub table_name : Table → List ℕ
table_name tables.Objects = codes "Objects"
table_name tables.Links = codes "Links"
table_name tables.Cursors = codes "Cursors"
table_name tables.Marks = codes "Marks"
table_name tables.Log = codes "Log"

abbrev pub attr_field : ℕ → Field
attr_field attr = field (codes "attr") (Attr attr)

abbrev pub full_fields : Table → ℕ → List Field
full_fields table limit = field (codes "table") (Word (table_name table)) ∷ field (codes "limit") (Number limit) ∷ []

abbrev pub number_field : List ℕ → ℕ → Field
number_field name n = field name (Number n)

abbrev pub id_field : List ℕ → List ℕ → Field
id_field name id = field name (Id id)

-- the refusals that several calls share

abbrev pub quarantined : Outcome
quarantined = outcomes.Refused 23 (codes "Quarantined") []

abbrev pub usn_limited : Outcome
usn_limited = outcomes.Refused 21 (codes "UsnLimit") []

abbrev pub full : Table → ℕ → Outcome
full table limit = outcomes.Refused 22 (codes "Full") (full_fields table limit)

abbrev pub schemas_differ : ℕ → ℕ → Outcome
schemas_differ mine theirs = outcomes.Refused 31 (codes "SchemaMismatch") (number_field (codes "mine") mine ∷ number_field (codes "theirs") theirs ∷ [])

abbrev pub rolled_back : List ℕ → ℕ → ℕ → Outcome
rolled_back inv mine shown = outcomes.Refused 33 (codes "RolledBack") (id_field (codes "inv") inv ∷ number_field (codes "mine") mine ∷ number_field (codes "shown") shown ∷ [])

-- what the schema refuses
abbrev pub schema_refused : SchemaRefusal → Outcome
schema_refused schema.UnknownClass = outcomes.Refused 1 (codes "UnknownClass") []
schema_refused (schema.UnknownAttribute attr) = outcomes.Refused 2 (codes "UnknownAttribute") (attr_field attr ∷ [])
schema_refused (schema.NotAllowed attr) = outcomes.Refused 3 (codes "NotAllowed") (attr_field attr ∷ [])
schema_refused (schema.MissingMust attr) = outcomes.Refused 4 (codes "MissingMust") (attr_field attr ∷ [])
schema_refused (schema.BadValue attr at) = outcomes.Refused 5 (codes "BadValue") (attr_field attr ∷ field (codes "place") (Number at) ∷ [])
schema_refused (schema.IsLink attr) = outcomes.Refused 6 (codes "IsLink") (attr_field attr ∷ [])
schema_refused (schema.NotLink attr) = outcomes.Refused 7 (codes "NotLink") (attr_field attr ∷ [])
schema_refused (schema.BadName at) = outcomes.Refused 9 (codes "BadName") (field (codes "place") (Number at) ∷ [])

-- a refused write
abbrev pub write_refused : WriteRefusal → Outcome
write_refused (writes.Schema refusal) = schema_refused refusal
write_refused writes.BadSuperior = outcomes.Refused 8 (codes "BadSuperior") []
write_refused (writes.NoObject guid) = outcomes.Refused 10 (codes "NoObject") (field (codes "guid") (Id guid) ∷ [])
write_refused (writes.Deleted guid) = outcomes.Refused 11 (codes "Deleted") (field (codes "guid") (Id guid) ∷ [])
write_refused (writes.NoParent guid) = outcomes.Refused 12 (codes "NoParent") (field (codes "guid") (Id guid) ∷ [])
write_refused (writes.NameTaken holder) = outcomes.Refused 13 (codes "NameTaken") (field (codes "holder") (Id holder) ∷ [])
write_refused writes.WouldLoop = outcomes.Refused 14 (codes "WouldLoop") []
write_refused (writes.HasChildren child) = outcomes.Refused 15 (codes "HasChildren") (field (codes "child") (Id child) ∷ [])
write_refused (writes.Fixed guid) = outcomes.Refused 16 (codes "Fixed") (field (codes "guid") (Id guid) ∷ [])
write_refused (writes.GuidThere guid) = outcomes.Refused 17 (codes "GuidThere") (field (codes "guid") (Id guid) ∷ [])
write_refused writes.LinkThere = outcomes.Refused 18 (codes "LinkThere") []
write_refused writes.LinkNotThere = outcomes.Refused 19 (codes "LinkNotThere") []
write_refused (writes.VersionLimit attr) = outcomes.Refused 20 (codes "VersionLimit") (attr_field attr ∷ [])
write_refused writes.UsnLimit = usn_limited
write_refused (writes.Full table limit) = full table limit
write_refused writes.Quarantined = quarantined
write_refused (writes.SchemaMismatch mine theirs) = schemas_differ mine theirs
write_refused (writes.NotInImage guid) = outcomes.Refused 60 (codes "NotInImage") (field (codes "guid") (Id guid) ∷ [])
write_refused (writes.StillLive guid) = outcomes.Refused 61 (codes "StillLive") (field (codes "guid") (Id guid) ∷ [])
write_refused (writes.BirthThere guid) = outcomes.Refused 62 (codes "BirthThere") (field (codes "guid") (Id guid) ∷ [])

-- a refused request
abbrev pub serve_refused : ServeRefusal → Outcome
serve_refused serves.Quarantined = quarantined
serve_refused (serves.WrongController mine asked) = outcomes.Refused 30 (codes "WrongController") (id_field (codes "mine") mine ∷ id_field (codes "asked") asked ∷ [])
serve_refused (serves.BadMark prop obj seen) = outcomes.Refused 34 (codes "BadMark") (number_field (codes "prop") prop ∷ number_field (codes "obj") obj ∷ number_field (codes "seen") seen ∷ [])
serve_refused (serves.RolledBack inv mine shown) = rolled_back inv mine shown
serve_refused (serves.SchemaMismatch mine theirs) = schemas_differ mine theirs
serve_refused (serves.TooOld inv purged has) = outcomes.Refused 32 (codes "TooOld") (id_field (codes "inv") inv ∷ number_field (codes "purged") purged ∷ number_field (codes "has") has ∷ [])

-- the name of what is wrong with a row
abbrev pub schema_name : SchemaRefusal → List ℕ
schema_name schema.UnknownClass = codes "UnknownClass"
schema_name (schema.UnknownAttribute attr) = codes "UnknownAttribute"
schema_name (schema.NotAllowed attr) = codes "NotAllowed"
schema_name (schema.MissingMust attr) = codes "MissingMust"
schema_name (schema.BadValue attr at) = codes "BadValue"
schema_name (schema.IsLink attr) = codes "IsLink"
schema_name (schema.NotLink attr) = codes "NotLink"
schema_name (schema.BadName at) = codes "BadName"

abbrev pub fault_name : ItemFault → List ℕ
fault_name (faults.Schema refusal) = schema_name refusal
fault_name faults.WrongBirth = codes "WrongBirth"

-- a refused reply
abbrev pub take_refused : TakeRefusal → Outcome
take_refused takes.Quarantined = quarantined
take_refused (takes.NotMine dest) = outcomes.Refused 40 (codes "NotMine") (id_field (codes "dest") dest ∷ [])
take_refused (takes.Stale mark from) = outcomes.Refused 41 (codes "Stale") (field (codes "mark") (OneMark mark) ∷ field (codes "from") (OneMark from) ∷ [])
take_refused (takes.VectorBehind inv has needs) = outcomes.Refused 42 (codes "VectorBehind") (id_field (codes "inv") inv ∷ number_field (codes "has") has ∷ number_field (codes "needs") needs ∷ [])
take_refused (takes.SchemaMismatch mine theirs) = schemas_differ mine theirs
take_refused (takes.RolledBack inv mine shown) = rolled_back inv mine shown
take_refused (takes.BadItem at cause) = outcomes.Refused 44 (codes "BadItem") (number_field (codes "place") at ∷ field (codes "cause") (Word (fault_name cause)) ∷ [])
take_refused (takes.Incomplete object) = outcomes.Refused 43 (codes "Incomplete") (id_field (codes "object") object.guid ∷ [])
take_refused takes.UsnLimit = usn_limited
take_refused (takes.Full table limit) = full table limit

-- a refused collection
abbrev pub collect_refused : CollectRefusal → Outcome
collect_refused collects.Quarantined = quarantined
collect_refused collects.UsnLimit = usn_limited

-- a refused upgrade
abbrev pub upgrade_refused : UpgradeRefusal → Outcome
upgrade_refused upgrades.Quarantined = quarantined
upgrade_refused (upgrades.SchemaThere number) = outcomes.Refused 52 (codes "SchemaThere") (number_field (codes "number") number ∷ [])

-- a refused image
abbrev pub adopt_refused : AdoptRefusal → Outcome
adopt_refused adopts.IdentifierUsed = outcomes.Refused 50 (codes "IdentifierUsed") []
adopt_refused (adopts.Full table limit) = full table limit
