-- The reserved rows of the GUIDs that a change touches, while it is made.
use Rattle.std.specs.Prelude.{◌≡◌, List, unwrap_or}
use Rattle.std.specs.Option.{MatchOption}
use Rattle.std.specs.BTreeMap.{BTreeMap, get}
use Rattle.adr_values.specs.Order.{identifier_order}
use Rattle.adr_model.specs.Update.{Identifier}
use Rattle.adr_model.specs.Member.{Each}
use Rattle.adr_model.specs.Place.{node_at}
use Rattle.adr_model.specs.Store.{Held, updates_of}
use Rattle.adr_model.specs.Formed.{AreRising}
use Rattle.adr_model.specs.Write.{nodes_held}
use Rattle.adr_tree.specs.declared.edit.Edit.{Edit}
use Rattle.adr_state.specs.Core.{core_of}

-- a GUID that has a draft has these rows in it; one that has none has still the rows that it had
abbrev pub AreDrafts : List Held → List Held → BTreeMap Identifier (List Held) → Type 0
AreDrafts rows seen drafts =
    (guid : Identifier) → MatchOption (get identifier_order drafts guid) (core_of guid seen ≡ core_of guid rows) (λ draft. draft ≡ core_of guid seen)

-- the draft of a GUID is that among these, or where there is none what the GUID had
abbrev pub IsDraft : List Held → BTreeMap Identifier (List Held) → Identifier → List Held → Type 0
IsDraft rows drafts guid draft = draft ≡ unwrap_or (get identifier_order drafts guid) (core_of guid rows)

-- each draft rises
abbrev pub DoRise : List (Identifier × List Held) → Type 0
DoRise entries = Each (λ (e : Identifier × List Held). AreRising e.1) entries

-- what becomes of the live object of a GUID by its draft
abbrev pub edit_of : Identifier × List Held → Edit
edit_of e = record { guid = e.0; node = node_at (nodes_held (updates_of e.1)) e.0 }
