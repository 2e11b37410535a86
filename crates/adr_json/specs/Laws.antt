-- The laws of the JSON of directories: it reads back, it tells the directory, and what a schema allows is told.
use Rattle.std.specs.Prelude.{◌≡◌, ℕ, List, Some}
use Rattle.serde_json.specs.Read.{read}
use Rattle.adr_values.specs.declared.content.Value.{Value as Item}
use Rattle.adr_values.specs.Allowed.{IsAllowed}
use Rattle.adr_values.specs.Numbered.{numbered}
use Rattle.adr_call.specs.declared.directory.Entry.{Entry}
use Rattle.adr_answers.specs.Printable.{IsPrintable}
use Rattle.adr_json.specs.Text.{array_by, entry_json, json_text}
use Rattle.adr_json.specs.Exportable.{AreOfKind, IsExportable}

-- the text is JSON, and whoever reads it finds the objects of the entries
abbrev pub JsonReadsBack : Type 0
JsonReadsBack = (d : List Entry) → IsPrintable d → read (json_text d) ≡ Some (array_by entry_json d)

abbrev pub EqualJsonMeansEqualDirectories : Type 0
EqualJsonMeansEqualDirectories = (d e : List Entry) → IsExportable d → IsExportable e → json_text d ≡ json_text e → d ≡ e

-- what a schema allows of an attribute is of what the attribute holds
abbrev pub AllowedValuesAreOfKind : Type 0
AllowedValuesAreOfKind = (schema class attr : ℕ) (values : List Item) → IsAllowed (numbered schema) class attr values → AreOfKind (attr, values)
