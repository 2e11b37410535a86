-- The rows of the values that a live object is given, and why they can't be written.
use Rattle.std.specs.Prelude.{ℕ, List, map, Option}
use Rattle.adr_values.specs.declared.stamp.Oid.{Oid}
use Rattle.adr_values.specs.Assignments.{Given}
use Rattle.adr_values.specs.declared.content.Content.TheVariants.{Values}
use Rattle.adr_call.specs.declared.refusal.WriteRefusal.{WriteRefusal}
use Rattle.adr_values.specs.First.{first_of}
use Rattle.adr_model.specs.Store.{Held, State}
use Rattle.adr_model.specs.Update.{RowOf, Update}
use Rattle.adr_model.specs.Write.{next_row, version_refusal}

-- the row of each attribute, one version on
abbrev pub next_rows : State → ℕ → Oid → List Given → List Update
next_rows s now o values = map (λ (g : Given). next_row s now o g.0 (Values g.1)) values

-- the first attribute whose version can't rise
abbrev pub versions_refusal : List Held → Oid → List Given → Option WriteRefusal
versions_refusal rows o values = first_of (map (λ (g : Given). version_refusal rows (RowOf o g.0) g.0) values)
