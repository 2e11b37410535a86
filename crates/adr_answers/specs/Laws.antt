-- The laws of the lines: what a report writes tells what it reports.
use Rattle.std.specs.Prelude.{◌≡◌, ◌<◌, ◌+◌, ◌^◌, ℕ, List, ◌++◌, length, codes, All, true, IsSome}
use Rattle.adr_values.specs.declared.mark.Mark.{Mark}
use Rattle.adr_values.specs.declared.content.Value.{Value as Item}
use Rattle.adr_values.specs.declared.content.Value.TheVariants.{Text, Number, Flag, Octets, Ref}
use Rattle.adr_values.specs.Allowed.{IsAllowed}
use Rattle.adr_values.specs.Numbered.{numbered}
use Rattle.adr_values.specs.Table.{class_at, is_forward, kind_at}
use Rattle.adr_values.specs.Times.{AreTimesOf}
use Rattle.adr_values.specs.Vector.{Cursors, IsVector}
use Rattle.adr_call.specs.declared.outcome.Outcome.{Outcome}
use Rattle.adr_call.specs.declared.outcome.Outcome.TheVariants.{Show, Vector, Marks}
use Rattle.adr_call.specs.declared.directory.Entry.{Entry}
use Rattle.adr_token.specs.Laws.{IsIdentifier}
use Rattle.adr_answers.specs.Line.{line, report_lines}
use Rattle.adr_answers.specs.Printable.{IsPrintable, IsPrintableCursor, IsPrintableMoment, IsPrintablePartner, ArePrintableValues, ArePrintableLinks}

-- what a report writes
abbrev pub report : List ℕ → List ℕ → Outcome → List ℕ
report verb name outcome = line (record { verb = verb; name = name; outcome = outcome })

-- what a `show` writes of a directory
abbrev pub shown : List ℕ → List Entry → List ℕ
shown name d = report (codes "show") name (Show d)

abbrev pub EqualLinesMeanEqualDirectories : Type 0
EqualLinesMeanEqualDirectories = (name : List ℕ) (d e : List Entry) → IsPrintable d → IsPrintable e → shown name d ≡ shown name e → d ≡ e

-- the lines of the entries alone, as two controllers write them below their names
abbrev pub EqualEntryLinesMeanEqualDirectories : Type 0
EqualEntryLinesMeanEqualDirectories = (d e : List Entry) → IsPrintable d → IsPrintable e → report_lines (Show d) ≡ report_lines (Show e) → d ≡ e

-- whatever follows, as further answers: the line says how many entries there are, and each of these says where it ends
abbrev pub LinesAreToldFromWhatFollows : Type 0
LinesAreToldFromWhatFollows = (name : List ℕ) (d e : List Entry) (rest more : List ℕ) → IsPrintable d → IsPrintable e → length d < 2 ^ 64 → length e < 2 ^ 64
    → shown name d ++ rest ≡ shown name e ++ more → (d ≡ e) × (rest ≡ more)

-- of vectors with the times beside them
abbrev pub EqualLinesMeanEqualVectors : Type 0
EqualLinesMeanEqualVectors = (name : List ℕ) (v w t u : Cursors) → IsVector v → IsVector w → AreTimesOf v t → AreTimesOf w u
    → All IsPrintableCursor v → All IsPrintableCursor w → All IsPrintableMoment t → All IsPrintableMoment u
    → report (codes "vector") name (Vector v t) ≡ report (codes "vector") name (Vector w u) → (v ≡ w) × (t ≡ u)

abbrev pub EqualLinesMeanEqualMarks : Type 0
EqualLinesMeanEqualMarks = (name : List ℕ) (m n : List (List ℕ × List ℕ × Mark)) → All IsPrintablePartner m → All IsPrintablePartner n
    → report (codes "marks") name (Marks m) ≡ report (codes "marks") name (Marks n) → m ≡ n

-- a reference has sixteen bytes
abbrev pub IsWholeReference : Item → Type 0
IsWholeReference (Ref id) = IsIdentifier id
IsWholeReference (Text text) = Unit {0}
IsWholeReference (Number number) = Unit {0}
IsWholeReference (Flag flag) = Unit {0}
IsWholeReference (Octets octets) = Unit {0}

-- what a schema knows or allows is printable, where identifiers have sixteen bytes

abbrev pub KnownClassesArePrintable : Type 0
KnownClassesArePrintable = (schema class : ℕ) → IsSome (class_at (numbered schema) class) → class < 2 ^ 64

abbrev pub AllowedValuesArePrintable : Type 0
AllowedValuesArePrintable = (schema class attr : ℕ) (values : List Item) → IsAllowed (numbered schema) class attr values → All IsWholeReference values → ArePrintableValues (attr, values)

-- a link is shown at both ends: its back link has the next number
abbrev pub LinksArePrintable : Type 0
LinksArePrintable = (schema attr : ℕ) (guids : List (List ℕ)) → is_forward (kind_at (numbered schema) attr) ≡ true → All IsIdentifier guids
    → ArePrintableLinks (attr, guids) × ArePrintableLinks (attr + 1, guids)
