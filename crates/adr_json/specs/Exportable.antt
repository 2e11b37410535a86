-- What is needed of a directory so that no other one has its JSON.
use Rattle.std.specs.Prelude.{◌≡◌, ℕ, List, Bool, true, false, map, All, Option, Some}
use Rattle.std.specs.List.Sorted.{IsStrictlySortedBy}
use Rattle.std.specs.Ordering.{nat_cmp}
use Rattle.adr_values.specs.declared.content.Value.{Value as Item}
use Rattle.adr_values.specs.declared.content.Value.TheVariants.{Text, Number, Flag, Octets, Ref}
use Rattle.adr_values.specs.declared.table.Kind.{Kind}
use Rattle.adr_values.specs.declared.table.Kind.TheVariants.{Plain}
use Rattle.adr_values.specs.declared.table.Syntax.{Syntax}
use Rattle.adr_values.specs.declared.table.Syntax.TheVariants.{Text as OfText, Number as OfNumber, Flag as OfFlag, Octets as OfOctets, Ref as OfRef}
use Rattle.adr_values.specs.Schemas.{newest}
use Rattle.adr_values.specs.Table.{kind_at}
use Rattle.adr_call.specs.declared.directory.Entry.{Entry}
use Rattle.adr_answers.specs.Printable.{IsPrintableEntry}

-- whether a value is of a syntax, whatever its range
abbrev pub is_of_syntax : Syntax → Item → Bool
is_of_syntax (OfText least greatest) (Text text) = true
is_of_syntax (OfNumber least greatest) (Number n) = true
is_of_syntax OfFlag (Flag flag) = true
is_of_syntax (OfOctets least greatest) (Octets octets) = true
is_of_syntax OfRef (Ref id) = true
is_of_syntax _ _ = false

-- whether a value is of what an attribute holds
abbrev pub is_of_kind : Option Kind → Item → Bool
is_of_kind (Some (Plain syntax most)) v = is_of_syntax syntax v
is_of_kind _ v = false

-- an attribute with values of its syntax
abbrev pub AreOfKind : ℕ × List Item → Type 0
AreOfKind v = All (λ (x : Item). is_of_kind (kind_at newest v.0) x ≡ true) v.1

-- attributes that rise, so none is there twice
abbrev pub AttributesRise : {A : Type 0} → List (ℕ × A) → Type 0
AttributesRise {A} xs = IsStrictlySortedBy nat_cmp (map (λ (x : ℕ × A). x.0) xs)

pub record IsExportableEntry (e : Entry) : Type 0 where
  -- identifiers, numbers and links are told by their texts
  pub printable : IsPrintableEntry e
  -- a text of digits and octets of these digits are one string
  pub kinds : All AreOfKind e.values
  -- an object has its members in the order of their names, each once
  pub values_rise : AttributesRise e.values
  -- likewise
  pub links_rise : AttributesRise e.links

-- a directory
abbrev pub IsExportable : List Entry → Type 0
IsExportable d = All IsExportableEntry d
