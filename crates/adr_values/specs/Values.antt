-- Which values are of a syntax, and the first place of a list at which a value is not.
use Rattle.std.specs.Prelude.{ℕ, List, length, take, Bool, true, false, not, ◌&&◌, ◌||◌, nat_le, int_le, Option, None, Some}
use Rattle.std.specs.List.{list_any, slice_get}
use Rattle.std.specs.Str.{bytes_eq}
use Rattle.std.specs.Ordering.{int_eq, is_eq, bool_cmp}
use Rattle.adr_values.specs.declared.content.Value.{Value as Item}
use Rattle.adr_values.specs.declared.content.Value.TheVariants.{Text, Number, Flag, Octets, Ref}
use Rattle.adr_values.specs.declared.table.Syntax.{Syntax}
use Rattle.adr_values.specs.declared.table.Syntax.TheVariants.{Text as OfText, Number as OfNumber, Flag as OfFlag, Octets as OfOctets, Ref as OfRef}
use Rattle.adr_values.specs.Places.{first_place}

-- whether two values are one
abbrev pub same_value : Item → Item → Bool
same_value (Text a) (Text b) = bytes_eq a b
same_value (Number a) (Number b) = int_eq a b
same_value (Flag a) (Flag b) = is_eq (bool_cmp a b)
same_value (Octets a) (Octets b) = bytes_eq a b
same_value (Ref a) (Ref b) = bytes_eq a b
same_value _ _ = false

-- whether a number of bytes is within a range
abbrev pub is_within : ℕ → ℕ → ℕ → Bool
is_within least greatest n = nat_le least n && nat_le n greatest

-- whether a value is of a syntax and within its range
abbrev pub fits : Syntax → Item → Bool
fits (OfText least greatest) (Text bytes) = is_within least greatest (length bytes)
fits (OfNumber least greatest) (Number n) = int_le least n && int_le n greatest
fits OfFlag (Flag b) = true
fits (OfOctets least greatest) (Octets bytes) = is_within least greatest (length bytes)
fits OfRef (Ref guid) = true
fits _ _ = false

-- whether a value, with those before it, is out of range or repeats one of them
abbrev pub is_misplaced : Syntax → List Item → Option Item → Bool
is_misplaced syntax before None = false
is_misplaced syntax before (Some v) = not (fits syntax v) || list_any (λ w. same_value w v) before

-- whether the value at a place is one too many, out of range or there before
abbrev pub is_bad_at : Syntax → ℕ → List Item → ℕ → Bool
is_bad_at syntax most values place = nat_le most place || is_misplaced syntax (take place values) (slice_get values place)

-- the first place of a bad value, of an attribute of this syntax with at most so many values
unfoldable pub bad_place : Syntax → ℕ → List Item → Option ℕ
bad_place syntax most values = first_place (is_bad_at syntax most values) (length values)
