-- What is asked of the values of a field, and how the values of a filter are read for it.
use Rattle.std.specs.Prelude.{ℕ, ℤ, List, [], ◌∷◌, Bool, true, false, Option, Some, None, if◌then◌else◌, codes}
use Rattle.std.specs.Option.{option_map, option_or, option_and_then}
use Rattle.std.specs.Str.{bytes_eq, is_utf8}
use Rattle.adr_values.specs.Folding.{folded}
use Rattle.adr_token.specs.Numbers.{signed_of}
use Rattle.adr_token.specs.Identifiers.{full_identifier, identifier_of}
use Rattle.adr_search.specs.declared.fields.Form.{Form}
use Rattle.adr_search.specs.declared.fields.Form.TheVariants.{Folded, Number, Flag, Bytes, Guid}

-- that there is a value, or one equal to this one, from it on, up to it, or with these pieces
pub data Asked (A : Type 0) : Type 0 where
  is_there : Asked A
  is_equal : (value : A) → Asked A
  is_from : (value : A) → Asked A
  is_to : (value : A) → Asked A
  has_pieces : (initial : A) (middle : List A) (last : A) → Asked A

-- a test, with the value of the filter read
pub data Test : Type 0 where
  texts : Asked (List ℕ) → Test
  octets : Asked (List ℕ) → Test
  numbers : Asked ℤ → Test
  flags : Asked Bool → Test
  guids : Asked (List ℕ) → Test

-- ---- how a value is read

-- a text, folded
abbrev pub text_of : List ℕ → Option (List ℕ)
text_of v = if is_utf8 v then Some (folded v) else None

-- the bytes as they are, or as a text
abbrev pub value_read : Bool → List ℕ → Option (List ℕ)
value_read true v = text_of v
value_read false v = Some v

abbrev pub flag_of : List ℕ → Option Bool
flag_of v = if bytes_eq v (codes "TRUE") then Some true else if bytes_eq v (codes "FALSE") then Some false else None

-- an identifier, as its full text or as in a line
abbrev pub guid_of : List ℕ → Option (List ℕ)
guid_of v = option_or (full_identifier v) (identifier_of v)

-- ---- what is asked, read; where a value can't be read, or is not to be compared so, there is none

abbrev pub all_read : (List ℕ → Option (List ℕ)) → List (List ℕ) → Option (List (List ℕ))
all_read read [] = Some []
all_read read (v ∷ vs) = option_and_then (λ first. option_map (λ rest. first ∷ rest) (all_read read vs)) (read v)

-- equality, order and patterns, whose pieces are read one by one
abbrev pub in_bytes : (List ℕ → Option (List ℕ)) → Asked (List ℕ) → Option (Asked (List ℕ))
in_bytes read is_there = Some is_there
in_bytes read (is_equal v) = option_map is_equal (read v)
in_bytes read (is_from v) = option_map is_from (read v)
in_bytes read (is_to v) = option_map is_to (read v)
in_bytes read (has_pieces initial middle last) =
    option_and_then (λ i. option_and_then (λ m. option_map (λ l. has_pieces i m l) (read last)) (all_read read middle)) (read initial)

-- equality and order
abbrev pub in_order : {A : Type 0} → (List ℕ → Option A) → Asked (List ℕ) → Option (Asked A)
in_order read is_there = Some is_there
in_order read (is_equal v) = option_map is_equal (read v)
in_order read (is_from v) = option_map is_from (read v)
in_order read (is_to v) = option_map is_to (read v)
in_order read (has_pieces initial middle last) = None

-- equality alone
abbrev pub apart : {A : Type 0} → (List ℕ → Option A) → Asked (List ℕ) → Option (Asked A)
apart read is_there = Some is_there
apart read (is_equal v) = option_map is_equal (read v)
apart read (is_from v) = None
apart read (is_to v) = None
apart read (has_pieces initial middle last) = None

-- the test of a field whose values have this form
abbrev pub test_of : Form → Asked (List ℕ) → Option Test
test_of Folded asked = option_map texts (in_bytes (value_read true) asked)
test_of Bytes asked = option_map octets (in_bytes (value_read false) asked)
test_of Number asked = option_map numbers (in_order signed_of asked)
test_of Flag asked = option_map flags (apart flag_of asked)
test_of Guid asked = option_map guids (apart guid_of asked)
