-- What a filter is of an entry.
use Rattle.std.specs.Prelude.{ℕ, ℤ, List, [], ◌∷◌, Bool, true, false, not, int_le, ◌==◌, find, map, Option, Some, None, if◌then◌else◌}
use Rattle.std.specs.List.{list_any}
use Rattle.std.specs.Option.{option_map_or}
use Rattle.std.specs.Ordering.{int_eq, is_le}
use Rattle.std.specs.Str.{bytes_eq}
use Rattle.adr_values.specs.Order.{identifier_order}
use Rattle.adr_values.specs.Folding.{folded}
use Rattle.adr_values.specs.Schemas.{newest}
use Rattle.adr_values.specs.Table.{Class, class_at}
use Rattle.adr_values.specs.declared.content.Value.{Value as Datum}
use Rattle.adr_values.specs.declared.content.Value.TheVariants as datums
use Rattle.adr_call.specs.declared.directory.Entry.{Entry}
use Rattle.adr_filter.specs.Tree.{Tree, every, any, opposite, equal, at_least, at_most, present, substrings, Trees, no_trees, tree}
use Rattle.adr_search.specs.declared.truth.Truth.{Truth}
use Rattle.adr_search.specs.declared.truth.Truth.TheVariants.{False, Undefined, True}
use Rattle.adr_search.specs.declared.fields.Place.{Place}
use Rattle.adr_search.specs.declared.fields.Place.TheVariants as places
use Rattle.adr_search.specs.declared.fields.Field.{Field}
use Rattle.adr_search.specs.Truths.{both, either, swapped, told}
use Rattle.adr_search.specs.Fields.{field_named}
use Rattle.adr_search.specs.Asked.{Asked, is_there, is_equal, is_from, is_to, has_pieces, Test, texts, octets, numbers, flags, guids, test_of}
use Rattle.adr_search.specs.Pieces.{is_of_pattern}

-- ---- whether a value is as is asked

abbrev pub bytes_meet : Asked (List ℕ) → List ℕ → Bool
bytes_meet is_there x = true
bytes_meet (is_equal v) x = bytes_eq v x
bytes_meet (is_from v) x = is_le (identifier_order v x)
bytes_meet (is_to v) x = is_le (identifier_order x v)
bytes_meet (has_pieces initial middle last) x = is_of_pattern initial middle last x

abbrev pub number_meets : Asked ℤ → ℤ → Bool
number_meets is_there x = true
number_meets (is_equal v) x = int_eq v x
number_meets (is_from v) x = int_le v x
number_meets (is_to v) x = int_le x v
number_meets (has_pieces initial middle last) x = false

abbrev pub equal_meets : {A : Type 0} → (A → A → Bool) → Asked A → A → Bool
equal_meets same is_there x = true
equal_meets same (is_equal v) x = same v x
equal_meets same (is_from v) x = false
equal_meets same (is_to v) x = false
equal_meets same (has_pieces initial middle last) x = false

abbrev pub same_flag : Bool → Bool → Bool
same_flag a b = if a then b else not b

abbrev pub is_met : Test → Datum → Bool
is_met (texts a) (datums.Text t) = bytes_meet a (folded t)
is_met (octets a) (datums.Octets o) = bytes_meet a o
is_met (numbers a) (datums.Number n) = number_meets a n
is_met (flags a) (datums.Flag f) = equal_meets same_flag a f
is_met (guids a) (datums.Ref g) = equal_meets bytes_eq a g
is_met _ _ = false

-- ---- the values of an entry

abbrev pub class_text : ℕ → List ℕ
class_text class = option_map_or (λ (c : Class). c.name) (class_at newest class) []

-- what stands under a number
abbrev pub under : {A : Type 0} → ℕ → List (ℕ × List A) → List A
under {A = A} attr pairs = option_map_or (λ (p : ℕ × List A). p.1) (find (λ (p : ℕ × List A). p.0 == attr) pairs) []

-- the values that stand in a place
abbrev pub values_at : Place → Entry → List Datum
values_at places.Class e = datums.Text (class_text e.class) ∷ []
values_at places.Name e = datums.Text e.name ∷ []
values_at (places.Values attr) e = under attr e.values
values_at (places.Links attr) e = map datums.Ref (under attr e.links)

-- ---- a filter

-- what can't be read is undefined, before values are looked at
abbrev pub judged : Place → Option Test → Entry → Truth
judged place None e = Undefined
judged place (Some t) e = told (list_any (is_met t) (values_at place e))

abbrev pub asked_of : Option Field → Asked (List ℕ) → Entry → Truth
asked_of None asked e = Undefined
asked_of (Some f) asked e = judged f.place (test_of f.form asked) e

abbrev pub tested : List ℕ → Asked (List ℕ) → Entry → Truth
tested name asked e = asked_of (field_named name) asked e

abbrev mutual
  pub matches : Tree → Entry → Truth
  matches (every ts) e = all_match ts e
  matches (any ts) e = some_match ts e
  matches (opposite t) e = swapped (matches t e)
  matches (equal attr value) e = tested attr (is_equal value) e
  matches (at_least attr value) e = tested attr (is_from value) e
  matches (at_most attr value) e = tested attr (is_to value) e
  matches (present attr) e = tested attr is_there e
  matches (substrings attr initial middle last) e = tested attr (has_pieces initial middle last) e

  pub all_match : Trees → Entry → Truth
  all_match no_trees e = True
  all_match (tree t ts) e = both (matches t e) (all_match ts e)

  pub some_match : Trees → Entry → Truth
  some_match no_trees e = False
  some_match (tree t ts) e = either (matches t e) (some_match ts e)
