-- What the tests of the code stand for.
use Rattle.std.specs.Prelude.{ℕ, ℤ, List, Option, Some, None}
use Rattle.adr_search.specs.Asked.{Asked, is_there, is_equal, is_from, is_to, has_pieces, Test, texts, octets, numbers, flags, guids}
use Rattle.adr_search.specs.declared.asked.Asked.{Asked as Wanted}
use Rattle.adr_search.specs.declared.asked.Asked.TheVariants as wanted
use Rattle.adr_search.specs.declared.asked.Pattern.{Pattern}
use Rattle.adr_search.specs.declared.asked.BytesTest.{BytesTest}
use Rattle.adr_search.specs.declared.asked.BytesTest.TheVariants as bytes
use Rattle.adr_search.specs.declared.asked.NumberTest.{NumberTest}
use Rattle.adr_search.specs.declared.asked.NumberTest.TheVariants as ordered
use Rattle.adr_search.specs.declared.asked.Test.{Test as Held}
use Rattle.adr_search.specs.declared.asked.Test.TheVariants as held

-- what is asked, as it stands in a filter
abbrev pub asked_in : Wanted → Asked (List ℕ)
asked_in wanted.Present = is_there
asked_in (wanted.Equal value) = is_equal value.now
asked_in (wanted.AtLeast value) = is_from value.now
asked_in (wanted.AtMost value) = is_to value.now
asked_in (wanted.Pattern initial middle last) = has_pieces initial.now middle.now last.now

abbrev pub pattern_in : Pattern → Asked (List ℕ)
pattern_in p = has_pieces p.initial p.middle.items p.last

abbrev pub bytes_in : BytesTest → Asked (List ℕ)
bytes_in bytes.Present = is_there
bytes_in (bytes.Equal value) = is_equal value
bytes_in (bytes.AtLeast value) = is_from value
bytes_in (bytes.AtMost value) = is_to value
bytes_in (bytes.Like pattern) = pattern_in pattern

abbrev pub number_in : NumberTest → Asked ℤ
number_in ordered.Present = is_there
number_in (ordered.Equal value) = is_equal value
number_in (ordered.AtLeast value) = is_from value
number_in (ordered.AtMost value) = is_to value

-- a value that is to be there, or any
abbrev pub equal_in : {A : Type 0} → Option A → Asked A
equal_in None = is_there
equal_in (Some value) = is_equal value

-- a test
abbrev pub test_in : Held → Test
test_in (held.Texts t) = texts (bytes_in t)
test_in (held.Octets t) = octets (bytes_in t)
test_in (held.Numbers t) = numbers (number_in t)
test_in (held.Flags t) = flags (equal_in t)
test_in (held.Guids t) = guids (equal_in t)
