-- Up-to-dateness vectors: up to which write of each incarnation one has seen everything.
use Rattle.std.specs.Prelude.{ℕ, ◌≤◌, List, [], ◌∷◌, length, Bool, nat_le, not, if◌then◌else◌, Option, option_map, find, fold}
use Rattle.std.specs.List.{list_all, AllByRecursion}
use Rattle.std.specs.List.Sorted.{IsStrictlySortedBy}
use Rattle.std.specs.Map.{keys_of}
use Rattle.std.specs.Ordering.{is_eq}
use Rattle.std.specs.BTreeMap.{insert_entry}
use Rattle.adr_values.specs.Order.{identifier_order}

-- cursors, each an invocation identifier and a USN
abbrev pub Cursors : Type 0
Cursors = List (List ℕ × ℕ)

-- the USN at an identifier, 0 where it has no cursor
abbrev pub at : Cursors → List ℕ → ℕ
at [] inv = 0
at (c ∷ cs) inv = if is_eq (identifier_order inv c.0) then c.1 else at cs inv

-- whether the write with this USN has been seen
abbrev pub covers : Cursors → List ℕ → ℕ → Bool
covers cursors inv usn = nat_le usn (at cursors inv)

-- whether w has seen all that v has
abbrev pub at_most : Cursors → Cursors → Bool
at_most v w = list_all (λ c. covers w c.0 c.1) v

-- the first identifier at which v is above w, with the USN there of w and that of v
abbrev pub first_gap : Cursors → Cursors → Option (List ℕ × ℕ × ℕ)
first_gap v w = option_map (λ c. (c.0, at w c.0, c.1)) (find (λ c. not (covers w c.0 c.1)) v)

-- with the USN at an identifier brought up to this one
abbrev pub raised : Cursors → List ℕ → ℕ → Cursors
raised cursors inv usn = if covers cursors inv usn then cursors else insert_entry identifier_order cursors inv usn

-- what has been seen by the one or by the other
abbrev pub joined : Cursors → Cursors → Cursors
joined v w = fold (λ u c. raised u c.0 c.1) v w

-- how many cursors a vector has at most
abbrev pub cursor_limit : ℕ
cursor_limit = 10000

-- identifiers rise, no cursor stands for nothing seen, and there are few enough
pub record IsVector (cursors : Cursors) : Type 0 where
  pub rising : IsStrictlySortedBy identifier_order (keys_of cursors)
  pub from_one : AllByRecursion (λ c. 1 ≤ c.1) cursors
  pub few : length cursors ≤ cursor_limit
