-- The schedule that is generated of a number N: on four controllers, ten groups and 5 N persons are added, every tenth person is deleted, and all is collected.
use Rattle.std.specs.Prelude.{ℕ, zero, suc, ◌+◌, ◌*◌, ◌/◌, ◌%◌, ◌^◌, List, [], ◌∷◌, ◌++◌, ◌==◌, if◌then◌else◌, map, codes, pos}
use Rattle.std.specs.Fmt.{decimal}
use Rattle.std.specs.Int.{w128, to_be_bytes}
use Rattle.std.specs.List.{range_with_len, flat_map}
use Rattle.adr_values.specs.declared.content.Value.TheVariants.{Text, Number}
use Rattle.adr_call.specs.declared.write.Write.TheVariants.{Add, Delete, Link}
use Rattle.adr_call.specs.declared.event.Event.{Event}
use Rattle.adr_call.specs.declared.call.Call.TheVariants.{Write, Collect}
use Rattle.adr_call.specs.declared.event.Event.TheVariants.{Time, Calls, Binds, Comes, Goes}
use Rattle.adr_call.specs.declared.event.Coming.TheVariants.{Fresh, Restored}
use Rattle.adr_call.specs.declared.event.Made.TheVariants.{Ask, Backup, Serve}
use Rattle.adr_call.specs.declared.event.Exchange.TheVariants.{Cycle, Pull}

-- ---- names and numbers

-- controller number 0 is A, 1 is B, 2 is C, and 3 is D
unfoldable pub controller : ℕ → List ℕ
controller number = if number == 0 then codes "A" else if number == 1 then codes "B" else if number == 2 then codes "C" else codes "D"

unfoldable pub identifier : ℕ → List ℕ
identifier number = to_be_bytes w128 number

abbrev pub root : List ℕ
root = identifier 1

abbrev pub group : ℕ → List ℕ
group g = identifier (0x100 + g)

abbrev pub person : ℕ → List ℕ
person k = identifier (0x1000 + k)

-- a word with a number behind it
unfoldable pub numbered : List ℕ → ℕ → List ℕ
numbered word number = word ++ decimal number

-- the numbers of the schema: the classes user and group, and the attributes sAMAccountName, groupType and member
abbrev pub user : ℕ
user = 5

abbrev pub group_class : ℕ
group_class = 6

abbrev pub account_name : ℕ
account_name = 10

abbrev pub group_type : ℕ
group_type = 19

abbrev pub member : ℕ
member = 30

-- ---- draws

-- the generator of pseudo-random numbers: the state behind a state
unfoldable pub next_state : ℕ → ℕ
next_state x = (x * 6364136223846793005 + 1442695040888963407) % 2 ^ 64

-- what a draw below a bound gives, in the state that it leaves
unfoldable pub drawn : ℕ → ℕ → ℕ
drawn x bound = (x / 2 ^ 33) % bound

-- the state behind so many draws from a state
unfoldable pub state : ℕ → ℕ → ℕ
state x zero = x
state x (suc draws) = next_state (state x draws)

-- ---- lines

-- A, B, C and D, each with a cycle from the one before it
unfoldable pub round : List Event
round = Goes (codes "B") (Cycle (codes "A") 50) ∷ Goes (codes "C") (Cycle (codes "B") 50) ∷ Goes (codes "D") (Cycle (codes "C") 50) ∷ Goes (codes "A") (Cycle (codes "D") 50) ∷ []

unfoldable pub rounds : ℕ → List Event
rounds zero = []
rounds (suc n) = rounds n ++ round

unfoldable pub beginning : List Event
beginning =
    Time 1000
    ∷ Comes (codes "A") (identifier 0xa1) (Fresh (identifier 0xa0))
    ∷ Comes (codes "B") (identifier 0xb1) (Fresh (identifier 0xb0))
    ∷ Comes (codes "C") (identifier 0xc1) (Fresh (identifier 0xc0))
    ∷ Comes (codes "D") (identifier 0xd1) (Fresh (identifier 0xd0))
    ∷ []

unfoldable pub group_added : ℕ → Event
group_added g = Calls (codes "A") (Write (Add (group g) group_class root (numbered (codes "Group ") g) ((group_type, Number (pos 2) ∷ []) ∷ [])))

abbrev pub groups : List Event
groups = map group_added (range_with_len 0 10)

-- an image of B is made before person 2 N, and B is restored of it before person 3 N, in between two cycles of A and B
unfoldable pub backed_up : ℕ → ℕ → List Event
backed_up n k = if k == 2 * n then Binds (codes "B") Backup (codes "image") ∷ [] else []

unfoldable pub restored : ℕ → ℕ → List Event
restored n k =
    if k == 3 * n
    then Goes (codes "A") (Cycle (codes "B") 50) ∷ Comes (codes "B") (identifier 0xb2) (Restored (codes "image")) ∷ Goes (codes "B") (Cycle (codes "A") 50) ∷ []
    else []

-- a person is added, and linked to a group, at the controllers by turns
unfoldable pub person_added : ℕ → Event
person_added k = Calls (controller (k % 4)) (Write (Add (person k) user root (numbered (codes "Person ") k) ((account_name, Text (numbered (codes "p") k) ∷ []) ∷ [])))

unfoldable pub person_linked : ℕ → Event
person_linked k = Calls (controller (k % 4)) (Write (Link (group (k % 10)) member (person k)))

-- one controller pulls from another, or it asks, is answered, and the reply is lost
unfoldable pub lost : ℕ → ℕ → ℕ → List Event
lost k p q =
    Binds (controller p) (Ask (controller q) 3 2) (numbered (codes "q") k)
    ∷ Binds (controller q) (Serve (numbered (codes "q") k)) (numbered (codes "r") k)
    ∷ []

unfoldable pub exchanged : ℕ → ℕ → ℕ → ℕ → List Event
exchanged k p q luck = if luck == 0 then lost k p q else Goes (controller p) (Pull (controller q) 3) ∷ []

-- three draws say who pulls, how far on its source is, and the luck
unfoldable pub met : ℕ → ℕ → List Event
met x k = exchanged k (drawn (state x 1) 4) ((drawn (state x 1) 4 + 1 + drawn (state x 2) 3) % 4) (drawn (state x 3) 4)

-- at each seventh person; the generator begins with N, and three draws were made at each seventh person before
unfoldable pub exchange : ℕ → ℕ → List Event
exchange n k = if k % 7 == 6 then met (state n (3 * (k / 7))) k else []

-- all that happens at person k
unfoldable pub person_lines : ℕ → ℕ → List Event
person_lines n k = backed_up n k ++ restored n k ++ person_added k ∷ person_linked k ∷ exchange n k

abbrev pub persons : ℕ → List Event
persons n = flat_map (person_lines n) (range_with_len 0 (5 * n))

-- every tenth person is deleted
unfoldable pub person_deleted : ℕ → List Event
person_deleted k = if k % 10 == 9 then Calls (codes "A") (Write (Delete (person k))) ∷ [] else []

abbrev pub deletions : ℕ → List Event
deletions n = Time 2000 ∷ flat_map person_deleted (range_with_len 0 (5 * n))

unfoldable pub collections : List Event
collections = Time 100000 ∷ Calls (codes "A") (Collect 5000) ∷ Calls (codes "B") (Collect 5000) ∷ Calls (codes "C") (Collect 5000) ∷ Calls (codes "D") (Collect 5000) ∷ []

-- ---- the schedule

abbrev pub schedule : ℕ → List Event
schedule n = beginning ++ groups ++ rounds 1 ++ persons n ++ rounds 6 ++ deletions n ++ rounds 6 ++ collections ++ rounds 1
