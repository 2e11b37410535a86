-- How many lines of the schedule write: ten add groups, two add and link each person, and at most one deletes it.
use Rattle.std.proofs.Common.{◌≡◌, ℕ, zero, suc, ◌+◌, ◌*◌, ◌/◌, ◌%◌, ◌≤◌, List, [], ◌∷◌, ◌++◌, Bool, true, false, map, refl, arith}
use Rattle.std.specs.Prelude.{◌==◌, if◌then◌else◌, codes}
use Rattle.std.specs.List.{range_with_len, flat_map}
use Rattle.adr_call.specs.declared.write.Write.TheVariants.{Delete}
use Rattle.adr_call.specs.declared.call.Call.TheVariants as calls
use Rattle.adr_call.specs.declared.event.Event.{Event}
use Rattle.adr_call.specs.declared.event.Event.TheVariants as events
use Rattle.adr_call.specs.declared.event.Coming.TheVariants as comings
use Rattle.adr_call.specs.declared.event.Made.TheVariants as mades
use Rattle.adr_call.specs.declared.event.Exchange.TheVariants as exchanges
use Rattle.adr_run_exercise.specs.Generated.{controller, identifier, person, round, rounds, beginning, group_added, groups, backed_up, restored, person_added, person_linked, lost, exchanged, met, exchange, drawn, state, person_lines, persons, person_deleted, deletions, collections}
use Rattle.adr_run_exercised.specs.Exercised.{until_deleted, until_collected}
use Rattle.adr_run_exercised.proofs.Few.{is_write, writes_in}

writes_both : (xs ys : List Event) → writes_in (xs ++ ys) ≡ writes_in xs + writes_in ys
writes_both [] ys = omega arith
writes_both (x ∷ xs) ys = omega (arith, writes_both xs ys)

twice_range : (f : ℕ → List Event) → ((k : ℕ) → writes_in (f k) ≤ 2) → (m a : ℕ) → writes_in (flat_map f (range_with_len a m)) ≤ 2 * m
twice_range f each zero a = omega arith
twice_range f each (suc m) a = omega (arith, writes_both (f a) (flat_map f (range_with_len (a + 1) m)), each a, twice_range f each m (a + 1))

once_range : (f : ℕ → List Event) → ((k : ℕ) → writes_in (f k) ≤ 1) → (m a : ℕ) → writes_in (flat_map f (range_with_len a m)) ≤ m
once_range f each zero a = omega arith
once_range f each (suc m) a = omega (arith, writes_both (f a) (flat_map f (range_with_len (a + 1) m)), each a, once_range f each m (a + 1))

none_where : (b : Bool) (es : List Event) → writes_in es ≡ 0 → writes_in (if b then es else []) ≡ 0
none_where true es none = none
none_where false es none = refl

-- ---- the parts of the schedule

pub beginning_writes : writes_in beginning ≡ 0
unfolding beginning
beginning_writes = refl

round_writes : writes_in round ≡ 0
unfolding round
round_writes = refl

rounds_write : (n : ℕ) → writes_in (rounds n) ≡ 0
unfolding rounds
rounds_write zero = refl
rounds_write (suc n) = omega (arith, writes_both (rounds n) round, rounds_write n, round_writes)

group_writes : (g : ℕ) → is_write (group_added g) ≡ 1
unfolding group_added
group_writes g = refl

groups_write : (m a : ℕ) → writes_in (map group_added (range_with_len a m)) ≤ m
groups_write zero a = omega arith
groups_write (suc m) a = omega (arith, group_writes a, groups_write m (a + 1))

backed_up_writes : (n k : ℕ) → writes_in (backed_up n k) ≡ 0
unfolding backed_up
backed_up_writes n k = none_where (k == 2 * n) (events.Binds (codes "B") mades.Backup (codes "image") ∷ []) refl

restored_writes : (n k : ℕ) → writes_in (restored n k) ≡ 0
unfolding restored
restored_writes n k = none_where (k == 3 * n) (
    events.Goes (codes "A") (exchanges.Cycle (codes "B") 50) ∷ events.Comes (codes "B") (identifier 0xb2) (comings.Restored (codes "image"))
    ∷ events.Goes (codes "B") (exchanges.Cycle (codes "A") 50) ∷ []) refl

added_writes : (k : ℕ) → is_write (person_added k) ≡ 1
unfolding person_added
added_writes k = refl

linked_writes : (k : ℕ) → is_write (person_linked k) ≡ 1
unfolding person_linked
linked_writes k = refl

lost_writes : (k p q : ℕ) → writes_in (lost k p q) ≡ 0
unfolding lost
lost_writes k p q = refl

exchanged_writes : (k p q luck : ℕ) → writes_in (exchanged k p q luck) ≡ 0
unfolding exchanged
exchanged_writes k p q luck = by (luck == 0)
  where
    by : (b : Bool) → writes_in (if b then lost k p q else events.Goes (controller p) (exchanges.Pull (controller q) 3) ∷ []) ≡ 0
    by true = lost_writes k p q
    by false = refl

met_writes : (x k : ℕ) → writes_in (met x k) ≡ 0
unfolding met
met_writes x k = exchanged_writes k (drawn (state x 1) 4) ((drawn (state x 1) 4 + 1 + drawn (state x 2) 3) % 4) (drawn (state x 3) 4)

exchange_writes : (n k : ℕ) → writes_in (exchange n k) ≡ 0
unfolding exchange
exchange_writes n k = none_where (k % 7 == 6) (met (state n (3 * (k / 7))) k) (met_writes (state n (3 * (k / 7))) k)

person_writes : (n k : ℕ) → writes_in (person_lines n k) ≤ 2
unfolding person_lines
person_writes n k = omega (
  arith,
  writes_both (backed_up n k ++ restored n k) (person_added k ∷ person_linked k ∷ exchange n k),
  writes_both (backed_up n k) (restored n k),
  backed_up_writes n k,
  restored_writes n k,
  added_writes k,
  linked_writes k,
  exchange_writes n k,
)

deleted_writes : (k : ℕ) → writes_in (person_deleted k) ≤ 1
unfolding person_deleted
deleted_writes k = by (k % 10 == 9)
  where
    by : (b : Bool) → writes_in (if b then events.Calls (codes "A") (calls.Write (Delete (person k))) ∷ [] else []) ≤ 1
    by true = omega arith
    by false = omega arith

deletions_write : (n : ℕ) → writes_in (deletions n) ≤ 5 * n
deletions_write n = omega (arith, once_range person_deleted deleted_writes (5 * n) 0)

collections_write : writes_in collections ≡ 0
unfolding collections
collections_write = refl

-- up to the deletions, and up to the collections
pub writes_until_deleted : (n : ℕ) → writes_in (until_deleted n) ≤ 15 * n + 10
writes_until_deleted n =
    let to_groups = beginning ++ groups in
    let to_round = to_groups ++ rounds 1 in
    let to_persons = to_round ++ persons n in
    let to_rounds = to_persons ++ rounds 6 in
    omega (
      arith,
      writes_both to_rounds (deletions n),
      writes_both to_persons (rounds 6),
      writes_both to_round (persons n),
      writes_both to_groups (rounds 1),
      writes_both beginning groups,
      beginning_writes,
      groups_write 10 0,
      rounds_write 1,
      rounds_write 6,
      twice_range (person_lines n) (person_writes n) (5 * n) 0,
      deletions_write n,
    )

pub writes_until_collected : (n : ℕ) → writes_in (until_collected n) ≤ 15 * n + 10
writes_until_collected n = omega (
  arith,
  writes_until_deleted n,
  writes_both (until_deleted n ++ rounds 6) collections,
  writes_both (until_deleted n) (rounds 6),
  rounds_write 6,
  collections_write,
)
