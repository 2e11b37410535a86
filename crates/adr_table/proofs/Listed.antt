-- The objects of deaths are listed, and their rows are read from one object to the next.
use Rattle.std.proofs.Common.{◌≡◌, refl, sym, ap, ◌∙◌, subst, List, Bool, true, false, cond, Option, Some, None, filter, filter_map}
use Rattle.std.specs.Prelude.{IfSome, IsSome, is_some}
use Rattle.std.specs.List.{list_any}
use Rattle.std.specs.List.Sorted.{IsStrictlySortedBy}
use Rattle.std.specs.BTreeMap.{is_at}
use Rattle.std.specs.BTreeSet.{BTreeSet, contains}
use Rattle.std.specs.Ordering.{ordering_then}
use Rattle.std.specs.declared.cmp.Ordering.TheVariants.{Less, Equal}
use Rattle.adr_values.specs.Order.{object_order}
use Rattle.adr_values.specs.declared.stamp.Oid.{Oid}
use Rattle.adr_values.proofs.ExactOrders.{exact_objects}
use Rattle.adr_model.proofs.Keys.{equal_order}
use Rattle.adr_model.proofs.Members.{some_passes}
use Rattle.adr_model.specs.Change.{killed_by}
use Rattle.adr_model.specs.Formed.{AreRising}
use Rattle.adr_model.specs.Member.{Member}
use Rattle.adr_model.specs.Store.{Held, row_held}
use Rattle.adr_model.specs.Update.{Key, RowOf, LinkOf, deleted_attr, key_order}
use Rattle.adr_law_knowledge.proofs.Counting.{rises_from}
use Rattle.adr_table.specs.declared.slots.Slots.{Slots}
use Rattle.adr_shelves.specs.Place.{place_of}
use Rattle.adr_table.specs.Slots.{IsTidy, row_at, rows_seen}
use Rattle.adr_table.specs.Deaths.{AreListed, IsListed}
use Rattle.adr_table.proofs.Births.{row_of_attr}
use Rattle.adr_table.proofs.Hinted.{all_read, held_is, is_held}
use Rattle.adr_table.proofs.Queries.{rise}
use Rattle.adr_table.proofs.Seen.{found}

pub killed_is : (k : Key) (o : Oid) → killed_by k ≡ Some o → k ≡ RowOf o deleted_attr
killed_is (RowOf p a) o is = row_of_attr deleted_attr a p o is
killed_is (LinkOf l) o is = cc

-- ---- what is listed

-- where there are more hints
pub listed_more : (dead dead' : BTreeSet Oid) → ((o : Oid) → contains object_order dead o ≡ true → contains object_order dead' o ≡ true) → (k : Key) → IsListed dead k → IsListed dead' k
listed_more dead dead' more k = by (killed_by k)
  where
    by : (r : Option Oid) → IfSome r (λ o. contains object_order dead o ≡ true) → IfSome r (λ o. contains object_order dead' o ≡ true)
    by None is = is
    by (Some o) is = more o is

-- a row that kills nothing has nothing to be listed
pub none_killed : (dead : BTreeSet Oid) (k : Key) → killed_by k ≡ None → IsListed dead k
none_killed dead k none = subst (λ r. IfSome r (λ o. contains object_order dead o ≡ true)) (sym none) tt

-- a row that is held is listed
pub listed_held : (slots : Slots) (dead : BTreeSet Oid) → IsTidy slots → AreListed slots dead → (k : Key) → IsSome (row_at slots (place_of k)) → IsListed dead k
listed_held slots dead tidy listed k some = by (row_held (rows_seen slots) k) refl (subst IsSome (found slots.map k tidy.ordered tidy.home) some)
  where
    by : (r : Option Held) → row_held (rows_seen slots) k ≡ r → IsSome r → IsListed dead k
    by None is s = cc
    by (Some h) is s = let t = is_held (rows_seen slots) k h is in subst (IsListed dead) t.1 (listed h t.0)

-- where an object goes that isn't held dead
pub listed_but : (slots : Slots) (dead dead' : BTreeSet Oid) (object : Oid) → IsTidy slots → AreListed slots dead → row_held (rows_seen slots) (RowOf object deleted_attr) ≡ None
    → ((o : Oid) → contains object_order dead' o ≡ cond (is_at (object_order object) o) false (contains object_order dead o)) → AreListed slots dead'
listed_but slots dead dead' object tidy listed none but h m = by (killed_by h.update.key) refl (listed h m)
  where
    apart : (o : Oid) → killed_by h.update.key ≡ Some o → object ≡ o → ⊥
    apart o is same =
        let there : row_held (rows_seen slots) h.update.key ≡ Some h = held_is (rows_seen slots) (rise slots.map tidy.ordered tidy.home) h m in
        let own : h.update.key ≡ RowOf object deleted_attr = killed_is h.update.key o is ∙ ap (λ p. RowOf p deleted_attr) (sym same) in
        let no : None ≡ Some h = sym none ∙ sym (ap (row_held (rows_seen slots)) own) ∙ there in cc

    turn : (o : Oid) → killed_by h.update.key ≡ Some o → contains object_order dead o ≡ true → (b : Bool) → is_at (object_order object) o ≡ b → cond b false (contains object_order dead o) ≡ true
    turn o is l true at = absurd (apart o is (exact_objects object o (equal_order (object_order object o) at)))
    turn o is l false at = l

    by : (r : Option Oid) → killed_by h.update.key ≡ r → IfSome r (λ o. contains object_order dead o ≡ true) → IfSome r (λ o. contains object_order dead' o ≡ true)
    by None is l = l
    by (Some o) is l = but o ∙ turn o is l (is_at (object_order object) o) refl

-- an object that isn't listed isn't held dead
pub not_listed : (slots : Slots) (dead : BTreeSet Oid) (o : Oid) → AreListed slots dead → contains object_order dead o ≡ false → false ≡ is_some (row_held (rows_seen slots) (RowOf o deleted_attr))
not_listed slots dead o listed not_there = by (row_held (rows_seen slots) (RowOf o deleted_attr)) refl
  where
    by : (r : Option Held) → row_held (rows_seen slots) (RowOf o deleted_attr) ≡ r → false ≡ is_some r
    by None is = refl
    by (Some h) is =
        let t = is_held (rows_seen slots) (RowOf o deleted_attr) h is in
        let there : contains object_order dead o ≡ true = subst (IsListed dead) t.1 (listed h t.0) in
        let wrong : false ≡ true = sym not_there ∙ there in cc

-- ---- the rows of deaths

-- the death row of an object
abbrev pub death_row : List Held → Oid → Option Held
death_row rows o = row_held rows (RowOf o deleted_attr)

pub all_deaths : (slots : Slots) → IsTidy slots → (dead : BTreeSet Oid) → AreListed slots dead → IsStrictlySortedBy object_order dead.keys
    → filter_map (death_row (rows_seen slots)) dead.keys ≡ filter (λ h. is_some (killed_by h.update.key)) (rows_seen slots)
all_deaths slots tidy dead listed sorted =
    all_read object_order (death_row (rows_seen slots)) (λ h. is_some (killed_by h.update.key)) (rows_seen slots) dead.keys
    (rises_from object_order dead.keys sorted) rising
    (λ o p h g is at less. later o p h.update.key g.update.key (is_held (rows_seen slots) (RowOf o deleted_attr) h is).1 (is_held (rows_seen slots) (RowOf p deleted_attr) g at).1 less)
    (λ o h is. let t = is_held (rows_seen slots) (RowOf o deleted_attr) h is in (t.0, ap (λ k. is_some (killed_by k)) t.1))
    (λ h m dies. there h m (killed_by h.update.key) refl dies)
  where
    rising : AreRising (rows_seen slots)
    rising = rise slots.map tidy.ordered tidy.home

    later : (o p : Oid) (j k : Key) → j ≡ RowOf o deleted_attr → k ≡ RowOf p deleted_attr → object_order o p ≡ Less → key_order j k ≡ Less
    later o p j k own other less = ap (λ x. key_order x k) own ∙ ap (λ x. key_order (RowOf o deleted_attr) x) other ∙ ap (λ x. ordering_then x Equal) less

    there : (h : Held) → Member h (rows_seen slots) → (r : Option Oid) → killed_by h.update.key ≡ r → is_some r ≡ true → (o : Oid) × Member o dead.keys × (death_row (rows_seen slots) o ≡ Some h)
    there h m None is dies = cc
    there h m (Some o) is dies =
        let any : list_any (is_at (object_order o)) dead.keys ≡ true = subst (λ r. IfSome r (λ p. contains object_order dead p ≡ true)) is (listed h m) in
        let t = some_passes (is_at (object_order o)) dead.keys any in
        let same : o ≡ t.0 = exact_objects o t.0 (equal_order (object_order o t.0) t.2) in
        (o, subst (λ p. Member p dead.keys) (sym same) t.1, sym (ap (row_held (rows_seen slots)) (killed_is h.update.key o is)) ∙ held_is (rows_seen slots) rising h m)
