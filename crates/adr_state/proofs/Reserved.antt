-- Live objects are decided by class, name and death rows.
use Rattle.std.proofs.Common.{◌≡◌, ℕ, arith, Bool, true, false, not, ◌&&◌, List, Some, None, refl, sym, ap, ◌∙◌, map, filter, ◌==◌}
use Rattle.std.specs.Prelude.{if◌then◌else◌, nat_lt}
use Rattle.std.specs.List.{list_any, list_all}
use Rattle.std.specs.List.Sorted.{IsStrictlySortedBy}
use Rattle.std.specs.Option.{option_and_then}
use Rattle.std.proofs.lemmas.Map.Views.{any-filter_same}
use Rattle.adr_values.specs.declared.stamp.Oid.{Oid}
use Rattle.adr_values.specs.declared.content.Content.TheVariants.{Class, Name, Dead, Values}
use Rattle.adr_model.specs.Update.{Key, RowOf, LinkOf, Said, Holds, IsPresent, Update, same_identifier, same_key, key_order, class_attr, name_attr, deleted_attr, is_death_of, ends}
use Rattle.adr_model.specs.Winner.{winner, winners}
use Rattle.adr_model.specs.Live.{born, objects_of, standing, yields_to, unyielding, live, is_among, live_rows}
use Rattle.adr_model.specs.Place.{row_at, with_name, node_of, nodes_of}
use Rattle.adr_model.specs.Write.{nodes_held}
use Rattle.adr_model.proofs.Keys.{equal_order, exact_keys}
use Rattle.adr_law_knowledge.proofs.Counting.{filtered_rise}
use Rattle.adr_law_knowledge.proofs.Filters.{filters_turn, givers_kept}
use Rattle.adr_law_knowledge.proofs.Lists.{same_filter}
use Rattle.adr_law_tree.proofs.Kept.{any_alike, filter_maps_alike, find_kept}
use Rattle.adr_law_tree.proofs.Local.{winner_of_kept}
use Rattle.adr_law_tree.proofs.RisingRows.{rising_win}
use Rattle.adr_state.specs.Core.{is_core}

abbrev pub core : Update → Bool
core u = is_core u.key

abbrev keys : List Update → List Key
keys us = map (λ (u : Update). u.key) us

-- a row of a reserved attribute
core_at : (u : Update) (o : Oid) (attr : ℕ) → is_core (RowOf o attr) ≡ true → same_key u.key (RowOf o attr) ≡ true → core u ≡ true
core_at u o attr reserved same = ap is_core (exact_keys u.key (RowOf o attr) (equal_order (key_order u.key (RowOf o attr)) same)) ∙ reserved

-- an attribute behind the reserved ones is not that of the class
no_class : (attr : ℕ) → not (nat_lt deleted_attr attr) ≡ false → (attr == class_attr) ≡ false
no_class attr far = by (attr == class_attr) refl
  where
    by : (b : Bool) → (attr == class_attr) ≡ b → b ≡ false
    by false e = refl
    by true e = grind arith

none_born : (u : Update) → core u ≡ false → born u.key ≡ None
none_born u far = by u.key far
  where
    by : (k : Key) → is_core k ≡ false → born k ≡ None
    by (RowOf o attr) far = ap (λ b. if b then Some o else None) (no_class attr far)
    by (LinkOf l) far = refl

no_node : (rows : List Update) (k : Key) (said : Said) → is_core k ≡ false → node_of rows k said ≡ None
no_node rows (RowOf o attr) (Holds (Class class)) far =
    ap (λ b. if b then option_and_then (λ (u : Update). with_name o class u.stamp u.said) (row_at rows (RowOf o name_attr)) else None) (no_class attr far)
no_node rows (RowOf o attr) (Holds (Name text parent)) far = refl
no_node rows (RowOf o attr) (Holds Dead) far = refl
no_node rows (RowOf o attr) (Holds (Values vs)) far = refl
no_node rows (RowOf o attr) (IsPresent b) far = refl
no_node rows (LinkOf l) said far = refl

objects_kept : (us : List Update) → objects_of (filter core us) ≡ objects_of us
objects_kept us = rw (givers_kept (λ (u : Update). born u.key) core none_born us) refl

standing_kept : (us : List Update) → standing (filter core us) ≡ standing us
standing_kept us =
    same_filter _ _ (objects_of (filter core us)) (λ o m. ap not (any-filter_same (is_death_of o) core true (λ u same. core_at u o deleted_attr refl same) us))
    ∙ ap (filter (λ o. not (list_any (is_death_of o) us))) (objects_kept us)

class_kept : (us : List Update) (o : Oid) → winner (filter core us) (RowOf o class_attr) ≡ winner us (RowOf o class_attr)
class_kept us o = winner_of_kept core (RowOf o class_attr) (λ u same. core_at u o class_attr refl same) us

yields_kept : (us : List Update) (o p : Oid) → yields_to (filter core us) o p ≡ yields_to us o p
yields_kept us o p = rw (class_kept us o, class_kept us p) refl

live_kept : (us : List Update) → live (filter core us) ≡ live us
live_kept us =
    ap (unyielding (filter core us)) (standing_kept us)
    ∙ same_filter _ _ (standing us) (λ o m. ap not (any_alike _ _ (λ p. ap (λ b. same_identifier o.guid p.guid && b) (yields_kept us o p)) (standing us)))

live_rows_kept : (us : List Update) → IsStrictlySortedBy key_order (keys us) → live_rows (filter core us) ≡ filter core (live_rows us)
live_rows_kept us s =
    ap (λ os. filter (λ (u : Update). list_all (is_among os) (ends u.key)) (winners (filter core us))) (live_kept us)
    ∙ ap (filter (λ (u : Update). list_all (is_among (live us)) (ends u.key))) (rising_win (filter core us) (filtered_rise key_order (λ (u : Update). u.key) core us s))
    ∙ filters_turn (λ (u : Update). list_all (is_among (live us)) (ends u.key)) core us
    ∙ sym (ap (λ ws. filter core (filter (λ (u : Update). list_all (is_among (live us)) (ends u.key)) ws)) (rising_win us s))

node_kept : (rows : List Update) (k : Key) (said : Said) → node_of (filter core rows) k said ≡ node_of rows k said
node_kept rows (RowOf o a) (Holds (Class class)) =
    ap (λ r. if a == class_attr then option_and_then (λ (u : Update). with_name o class u.stamp u.said) r else None)
    (find_kept (λ (u : Update). same_key u.key (RowOf o name_attr)) core (λ u same. core_at u o name_attr refl same) rows)
node_kept rows (RowOf o a) (Holds (Name text parent)) = refl
node_kept rows (RowOf o a) (Holds Dead) = refl
node_kept rows (RowOf o a) (Holds (Values vs)) = refl
node_kept rows (RowOf o a) (IsPresent b) = refl
node_kept rows (LinkOf l) said = refl

nodes_kept : (rows : List Update) → nodes_of (filter core rows) ≡ nodes_of rows
nodes_kept rows =
    filter_maps_alike (λ (u : Update). node_of (filter core rows) u.key u.said) (λ (u : Update). node_of rows u.key u.said) core (λ u is. node_kept rows u.key u.said) rows
    ∙ givers_kept (λ (u : Update). node_of rows u.key u.said) core (λ u far. no_node rows u.key u.said far) rows

-- the live objects are those of the reserved rows
pub reserved_decide : (us : List Update) → IsStrictlySortedBy key_order (keys us) → nodes_held (filter core us) ≡ nodes_held us
reserved_decide us s = ap nodes_of (live_rows_kept us s) ∙ nodes_kept (live_rows us)
