-- The rows of the links to an object, from one hint to the next.
use Rattle.std.proofs.Common.{◌≡◌, refl, sym, ap, ◌∙◌, subst, List, [], ◌∷◌, Bool, true, false, cond, Option, Some, None, filter, filter_map, map}
use Rattle.std.specs.Prelude.{is_some}
use Rattle.std.specs.List.{AllByRecursion, cons_option}
use Rattle.std.specs.List.Sorted.{IsStrictlySortedBy}
use Rattle.std.specs.Option.{option_cmp}
use Rattle.std.specs.Map.{keys_of, lookup}
use Rattle.std.specs.BTreeMap.{is_at}
use Rattle.std.specs.BTreeMap.Range.{IsLeBy, range_contains}
use Rattle.std.specs.BTreeSet.{BTreeSet}
use Rattle.std.specs.Ordering.{nat_cmp, ordering_then}
use Rattle.std.specs.declared.ops.Bound.TheVariants.{Included, Unbounded}
use Rattle.std.specs.declared.cmp.Ordering.{Ordering}
use Rattle.std.specs.declared.cmp.Ordering.TheVariants.{Less, Equal, Greater}
use Rattle.std.proofs.lemmas.Cmp.{eq_by_cmp_equiv, tied_itself}
use Rattle.std.proofs.lemmas.List.Kept.{IsStrictlySortedBy-filter}
use Rattle.std.proofs.lemmas.Map.Keys.{sorted_head, sorted_tail}
use Rattle.adr_values.specs.declared.stamp.Oid.{Oid}
use Rattle.adr_values.specs.declared.stamp.LinkKey.{LinkKey}
use Rattle.adr_values.specs.Order.{object_order}
use Rattle.adr_values.proofs.ExactOrders.{exact_objects}
use Rattle.adr_values.specs.contracts.stamp.OidOrd.TheImpl.Laws.{total-law as objects_total}
use Rattle.adr_model.proofs.Keys.{equal_order, exact_keys, keys_total}
use Rattle.adr_model.proofs.Members.{some_passes}
use Rattle.adr_model.specs.Member.{Member}
use Rattle.adr_model.specs.Update.{Key, RowOf, LinkOf, key_order, same_key, same_object}
use Rattle.adr_model.specs.Store.{Held, row_held}
use Rattle.adr_model.specs.Formed.{AreRising}
use Rattle.adr_law_knowledge.proofs.Counting.{rises_from}
use Rattle.adr_update.specs.Sought.{is_link_to}
use Rattle.adr_update.proofs.Starts.{from_all}
use Rattle.adr_table.specs.declared.slots.Slots.{Slots}
use Rattle.adr_table.specs.declared.back.Source.{Source}
use Rattle.adr_table.specs.declared.back.Behind.{Behind}
use Rattle.adr_shelves.specs.Place.{place_of}
use Rattle.adr_table.specs.Slots.{IsTidy, row_at, rows_seen}
use Rattle.adr_table.specs.Back.{AreBacked, behind_order, hint, link_behind, row_of_link, source_order}
use Rattle.adr_table.proofs.Seen.{found}
use Rattle.adr_table.proofs.Behinds.{all_later, exact_behinds, first_part, hinted, strictly, symmetric}
use Rattle.adr_table.proofs.Queries.{rise}
use Rattle.adr_table.proofs.Hinted.{all_read, held_is, is_held}
use Rattle.adr_table.proofs.OneList.{one_list}

abbrev keys_in : List Held → List Key
keys_in rows = map (λ (h : Held). h.update.key) rows

-- the row of a hint, if it is of a link to the object
abbrev pub linked_row : Slots → Oid → Behind → Option Held
linked_row slots o b = cond (same_object b.to o) (row_of_link slots (link_behind b)) None

abbrev pub linked : Slots → Oid → List Behind → List Held
linked slots o bs = filter_map (linked_row slots o) bs

-- ---- at the first hint of another object none is left

abbrev pub LinksEnd : Slots → Oid → List Behind → Type 0
LinksEnd slots o [] = Unit {0}
LinksEnd slots o (b ∷ bs) = (same_object b.to o ≡ false → linked slots o (b ∷ bs) ≡ []) × LinksEnd slots o bs

module _ (slots : Slots) (o : Oid) where
  unlike : (p : Oid) → object_order o p ≡ Less → same_object p o ≡ false
  unlike p less = by (same_object p o) refl
    where
      by : (t : Bool) → same_object p o ≡ t → t ≡ false
      by true is =
          let same : p ≡ o = exact_objects p o (equal_order (object_order p o) is) in
          let no : Equal ≡ Less = sym (tied_itself objects_total o) ∙ subst (λ x. object_order o x ≡ Less) same less in cc
      by false is = refl

  none_linked : (bs : List Behind) → AllByRecursion (λ c. object_order o c.to ≡ Less) bs → linked slots o bs ≡ []
  none_linked [] a = refl
  none_linked (b ∷ bs) a =
      ap (λ t. cons_option (cond t (row_of_link slots (link_behind b)) None) (linked slots o bs)) (unlike b.to a.0) ∙ none_linked bs a.1

  ends : (bs : List Behind) → IsStrictlySortedBy behind_order bs → AllByRecursion (λ b. IsLeBy behind_order (record { to = o; from = None }) b) bs → LinksEnd slots o bs
  ends [] sorted from = tt
  ends (b ∷ bs) sorted from = (
    (λ other.
        let less = strictly (object_order o b.to) (first_part (object_order o b.to) (option_cmp source_order None b.from) from.0) (symmetric b.to o other) in
        none_linked (b ∷ bs) (less, all_later o b less bs (sorted_head behind_order b bs sorted))),
    ends bs (sorted_tail behind_order b bs sorted) from.1,
  )

  abbrev pub from_first : List Behind → List Behind
  from_first bs = filter (range_contains behind_order (Included (record { to = o; from = None })) Unbounded) bs

  pub links_end : (bs left : List Behind) → left ≡ from_first bs → IsStrictlySortedBy behind_order bs → LinksEnd slots o left
  links_end bs left is sorted =
      subst (LinksEnd slots o) (sym is)
      (ends (from_first bs) (IsStrictlySortedBy-filter behind_order (range_contains behind_order (Included (record { to = o; from = None })) Unbounded) bs sorted)
      (from_all behind_order (record { to = o; from = None }) bs))

-- ---- look-ups in lists of rows

abbrev pairs : List Held → List (Key × Held)
pairs rows = map (λ (h : Held). (h.update.key, h)) rows

pairs_keys : (rows : List Held) → keys_of (pairs rows) ≡ keys_in rows
pairs_keys [] = refl
pairs_keys (h ∷ hs) = ap (λ ks. h.update.key ∷ ks) (pairs_keys hs)

pairs_rows : (rows : List Held) → map (λ (e : Key × Held). e.1) (pairs rows) ≡ rows
pairs_rows [] = refl
pairs_rows (h ∷ hs) = ap (λ rows. h ∷ rows) (pairs_rows hs)

looked : (rows : List Held) (q : Key) → lookup (is_at (key_order q)) (pairs rows) ≡ row_held rows q
looked [] q = refl
looked (h ∷ hs) q =
    ap (λ b. cond b (Some h) (lookup (is_at (key_order q)) (pairs hs))) ((eq_by_cmp_equiv keys_total).symm q h.update.key)
    ∙ ap (λ r. cond (same_key h.update.key q) (Some h) r) (looked hs q)

-- rising rows with the same look-ups are the same
pub one_of_rows : (xs ys : List Held) → AreRising xs → AreRising ys → ((q : Key) → row_held xs q ≡ row_held ys q) → xs ≡ ys
one_of_rows xs ys s t same =
    sym (pairs_rows xs)
    ∙ ap (λ es. map (λ (e : Key × Held). e.1) es)
    (one_list keys_total exact_keys (pairs xs) (pairs ys) (subst (IsStrictlySortedBy key_order) (sym (pairs_keys xs)) s) (subst (IsStrictlySortedBy key_order) (sym (pairs_keys ys)) t)
    (λ q. looked xs q ∙ same q ∙ sym (looked ys q)))
    ∙ pairs_rows ys

pub held_filtered : (test : Key → Bool) (rows : List Held) (q : Key) → row_held (filter (λ h. test h.update.key) rows) q ≡ cond (test q) (row_held rows q) None
held_filtered test [] q = by (test q)
  where
    nothing : Option Held
    nothing = None

    by : (t : Bool) → nothing ≡ cond t nothing nothing
    by true = refl
    by false = refl
held_filtered test (h ∷ hs) q = by (test h.update.key) (same_key h.update.key q) refl refl (held_filtered test hs q)
  where
    rest : List Held
    rest = filter (λ x. test x.update.key) hs

    own : same_key h.update.key q ≡ true → test h.update.key ≡ test q
    own is = ap test (exact_keys h.update.key q (equal_order (key_order h.update.key q) is))

    by : (t s : Bool) → test h.update.key ≡ t → same_key h.update.key q ≡ s → row_held rest q ≡ cond (test q) (row_held hs q) None
        → row_held (cond t (h ∷ rest) rest) q ≡ cond (test q) (cond s (Some h) (row_held hs q)) None
    by true true x y later = ap (λ b. cond b (Some h) (row_held rest q)) y ∙ sym (ap (λ b. cond b (Some h) None) (sym (own y) ∙ x))
    by true false x y later = ap (λ b. cond b (Some h) (row_held rest q)) y ∙ later
    by false true x y later = later ∙ ap (λ b. cond b (row_held hs q) None) (sym (own y) ∙ x) ∙ sym (ap (λ b. cond b (Some h) None) (sym (own y) ∙ x))
    by false false x y later = later

-- ---- the rows of hints

then_less : (x y z : Ordering) → ordering_then x y ≡ Less → ordering_then x (ordering_then y z) ≡ Less
then_less Less y z e = refl
then_less Equal Less z e = refl
then_less Equal Equal z e = cc
then_less Equal Greater z e = cc
then_less Greater y z e = cc

second_less : (x y : Ordering) → x ≡ Equal → ordering_then x y ≡ Less → y ≡ Less
second_less Less y e h = cc
second_less Equal y e h = h
second_less Greater y e h = cc

module _ (slots : Slots) (tidy : IsTidy slots) (o : Oid) where
  record OfLink (b : Behind) (h : Held) : Type 0 where
    link : LinkKey
    row : row_held (rows_seen slots) (LinkOf link) ≡ Some h
    own : b ≡ hint link
    to : same_object link.to o ≡ true

  of_link : (b : Behind) (h : Held) → linked_row slots o b ≡ Some h → OfLink b h
  of_link b h is = by (same_object b.to o) refl is
    where
      from : same_object b.to o ≡ true → (f : Option Source) → b.from ≡ f → row_of_link slots (link_behind (record { to = b.to; from = f })) ≡ Some h → OfLink b h
      from to None own row = cc
      from to (Some s) own row =
          let l : LinkKey = record { from = s.object; attr = s.attr; to = b.to } in
          record {
            link = l;
            row = sym (found slots.map (LinkOf l) tidy.ordered tidy.home) ∙ row;
            own = ap (λ f. let c : Behind = record { to = b.to; from = f } in c) own;
            to = to;
          }

      by : (t : Bool) → same_object b.to o ≡ t → cond t (row_of_link slots (link_behind b)) None ≡ Some h → OfLink b h
      by true to row = from to b.from refl row
      by false to row = cc

  links_less : (l m : LinkKey) → same_object l.to o ≡ true → same_object m.to o ≡ true → behind_order (hint l) (hint m) ≡ Less → key_order (LinkOf l) (LinkOf m) ≡ Less
  links_less l m lo mo less =
      let ends : object_order l.to m.to ≡ Equal =
      subst (λ p. object_order l.to p ≡ Equal) (sym (exact_objects m.to o (equal_order (object_order m.to o) mo))) (equal_order (object_order l.to o) lo) in
      then_less (object_order l.from m.from) (nat_cmp l.attr m.attr) (object_order l.to m.to)
      (second_less (object_order l.to m.to) (ordering_then (object_order l.from m.from) (nat_cmp l.attr m.attr)) ends less)

  in_turn : (b c : Behind) (h g : Held) → OfLink b h → OfLink c g → behind_order b c ≡ Less → key_order h.update.key g.update.key ≡ Less
  in_turn b c h g l m less =
      ap (λ k. key_order k g.update.key) (is_held (rows_seen slots) (LinkOf l.link) h l.row).1
      ∙ ap (key_order (LinkOf l.link)) (is_held (rows_seen slots) (LinkOf m.link) g m.row).1
      ∙ links_less l.link m.link l.to m.to (sym (ap (λ d. behind_order d c) l.own ∙ ap (behind_order (hint l.link)) m.own) ∙ less)

  own : (b : Behind) (h : Held) → OfLink b h → Member h (rows_seen slots) × (is_link_to o h.update.key ≡ true)
  own b h l = let t = is_held (rows_seen slots) (LinkOf l.link) h l.row in (t.0, ap (is_link_to o) t.1 ∙ l.to)

  -- all that is linked is found by hints
  pub all_linked : (back : BTreeSet Behind) → AreBacked slots back → IsStrictlySortedBy behind_order back.keys
      → (left : List Behind) → left ≡ from_first slots o back.keys → linked slots o left ≡ filter (λ h. is_link_to o h.update.key) (rows_seen slots)
  all_linked back backed sorted left is =
      all_read behind_order (linked_row slots o) (λ h. is_link_to o h.update.key) (rows_seen slots) left
      (rises_from behind_order left (subst (IsStrictlySortedBy behind_order) (sym is) (IsStrictlySortedBy-filter behind_order (range_contains behind_order (Included (record { to = o; from = None })) Unbounded) back.keys sorted)))
      rising
      (λ b c h g at next less. in_turn b c h g (of_link b h at) (of_link c g next) less)
      (λ b h at. own b h (of_link b h at))
      (λ h m to. there h m h.update.key refl to)
    where
      rising : AreRising (rows_seen slots)
      rising = rise slots.map tidy.ordered tidy.home

      there : (h : Held) → Member h (rows_seen slots) → (k : Key) → h.update.key ≡ k → is_link_to o k ≡ true → (b : Behind) × Member b left × (linked_row slots o b ≡ Some h)
      there h m (RowOf p a) key to = cc
      there h m (LinkOf l) key to =
          let row : row_at slots (place_of (LinkOf l)) ≡ Some h =
          found slots.map (LinkOf l) tidy.ordered tidy.home ∙ sym (ap (row_held (rows_seen slots)) key) ∙ held_is (rows_seen slots) rising h m in
          let t = some_passes (is_at (behind_order (hint l))) left (hinted o back.keys left is l to (backed l (ap is_some row))) in
          let same : hint l ≡ t.0 = exact_behinds (hint l) t.0 (equal_order (behind_order (hint l) t.0) t.2) in
          (hint l, subst (λ b. Member b left) (sym same) t.1, ap (λ r. cond r (row_at slots (place_of (LinkOf l))) None) to ∙ row)
