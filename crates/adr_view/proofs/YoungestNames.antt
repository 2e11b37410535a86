-- The youngest name in a place tells which of the others give way.
use Rattle.std.proofs.Common.{◌≡◌, ◌<◌, ℕ, suc, List, [], ◌∷◌, Bool, true, false, cond, ◌&&◌, ◌||◌, Option, Some, None, refl, sym, ap, ◌∙◌, length, get_or, drop, Bor}
use Rattle.std.specs.List.{list_any}
use Rattle.std.specs.Option.{option_map_or}
use Rattle.std.specs.BTreeMap.{BTreeMap, Updates, get}
use Rattle.std.specs.Cmp.{IsTotalOrder}
use Rattle.std.specs.Cmp.Lexicographic.{slice_cmp}
use Rattle.std.specs.Ordering.{is_eq, is_lt, nat_cmp, ordering_reverse, ordering_then}
use Rattle.std.specs.declared.cmp.Ordering.{Ordering}
use Rattle.std.specs.declared.cmp.Ordering.TheVariants.{Less, Equal, Greater}
use Rattle.std.proofs.lemmas.Cmp.{nat_list_cmp_total, on_total, then_total}
use Rattle.std.proofs.lemmas.Map.Lookups.{CmpEqualImpliesEq, exact_bytes, exact_pairs}
use Rattle.std.proofs.lemmas.Map.Text.{is_eq-slice_cmp}
use Rattle.adr_values.specs.Order.{identifier_order, link_stamp_order}
use Rattle.adr_values.specs.contracts.stamp.LinkStampOrd.TheImpl.Laws.{total-law as stamps_total}
use Rattle.adr_values.specs.Folding.{folded}
use Rattle.adr_model.specs.Place.{Node, place}
use Rattle.adr_model.specs.Shown.{gives_way}
use Rattle.adr_model.proofs.Keys.{equal_order}
use Rattle.adr_update.specs.Referents.{referents}
use Rattle.adr_update.proofs.Referred.{from_here}
use Rattle.adr_view.specs.Slots.{Slot, same_slot, slot_order}
use Rattle.adr_view.specs.Youngest.{AreYoungest, Rank, is_before, is_in, later, rank_of, with_rank, youngest_from}

abbrev rank_order : Rank → Rank → Ordering
rank_order r s = ordering_then (link_stamp_order r.0 s.0) (identifier_order r.1 s.1)

ranks_total : IsTotalOrder rank_order
ranks_total = then_total (on_total (λ (r : Rank). r.0) stamps_total) (on_total (λ (r : Rank). r.1) nat_list_cmp_total)

or_nothing : (b : Bool) → (b || false) ≡ b
or_nothing true = refl
or_nothing false = refl

or_itself : (b : Bool) → b ≡ (b || b)
or_itself true = refl
or_itself false = refl

-- a name is older than the later of two where it is older than one of them
before_later : (r s t : Rank) → is_before r (later (Some s) t) ≡ (is_before r s || is_before r t)
before_later r s t = by (rank_order s t) refl
  where
    chosen : (o : Ordering) → rank_order s t ≡ o → is_before r (later (Some s) t) ≡ is_before r (cond (is_lt o) t s)
    chosen o is = ap (λ p. is_before r (cond (is_lt p) t s)) is

    when_less : rank_order s t ≡ Less → (o : Ordering) → rank_order r s ≡ o → is_before r t ≡ (is_lt o || is_before r t)
    when_less less Less e = ap is_lt (ranks_total.trans r s t e less)
    when_less less Equal e = refl
    when_less less Greater e = refl

    when_same : rank_order s t ≡ Equal → rank_order r s ≡ rank_order r t
    when_same same = ranks_total.antisymm r s ∙ (ap ordering_reverse (ranks_total.congr s t r same) ∙ sym (ranks_total.antisymm r t))

    when_more : rank_order t s ≡ Less → (o : Ordering) → rank_order r t ≡ o → is_before r s ≡ (is_before r s || is_lt o)
    when_more less Less e = let f : is_before r s ≡ true = ap is_lt (ranks_total.trans r t s e less) in f ∙ sym (ap (λ b. b || true) f)
    when_more less Equal e = sym (or_nothing (is_before r s))
    when_more less Greater e = sym (or_nothing (is_before r s))

    by : (o : Ordering) → rank_order s t ≡ o → is_before r (later (Some s) t) ≡ (is_before r s || is_before r t)
    by Less is = chosen Less is ∙ when_less is (rank_order r s) refl
    by Equal is = chosen Equal is ∙ (or_itself (is_before r s) ∙ ap (λ o. is_before r s || is_lt o) (when_same is))
    by Greater is = chosen Greater is ∙ when_more (ranks_total.antisymm t s ∙ ap ordering_reverse is) (rank_order r t) refl

module _ (all : List Node) (slot : Slot) (r : Rank) where
  abbrev older : Option Rank → Bool
  older youngest = option_map_or (is_before r) youngest false

  one_more : (n : Node) (is : Bool) (youngest : Option Rank) → older (with_rank is (rank_of n) youngest) ≡ (older youngest || (is && is_before r (rank_of n)))
  one_more n false youngest = sym (or_nothing (older youngest))
  one_more n true None = refl
  one_more n true (Some s) = before_later r s (rank_of n)

  older_than_one : (ns : List Node) (youngest : Option Rank) → older (youngest_from all slot youngest ns) ≡ (older youngest || list_any (λ m. is_in all slot m && is_before r (rank_of m)) ns)
  older_than_one [] youngest = sym (or_nothing (older youngest))
  older_than_one (n ∷ ns) youngest =
      older_than_one ns (with_rank (is_in all slot n) (rank_of n) youngest)
      ∙ (ap (λ b. b || list_any (λ m. is_in all slot m && is_before r (rank_of m)) ns) (one_more n (is_in all slot n) youngest)
      ∙ turned (older youngest) (is_in all slot n && is_before r (rank_of n)) (list_any (λ m. is_in all slot m && is_before r (rank_of m)) ns))
    where
      turned : (a b c : Bool) → ((a || b) || c) ≡ (a || (b || c))
      turned true b c = refl
      turned false b c = refl

-- an object gives way where its name is older than the youngest in its place
pub gives_way_is : (all : List Node) (names : BTreeMap Slot Rank) → AreYoungest all names → (n : Node)
    → option_map_or (is_before (rank_of n)) (get slot_order names (place all n, folded n.text)) false ≡ gives_way all n
gives_way_is all names youngest n =
    ap (λ (o : Option Rank). option_map_or (is_before (rank_of n)) o false) (youngest (place all n, folded n.text)) ∙ older_than_one all (place all n, folded n.text) (rank_of n) all None

exact_slots : CmpEqualImpliesEq slot_order
exact_slots a b h = exact_pairs identifier_order (slice_cmp nat_cmp) exact_bytes exact_bytes a b h

-- a name is taken into account where it is
pub taken_in : (m n : BTreeMap Slot Rank) (slot : Slot) (rank youngest : Rank) → Updates slot_order m n slot (Some youngest) → youngest ≡ later (get slot_order m slot) rank
    → (other : Slot) → get slot_order n other ≡ with_rank (same_slot slot other) rank (get slot_order m other)
taken_in m n slot rank youngest put is other = put.0 other ∙ by (same_slot slot other) refl
  where
    by : (b : Bool) → same_slot slot other ≡ b → cond b (Some youngest) (get slot_order m other) ≡ with_rank b rank (get slot_order m other)
    by false e = refl
    by true e = ap Some (is ∙ ap (λ (s : Slot). later (get slot_order m s) rank) (exact_slots slot other (equal_order (slot_order slot other) e)))

-- the place and the name of an object are these where it has this name in this place
in_slot : (all : List Node) (n : Node) (slot : Slot) → same_slot (place all n, folded n.text) slot ≡ is_in all slot n
in_slot all n slot =
    both (identifier_order (place all n) slot.0) (slice_cmp nat_cmp (folded n.text) slot.1) ∙ ap (λ b. is_eq (identifier_order (place all n) slot.0) && b) (is_eq-slice_cmp (folded n.text) slot.1)
  where
    both : (o p : Ordering) → is_eq (ordering_then o p) ≡ (is_eq o && is_eq p)
    both Less p = refl
    both Equal p = refl
    both Greater p = refl

-- one more object is taken into account
pub next_taken : (all : List Node) (nodes : List (Bor Node)) (i j : ℕ) (x : Bor Node) → i < length nodes → x ≡ get_or nodes i x → j ≡ suc i → (slot : Slot) (before after whole : Option Rank)
    → after ≡ with_rank (same_slot (place all x.now, folded x.now.text) slot) (rank_of x.now) before
    → youngest_from all slot before (referents (drop i nodes)) ≡ whole → youngest_from all slot after (referents (drop j nodes)) ≡ whole
next_taken all nodes i j x within is next slot before after whole put so_far =
    ap (λ (o : Option Rank). youngest_from all slot o (referents (drop j nodes))) (put ∙ ap (λ b. with_rank b (rank_of x.now) before) (in_slot all x.now slot))
    ∙ (sym (ap (λ (xs : List (Bor Node)). youngest_from all slot before (referents xs)) (from_here nodes i j x within is next)) ∙ so_far)
