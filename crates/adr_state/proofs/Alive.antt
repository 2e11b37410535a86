-- The live object of a GUID is that of the first birth there that is live.
use Rattle.std.proofs.Common.{◌≡◌, ℕ, inl, inr, Bool, true, false, cond, not, ◌&&◌, ◌||◌, List, [], ◌∷◌, Option, Some, None, refl, sym, ap, ap₂, ◌∙◌, map, filter, filter_map, find, ◌==◌, Bor}
use Rattle.std.specs.Prelude.{if◌then◌else◌}
use Rattle.std.specs.List.{list_any, list_all, cons_option}
use Rattle.std.specs.List.Sorted.{IsStrictlySortedBy}
use Rattle.std.specs.Option.{is_some, option_and_then, option_copied, option_map_or, option_or}
use Rattle.std.specs.Ordering.{is_eq}
use Rattle.std.proofs.lemmas.Cmp.{tied_itself}
use Rattle.adr_values.specs.Order.{object_order}
use Rattle.adr_values.specs.declared.stamp.Oid.{Oid}
use Rattle.adr_values.proofs.ExactOrders.{exact_objects}
use Rattle.adr_values.specs.declared.content.Content.TheVariants.{Class, Name, Dead, Values}
use Rattle.adr_model.specs.Member.{Member}
use Rattle.adr_model.specs.Update.{Identifier, Key, RowOf, LinkOf, Said, Holds, IsPresent, Update, same_identifier, same_key, same_object, key_order, class_attr, name_attr, is_death_of, ends}
use Rattle.adr_model.specs.Winner.{winner}
use Rattle.adr_model.specs.Live.{born, objects_of, standing, yields_to, live, is_among}
use Rattle.adr_model.specs.Place.{Node, node_at, row_at, with_name, node_of, nodes_of}
use Rattle.adr_model.specs.Write.{nodes_held}
use Rattle.adr_model.proofs.Keys.{equal_order, exact_keys, keys_total, objects_tell, winner_found}
use Rattle.adr_model.proofs.Members.{one_passes}
use Rattle.adr_law_knowledge.proofs.Standing.{among_objects, birth_key}
use Rattle.adr_law_tree.proofs.Kept.{any_alike, any_folded, any_of_filter, filter_maps_alike, find_kept}
use Rattle.adr_law_tree.proofs.Local.{named_of}
use Rattle.adr_law_tree.proofs.Loops.{object_itself}
use Rattle.adr_law_tree.proofs.Rising.{one_of_each}
use Rattle.adr_law_tree.proofs.RisingRows.{key, rising_win}
use Rattle.adr_state.specs.Alive.{is_elder, beats, is_live, node_by}

-- ---- lists

-- what the first element gives that gives anything
abbrev pub first_given : {A B : Type 0} → (A → Option B) → List A → Option B
first_given f [] = None
first_given f (x ∷ xs) = option_or (f x) (first_given f xs)

-- what is given, if it passes
abbrev passing : {B : Type 0} → (B → Bool) → Option B → Option B
passing t None = None
passing t (Some y) = if t y then Some y else None

module _ {A B : Type 0} where
  given_alike : (f h : A → Option B) (xs : List A) → ((x : A) → Member x xs → f x ≡ h x) → first_given f xs ≡ first_given h xs
  given_alike f h [] same = refl
  given_alike f h (x ∷ xs) same = ap₂ (λ (o p : Option B). option_or o p) (same x (inl refl)) (given_alike f h xs (λ y m. same y (inr m)))

  find_given : (f : A → Option B) (q : A → Bool) (t : B → Bool) (xs : List A) → find t (filter_map f (filter q xs)) ≡ first_given (λ x. cond (q x) (passing t (f x)) None) xs
  find_given f q t [] = refl
  find_given f q t (x ∷ xs) = by (q x) (find_given f q t xs)
    where
      pick : (b : Bool) (y : B) → find t (filter_map f (filter q xs)) ≡ first_given (λ z. cond (q z) (passing t (f z)) None) xs
          → cond b (Some y) (find t (filter_map f (filter q xs))) ≡ option_or (cond b (Some y) None) (first_given (λ z. cond (q z) (passing t (f z)) None) xs)
      pick true y is = refl
      pick false y is = is

      on : (o : Option B) → find t (filter_map f (filter q xs)) ≡ first_given (λ y. cond (q y) (passing t (f y)) None) xs
          → find t (cons_option o (filter_map f (filter q xs))) ≡ option_or (passing t o) (first_given (λ y. cond (q y) (passing t (f y)) None) xs)
      on None is = is
      on (Some y) is = pick (t y) y is

      by : (b : Bool) → find t (filter_map f (filter q xs)) ≡ first_given (λ y. cond (q y) (passing t (f y)) None) xs
          → find t (filter_map f (cond b (x ∷ filter q xs) (filter q xs))) ≡ option_or (cond b (passing t (f x)) None) (first_given (λ y. cond (q y) (passing t (f y)) None) xs)
      by true is = on (f x) is
      by false is = is

  any_given : (t : B → Bool) (f : A → Option B) (xs : List A) → list_any t (filter_map f xs) ≡ list_any (λ x. option_map_or t (f x) false) xs
  any_given t f [] = refl
  any_given t f (x ∷ xs) = by (f x) (any_given t f xs)
    where
      by : (o : Option B) → list_any t (filter_map f xs) ≡ list_any (λ y. option_map_or t (f y) false) xs
          → list_any t (cons_option o (filter_map f xs)) ≡ (option_map_or t o false || list_any (λ y. option_map_or t (f y) false) xs)
      by None is = is
      by (Some y) is = ap (λ b. t y || b) is

-- what a reference refers to is there where the reference is
pub is_copied : {A : Type 0} (o : Option (Bor A)) → is_some o ≡ is_some (option_copied o)
is_copied None = refl
is_copied (Some x) = refl

module _ {A : Type 0} where
  pub is_found : (t : A → Bool) (xs : List A) → is_some (find t xs) ≡ list_any t xs
  is_found t [] = refl
  is_found t (x ∷ xs) = by (t x) (is_found t xs)
    where
      by : (b : Bool) → is_some (find t xs) ≡ list_any t xs → is_some (cond b (Some x) (find t xs)) ≡ (b || list_any t xs)
      by true is = refl
      by false is = is

  any_of_members : (t s : A → Bool) (xs : List A) → ((x : A) → Member x xs → t x ≡ s x) → list_any t xs ≡ list_any s xs
  any_of_members t s [] same = refl
  any_of_members t s (x ∷ xs) same = ap₂ (λ b c. b || c) (same x (inl refl)) (any_of_members t s xs (λ y m. same y (inr m)))

  any_and : (c : Bool) (t : A → Bool) (xs : List A) → list_any (λ x. c && t x) xs ≡ (c && list_any t xs)
  any_and true t xs = refl
  any_and false t [] = refl
  any_and false t (x ∷ xs) = any_and false t xs

-- ---- what a row stands for

no_node : (rows : List Update) (o : Oid) (a : ℕ) (said : Said) → (a == class_attr) ≡ false → node_of rows (RowOf o a) said ≡ None
no_node rows o a (Holds (Class class)) other =
    ap (λ b. if b then option_and_then (λ (u : Update). with_name o class u.stamp u.said) (row_at rows (RowOf o name_attr)) else None) other
no_node rows o a (Holds (Name text parent)) other = refl
no_node rows o a (Holds Dead) other = refl
no_node rows o a (Holds (Values vs)) other = refl
no_node rows o a (IsPresent b) other = refl

-- a node is of the object of its row
node_object : (rows : List Update) (o : Oid) (a : ℕ) (said : Said) (n : Node) → node_of rows (RowOf o a) said ≡ Some n → o ≡ n.object
node_object rows o a (Holds (Class class)) n e = by (a == class_attr) (row_at rows (RowOf o name_attr)) e
  where
    by : (c : Bool) (r : Option Update) → cond c (option_and_then (λ (u : Update). with_name o class u.stamp u.said) r) None ≡ Some n → o ≡ n.object
    by false r e = cc
    by true None e = cc
    by true (Some u) e = named_of o.guid o class u.stamp u.said n e
node_object rows o a (Holds (Name text parent)) n e = cc
node_object rows o a (Holds Dead) n e = cc
node_object rows o a (Holds (Values vs)) n e = cc
node_object rows o a (IsPresent b) n e = cc

both_none : {A : Type 0} (b : Bool) → cond {A = Option A} b None None ≡ None
both_none true = refl
both_none false = refl

-- so it passes where the object has the GUID
own_node : (rows : List Update) (g : Identifier) (o : Oid) (a : ℕ) (said : Said)
    → passing (λ n. same_identifier n.object.guid g) (node_of rows (RowOf o a) said) ≡ cond (same_identifier o.guid g) (node_of rows (RowOf o a) said) None
own_node rows g o a said = by (node_of rows (RowOf o a) said) refl
  where
    by : (r : Option Node) → node_of rows (RowOf o a) said ≡ r → passing (λ n. same_identifier n.object.guid g) r ≡ cond (same_identifier o.guid g) r None
    by None e = sym (both_none (same_identifier o.guid g))
    by (Some n) e = ap (λ (p : Oid). cond (same_identifier p.guid g) (Some n) None) (sym (node_object rows o a said n e))

-- ---- which object is live

turn : (a b c : Bool) → (a && (b && c)) ≡ (b && (c && a))
turn true true true = refl
turn true true false = refl
turn true false c = refl
turn false true true = refl
turn false true false = refl
turn false false c = refl

with_true : (a b : Bool) → (a && (b && true)) ≡ ((a && b) && true)
with_true true true = refl
with_true true false = refl
with_true false b = refl

with_false : (a b c : Bool) → (a && (b && false)) ≡ (c && false)
with_false true true true = refl
with_false true true false = refl
with_false true false true = refl
with_false true false false = refl
with_false false b true = refl
with_false false b false = refl

and_true : (a : Bool) → (a && true) ≡ a
and_true true = refl
and_true false = refl

module _ (us : List Update) (rising : IsStrictlySortedBy key_order (map key us)) where
  birth_wins : (u : Update) → Member u us → (o : Oid) → born u.key ≡ Some o → winner us (RowOf o class_attr) ≡ Some u
  birth_wins u m o is =
      ap (winner us) (sym (birth_key u.key o is))
      ∙ winner_found us u m (ap is_eq (tied_itself keys_total u.key))
      (λ v n same. one_of_each key_order key keys_total us rising v n u m (exact_keys v.key u.key (equal_order (key_order v.key u.key) same)))

  yields : (u : Update) → Member u us → (o : Oid) → born u.key ≡ Some o → (v : Update) → Member v us → (p : Oid) → born v.key ≡ Some p
      → yields_to us o p ≡ is_elder u.stamp o v.stamp p
  yields u m o is v n p at = rw (birth_wins u m o is, birth_wins v n p at) refl

  abbrev lives : Oid → Bool
  lives o = not (list_any (is_death_of o) us)

  abbrev beaten_by : Oid → Oid → Bool
  beaten_by o p = same_identifier o.guid p.guid && yields_to us o p

  abbrev stays : Oid → Bool
  stays o = not (list_any (beaten_by o) (standing us))

  module _ (u : Update) (m : Member u us) (o : Oid) (is : born u.key ≡ Some o) where
    beaten : list_any (beaten_by o) (standing us) ≡ list_any (beats us u.stamp o) us
    beaten =
        any_of_filter (beaten_by o) lives (objects_of us)
        ∙ any_folded object_order exact_objects (λ p. lives p && beaten_by o p) (filter_map (λ (v : Update). born v.key) us) []
        ∙ any_given (λ p. lives p && beaten_by o p) (λ (v : Update). born v.key) us
        ∙ any_of_members _ (beats us u.stamp o) us each
      where
        by : (v : Update) → Member v us → (b : Option Oid) → born v.key ≡ b
            → option_map_or (λ p. lives p && beaten_by o p) b false ≡ option_map_or (λ p. same_identifier o.guid p.guid && (is_elder u.stamp o v.stamp p && lives p)) b false
        by v n None e = refl
        by v n (Some p) e =
            ap (λ b. lives p && (same_identifier o.guid p.guid && b)) (yields u m o is v n p e)
            ∙ turn (lives p) (same_identifier o.guid p.guid) (is_elder u.stamp o v.stamp p)

        each : (v : Update) → Member v us → option_map_or (λ p. lives p && beaten_by o p) (born v.key) false ≡ beats us u.stamp o v
        each v n = by v n (born v.key) refl

    among : is_among (live us) o ≡ is_live us u.stamp o
    among =
        any_of_filter (λ p. same_object p o) stays (standing us)
        ∙ any_of_filter (λ p. stays p && same_object p o) lives (objects_of us)
        ∙ any_alike _ _ (λ p. by p (same_object p o) refl) (objects_of us)
        ∙ any_and (lives o && stays o) (λ p. same_object p o) (objects_of us)
        ∙ ap (λ b. (lives o && stays o) && b) (one_passes (λ p. same_object p o) (objects_of us) o (among_objects us u o m (birth_key u.key o is)) (object_itself o))
        ∙ and_true (lives o && stays o)
        ∙ ap (λ b. lives o && not b) beaten
      where
        by : (p : Oid) (b : Bool) → same_object p o ≡ b → (lives p && (stays p && b)) ≡ ((lives o && stays o) && b)
        by p true e = ap (λ q. lives q && (stays q && true)) (objects_tell p o e) ∙ with_true (lives o) (stays o)
        by p false e = with_false (lives p) (stays p) (lives o && stays o)

  -- ---- the node of a GUID

  abbrev all_live : Key → Bool
  all_live k = list_all (is_among (live us)) (ends k)

  abbrev of_live : Update → Bool
  of_live u = all_live u.key

  -- the rows of a live object are all live
  node_whole : (k : Key) (said : Said) → all_live k ≡ true → node_of (filter of_live us) k said ≡ node_of us k said
  node_whole (RowOf o a) (Holds (Class class)) is =
      ap (λ r. if a == class_attr then option_and_then (λ (u : Update). with_name o class u.stamp u.said) r else None)
      (find_kept (λ (v : Update). same_key v.key (RowOf o name_attr)) of_live
      (λ v same. ap all_live (exact_keys v.key (RowOf o name_attr) (equal_order (key_order v.key (RowOf o name_attr)) same)) ∙ is) us)
  node_whole (RowOf o a) (Holds (Name text parent)) is = refl
  node_whole (RowOf o a) (Holds Dead) is = refl
  node_whole (RowOf o a) (Holds (Values vs)) is = refl
  node_whole (RowOf o a) (IsPresent b) is = refl
  node_whole (LinkOf l) said is = refl

  module _ (g : Identifier) where
    abbrev mine : Node → Bool
    mine n = same_identifier n.object.guid g

    pick : (l same : Bool) (r : Option Node) → cond (l && true) (cond same r None) None ≡ cond (same && l) r None
    pick true true r = refl
    pick true false r = refl
    pick false true r = refl
    pick false false r = refl

    by_birth : (u : Update) → Member u us → cond (of_live u) (passing mine (node_of us u.key u.said)) None ≡ node_by us g u
    by_birth u m = by u.key refl
      where
        on : (o : Oid) (a : ℕ) → u.key ≡ RowOf o a → (b : Bool) → (a == class_attr) ≡ b
            → cond (all_live (RowOf o a)) (passing mine (node_of us (RowOf o a) u.said)) None
            ≡ option_and_then (λ p. if same_identifier p.guid g && is_live us u.stamp p then node_of us (RowOf o a) u.said else None) (if b then Some o else None)
        on o a e false other =
            ap (λ n. cond (all_live (RowOf o a)) (passing mine n) None) (no_node us o a u.said other) ∙ both_none (all_live (RowOf o a))
        on o a e true class =
            ap (λ n. cond (all_live (RowOf o a)) n None) (own_node us g o a u.said)
            ∙ ap (λ b. cond (b && true) (cond (same_identifier o.guid g) (node_of us (RowOf o a) u.said) None) None)
            (among u m o (ap born e ∙ ap (λ b. if b then Some o else None) class))
            ∙ pick (is_live us u.stamp o) (same_identifier o.guid g) (node_of us (RowOf o a) u.said)

        by : (k : Key) → u.key ≡ k → cond (all_live k) (passing mine (node_of us k u.said)) None
            ≡ option_and_then (λ p. if same_identifier p.guid g && is_live us u.stamp p then node_of us k u.said else None) (born k)
        by (RowOf o a) e = on o a e (a == class_attr) refl
        by (LinkOf l) e = both_none (all_live (LinkOf l))

    pub node_found : first_given (node_by us g) us ≡ node_at (nodes_held us) g
    node_found = sym (
        ap (λ ws. node_at (nodes_of (filter of_live ws)) g) (rising_win us rising)
        ∙ ap (find mine) (filter_maps_alike (λ u. node_of (filter of_live us) u.key u.said) (λ u. node_of us u.key u.said) of_live (λ u is. node_whole u.key u.said is) us)
        ∙ find_given (λ u. node_of us u.key u.said) of_live mine us
        ∙ given_alike _ (node_by us g) us by_birth
        )
