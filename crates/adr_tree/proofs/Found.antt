-- The live objects that pass a test are found by their hints in one run.
use Rattle.std.proofs.Common.{◌≡◌, ◌⊎◌, inl, inr, ⊎_elim, refl, sym, ap, ◌∙◌, subst, ℕ, List, [], ◌∷◌, Bool, true, false, cond, ◌&&◌, ◌||◌, ◌++◌, not, Option, Some, None, option_map, filter, find, Bor}
use Rattle.std.specs.Prelude.{IfSome, IsSome, is_some}
use Rattle.std.specs.Cmp.Lexicographic.{bytes_decides}
use Rattle.std.specs.Str.{bytes_eq}
use Rattle.std.specs.List.{list_any}
use Rattle.std.specs.Option.{option_cmp, option_copied}
use Rattle.std.specs.BTreeMap.{is_at}
use Rattle.std.specs.BTreeMap.Range.{range_contains}
use Rattle.std.specs.Ordering.{is_eq, nat_cmp, ordering_reverse}
use Rattle.std.specs.declared.ops.Bound.TheVariants.{Included, Unbounded}
use Rattle.std.specs.declared.cmp.Ordering.TheVariants.{Less, Equal, Greater}
use Rattle.std.proofs.lemmas.Cmp.{nat_cmp_total, nat_list_cmp_total, tied_itself}
use Rattle.std.proofs.lemmas.Bool.{and_parts}
use Rattle.adr_values.specs.Order.{identifier_order}
use Rattle.adr_model.specs.Member.{Each, Member}
use Rattle.adr_model.specs.Update.{Identifier, same_identifier}
use Rattle.adr_model.specs.Place.{Node, is_fixed, lost_and_found, named_before, node_at, place, root}
use Rattle.adr_model.specs.Shown.{gives_way, is_lost_name, is_named, name_holder}
use Rattle.adr_model.specs.Write.{is_taken}
use Rattle.adr_values.specs.Folding.{folded}
use Rattle.adr_model.proofs.Members.{each_fails, member_left, member_of_either, member_right, some_passes}
use Rattle.adr_law_tree.specs.Breaker.{youngest, youngest_of}
use Rattle.adr_law_tree.specs.InOrder.{AreInOrder}
use Rattle.adr_law_tree.proofs.Fuel.{itself, keeps, same_guid}
use Rattle.adr_law_tree.proofs.Youngest.{is_youngest}
use Rattle.adr_update.specs.Referents.{referents}
use Rattle.adr_law_tree.proofs.Names.{at_member, free_name_law, holder_law, least_law, no_holder_law, placed_law, taken_law}
use Rattle.adr_tree.specs.declared.hints.Hint.{Hint}
use Rattle.adr_tree.specs.Hints.{child_hint, hint_order, is_in_run, name_hint, number_of}
use Rattle.adr_tree.specs.Names.{is_called}
use Rattle.adr_tree.specs.Parent.{IsParent}
use Rattle.adr_tree.proofs.Runs.{Run, told_apart, stopped, first_or_later, behind, left_of_run, guid_less}

-- who is placed under a parent has it as written
pub written : (all : List Node) (parent : Identifier) → IsParent all parent → (m : Node) → same_identifier (place all m) parent ≡ true → m.parent ≡ parent
written all parent is m placed = same_guid m.parent parent (and_parts (same_identifier m.parent parent) _ (sym (placed_law all parent m is.0 is.1) ∙ placed)).0

pub false_where : (b : Bool) → (b ≡ true → ⊥) → b ≡ false
false_where false none = refl
false_where true none = absurd (none refl)

none_found : (test : Node → Bool) (ns : List Node) → ((m : Node) → Member m ns → test m ≡ false) → find test ns ≡ None
none_found test [] none = refl
none_found test (n ∷ ns) none = ap (λ b. cond b (Some n) (find test ns)) (none n (inl refl)) ∙ none_found test ns (λ m l. none m (inr l))

pub some_is : {A : Type 0} (x y : A) → Some x ≡ Some y → x ≡ y
some_is x y e = cc

module _ (all : List Node) (start : Hint) (bare_start : start.guid ≡ None) (hint_of : Node → Hint) (own : (m : Node) → (hint_of m).guid ≡ Some m.object.guid)
    (test : Node → Bool) (in_run : (m : Node) → test m ≡ true → is_in_run start (hint_of m) ≡ true) where
  -- who passes the test is settled, or its hint is left
  abbrev pub Left : (Node → Type 0) → List Hint → Type 0
  Left Done left = (m : Node) → node_at all m.object.guid ≡ Some m → test m ≡ true → Done m ⊎ (list_any (is_at (hint_order (hint_of m))) left ≡ true)

  pub all_left : (Done : Node → Type 0) (hs left : List Hint) → left ≡ filter (range_contains hint_order (Included start) Unbounded) hs
      → ((m : Node) → node_at all m.object.guid ≡ Some m → list_any (is_at (hint_order (hint_of m))) hs ≡ true) → Left Done left
  all_left Done hs left is hinted m here pass = inr (left_of_run start bare_start hs left is (hint_of m) (in_run m pass) (hinted m here))

  pub passed : (Done More : Node → Type 0) (h : Hint) (hs left : List Hint) → left ≡ h ∷ hs → ((m : Node) → Done m → More m)
      → ((m : Node) → node_at all m.object.guid ≡ Some m → test m ≡ true → h.guid ≡ Some m.object.guid → More m) → Left Done left → Left More hs
  passed Done More h hs left is keep turn rest m here pass = ⊎_elim (λ d. inl (keep m d)) (λ any. by (is_at (hint_order (hint_of m)) h) refl any) (rest m here pass)
    where
      by : (b : Bool) → is_at (hint_order (hint_of m)) h ≡ b → list_any (is_at (hint_order (hint_of m))) left ≡ true → More m ⊎ (list_any (is_at (hint_order (hint_of m))) hs ≡ true)
      by true at any = inl (turn m here pass (sym (ap (λ (k : Hint). k.guid) (told_apart (hint_of m) h at)) ∙ own m))
      by false at any = inr (first_or_later start h hs left is (hint_of m) any at)

  pub at_stop : (Done : Node → Type 0) (h : Hint) (hs left : List Hint) → left ≡ h ∷ hs → Run start left → is_in_run start h ≡ false → Left Done left
      → (m : Node) → node_at all m.object.guid ≡ Some m → test m ≡ true → Done m
  at_stop Done h hs left is run other rest m here pass =
      ⊎_elim (λ d. d) (λ any. let no : true ≡ false = sym any ∙ stopped start h hs left is run other (hint_of m) (in_run m pass) in cc) (rest m here pass)

  pub at_end : (Done : Node → Type 0) (left : List Hint) → left ≡ [] → Left Done left → (m : Node) → node_at all m.object.guid ≡ Some m → test m ≡ true → Done m
  at_end Done left is rest m here pass =
      ⊎_elim (λ d. d) (λ any. let no : false ≡ true = sym (ap (list_any (is_at (hint_order (hint_of m)))) is) ∙ any in cc) (rest m here pass)

  -- where nobody passes nobody is found
  pub find_none : AreInOrder all → ((m : Node) → node_at all m.object.guid ≡ Some m → test m ≡ true → ⊥) → find test all ≡ None
  find_none s none = none_found test all (λ m l. false_where (test m) (none m (at_member all s m l)))

  -- the first one that passes is the least
  pub find_first : AreInOrder all → (x : Node) → node_at all x.object.guid ≡ Some x → test x ≡ true → (h : Hint) (hs left : List Hint) → left ≡ h ∷ hs → Run start left
      → is_in_run start h ≡ true → h.guid ≡ Some x.object.guid → Left (λ m. ⊥) left → find test all ≡ Some x
  find_first s x here pass h hs left is run in_h of_x rest = least_law all s test x here pass (λ m there also less. ⊎_elim (λ none. none) (λ any. by m also less (is_at (hint_order (hint_of m)) h) refl any) (rest m there also))
    where
      not_less : (g k : Identifier) → identifier_order g k ≡ Less → identifier_order k g ≡ Less → ⊥
      not_less g k less back = let turned : identifier_order g k ≡ ordering_reverse (identifier_order k g) = nat_list_cmp_total.antisymm g k in
          let more : identifier_order g k ≡ Greater = turned ∙ ap ordering_reverse back in cc

      by : (m : Node) → test m ≡ true → identifier_order m.object.guid x.object.guid ≡ Less → (b : Bool) → is_at (hint_order (hint_of m)) h ≡ b → list_any (is_at (hint_order (hint_of m))) left ≡ true → ⊥
      by m also less true at any =
          let same : m.object.guid ≡ x.object.guid = some_is m.object.guid x.object.guid (sym (own m) ∙ ap (λ (k : Hint). k.guid) (told_apart (hint_of m) h at) ∙ of_x) in
          let tie : identifier_order m.object.guid x.object.guid ≡ Equal = ap (identifier_order m.object.guid) (sym same) ∙ tied_itself nat_list_cmp_total m.object.guid in cc
      by m also less false at any =
          let later = behind start h hs left is run (hint_of m) (first_or_later start h hs left is (hint_of m) any at) in
          not_less m.object.guid x.object.guid less
          (sym (ap (λ o. option_cmp identifier_order o (Some m.object.guid)) of_x ∙ refl) ∙ ap (option_cmp identifier_order h.guid) (sym (own m)) ∙ guid_less start h (hint_of m) in_h (in_run m also) later)

-- ---- hints followed

pub found_live : (all : List Node) (g : Identifier) (o : Option (Bor Node)) → option_copied o ≡ node_at all g → IfSome o (λ n. node_at all n.now.object.guid ≡ Some n.now)
found_live all g None e = tt
found_live all g (Some n) e = ap (node_at all) (keeps all g n.now (sym e)) ∙ sym e

pub found_own : (all : List Node) (g : Identifier) (h : Option Identifier) → h ≡ Some g → (o : Option (Bor Node)) → option_copied o ≡ node_at all g → IfSome o (λ n. h ≡ Some n.now.object.guid)
found_own all g h is None e = tt
found_own all g h is (Some n) e = is ∙ ap Some (sym (keeps all g n.now (sym e)))

pub same_node : (all : List Node) (h : Option Identifier) (m n : Node) → node_at all m.object.guid ≡ Some m → node_at all n.object.guid ≡ Some n → h ≡ Some m.object.guid → h ≡ Some n.object.guid → m ≡ n
same_node all h m n here there e f =
    let same : m.object.guid ≡ n.object.guid = some_is m.object.guid n.object.guid (sym e ∙ f) in
    some_is m n (sym here ∙ ap (node_at all) same ∙ there)

-- ---- a list of references that grows

pub pushed : (xs ys : List (Bor Node)) (x : Bor Node) → ys ≡ xs ++ x ∷ [] → referents ys ≡ referents xs ++ x.now ∷ []
pushed xs ys x e = ap referents e ∙ by xs
  where
    by : (zs : List (Bor Node)) → referents (zs ++ x ∷ []) ≡ referents zs ++ x.now ∷ []
    by [] = refl
    by (z ∷ zs) = ap (λ ns. z.now ∷ ns) (by zs)

pub pushed_old : (ns : List Node) (x m : Node) → Member m ns → Member m (ns ++ x ∷ [])
pushed_old ns x m here = member_left ns (x ∷ []) m here

pub pushed_new : (ns : List Node) (x m : Node) → m ≡ x → Member m (ns ++ x ∷ [])
pushed_new ns x m e = member_right ns (x ∷ []) m (inl e)

pub pushed_each : (P : Node → Type 0) (ns : List Node) (x : Node) → Each P ns → P x → Each P (ns ++ x ∷ [])
pushed_each P ns x each own m here =
    ⊎_elim (λ l. each m l) (λ r. ⊎_elim (λ (e : m ≡ x). subst P (sym e) own) (λ none. absurd none) r) (member_of_either ns (x ∷ []) m here)

-- ---- runs of children and of names

pub is_parent : (all : List Node) (guid : Identifier) → IsSome (node_at all guid) → is_fixed guid ≡ false → IsParent all guid
is_parent all guid live free = (second (same_identifier guid root) (same_identifier guid lost_and_found) free, ap (λ b. b || is_some (node_at all guid)) free ∙ live)
  where
    second : (a b : Bool) → (a || b) ≡ false → b ≡ false
    second true b e = cc
    second false b e = e

pub child_run : (all : List Node) (parent : Identifier) → IsParent all parent → (m : Node) → same_identifier (place all m) parent ≡ true → is_in_run (record { parent = parent; number = None; guid = None }) (child_hint m) ≡ true
child_run all parent ok m placed = ap (λ p. same_identifier parent p && true) (written all parent ok m placed) ∙ ap (λ b. b && true) (itself parent)

pub name_run : (all : List Node) (parent : Identifier) → IsParent all parent → (name : List ℕ) (number : ℕ) → number ≡ number_of name → (m : Node) → is_called all parent name m ≡ true
    → is_in_run (record { parent = parent; number = Some number; guid = None }) (name_hint m) ≡ true
name_run all parent ok name number is m called =
    let t = and_parts (same_identifier (place all m) parent) (bytes_eq (folded m.text) name) called in
    let same : folded m.text ≡ name = (bytes_decides (folded m.text) name).0 t.1 in
    ap (λ p. same_identifier parent p && is_eq (nat_cmp number (number_of (folded m.text)))) (written all parent ok m t.0)
    ∙ ap (λ b. b && is_eq (nat_cmp number (number_of (folded m.text)))) (itself parent)
    ∙ ap (λ n. is_eq (nat_cmp number n)) (ap number_of same ∙ sym is)
    ∙ ap is_eq (tied_itself nat_cmp_total number)

-- ---- holders

module _ (all : List Node) (s : AreInOrder all) (parent : Identifier) (text : List ℕ) where
  pub holder_is : (ns : List Node) → is_lost_name parent text ≡ false → Each (λ n. node_at all n.object.guid ≡ Some n) ns → Each (λ n. is_named all parent text n ≡ true) ns
      → ((m : Node) → node_at all m.object.guid ≡ Some m → is_named all parent text m ≡ true → Member m ns) → option_map (λ (n : Node). n.object.guid) (youngest ns) ≡ name_holder all parent text
  holder_is [] lost live named whole = sym (no_holder_law all s parent text (λ m here. false_where (is_named all parent text m) (λ pass. whole m here pass)) lost)
  holder_is (n ∷ ns) lost live named whole =
      let y = is_youngest n ns in
      let here : Member (youngest_of n ns) (n ∷ ns) = ⊎_elim (λ f. inl f) (λ l. inr l) y.is_one in
      sym (holder_law all s parent text (youngest_of n ns)
      (record {
        there = live (youngest_of n ns) here;
        named = named (youngest_of n ns) here;
        youngest = λ m there also. ⊎_elim (λ e. subst (λ (k : Node). named_before (youngest_of n ns) k ≡ false) (sym e) y.first) (λ l. y.rest m l) (whole m there also);
      })
      lost)

  pub taken_is : (guid : Identifier) (ns : List Node) → is_lost_name parent text ≡ false → Each (λ n. node_at all n.object.guid ≡ Some n) ns → Each (λ n. is_named all parent text n ≡ true) ns
      → ((m : Node) → node_at all m.object.guid ≡ Some m → is_named all parent text m ≡ true → Member m ns) → list_any (λ m. not (same_identifier m.object.guid guid)) ns ≡ is_taken all guid parent text
  taken_is guid ns lost live named whole = by (list_any (λ m. not (same_identifier m.object.guid guid)) ns) refl
    where
      not_false : (b : Bool) → not b ≡ true → b ≡ false
      not_false true e = cc
      not_false false e = refl

      by : (b : Bool) → list_any (λ m. not (same_identifier m.object.guid guid)) ns ≡ b → b ≡ is_taken all guid parent text
      by true any =
          let t = some_passes (λ (m : Node). not (same_identifier m.object.guid guid)) ns any in
          sym (taken_law all s guid parent text t.0 (live t.0 t.1) (not_false (same_identifier t.0.object.guid guid) t.2) (named t.0 t.1))
      by false none = sym (free_name_law all s guid parent text lost (λ m here other. false_where (is_named all parent text m)
          (λ pass. let no : false ≡ true = sym (each_fails (λ (k : Node). not (same_identifier k.object.guid guid)) ns none m (whole m here pass)) ∙ ap not other in cc)))

pub lost_holder : (all : List Node) (parent : Identifier) (text : List ℕ) → is_lost_name parent text ≡ true → name_holder all parent text ≡ Some lost_and_found
lost_holder all parent text lost =
    ap (λ b. cond b (Some lost_and_found) (option_map (λ (n : Node). n.object.guid) (find (λ n. is_named all parent text n && not (gives_way all n)) all))) lost

pub lost_taken : (all : List Node) (guid parent : Identifier) (text : List ℕ) → is_lost_name parent text ≡ true → is_taken all guid parent text ≡ true
lost_taken all guid parent text lost = ap (λ b. b || list_any (λ m. not (same_identifier m.object.guid guid) && is_named all parent text m) all) lost
