-- Places, children and names by look-ups.
use Rattle.std.proofs.Common.{◌≡◌, ◌⊎◌, inl, inr, ⊎_elim, ℕ, Bool, true, false, cond, not, ◌&&◌, List, [], ◌∷◌, Some, None, option_map, refl, sym, ap, ◌∙◌, subst, find}
use Rattle.std.specs.declared.cmp.Ordering.TheVariants.{Less}
use Rattle.std.specs.Cmp.Lexicographic.{bytes_decides}
use Rattle.std.proofs.lemmas.Cmp.{nat_list_cmp_total}
use Rattle.std.proofs.lemmas.Bool.{and_from, and_parts, or_right, or_from, not-true}
use Rattle.adr_values.specs.Order.{identifier_order}
use Rattle.adr_values.specs.Folding.{folded}
use Rattle.adr_model.specs.Member.{Member}
use Rattle.adr_model.specs.Update.{Identifier, same_identifier}
use Rattle.adr_model.specs.Place.{Node, node_at, first_place, place, named_before, breaks_loop, lost_and_found}
use Rattle.adr_model.specs.Shown.{alike, is_lost_name, is_named, gives_way}
use Rattle.adr_model.proofs.Members.{none_passes, one_passes, found}
use Rattle.adr_law_tree.specs.Walk.{Met, Breaks, free}
use Rattle.adr_law_tree.specs.InOrder.{AreInOrder}
use Rattle.adr_law_tree.specs.Names.{is_there, PlacedLaw, OneBreakerLaw, LeastLaw, IsHolder, HolderLaw, NoHolderLaw, GivesWayLaw, TakenLaw, FreeNameLaw}
use Rattle.adr_law_tree.proofs.Walks.{one, is_found}
use Rattle.adr_law_tree.proofs.Fuel.{same_guid, itself, one_or_not}
use Rattle.adr_law_tree.proofs.Youngest.{alike_guids}
use Rattle.adr_law_tree.proofs.Loops.{breaks, told_apart, own_of}
use Rattle.adr_law_tree.proofs.Unfixed.{keeps_free}
use Rattle.adr_law_tree.proofs.Rising.{each_below}
use Rattle.adr_law_tree.proofs.InOrder.{nowhere, head_all, tail_order, at_head}

not_one : (g h : Identifier) → (g ≡ h → ⊥) → same_identifier g h ≡ false
not_one g h other = ⊎_elim (λ e. absurd (other e)) (λ e. e) (one_or_not g h)

-- ---- places

pub placed_law : PlacedLaw
placed_law all parent n other there = by (breaks_loop all n) (one_or_not n.parent parent)
  where
    lost_other : same_identifier lost_and_found parent ≡ false
    lost_other = not_one lost_and_found parent (λ e. let t : same_identifier parent lost_and_found ≡ true = subst (λ g. same_identifier g lost_and_found ≡ true) e (itself lost_and_found) in cc)

    first : (n.parent ≡ parent) ⊎ (same_identifier n.parent parent ≡ false) → same_identifier (first_place all n) parent ≡ same_identifier n.parent parent
    first (inl e) = ap (λ b. same_identifier (cond b n.parent lost_and_found) parent) (ap (is_there all) e ∙ there)
    first (inr e) = on (is_there all n.parent)
      where
        on : (b : Bool) → same_identifier (cond b n.parent lost_and_found) parent ≡ same_identifier n.parent parent
        on true = refl
        on false = lost_other ∙ sym e

    and_true : (b : Bool) → b ≡ (b && true)
    and_true true = refl
    and_true false = refl

    and_false : (b : Bool) → false ≡ (b && false)
    and_false true = refl
    and_false false = refl

    by : (b : Bool) → (n.parent ≡ parent) ⊎ (same_identifier n.parent parent ≡ false) → same_identifier (cond b lost_and_found (first_place all n)) parent ≡ (same_identifier n.parent parent && not b)
    by true e = lost_other ∙ and_false (same_identifier n.parent parent)
    by false e = first e ∙ and_true (same_identifier n.parent parent)

pub one_breaker_law : OneBreakerLaw
one_breaker_law all m n at_m at_n parents e f = told_apart all m n (found m c.1) (found n b.1) (b.0.1 n m_to_n) (c.0.1 m n_to_m)
  where
    breaks_free : (x : Node) → node_at all x.object.guid ≡ Some x → breaks_loop all x ≡ true → Breaks (free all) x
    breaks_free x here g = breaks all x (own_of all x here) g

    found : (x : Node) → Met (free all) x.parent x → free all x.object.guid ≡ Some x
    found x up = is_found (free all) (keeps_free all) up.0 x.parent x up.1

    b : Breaks (free all) m × Met (free all) n.parent n
    b = (breaks_free m at_m e, (breaks_free n at_n f).0)

    c : Breaks (free all) n × Met (free all) m.parent m
    c = (breaks_free n at_n f, (breaks_free m at_m e).0)

    m_to_n : Met (free all) m.parent n
    m_to_n = subst (λ g. Met (free all) g n) (sym parents) b.1

    n_to_m : Met (free all) n.parent m
    n_to_m = subst (λ g. Met (free all) g m) parents c.1

-- ---- members of lists in order

pub at_member : (all : List Node) → AreInOrder all → (x : Node) → Member x all → node_at all x.object.guid ≡ Some x
at_member [] s x m = absurd m
at_member (y ∷ ys) s x (inl e) = subst (λ (z : Node). node_at (y ∷ ys) z.object.guid ≡ Some z) (sym e) (at_head y ys)
at_member (y ∷ ys) s x (inr m) = by (one_or_not y.object.guid x.object.guid) (at_member ys (tail_order y ys s) x m)
  where
    by : (y.object.guid ≡ x.object.guid) ⊎ (same_identifier y.object.guid x.object.guid ≡ false) → node_at ys x.object.guid ≡ Some x → node_at (y ∷ ys) x.object.guid ≡ Some x
    by (inl e) rest = let none : node_at ys x.object.guid ≡ None = ap (node_at ys) (sym e) ∙ nowhere y.object.guid ys (head_all y ys s) in cc
    by (inr e) rest = ap (λ b. cond b (Some y) (node_at ys x.object.guid)) e ∙ rest

pub member_at : (all : List Node) (g : Identifier) (x : Node) → node_at all g ≡ Some x → Member x all
member_at [] g x e = cc
member_at (y ∷ ys) g x e = by (same_identifier y.object.guid g) e (member_at ys g x)
  where
    by : (b : Bool) → cond b (Some y) (node_at ys g) ≡ Some x → (node_at ys g ≡ Some x → Member x ys) → Member x (y ∷ ys)
    by true e rest = inl (let f : y ≡ x = one {o = Some y} refl e in sym f)
    by false e rest = inr (rest e)

pub least_law : LeastLaw
least_law [] s test x there passes least = cc
least_law (y ∷ ys) s test x there passes least = by (test y) refl (member_at (y ∷ ys) x.object.guid x there) (λ m. least_law ys (tail_order y ys s) test x (at_member ys (tail_order y ys s) x m) passes)
  where
    head_less : (m : Node) → Member m ys → identifier_order y.object.guid m.object.guid ≡ Less
    head_less m l = each_below identifier_order (λ (n : Node). n.object.guid) nat_list_cmp_total y.object.guid ys (head_all y ys s) m l

    by : (b : Bool) → test y ≡ b → Member x (y ∷ ys) → (Member x ys → ((m : Node) → node_at ys m.object.guid ≡ Some m → test m ≡ true → identifier_order m.object.guid x.object.guid ≡ Less → ⊥) → find test ys ≡ Some x)
        → cond b (Some y) (find test ys) ≡ Some x
    by true is (inl e) rest = ap Some (sym e)
    by true is (inr m) rest = absurd (least y (at_head y ys) is (head_less x m))
    by false is (inl e) rest = let t : test y ≡ true = ap test (sym e) ∙ passes in cc
    by false is (inr m) rest = rest m (λ n at_n p. least n (at_member (y ∷ ys) s n (inr (member_at ys n.object.guid n at_n))) p)

-- ---- names

alike_to : (s t : List ℕ) → alike s t ≡ true → folded s ≡ folded t
alike_to s t e = (bytes_decides (folded s) (folded t)).0 e

pub alike_from : (s t : List ℕ) → folded s ≡ folded t → alike s t ≡ true
alike_from s t e = (bytes_decides (folded s) (folded t)).1 e

-- who is named in the place and by the name of one that is named is named, too
named_too : (all : List Node) (parent : Identifier) (text : List ℕ) (n m : Node) → is_named all parent text n ≡ true → is_named all (place all n) n.text m ≡ true → is_named all parent text m ≡ true
named_too all parent text n m e f =
    let p = and_parts _ _ e in
    let q = and_parts _ _ f in
    and_from _ _ (subst (λ g. same_identifier (place all m) g ≡ true) (same_guid (place all n) parent p.0) q.0)
    (alike_from m.text text (alike_to m.text n.text q.1 ∙ alike_to n.text text p.1))

named_itself : (all : List Node) (n : Node) → is_named all (place all n) n.text n ≡ true
named_itself all n = and_from _ _ (itself (place all n)) (alike_from n.text n.text refl)

-- where both are named in one place by one name, each in the other's
named_back : (all : List Node) (parent : Identifier) (text : List ℕ) (n m : Node) → is_named all parent text n ≡ true → is_named all parent text m ≡ true → is_named all (place all n) n.text m ≡ true
named_back all parent text n m e f =
    let p = and_parts _ _ e in
    let q = and_parts _ _ f in
    and_from _ _ (subst (λ g. same_identifier (place all m) g ≡ true) (sym (same_guid (place all n) parent p.0)) q.0)
    (alike_from m.text n.text (alike_to m.text text q.1 ∙ sym (alike_to n.text text p.1)))

one_youngest : (all : List Node) (m n : Node) → node_at all m.object.guid ≡ Some m → node_at all n.object.guid ≡ Some n → named_before m n ≡ false → named_before n m ≡ false → m ≡ n
one_youngest all m n e f g h = one e (ap (node_at all) (same_guid m.object.guid n.object.guid (alike_guids m n g h)) ∙ f)

module _ (all : List Node) (s : AreInOrder all) where
  stays_first : (parent : Identifier) (text : List ℕ) (x : Node) → IsHolder all parent text x → gives_way all x ≡ false
  stays_first parent text x h = none_passes (λ m. is_named all (place all x) x.text m && named_before x m) all (λ m l. by m l (is_named all (place all x) x.text m) refl)
    where
      by : (m : Node) → Member m all → (b : Bool) → is_named all (place all x) x.text m ≡ b → (b && named_before x m) ≡ false
      by m l false e = refl
      by m l true e = h.youngest m (at_member all s m l) (named_too all parent text x m h.named e)

  not_given : (n m : Node) → Member m all → gives_way all n ≡ false → is_named all (place all n) n.text m ≡ true → named_before n m ≡ false
  not_given n m l stays named = by (named_before n m) refl
    where
      by : (b : Bool) → named_before n m ≡ b → b ≡ false
      by false e = refl
      by true e = let t : gives_way all n ≡ true = one_passes (λ m. is_named all (place all n) n.text m && named_before n m) all m l (and_from _ _ named e) in cc

  holder : (parent : Identifier) (text : List ℕ) (x : Node) → IsHolder all parent text x → find (λ n. is_named all parent text n && not (gives_way all n)) all ≡ Some x
  holder parent text x h = found (λ n. is_named all parent text n && not (gives_way all n)) all x (member_at all x.object.guid x h.there)
      (and_from _ _ h.named (ap not (stays_first parent text x h))) only
    where
      only : (y : Node) → Member y all → (is_named all parent text y && not (gives_way all y)) ≡ true → y ≡ x
      only y l e =
          let p = and_parts (is_named all parent text y) (not (gives_way all y)) e in
          one_youngest all y x (at_member all s y l) h.there
          (not_given y x (member_at all x.object.guid x h.there) (not-true _ p.1) (named_back all parent text y x p.0 h.named))
          (h.youngest y (at_member all s y l) p.0)

pub holder_law : HolderLaw
holder_law all s parent text x h lost =
    ap (λ b. cond b (Some lost_and_found) (option_map (λ (n : Node). n.object.guid) (find (λ n. is_named all parent text n && not (gives_way all n)) all))) lost
    ∙ ap (option_map (λ (n : Node). n.object.guid)) (holder all s parent text x h)

none_found : (test : Node → Bool) (ns : List Node) → ((m : Node) → Member m ns → test m ≡ false) → find test ns ≡ None
none_found test [] none = refl
none_found test (n ∷ ns) none = ap (λ b. cond b (Some n) (find test ns)) (none n (inl refl)) ∙ none_found test ns (λ m l. none m (inr l))

pub no_holder_law : NoHolderLaw
no_holder_law all s parent text none lost =
    ap (λ b. cond b (Some lost_and_found) (option_map (λ (n : Node). n.object.guid) (find (λ n. is_named all parent text n && not (gives_way all n)) all))) lost
    ∙ ap (option_map (λ (n : Node). n.object.guid)) (none_found (λ n. is_named all parent text n && not (gives_way all n)) all (λ m l. ap (λ b. b && not (gives_way all m)) (none m (at_member all s m l))))

pub gives_way_law : GivesWayLaw
gives_way_law all s n x here h = by (one_or_not x.object.guid n.object.guid)
  where
    by : (x.object.guid ≡ n.object.guid) ⊎ (same_identifier x.object.guid n.object.guid ≡ false) → gives_way all n ≡ not (same_identifier x.object.guid n.object.guid)
    by (inl e) =
        let it : x ≡ n = one h.there (ap (node_at all) e ∙ here) in
        ap (gives_way all) (sym it) ∙ stays_first all s (place all n) n.text x h ∙ sym (ap (λ g. not (same_identifier g n.object.guid)) e ∙ ap not (itself n.object.guid))
    by (inr other) = on (named_before n x) refl
      where
        on : (b : Bool) → named_before n x ≡ b → gives_way all n ≡ not (same_identifier x.object.guid n.object.guid)
        on true e = one_passes (λ m. is_named all (place all n) n.text m && named_before n m) all x (member_at all x.object.guid x h.there) (and_from _ _ h.named e) ∙ sym (ap not other)
        on false e =
            let t : same_identifier x.object.guid n.object.guid ≡ true = alike_guids x n (h.youngest n here (named_itself all n)) e in cc

pub taken_law : TakenLaw
taken_law all s guid parent text x there other named = or_right (is_lost_name parent text) _
    (one_passes (λ m. not (same_identifier m.object.guid guid) && is_named all parent text m) all x (member_at all x.object.guid x there) (and_from _ _ (ap not other) named))

pub free_name_law : FreeNameLaw
free_name_law all s guid parent text lost none = or_from _ _ lost (none_passes (λ m. not (same_identifier m.object.guid guid) && is_named all parent text m) all (λ m l. by m l (same_identifier m.object.guid guid) refl))
  where
    by : (m : Node) → Member m all → (b : Bool) → same_identifier m.object.guid guid ≡ b → (not b && is_named all parent text m) ≡ false
    by m l true e = refl
    by m l false e = none m (at_member all s m l) e
