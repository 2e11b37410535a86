-- Loops as the definitions have them: what is met going up, as a list and as a relation.
use Rattle.std.proofs.Common.{◌≡◌, inl, inr, ⊎_elim, ℕ, zero, suc, ◌<◌, Bool, true, false, cond, not, ◌&&◌, ◌||◌, List, [], ◌∷◌, Option, Some, None, refl, sym, ap, ap₂, ◌∙◌, subst, length, is_some, arith}
use Rattle.std.specs.List.{list_any, list_all}
use Rattle.std.specs.Option.{option_map_or}
use Rattle.std.specs.Ordering.{is_eq}
use Rattle.std.proofs.lemmas.Bool.{and_from, and_parts, or_cases, or_left, or_right, not-true}
use Rattle.std.proofs.lemmas.Cmp.{tied_itself}
use Rattle.adr_values.specs.declared.stamp.Oid.{Oid}
use Rattle.adr_values.specs.contracts.stamp.OidOrd.TheImpl.Laws.{total-law as objects_total}
use Rattle.adr_model.specs.Member.{Member}
use Rattle.adr_model.specs.Update.{Identifier, same_object}
use Rattle.adr_model.specs.Place.{Node, node_at, first_place, upward, above, is_fixed, named_before, breaks_loop, lost_and_found}
use Rattle.adr_model.proofs.Keys.{objects_tell}
use Rattle.adr_model.proofs.Members.{all_pass, each_passes, one_passes, some_passes}
use Rattle.adr_law_tree.specs.Walk.{Look, climb, Up, Met, Breaks, free}
use Rattle.adr_law_tree.specs.Breaker.{youngest_of, youngest, in_loop, loop_breaker, is_it, AreMore, LoopLaw, RemoveLaw, AbsentLaw}
use Rattle.adr_law_tree.proofs.Walks.{one, is_found, IsMore, up_still, ClosedBy, IsIt, ToldApart, with_more, from_more, closer_is_new}
use Rattle.adr_law_tree.proofs.Fuel.{same_guid, one_or_not}
use Rattle.adr_law_tree.proofs.Unfixed.{free_of, fixed_of, found_free, keeps_free, within_free, fixed_apart, moved}
use Rattle.adr_law_tree.proofs.Youngest.{alike_guids, is_youngest}

pub object_itself : (o : Oid) → same_object o o ≡ true
object_itself o = ap is_eq (tied_itself objects_total o)

pub mapped_alike : (f g : Node → List Node) → ((p : Node) → f p ≡ g p) → (o : Option Node) → option_map_or f o [] ≡ option_map_or g o []
mapped_alike f g same None = refl
mapped_alike f g same (Some p) = same p

no_one : (o : Option Node) → is_some o ≡ false → o ≡ None
no_one None e = refl
no_one (Some p) e = cc

either_false : (b c : Bool) → (b || c) ≡ false → c ≡ false
either_false true c e = cc
either_false false c e = e

abbrev from : (Node → List Node) → Option Node → List Node
from f o = option_map_or (λ p. p ∷ f p) o []

first_false : (b c : Bool) → (b || c) ≡ false → b ≡ false
first_false true c e = cc
first_false false c e = refl

-- the way up is by the parents as written, and ends at a fixed GUID
pub upward_is : (all : List Node) (k : ℕ) (n : Node) → upward all k (first_place all n) ≡ climb (free all) k n.parent
upward_is all zero n = refl
upward_is all (suc k) n = by (is_fixed n.parent || is_some (node_at all n.parent)) refl (is_fixed n.parent) refl (λ p. upward_is all k p)
  where
    by : (b : Bool) → (is_fixed n.parent || is_some (node_at all n.parent)) ≡ b → (c : Bool) → is_fixed n.parent ≡ c → ((p : Node) → upward all k (first_place all p) ≡ climb (free all) k p.parent)
        → upward all (suc k) (cond b n.parent lost_and_found) ≡ climb (free all) (suc k) n.parent
    by true bs true cs rest =
        ap (λ x. cond x [] (from (λ p. upward all k (first_place all p)) (node_at all n.parent))) cs
        ∙ sym (ap (from (λ p. climb (free all) k p.parent)) (fixed_of all n.parent cs))
    by true bs false cs rest =
        ap (λ x. cond x [] (from (λ p. upward all k (first_place all p)) (node_at all n.parent))) cs
        ∙ mapped_alike (λ p. p ∷ upward all k (first_place all p)) (λ p. p ∷ climb (free all) k p.parent) (λ p. ap (λ ns. p ∷ ns) (rest p)) (node_at all n.parent)
        ∙ sym (ap (from (λ p. climb (free all) k p.parent)) (free_of all n.parent cs))
    by false bs c cs rest =
        sym (ap (from (λ p. climb (free all) k p.parent))
        (free_of all n.parent (first_false (is_fixed n.parent) (is_some (node_at all n.parent)) bs) ∙ no_one (node_at all n.parent) (either_false (is_fixed n.parent) (is_some (node_at all n.parent)) bs)))

pub above_is : (all : List Node) (n : Node) → above all n ≡ climb (free all) (length all) n.parent
above_is all n = upward_is all (length all) n

-- the members of the list are what is met
pub in_climb : (at : Look) (k : ℕ) (g : Identifier) (m : Node) (j : ℕ) → j < k → Up at j g m → Member m (climb at k g)
in_climb at zero g m j less up = absurd (omega (arith, less))
in_climb at (suc k) g m zero less up = subst (λ o. Member m (option_map_or (λ p. p ∷ climb at k p.parent) o [])) (sym up) (inl refl)
in_climb at (suc k) g m (suc j) less (p, e, up) = subst (λ o. Member m (option_map_or (λ p. p ∷ climb at k p.parent) o [])) (sym e) (inr (in_climb at k p.parent m j (omega (arith, less)) up))

pub of_climb : (at : Look) (k : ℕ) (g : Identifier) (m : Node) → Member m (climb at k g) → Met at g m
of_climb at zero g m here = absurd here
of_climb at (suc k) g m here = by (at g) refl (λ p. of_climb at k p.parent m) here
  where
    by : (o : Option Node) → at g ≡ o → ((p : Node) → Member m (climb at k p.parent) → Met at p.parent m) → Member m (option_map_or (λ p. p ∷ climb at k p.parent) o []) → Met at g m
    by None e rest l = absurd l
    by (Some p) e rest (inl is) = (zero, e ∙ ap Some (sym is))
    by (Some p) e rest (inr l) = let t = rest p l in (suc t.0, (p, e, t.1))

module _ (all : List Node) where
  pub in_above : (n m : Node) → Met (free all) n.parent m → Member m (above all n)
  in_above n m up =
      let t = within_free (length all) all (omega arith) n.parent m up in
      subst (Member m) (sym (above_is all n)) (in_climb (free all) (length all) n.parent m t.0 t.1 t.2)

  pub of_above : (n m : Node) → Member m (above all n) → Met (free all) n.parent m
  of_above n m here = of_climb (free all) (length all) n.parent m (subst (Member m) (above_is all n) here)

abbrev pub Own : List Node → Node → Type 0
Own all n = (m : Node) → free all n.object.guid ≡ Some m → m ≡ n

pub own_of : (all : List Node) (n : Node) → node_at all n.object.guid ≡ Some n → Own all n
own_of all n here m e = one (found_free all n.object.guid m e) here

module _ (all : List Node) where
  pub round : (n : Node) → Own all n → in_loop all n ≡ true → Met (free all) n.parent n
  round n own e =
      let t = some_passes (λ m. same_object m.object n.object) (above all n) e in
      let up = of_above all n t.0 t.1 in
      let is : t.0 ≡ n = own t.0 (ap (λ (o : Oid). free all o.guid) (sym (objects_tell t.0.object n.object t.2)) ∙ is_found (free all) (keeps_free all) up.0 n.parent t.0 up.1) in
      subst (λ (m : Node). Met (free all) n.parent m) is up

  pub in_round : (n : Node) → Met (free all) n.parent n → in_loop all n ≡ true
  in_round n up = one_passes (λ (m : Node). same_object m.object n.object) (above all n) n (in_above all n n up) (object_itself n.object)

  pub breaks : (n : Node) → Own all n → breaks_loop all n ≡ true → Breaks (free all) n
  breaks n own e =
      let t = and_parts (in_loop all n) (list_all (λ m. not (named_before n m)) (above all n)) e in
      (round n own t.0, (λ m up. not-true (named_before n m) (each_passes (λ m. not (named_before n m)) (above all n) t.1 m (in_above all n m up))))

  pub is_breaking : (n : Node) → Breaks (free all) n → breaks_loop all n ≡ true
  is_breaking n b =
      and_from (in_loop all n) (list_all (λ m. not (named_before n m)) (above all n)) (in_round n b.0)
      (all_pass (λ m. not (named_before n m)) (above all n) (λ m l. ap not (b.1 m (of_above all n m l))))

  pub told_apart : ToldApart (free all)
  told_apart m n e f g h = one e (ap (free all) (same_guid m.object.guid n.object.guid (alike_guids m n g h)) ∙ f)

  -- the walk of one object finds who breaks its loop
  pub closed_by : (x : Node) → Own all x → ClosedBy (free all) x (loop_breaker all x)
  closed_by x own = by (in_loop all x) refl (above all x) refl
    where
      by : (b : Bool) → in_loop all x ≡ b → (ns : List Node) → above all x ≡ ns → ClosedBy (free all) x (cond b (youngest ns) None)
      by false e ns is = λ up. let t : in_loop all x ≡ true = in_round x up in cc
      by true e [] is = let t : in_loop all x ≡ false = ap (list_any (λ (m : Node). same_object m.object x.object)) is in cc
      by true e (n ∷ ns) is =
          let y = is_youngest n ns in
          let up : (m : Node) → Member m (n ∷ ns) → Met (free all) x.parent m = λ m l. of_above all x m (subst (Member m) (sym is) l) in (
            round x own e,
            ⊎_elim (λ f. up (youngest_of n ns) (inl f)) (λ l. up (youngest_of n ns) (inr l)) y.is_one,
            (λ m above_m. ⊎_elim (λ f. subst (λ (c : Node). named_before (youngest_of n ns) c ≡ false) (sym f) y.first) (λ l. y.rest m l) (subst (Member m) is (in_above all x m above_m))),
          )

pub same_bools : (b c : Bool) → (b ≡ true → c ≡ true) → (c ≡ true → b ≡ true) → b ≡ c
same_bools true c to back = sym (to refl)
same_bools false true to back = back refl
same_bools false false to back = refl

-- look-ups alone decide who breaks a loop
all_in_both : (test : Node → Bool) (xs ys : List Node) → ((m : Node) → Member m xs → Member m ys) → ((m : Node) → Member m ys → Member m xs) → list_all test xs ≡ list_all test ys
all_in_both test xs ys to back = same_bools (list_all test xs) (list_all test ys) (λ e. all_pass test ys (λ m l. each_passes test xs e m (back m l))) (λ e. all_pass test xs (λ m l. each_passes test ys e m (to m l)))

any_in_both : (test : Node → Bool) (xs ys : List Node) → ((m : Node) → Member m xs → Member m ys) → ((m : Node) → Member m ys → Member m xs) → list_any test xs ≡ list_any test ys
any_in_both test xs ys to back =
    same_bools (list_any test xs) (list_any test ys)
    (λ e. let t = some_passes test xs e in one_passes test ys t.0 (to t.0 t.1) t.2)
    (λ e. let t = some_passes test ys e in one_passes test xs t.0 (back t.0 t.1) t.2)

pub same_look_ups : (all others : List Node) → ((g : Identifier) → free all g ≡ free others g) → (n : Node) → breaks_loop all n ≡ breaks_loop others n
same_look_ups all others same n =
    ap₂ (λ a b. a && b) (any_in_both (λ (m : Node). same_object m.object n.object) (above all n) (above others n) to back) (all_in_both (λ m. not (named_before n m)) (above all n) (above others n) to back)
  where
    to : (m : Node) → Member m (above all n) → Member m (above others n)
    to m l = let up = of_above all n m l in in_above others n m (up.0, moved (free all) (free others) same up.0 n.parent m up.1)

    back : (m : Node) → Member m (above others n) → Member m (above all n)
    back m l = let up = of_above others n m l in in_above all n m (up.0, moved (free others) (free all) (λ g. sym (same g)) up.0 n.parent m up.1)

pub as_more : (all : List Node) (x : Node) (more : List Node) → AreMore all x more → is_fixed x.object.guid ≡ false → IsMore (free all) (free more) x
as_more all x more is x_free = record {
  keeps = keeps_free all;
  keeps_more = keeps_free more;
  new = free_of all x.object.guid x_free ∙ is.new;
  here = free_of more x.object.guid x_free ∙ is.here;
  else = λ g. ⊎_elim (λ e. inl e) (λ e. inr (ap (λ o. cond (is_fixed g) None o) (is.other g e))) (one_or_not g x.object.guid);
}

-- an object of a fixed GUID is in no loop
pub never_round : (all : List Node) (x : Node) → is_fixed x.object.guid ≡ true → Met (free all) x.parent x → ⊥
never_round all x fixed up =
    let some : free all x.object.guid ≡ Some x = is_found (free all) (keeps_free all) up.0 x.parent x up.1 in
    let none : free all x.object.guid ≡ None = fixed_of all x.object.guid fixed in cc

none_fixed : (all : List Node) (x : Node) → is_fixed x.object.guid ≡ true → (o : Option Node) → ClosedBy (free all) x o → (n : Node) → is_it o n ≡ false
none_fixed all x fixed None closed n = refl
none_fixed all x fixed (Some b) closed n = absurd (never_round all x fixed closed.0)

module _ (all : List Node) (x : Node) (more : List Node) (is : AreMore all x more) where
  pub closed : ClosedBy (free more) x (loop_breaker more x)
  closed = closed_by more x (own_of more x is.here)

  pub own_before : (n : Node) → node_at more n.object.guid ≡ Some n → is_fixed x.object.guid ≡ false → Own all n
  own_before n here x_free z e = one (found_free more n.object.guid z (up_still (free all) (free more) x (as_more all x more is x_free) zero n.object.guid z e)) here

  pub breaker_there : (b : Node) → ClosedBy (free more) x (Some b) → node_at more b.object.guid ≡ Some b
  breaker_there b c = found_free more b.object.guid b (is_found (free more) (keeps_free more) c.1.0 x.parent b c.1.1)

  with_free : is_fixed x.object.guid ≡ false → (n : Node) → node_at more n.object.guid ≡ Some n → breaks_loop more n ≡ (is_it (loop_breaker more x) n || breaks_loop all n)
  with_free x_free n here = same_bools (breaks_loop more n) (is_it (loop_breaker more x) n || breaks_loop all n) to from
    where
      m : IsMore (free all) (free more) x
      m = as_more all x more is x_free

      to : breaks_loop more n ≡ true → (is_it (loop_breaker more x) n || breaks_loop all n) ≡ true
      to e = ⊎_elim (λ it. or_left _ _ (it_is (loop_breaker more x) it)) (λ old. or_right (is_it (loop_breaker more x) n) _ (is_breaking all n old))
          (with_more (free all) (free more) x m (told_apart more) (loop_breaker more x) closed n (breaks more n (own_of more n here) e))
        where
          it_is : (o : Option Node) → IsIt o n → is_it o n ≡ true
          it_is None it = absurd it
          it_is (Some b) it = ap (λ (c : Node). same_object b.object c.object) it ∙ object_itself b.object

      from : (is_it (loop_breaker more x) n || breaks_loop all n) ≡ true → breaks_loop more n ≡ true
      from e = is_breaking more n (from_more (free all) (free more) x m (loop_breaker more x) closed n
          (⊎_elim (λ it. inl (it_is (loop_breaker more x) closed it)) (λ old. inr (breaks all n (own_before n here x_free) old)) (or_cases _ _ e)))
        where
          it_is : (o : Option Node) → ClosedBy (free more) x o → is_it o n ≡ true → IsIt o n
          it_is None c it = cc
          it_is (Some b) c it = one here (ap (λ (o : Oid). node_at more o.guid) (sym (objects_tell b.object n.object it)) ∙ breaker_there b c)

  with_any : (n : Node) → node_at more n.object.guid ≡ Some n → breaks_loop more n ≡ (is_it (loop_breaker more x) n || breaks_loop all n)
  with_any n here = by (is_fixed x.object.guid) refl
    where
      by : (b : Bool) → is_fixed x.object.guid ≡ b → breaks_loop more n ≡ (is_it (loop_breaker more x) n || breaks_loop all n)
      by false e = with_free e n here
      by true e =
          same_look_ups more all (fixed_apart all more x.object.guid e is.other) n
          ∙ sym (ap (λ b. b || breaks_loop all n) (none_fixed more x e (loop_breaker more x) closed n))

  clash : (n : Node) → node_at more n.object.guid ≡ Some n → (o : Option Node) → ClosedBy (free more) x o → is_it o n ≡ true → breaks_loop all n ≡ true → ⊥
  clash n here None c it e = cc
  clash n here (Some b) c it e = by (is_fixed x.object.guid) refl
    where
      same : b ≡ n
      same = one (breaker_there b c) (ap (λ (o : Oid). node_at more o.guid) (objects_tell b.object n.object it) ∙ here)

      by : (t : Bool) → is_fixed x.object.guid ≡ t → ⊥
      by true fixed = never_round more x fixed c.0
      by false x_free =
          closer_is_new (free all) (free more) x (as_more all x more is x_free) b c (subst (λ (z : Node). Breaks (free all) z) (sym same) (breaks all n (own_before n here x_free) e))

pub loop_law : LoopLaw
loop_law all x more is n here = with_any all x more is n here

pub absent_law : AbsentLaw
absent_law all x none = by (breaks_loop all x) refl
  where
    by : (b : Bool) → breaks_loop all x ≡ b → b ≡ false
    by false e = refl
    by true e =
        let t = breaks all x (λ m f. let g : node_at all x.object.guid ≡ Some m = found_free all x.object.guid m f in cc) e in
        let some : node_at all x.object.guid ≡ Some x = found_free all x.object.guid x (is_found (free all) (keeps_free all) t.0.0 x.parent x t.0.1) in cc

pub remove_law : RemoveLaw
remove_law all x more is n here = by (is_it (loop_breaker more x) n) refl ∙ sym (ap (λ b. b && not (is_it (loop_breaker more x) n)) (loop_law all x more is n here))
  where
    by : (b : Bool) → is_it (loop_breaker more x) n ≡ b → breaks_loop all n ≡ ((is_it (loop_breaker more x) n || breaks_loop all n) && not (is_it (loop_breaker more x) n))
    by true it = false_then (breaks_loop all n) (clash all x more is n here (loop_breaker more x) (closed all x more is) it) ∙ sym (ap (λ b. (b || breaks_loop all n) && not b) it)
      where
        false_then : (b : Bool) → (b ≡ true → ⊥) → b ≡ false
        false_then false none = refl
        false_then true none = absurd (none refl)
    by false it = and_not (breaks_loop all n) ∙ sym (ap (λ b. (b || breaks_loop all n) && not b) it)
      where
        and_not : (b : Bool) → b ≡ (b && true)
        and_not true = refl
        and_not false = refl
