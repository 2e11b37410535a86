-- Where an added or a modified object is not refused is where the schema allows it.
use Rattle.std.proofs.Common.{◌≡◌, ◌≢◌, ℕ, zero, suc, List, [], ◌∷◌, map, length, Bool, true, false, cond, ◌||◌, not, ◌==◌, Option, None, Some, is_none, is_some, refl, sym, ap, ◌∙◌, eqb-true, eq-eqb, arith}
use Rattle.std.specs.Bool.{then_some}
use Rattle.std.specs.Option.{option_map, option_or}
use Rattle.std.specs.List.{find, slice_get}
use Rattle.std.proofs.lemmas.Bool.{false≢true}
use Rattle.adr_values.specs.declared.content.Value.{Value as Item}
use Rattle.adr_values.specs.declared.refusal.SchemaRefusal.{SchemaRefusal}
use Rattle.adr_values.specs.declared.refusal.SchemaRefusal.TheVariants.{UnknownAttribute, NotAllowed, MissingMust, BadValue, IsLink}
use Rattle.adr_values.specs.declared.table.Kind.{Kind}
use Rattle.adr_values.specs.declared.table.Kind.TheVariants.{Reserved, Plain, Forward, Back}
use Rattle.adr_values.specs.Allowed.{IsAllowed, MayBeAdded, MayBeModified}
use Rattle.adr_values.specs.Assignments.{Given, given}
use Rattle.adr_values.specs.Rules.{add_refusal, added_refusal, attribute_refusal, bad_place_of, class_refusal, first_refusal, is_emptied, modify_refusal, values_refusal}
use Rattle.adr_values.specs.Table.{Table, class_at, has, is_link, is_of, is_reserved, kind_at, must_of}
use Rattle.adr_values.proofs.Exact.{allowed_from_none, none_from_allowed}
use Rattle.adr_values.proofs.Firsts.{false_from_refuted, true_from_not, none_from_each}

-- neither of two is there
pub neither : {X : Type 0} (a b : Option X) → option_or a b ≡ None → (a ≡ None) × (b ≡ None)
neither None b h = (refl, h)
neither (Some x) b h = cc

pub not_then : {X : Type 0} (b : Bool) (x : X) → then_some b x ≡ None → b ≡ false
not_then true x h = cc
not_then false x h = refl

not_mapped : {X Y : Type 0} (f : X → Y) (o : Option X) → option_map f o ≡ None → o ≡ None
not_mapped f None h = refl
not_mapped f (Some x) h = cc

-- the first refusal of a list, of which there is none
module _ {X : Type 0} (refusal : X → Option SchemaRefusal) where
  none_refused : (xs : List X) → first_refusal (map refusal xs) ≡ None → (k : ℕ) (x : X) → slice_get xs k ≡ Some x → refusal x ≡ None
  none_refused [] none k x at = cc
  none_refused (y ∷ ys) none zero x at =
      let same : y ≡ x = cc in
      rw (← same) (neither (refusal y) (first_refusal (map refusal ys)) none).0
  none_refused (y ∷ ys) none (suc k) x at = none_refused ys (neither (refusal y) (first_refusal (map refusal ys)) none).1 k x at

  refused_none : (xs : List X) → ((k : ℕ) (x : X) → slice_get xs k ≡ Some x → refusal x ≡ None) → first_refusal (map refusal xs) ≡ None
  refused_none [] each = refl
  refused_none (y ∷ ys) each = rw (each 0 y refl) (refused_none ys (λ k x at. each (suc k) x at))

-- a test that no number of a list passes
module _ (p : ℕ → Bool) where
  none_has : (ns : List ℕ) → find p ns ≡ None → (n : ℕ) → has ns n ≡ true → p n ≡ false
  none_has [] none n there = cc
  none_has (m ∷ ms) none n there = step (p m) refl (m == n) refl none there (none_has ms)
    where
      step : (b : Bool) → p m ≡ b → (same : Bool) → (m == n) ≡ same → cond b (Some m) (find p ms) ≡ None → (same || has ms n) ≡ true
          → (find p ms ≡ None → (k : ℕ) → has ms k ≡ true → p k ≡ false) → p n ≡ false
      step true e same f none there rest = cc
      step false e true f none there rest = rw (← (eqb-true m n f)) e
      step false e false f none there rest = rest none n there

  has_none : (ns : List ℕ) → ((n : ℕ) → has ns n ≡ true → p n ≡ false) → find p ns ≡ None
  has_none ns each = none_from_each p ns (λ k n at. each n (there ns k n at))
    where
      there : (ms : List ℕ) (k n : ℕ) → slice_get ms k ≡ Some n → has ms n ≡ true
      there [] k n at = cc
      there (m ∷ ms) zero n at = let same : m ≡ n = cc in rw (eq-eqb m n same) refl
      there (m ∷ ms) (suc k) n at = or_true (m == n) (has ms n) (there ms k n at)
        where
          or_true : (a b : Bool) → b ≡ true → (a || b) ≡ true
          or_true true b e = refl
          or_true false b e = e

module _ (t : Table) (class : ℕ) where
  -- one attribute
  pub allowed_attribute : (attr : ℕ) (values : List Item) → values_refusal t (Some class) attr values ≡ None → IsAllowed t class attr values
  allowed_attribute attr values none =
      let parts = neither (attribute_refusal t (Some class) attr) (option_or (option_map (BadValue attr) (bad_place_of (kind_at t attr) values)) None) none in
      let bad = (neither (option_map (BadValue attr) (bad_place_of (kind_at t attr) values)) None parts.1).0 in
      let unknown = neither (then_some (is_none (kind_at t attr)) (UnknownAttribute attr)) (option_or (then_some (is_link (kind_at t attr)) (IsLink attr)) (option_or (then_some (is_reserved (kind_at t attr) || not (is_of t (Some class) attr)) (NotAllowed attr)) None)) parts.0 in
      let link = neither (then_some (is_link (kind_at t attr)) (IsLink attr)) (option_or (then_some (is_reserved (kind_at t attr) || not (is_of t (Some class) attr)) (NotAllowed attr)) None) unknown.1 in
      let other = neither (then_some (is_reserved (kind_at t attr) || not (is_of t (Some class) attr)) (NotAllowed attr)) None link.1 in
      by_kind (kind_at t attr) refl (not_then (is_none (kind_at t attr)) (UnknownAttribute attr) unknown.0) (not_then (is_link (kind_at t attr)) (IsLink attr) link.0) (not_then (is_reserved (kind_at t attr) || not (is_of t (Some class) attr)) (NotAllowed attr) other.0) (not_mapped (BadValue attr) (bad_place_of (kind_at t attr) values) bad)
    where
      by_kind : (kind : Option Kind) → kind_at t attr ≡ kind → is_none kind ≡ false → is_link kind ≡ false → (is_reserved kind || not (is_of t (Some class) attr)) ≡ false → bad_place_of kind values ≡ None → IsAllowed t class attr values
      by_kind None e known plain of bad = cc
      by_kind (Some Reserved) e known plain of bad = cc
      by_kind (Some (Forward back)) e known plain of bad = cc
      by_kind (Some (Back forward)) e known plain of bad = cc
      by_kind (Some (Plain syntax most)) e known plain of bad = record {
        syntax = syntax;
        most = most;
        plain = e;
        of_class = true_from_not (is_of t (Some class) attr) of;
        right = allowed_from_none syntax most values bad;
      }

  pub attribute_allowed : (attr : ℕ) (values : List Item) → IsAllowed t class attr values → values_refusal t (Some class) attr values ≡ None
  attribute_allowed attr values allowed = by_kind (kind_at t attr) allowed.plain (is_of t (Some class) attr) allowed.of_class
    where
      by_kind : (kind : Option Kind) → kind ≡ Some (Plain allowed.syntax allowed.most) → (of : Bool) → of ≡ true
          → first_refusal
          (first_refusal
          (then_some (is_none kind) (UnknownAttribute attr)
          ∷ then_some (is_link kind) (IsLink attr)
          ∷ then_some (is_reserved kind || not of) (NotAllowed attr)
          ∷ [])
          ∷ option_map (BadValue attr) (bad_place_of kind values)
          ∷ [])
          ≡ None
      by_kind kind e of f = rw (e, f, none_from_allowed allowed.syntax allowed.most values allowed.right) refl

  pub filled : (values : List Item) → (length values == 0) ≡ false → values ≢ []
  filled values e none = false≢true (sym e ∙ ap (λ vs. length vs == 0) none)

  pub not_empty : (values : List Item) → values ≢ [] → (length values == 0) ≡ false
  not_empty [] some = absurd (some refl)
  not_empty (v ∷ vs) some = false_from_refuted (length (v ∷ vs) == 0) (λ e. let none : suc (length vs) ≡ 0 = eqb-true (suc (length vs)) 0 e in absurd (omega arith))

  added : (g : Given) → added_refusal t class g ≡ None → IsAllowed t class g.0 g.1 × (g.1 ≢ [])
  added g none =
      let parts = neither (values_refusal t (Some class) g.0 g.1) (option_or (then_some (length g.1 == 0) (BadValue g.0 0)) None) none in
      let empty = (neither (then_some (length g.1 == 0) (BadValue g.0 0)) None parts.1).0 in
      (allowed_attribute g.0 g.1 parts.0, filled g.1 (not_then (length g.1 == 0) (BadValue g.0 0) empty))

  not_added : (g : Given) → IsAllowed t class g.0 g.1 → g.1 ≢ [] → added_refusal t class g ≡ None
  not_added g allowed some = rw (attribute_allowed g.0 g.1 allowed, not_empty g.1 some) refl

  pub may_be_added : (gs : List Given) → add_refusal t class gs ≡ None → MayBeAdded t class gs
  unfolding add_refusal
  may_be_added gs none =
      let missing = λ (attr : ℕ). is_none (given attr gs) in
      let first = neither (class_refusal t class) (option_or (first_refusal (map (added_refusal t class) gs)) (option_or (option_map MissingMust (find missing (must_of t class))) None)) none in
      let second = neither (first_refusal (map (added_refusal t class) gs)) (option_or (option_map MissingMust (find missing (must_of t class))) None) first.1 in
      let third = (neither (option_map MissingMust (find missing (must_of t class))) None second.1).0 in
      record {
        known = true_from_not _ (not_then _ _ first.0);
        allowed = λ place g at. (added g (none_refused (added_refusal t class) gs second.0 place g at)).0;
        filled = λ place g at. (added g (none_refused (added_refusal t class) gs second.0 place g at)).1;
        whole = λ attr must. true_from_not _ (none_has missing (must_of t class) (not_mapped MissingMust (find missing (must_of t class)) third) attr must);
      }

  pub not_refused_added : (gs : List Given) → MayBeAdded t class gs → add_refusal t class gs ≡ None
  unfolding add_refusal
  not_refused_added gs may =
      let missing = λ (attr : ℕ). is_none (given attr gs) in
      let each = refused_none (added_refusal t class) gs (λ place g at. not_added g (may.allowed place g at) (may.filled place g at)) in
      let whole = has_none missing (must_of t class) (λ attr must. ap not (may.whole attr must)) in
      let known : is_some (class_at t class) ≡ true = may.known in
      rw (known, each, whole) refl

  emptied : (o : Option (List Item)) → o ≢ Some [] → is_emptied o ≡ false
  emptied None some = refl
  emptied (Some []) some = absurd (some refl)
  emptied (Some (v ∷ vs)) some = refl

  pub may_be_modified : (gs : List Given) → modify_refusal t class gs ≡ None → MayBeModified t class gs
  unfolding modify_refusal
  may_be_modified gs none =
      let refusal = λ (g : Given). values_refusal t (Some class) g.0 g.1 in
      let lost = λ (attr : ℕ). is_emptied (given attr gs) in
      let first = neither (first_refusal (map refusal gs)) (option_or (option_map MissingMust (find lost (must_of t class))) None) none in
      let second = (neither (option_map MissingMust (find lost (must_of t class))) None first.1).0 in
      record {
        allowed = λ place g at. allowed_attribute g.0 g.1 (none_refused refusal gs first.0 place g at);
        whole = λ attr must gone. false≢true (sym (none_has lost (must_of t class) (not_mapped MissingMust (find lost (must_of t class)) second) attr must) ∙ ap is_emptied gone);
      }

  pub not_refused_modified : (gs : List Given) → MayBeModified t class gs → modify_refusal t class gs ≡ None
  unfolding modify_refusal
  not_refused_modified gs may =
      let refusal = λ (g : Given). values_refusal t (Some class) g.0 g.1 in
      let lost = λ (attr : ℕ). is_emptied (given attr gs) in
      let each = refused_none refusal gs (λ place g at. attribute_allowed g.0 g.1 (may.allowed place g at)) in
      let whole = has_none lost (must_of t class) (λ attr must. emptied (given attr gs) (may.whole attr must)) in
      rw (each, whole) refl
