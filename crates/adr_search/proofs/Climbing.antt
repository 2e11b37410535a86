-- Going up: more steps meet the base where fewer do, and steps beyond the number of entries meet nothing further.
use Rattle.std.proofs.Common.{◌≡◌, ◌⊎◌, inl, inr, ℕ, zero, suc, ◌+◌, ◌-◌, ◌≤◌, List, [], ◌∷◌, length, Bool, true, false, cond, ◌||◌, Option, Some, None, refl, sym, ap, ◌∙◌, subst, arith}
use Rattle.std.specs.Option.{option_map, option_map_or}
use Rattle.std.specs.Str.{bytes_eq}
use Rattle.std.proofs.lemmas.Bool.{cases_eq, or_left, or_right}
use Rattle.std.proofs.lemmas.Slice.Eq.{bytes_eq-Decides}
use Rattle.adr_call.specs.declared.directory.Entry.{Entry}
use Rattle.adr_filter.specs.declared.filter.Scope.{Scope}
use Rattle.adr_filter.specs.declared.filter.Scope.TheVariants.{Base, One, Sub}
use Rattle.adr_search.specs.Scopes.{climbs, entry_at, is_in_scope, lost_and_found, root, up_from}
use Rattle.adr_search.specs.Below.{IsAbove, IsBelow, IsInScope}
use Rattle.adr_search.proofs.Counting.{as_many, at_most_all, count, same_tests}

pub same_bytes : (a b : List ℕ) → bytes_eq a b ≡ true → a ≡ b
same_bytes a b h = (bytes_eq-Decides a b).0 h

pub bytes_same : (a b : List ℕ) → a ≡ b → bytes_eq a b ≡ true
bytes_same a b e = (bytes_eq-Decides a b).1 e

or_nothing : (b : Bool) → (b || false) ≡ b
or_nothing true = refl
or_nothing false = refl

-- the entry that is found has the GUID
pub found_guid : (es : List Entry) (guid : List ℕ) (e : Entry) → entry_at es guid ≡ Some e → e.guid ≡ guid
found_guid [] guid e h = cc
found_guid (x ∷ es) guid e h = by (found_guid es guid e) (bytes_eq x.guid guid) refl h
  where
    by : (entry_at es guid ≡ Some e → e.guid ≡ guid) → (b : Bool) → bytes_eq x.guid guid ≡ b → cond b (Some x) (entry_at es guid) ≡ Some e → e.guid ≡ guid
    by later true is k = let same : x ≡ e = cc in subst (λ (y : Entry). y.guid ≡ guid) same (same_bytes x.guid guid is)
    by later false is k = later k

module _ (es : List Entry) (base : List ℕ) where
  abbrev meets : ℕ → List ℕ → Bool
  meets n guid = climbs es base n guid

  pub one_more : (n : ℕ) (guid : List ℕ) → climbs es base n guid ≡ true → climbs es base (suc n) guid ≡ true
  one_more zero guid h = or_left (bytes_eq guid base) _ h
  one_more (suc n) guid h = by (one_more n) (bytes_eq guid base) (up_from es guid) h
    where
      by : ((g : List ℕ) → climbs es base n g ≡ true → climbs es base (suc n) g ≡ true) → (b : Bool) (o : Option (List ℕ)) → (b || option_map_or (climbs es base n) o false) ≡ true
          → (b || option_map_or (climbs es base (suc n)) o false) ≡ true
      by further true o k = refl
      by further false None k = k
      by further false (Some g) k = further g k

  -- the root leads nowhere
  pub from_root : (n : ℕ) → climbs es base n root ≡ bytes_eq root base
  from_root zero = refl
  from_root (suc n) = or_nothing (bytes_eq root base)

  -- one more step meets nothing further, from wherever
  abbrev IsStill : ℕ → Type 0
  IsStill n = (guid : List ℕ) → climbs es base (suc n) guid ≡ climbs es base n guid

  stays_still : (n : ℕ) → IsStill n → IsStill (suc n)
  stays_still n still guid = by (bytes_eq guid base) (up_from es guid)
    where
      by : (b : Bool) (o : Option (List ℕ)) → (b || option_map_or (climbs es base (suc n)) o false) ≡ (b || option_map_or (climbs es base n) o false)
      by true o = refl
      by false None = refl
      by false (Some g) = still g

  all_still : (n m : ℕ) → IsStill n → (guid : List ℕ) → climbs es base (m + n) guid ≡ climbs es base n guid
  all_still n zero still guid = ap (λ (k : ℕ). climbs es base k guid) (omega arith)
  all_still n (suc m) still guid = ap (λ (k : ℕ). climbs es base k guid) more ∙ all_still (suc n) m (stays_still n still) guid ∙ still guid
    where
      more : suc m + n ≡ m + suc n
      more = omega arith

  -- without an entry, the first step or the second ends
  tops : (n : ℕ) (guid : List ℕ) → entry_at es guid ≡ None → climbs es base (suc (suc n)) guid ≡ climbs es base (suc n) guid
  tops n guid none = by (bytes_eq guid root) (bytes_eq guid lost_and_found) (entry_at es guid) none
    where
      by : (r l : Bool) (o : Option Entry) → o ≡ None
          → (bytes_eq guid base || option_map_or (climbs es base (suc n)) (cond r None (cond l (Some root) (option_map (λ (e : Entry). e.parent) o))) false)
          ≡ (bytes_eq guid base || option_map_or (climbs es base n) (cond r None (cond l (Some root) (option_map (λ (e : Entry). e.parent) o))) false)
      by true l o k = refl
      by false true o k = ap (λ (b : Bool). bytes_eq guid base || b) (from_root (suc n) ∙ sym (from_root n))
      by false false None k = refl
      by false false (Some e) k = cc

  abbrev reached : ℕ → ℕ
  reached n = count (λ (e : Entry). climbs es base n e.guid) es

  no_fewer : (n : ℕ) → reached n ≤ reached (suc n)
  no_fewer n = as_many (λ (e : Entry). climbs es base n e.guid) (λ (e : Entry). climbs es base (suc n) e.guid) (λ e h. one_more n e.guid h) es

  still_from_count : (n : ℕ) → reached (suc n) ≡ reached (suc (suc n)) → IsStill (suc n)
  still_from_count n same guid = by (entry_at es guid) refl
    where
      by : (o : Option Entry) → entry_at es guid ≡ o → climbs es base (suc (suc n)) guid ≡ climbs es base (suc n) guid
      by None is = tops n guid is
      by (Some e) is =
          let alike = same_tests (λ (x : Entry). climbs es base (suc n) x.guid) (λ (x : Entry). climbs es base (suc (suc n)) x.guid) (λ x h. one_more (suc n) x.guid h) es same (λ (x : Entry). bytes_eq x.guid guid) e is in
          subst (λ (g : List ℕ). climbs es base (suc (suc n)) g ≡ climbs es base (suc n) g) (found_guid es guid e is) (sym alike)

  still_or_more : (n : ℕ) → IsStill (suc n) ⊎ (n ≤ reached (suc n))
  still_or_more zero = inr (omega arith)
  still_or_more (suc n) = by (still_or_more n)
    where
      counted : n ≤ reached (suc n) → (reached (suc n) ≡ reached (suc (suc n))) ⊎ (reached (suc n) ≡ reached (suc (suc n)) → ⊥) → IsStill (suc (suc n)) ⊎ (suc n ≤ reached (suc (suc n)))
      counted h (inl same) = inl (stays_still (suc n) (still_from_count n same))
      counted h (inr other) = let more = no_fewer (suc n) in inr (omega arith)

      by : IsStill (suc n) ⊎ (n ≤ reached (suc n)) → IsStill (suc (suc n)) ⊎ (suc n ≤ reached (suc (suc n)))
      by (inl still) = inl (stays_still (suc n) still)
      by (inr h) = counted h (cases_eq (reached (suc n)) (reached (suc (suc n))))

  at_last : IsStill (suc (length es))
  at_last = by (still_or_more (length es))
    where
      by : IsStill (suc (length es)) ⊎ (length es ≤ reached (suc (length es))) → IsStill (suc (length es))
      by (inl still) = still
      by (inr h) =
          let all = at_most_all (λ (e : Entry). climbs es base (suc (suc (length es))) e.guid) es in
          let more = no_fewer (suc (length es)) in
          let same : reached (suc (length es)) ≡ reached (suc (suc (length es))) = omega arith in
          still_from_count (length es) same

  pub further_steps : (n : ℕ) (guid : List ℕ) → suc (length es) ≤ n → climbs es base n guid ≡ climbs es base (suc (length es)) guid
  further_steps n guid le = ap (λ (k : ℕ). climbs es base k guid) parts ∙ all_still (suc (length es)) (n - suc (length es)) at_last guid
    where
      parts : n ≡ n - suc (length es) + suc (length es)
      parts = omega arith

  many_more : (m n : ℕ) (guid : List ℕ) → climbs es base n guid ≡ true → climbs es base (m + n) guid ≡ true
  many_more zero n guid h = subst (λ (k : ℕ). climbs es base k guid ≡ true) (omega arith) h
  many_more (suc m) n guid h = subst (λ (k : ℕ). climbs es base k guid ≡ true) more (one_more (m + n) guid (many_more m n guid h))
    where
      more : suc (m + n) ≡ suc m + n
      more = omega arith

  enough : (n : ℕ) (guid : List ℕ) → climbs es base n guid ≡ true → climbs es base (suc (length es)) guid ≡ true
  enough n guid h = sym (further_steps (suc (length es) + n) guid (omega arith)) ∙ many_more (suc (length es)) n guid h

  -- ---- as a relation

  steps_above : (n : ℕ) (guid : List ℕ) → climbs es base n guid ≡ true → IsBelow es base guid
  steps_above zero guid h = (zero, same_bytes guid base h)
  steps_above (suc n) guid h = by (steps_above n) (bytes_eq guid base) (up_from es guid) refl refl h
    where
      by : ((g : List ℕ) → climbs es base n g ≡ true → IsBelow es base g) → (b : Bool) (o : Option (List ℕ)) → bytes_eq guid base ≡ b → up_from es guid ≡ o
          → (b || option_map_or (climbs es base n) o false) ≡ true → IsBelow es base guid
      by above true o is up k = (zero, same_bytes guid base is)
      by above false None is up k = cc
      by above false (Some g) is up k = let (m, a) = above g k in (suc m, (g, up, a))

  met : (n : ℕ) (guid : List ℕ) → IsAbove es base n guid → climbs es base n guid ≡ true
  met zero guid h = bytes_same guid base h
  met (suc n) guid (g, up, h) =
      let there : option_map_or (climbs es base n) (up_from es guid) false ≡ true = ap (λ (o : Option (List ℕ)). option_map_or (climbs es base n) o false) up ∙ met n g h in
      or_right (bytes_eq guid base) _ there

  pub by_parents : (scope : Scope) (e : Entry) → (is_in_scope es base scope e ≡ true → IsInScope es base scope e) × (IsInScope es base scope e → is_in_scope es base scope e ≡ true)
  by_parents Base e = (same_bytes e.guid base, bytes_same e.guid base)
  by_parents One e = (same_bytes e.parent base, bytes_same e.parent base)
  by_parents Sub e = (steps_above (suc (length es)) e.guid, λ h. enough h.0 e.guid (met h.0 e.guid h.1))
