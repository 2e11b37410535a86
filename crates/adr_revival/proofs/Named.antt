-- A row is about an object where it is one of its rows, or a link from it or to it.
use Rattle.std.proofs.Common.{◌≡◌, ℕ, suc, arith, eqb-true, Bool, true, false, cond, not, ◌||◌, ◌==◌, List, [], ◌∷◌, filter, length, refl, sym, ap, ap₂, ◌∙◌, Bor}
use Rattle.std.specs.List.{list_any}
use Rattle.adr_values.specs.declared.stamp.Oid.{Oid}
use Rattle.adr_model.specs.Store.{Held, is_row_of}
use Rattle.adr_model.specs.Update.{Key, RowOf, LinkOf, ends, same_object}
use Rattle.adr_model.specs.Write.{names_object}
use Rattle.adr_model.proofs.Keys.{objects_tell}
use Rattle.adr_law_tree.proofs.Loops.{object_itself}
use Rattle.adr_update.specs.Referents.{referents}
use Rattle.adr_update.specs.Sought.{is_link_from, is_link_to}
use Rattle.adr_update.proofs.Referred.{length_referents}

not_zero : (n : ℕ) → true ≡ not (suc n == 0)
not_zero n = by (suc n == 0) refl
  where
    by : (b : Bool) → (suc n == 0) ≡ b → true ≡ not b
    by false e = refl
    by true e = absurd (let none = eqb-true (suc n) 0 e in omega (arith, none))

module _ {A : Type 0} where
  -- some are kept where some pass
  pub some_kept : (p : A → Bool) (xs : List A) → list_any p xs ≡ not (length (filter p xs) == 0)
  some_kept p [] = refl
  some_kept p (x ∷ xs) = by (p x) (some_kept p xs)
    where
      by : (b : Bool) → list_any p xs ≡ not (length (filter p xs) == 0) → (b || list_any p xs) ≡ not (length (cond b (x ∷ filter p xs) (filter p xs)) == 0)
      by true rest = not_zero (length (filter p xs))
      by false rest = rest

  either : (p q : A → Bool) (xs : List A) → list_any (λ x. p x || q x) xs ≡ (list_any p xs || list_any q xs)
  either p q [] = refl
  either p q (x ∷ xs) = ap (λ b. (p x || q x) || b) (either p q xs) ∙ apart (p x) (q x) (list_any p xs) (list_any q xs)
    where
      apart : (a b c d : Bool) → ((a || b) || (c || d)) ≡ ((a || c) || (b || d))
      apart true b c d = refl
      apart false true true d = refl
      apart false true false d = refl
      apart false false true d = refl
      apart false false false d = refl

  alike : (p q : A → Bool) → ((x : A) → p x ≡ q x) → (xs : List A) → list_any p xs ≡ list_any q xs
  alike p q same [] = refl
  alike p q same (x ∷ xs) = ap₂ (λ b c. b || c) (same x) (alike p q same xs)

or_none : (b : Bool) → (b || false) ≡ b
or_none true = refl
or_none false = refl

same_turned : (o p : Oid) → same_object o p ≡ same_object p o
same_turned o p = by (same_object o p) (same_object p o) refl refl
  where
    by : (b c : Bool) → same_object o p ≡ b → same_object p o ≡ c → b ≡ c
    by true true e f = refl
    by false false e f = refl
    by true false e f = let t : same_object p o ≡ true = ap (λ q. same_object q o) (sym (objects_tell o p e)) ∙ object_itself o in cc
    by false true e f = let t : same_object o p ≡ true = ap (λ q. same_object q p) (sym (objects_tell p o f)) ∙ object_itself p in cc

module _ (o : Oid) where
  named_by : (k : Key) → list_any (same_object o) (ends k) ≡ (is_row_of o k || (is_link_from o k || is_link_to o k))
  named_by (RowOf p attr) = ap (λ b. b || false) (same_turned o p)
  named_by (LinkOf l) = ap₂ (λ b c. b || c) (same_turned o l.from) (or_none (same_object o l.to) ∙ same_turned o l.to)

  pub named_so : (rows : List Held) → names_object rows o
      ≡ (list_any (λ h. is_row_of o h.update.key) rows || (list_any (λ h. is_link_from o h.update.key) rows || list_any (λ h. is_link_to o h.update.key) rows))
  named_so rows =
      alike (λ h. list_any (same_object o) (ends h.update.key)) (λ h. is_row_of o h.update.key || (is_link_from o h.update.key || is_link_to o h.update.key)) (λ h. named_by h.update.key) rows
      ∙ (either (λ h. is_row_of o h.update.key) (λ h. is_link_from o h.update.key || is_link_to o h.update.key) rows
      ∙ ap (λ b. list_any (λ h. is_row_of o h.update.key) rows || b) (either (λ h. is_link_from o h.update.key) (λ h. is_link_to o h.update.key) rows))

  module _ (rows : List Held) where
    abbrev own_rows : Bool
    own_rows = list_any (λ h. is_row_of o h.update.key) rows

    abbrev from_it : Bool
    from_it = list_any (λ h. is_link_from o h.update.key) rows

    abbrev to_it : Bool
    to_it = list_any (λ h. is_link_to o h.update.key) rows

    -- what is found is empty, or isn't
    found_some : (p : Held → Bool) (hs : List (Bor Held)) → referents hs ≡ filter p rows → list_any p rows ≡ not (length hs == 0)
    found_some p hs is = some_kept p rows ∙ (ap (λ (ks : List Held). not (length ks == 0)) (sym is) ∙ ap (λ (n : ℕ). not (n == 0)) (length_referents hs))

    module _ (own : List (Bor Held)) (own_is : referents own ≡ filter (λ h. is_row_of o h.update.key) rows) where
      pub by_own : (length own == 0) ≡ false → true ≡ names_object rows o
      by_own some = sym (named_so rows ∙ ap (λ b. b || (from_it || to_it)) (found_some (λ h. is_row_of o h.update.key) own own_is ∙ ap not some))

      module _ (none : (length own == 0) ≡ true) (from : List (Bor Held)) (from_is : referents from ≡ filter (λ h. is_link_from o h.update.key) rows) where
        links_alone : names_object rows o ≡ (from_it || to_it)
        links_alone = named_so rows ∙ ap (λ b. b || (from_it || to_it)) (found_some (λ h. is_row_of o h.update.key) own own_is ∙ ap not none)

        pub by_from : (length from == 0) ≡ false → true ≡ names_object rows o
        by_from some = sym (links_alone ∙ ap (λ b. b || to_it) (found_some (λ h. is_link_from o h.update.key) from from_is ∙ ap not some))

        pub by_to : (length from == 0) ≡ true → (to : List (Bor Held)) → referents to ≡ filter (λ h. is_link_to o h.update.key) rows → not (length to == 0) ≡ names_object rows o
        by_to none_from to to_is =
            sym (links_alone ∙ (ap (λ b. b || to_it) (found_some (λ h. is_link_from o h.update.key) from from_is ∙ ap not none_from) ∙ found_some (λ h. is_link_to o h.update.key) to to_is))
