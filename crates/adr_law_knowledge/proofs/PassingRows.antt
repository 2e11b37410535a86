-- The rows whose keys pass a test, where a row is written, put or removed.
use Rattle.std.proofs.Common.{◌≡◌, Bool, true, false, cond, not, List, [], ◌∷◌, Option, Some, None, refl, sym, ap, ◌∙◌, subst, filter}
use Rattle.std.specs.Ordering.{match_ordering}
use Rattle.std.specs.declared.cmp.Ordering.{Ordering}
use Rattle.std.specs.declared.cmp.Ordering.TheVariants.{Less, Equal, Greater}
use Rattle.adr_values.specs.declared.stamp.Oid.{Oid}
use Rattle.adr_model.specs.Update.{Identifier, Key, RowOf, LinkOf, Update, key_order, same_identifier, same_object}
use Rattle.adr_model.specs.Store.{Held, updates_of, with_row, is_row_of}
use Rattle.adr_model.specs.Change.{goes_with, stripped, without_object}
use Rattle.adr_model.specs.Formed.{AreRising}
use Rattle.adr_model.specs.Write.{is_of_guid}
use Rattle.adr_model.proofs.Keys.{exact_keys, objects_tell}
use Rattle.adr_law_knowledge.proofs.Filters.{filters_turn}
use Rattle.adr_law_knowledge.proofs.RisingHeld.{IsBelow, head_below, tail_rising, below_all}

module _ (test : Key → Bool) where
  abbrev of : Held → Bool
  of h = test h.update.key

  -- a row that is below all of some rows comes before those of them that stay
  in_front : (h : Held) (xs : List Held) → IsBelow h.update.key xs → with_row (filter of xs) h ≡ h ∷ filter of xs
  in_front h [] b = refl
  in_front h (x ∷ xs) b = by (of x) (in_front h xs b.1)
    where
      by : (c : Bool) → with_row (filter of xs) h ≡ h ∷ filter of xs → with_row (cond c (x ∷ filter of xs) (filter of xs)) h ≡ h ∷ cond c (x ∷ filter of xs) (filter of xs)
      by true rest = ap (λ o. match_ordering o (h ∷ x ∷ filter of xs) (h ∷ filter of xs) (x ∷ with_row (filter of xs) h)) b.0
      by false rest = rest

  pub passing_written : (h : Held) → of h ≡ true → (rows : List Held) → AreRising rows → filter of (with_row rows h) ≡ with_row (filter of rows) h
  passing_written h mine [] r = ap (λ c. cond c (h ∷ []) []) mine
  passing_written h mine (x ∷ xs) r = by (key_order h.update.key x.update.key) refl (passing_written h mine xs (tail_rising x xs r))
    where
      by : (o : Ordering) → key_order h.update.key x.update.key ≡ o → filter of (with_row xs h) ≡ with_row (filter of xs) h
          → filter of (match_ordering o (h ∷ x ∷ xs) (h ∷ xs) (x ∷ with_row xs h)) ≡ with_row (cond (of x) (x ∷ filter of xs) (filter of xs)) h
      by Less is rest =
          ap (λ c. cond c (h ∷ filter of (x ∷ xs)) (filter of (x ∷ xs))) mine
          ∙ sym (in_front h (x ∷ xs) (is, below_all h.update.key x.update.key xs is (head_below x xs r)))
      by Equal is rest =
          let x_mine : of x ≡ true = ap test (sym (exact_keys h.update.key x.update.key is)) ∙ mine in
          ap (λ c. cond c (h ∷ filter of xs) (filter of xs)) mine
          ∙ sym (ap (λ c. with_row (cond c (x ∷ filter of xs) (filter of xs)) h) x_mine ∙ ap (λ o. match_ordering o (h ∷ x ∷ filter of xs) (h ∷ filter of xs) (x ∷ with_row (filter of xs) h)) is)
      by Greater is rest = on (of x)
        where
          on : (c : Bool) → cond c (x ∷ filter of (with_row xs h)) (filter of (with_row xs h)) ≡ with_row (cond c (x ∷ filter of xs) (filter of xs)) h
          on true = ap (λ ys. x ∷ ys) rest ∙ sym (ap (λ o. match_ordering o (h ∷ x ∷ filter of xs) (h ∷ filter of xs) (x ∷ with_row (filter of xs) h)) is)
          on false = rest

  pub other_written : (h : Held) → of h ≡ false → (rows : List Held) → filter of (with_row rows h) ≡ filter of rows
  other_written h other [] = ap (λ c. cond c (h ∷ []) []) other
  other_written h other (x ∷ xs) = by (key_order h.update.key x.update.key) refl (other_written h other xs)
    where
      by : (o : Ordering) → key_order h.update.key x.update.key ≡ o → filter of (with_row xs h) ≡ filter of xs
          → filter of (match_ordering o (h ∷ x ∷ xs) (h ∷ xs) (x ∷ with_row xs h)) ≡ cond (of x) (x ∷ filter of xs) (filter of xs)
      by Less is rest = ap (λ c. cond c (h ∷ filter of (x ∷ xs)) (filter of (x ∷ xs))) other
      by Equal is rest =
          ap (λ c. cond c (h ∷ filter of xs) (filter of xs)) other
          ∙ sym (ap (λ c. cond c (x ∷ filter of xs) (filter of xs)) (ap test (sym (exact_keys h.update.key x.update.key is)) ∙ other))
      by Greater is rest = ap (λ ys. cond (of x) (x ∷ ys) ys) rest

  pub passing_stripped : (o : Option Oid) (rows : List Held) → filter of (stripped o rows) ≡ stripped o (filter of rows)
  passing_stripped None rows = refl
  passing_stripped (Some o) rows = filters_turn of (λ h. not (goes_with o h.update.key)) rows

  pub passing_without : (o : Oid) (rows : List Held) → filter of (without_object rows o) ≡ without_object (filter of rows) o
  passing_without o rows = filters_turn of (λ h. not (is_row_of o h.update.key)) rows

  pub updates_filtered : (rows : List Held) → updates_of (filter of rows) ≡ filter (λ (u : Update). test u.key) (updates_of rows)
  updates_filtered [] = refl
  updates_filtered (h ∷ hs) = by (of h) (updates_filtered hs)
    where
      by : (b : Bool) → updates_of (filter of hs) ≡ filter (λ (u : Update). test u.key) (updates_of hs)
          → updates_of (cond b (h ∷ filter of hs) (filter of hs)) ≡ cond b (h.update ∷ filter (λ (u : Update). test u.key) (updates_of hs)) (filter (λ (u : Update). test u.key) (updates_of hs))
      by true rest = ap (λ us. h.update ∷ us) rest
      by false rest = rest

-- an object of another GUID takes none of the rows of this one
module _ (g : Identifier) where
  pub apart_from_mine : (o p : Oid) → same_identifier o.guid g ≡ false → same_identifier p.guid g ≡ true → same_object p o ≡ false
  apart_from_mine o p other mine = by (same_object p o) refl
    where
      by : (b : Bool) → same_object p o ≡ b → b ≡ false
      by false e = refl
      by true e = let t : same_identifier o.guid g ≡ true = subst (λ (q : Oid). same_identifier q.guid g ≡ true) (objects_tell p o e) mine in cc

  pub mine_stay : (o : Oid) → same_identifier o.guid g ≡ false → (k : Key) → is_of_guid g k ≡ true → not (is_row_of o k) ≡ true
  mine_stay o other (RowOf p a) mine = ap not (apart_from_mine o p other mine)
  mine_stay o other (LinkOf l) mine = cc
