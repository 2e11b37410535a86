-- An object of which a row is held is held, and of another one none is.
use Rattle.std.proofs.Common.{◌≡◌, ℕ, List, [], ◌∷◌, Bool, true, false, cond, ◌||◌, refl, sym, ap, ◌∙◌, Option, Some, None, is_some}
use Rattle.std.specs.Ordering.{is_eq}
use Rattle.std.proofs.lemmas.Cmp.{tied_itself}
use Rattle.adr_values.specs.declared.stamp.Oid.{Oid}
use Rattle.adr_values.specs.contracts.stamp.OidOrd.TheImpl.Laws.{total-law as objects_total}
use Rattle.adr_model.specs.Update.{RowOf, same_key}
use Rattle.adr_model.specs.Store.{Held, row_held, holds_object, is_row_of}
use Rattle.adr_overlay.proofs.Rising.{one_key}

pub row_is_held : (rows : List Held) (o : Oid) (attr : ℕ) → is_some (row_held rows (RowOf o attr)) ≡ true → holds_object rows o ≡ true
row_is_held [] o attr e = cc
row_is_held (x ∷ xs) o attr e = by (same_key x.update.key (RowOf o attr)) refl e (λ f. row_is_held xs o attr f)
  where
    here : is_row_of o (RowOf o attr) ≡ true
    here = ap is_eq (tied_itself objects_total o)

    either_way : (b : Bool) → b || true ≡ true
    either_way true = refl
    either_way false = refl

    by : (b : Bool) → same_key x.update.key (RowOf o attr) ≡ b → is_some (cond b (Some x) (row_held xs (RowOf o attr))) ≡ true → (is_some (row_held xs (RowOf o attr)) ≡ true → holds_object xs o ≡ true)
        → is_row_of o x.update.key || holds_object xs o ≡ true
    by true f g later = ap (λ k. is_row_of o k || holds_object xs o) (one_key x.update.key (RowOf o attr) f) ∙ ap (λ b. b || holds_object xs o) here
    by false f g later = ap (λ b. is_row_of o x.update.key || b) (later g) ∙ either_way (is_row_of o x.update.key)

pub none_held : (rows : List Held) (o : Oid) (attr : ℕ) → holds_object rows o ≡ false → row_held rows (RowOf o attr) ≡ None
none_held rows o attr absent = by (row_held rows (RowOf o attr)) refl
  where
    by : (r : Option Held) → row_held rows (RowOf o attr) ≡ r → r ≡ None
    by None e = refl
    by (Some h) e = let no : false ≡ true = sym absent ∙ row_is_held rows o attr (ap is_some e) in cc
