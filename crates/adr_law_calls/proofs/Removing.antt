-- Which rows stand after objects were removed: those of no such object. Each unit that stands is whole.
use Rattle.std.proofs.Common.{◌≡◌, ◌⊎◌, inl, inr, ⊎_elim, ℕ, List, [], ◌∷◌, Bool, true, false, refl, sym, ap, ◌∙◌, subst, fold, not}
use Rattle.std.proofs.lemmas.Bool.{not-true}
use Rattle.adr_values.specs.declared.stamp.Oid.{Oid}
use Rattle.adr_model.specs.Member.{Member, Each}
use Rattle.adr_model.specs.Update.{Key, RowOf, Update, unit_of}
use Rattle.adr_model.specs.Reflects.{HoldsObject}
use Rattle.adr_model.specs.Store.{Held, updates_of, is_row_of}
use Rattle.adr_model.specs.Serve.{last_local}
use Rattle.adr_model.specs.Change.{without_object}
use Rattle.adr_model.specs.Formed.{AreAlone}
use Rattle.adr_model.proofs.Members.{in_filter, of_filter}
use Rattle.adr_model.proofs.Keys.{objects_tell}
use Rattle.adr_law_knowledge.proofs.Comparing.{objects_same}
use Rattle.adr_law_calls.proofs.Units.{removals_from}
use Rattle.adr_law_calls.proofs.Rows.{updated, held_as, row_by_unit}
use Rattle.adr_law_calls.proofs.Locals.{same_last}

abbrev pub without : List Oid → List Held → List Held
without os rows = fold without_object rows os

-- ---- whose row it is

pub row_of_itself : (o : Oid) (attr : ℕ) (k : Key) → k ≡ RowOf o attr → is_row_of o k ≡ true
row_of_itself o attr k is = ap (is_row_of o) is ∙ objects_same o o refl

pub row_of_tells : (o p : Oid) (attr : ℕ) (k : Key) → k ≡ RowOf o attr → is_row_of p k ≡ true → o ≡ p
row_of_tells o p attr k is row = objects_tell o p (ap (is_row_of p) (sym is) ∙ row)

-- ---- which rows stand

pub stood_before : (os : List Oid) (rows : List Held) (x : Held) → Member x (without os rows) → Member x rows
stood_before = removals_from

pub of_none : (os : List Oid) (rows : List Held) (x : Held) → Member x (without os rows) → Each (λ o. is_row_of o x.update.key ≡ false) os
of_none [] rows x m o n = absurd n
of_none (p ∷ os) rows x m o (inl e) = subst (λ q. is_row_of q x.update.key ≡ false) (sym e)
    (not-true (is_row_of p x.update.key) (of_filter (λ h. not (is_row_of p h.update.key)) rows x (stood_before os (without_object rows p) x m)).1)
of_none (p ∷ os) rows x m o (inr n) = of_none os (without_object rows p) x m o n

pub stands_or_goes : (os : List Oid) (rows : List Held) (x : Held) → Member x rows → Member x (without os rows) ⊎ ((o : Oid) × Member o os × (is_row_of o x.update.key ≡ true))
stands_or_goes [] rows x m = inl m
stands_or_goes (o ∷ os) rows x m = by (is_row_of o x.update.key) refl (stands_or_goes os (without_object rows o) x)
  where
    by : (b : Bool) → is_row_of o x.update.key ≡ b → (Member x (without_object rows o) → Member x (without os (without_object rows o)) ⊎ ((p : Oid) × Member p os × (is_row_of p x.update.key ≡ true)))
        → Member x (without (o ∷ os) rows) ⊎ ((p : Oid) × Member p (o ∷ os) × (is_row_of p x.update.key ≡ true))
    by true is rest = inr (o, inl refl, is)
    by false is rest = ⊎_elim (λ n. inl n) (λ t. inr (t.0, inr t.1, t.2)) (rest (in_filter (λ h. not (is_row_of o h.update.key)) rows x m (ap not is)))

pub stands : (os : List Oid) (rows : List Held) (x : Held) → Member x rows → Each (λ o. is_row_of o x.update.key ≡ true → ⊥) os → Member x (without os rows)
stands os rows x m none = ⊎_elim (λ n. n) (λ t. absurd (none t.0 t.1 t.2)) (stands_or_goes os rows x m)

-- ---- as updates

pub update_stood : (os : List Oid) (rows : List Held) (u : Update) → Member u (updates_of (without os rows)) → Member u (updates_of rows)
update_stood os rows u m = let t = held_as (without os rows) u m in subst (λ v. Member v (updates_of rows)) (sym t.2) (updated rows t.0 (stood_before os rows t.0 t.1))

pub update_stands : (os : List Oid) (rows : List Held) (u : Update) → Member u (updates_of rows) → Each (λ o. is_row_of o u.key ≡ true → ⊥) os → Member u (updates_of (without os rows))
update_stands os rows u m none = let t = held_as rows u m in
    subst (λ v. Member v (updates_of (without os rows))) (sym t.2)
    (updated (without os rows) t.0 (stands os rows t.0 t.1 (λ o n row. none o n (subst (λ (v : Update). is_row_of o v.key ≡ true) (sym t.2) row))))

-- an object that is removed isn't held
pub removed_is_absent : (os : List Oid) (rows : List Held) (o : Oid) → Member o os → HoldsObject (updates_of (without os rows)) o → ⊥
removed_is_absent os rows o m (r, attr, n, is) =
    let t = held_as (without os rows) r n in
    let goes : is_row_of o t.0.update.key ≡ true = ap (λ (v : Update). is_row_of o v.key) (sym t.2) ∙ row_of_itself o attr r.key is in
    let stays : is_row_of o t.0.update.key ≡ false = of_none os rows t.0 t.1 o m in
    cc

-- ---- order

-- ---- last local USNs

-- a unit of which a row stands is whole
unit_is_whole : (os : List Oid) (rows : List Held) (h : Held) → Member h (without os rows) → (x : Held) → Member x rows → unit_of x.update.key ≡ unit_of h.update.key → Member x (without os rows)
unit_is_whole os rows h m x n e = stands os rows x n goes
  where
    goes : Each (λ o. is_row_of o x.update.key ≡ true → ⊥) os
    goes o i row = let same = row_by_unit o x.update.key h.update.key e in let stays = of_none os rows h m o i in cc

last_stays : (os : List Oid) (rows : List Held) (h : Held) → Member h (without os rows) → last_local (without os rows) (unit_of h.update.key) ≡ last_local rows (unit_of h.update.key)
last_stays os rows h m = same_last (unit_of h.update.key) (without os rows) rows (λ x n e. stood_before os rows x n) (λ x n e. unit_is_whole os rows h m x n e)

pub stay_alone : (os : List Oid) (rows : List Held) → AreAlone rows → AreAlone (without os rows)
stay_alone os rows alone h m g n e =
    alone h (stood_before os rows h m) g (stood_before os rows g n) (sym (last_stays os rows h m) ∙ e ∙ last_stays os rows g n)
