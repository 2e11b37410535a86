-- Lists that rise are made anew by putting their elements in, one after the other.
use Rattle.std.proofs.Common.{◌≡◌, Bool, true, false, cond, not, ◌||◌, eqb, ltb, ℕ, List, [], ◌∷◌, ◌++◌, map, fold, Option, Some, None, refl, sym, ap, subst, ◌∙◌, inl, inr, append-nil, append_assoc}
use Rattle.std.specs.List.{AllByRecursion}
use Rattle.std.specs.List.Sorted.{IsStrictlySortedBy}
use Rattle.std.specs.BTreeMap.{insert_entry}
use Rattle.std.specs.Cmp.{IsTotalOrder}
use Rattle.std.specs.Ordering.{match_ordering, ordering_reverse}
use Rattle.std.specs.declared.cmp.Ordering.{Ordering}
use Rattle.std.specs.declared.cmp.Ordering.TheVariants.{Less, Greater}
use Rattle.std.proofs.lemmas.Bool.{eqb-true, ltb-true}
use Rattle.adr_values.specs.declared.stamp.Oid.{Oid}
use Rattle.adr_values.specs.declared.stamp.LinkKey.{LinkKey}
use Rattle.adr_values.specs.Table.{Table}
use Rattle.adr_model.specs.Change.{goes_with, killed_by, put, rows_after, stripped}
use Rattle.adr_model.specs.Formed.{AreFormedRows, AreRising, IsDeadFormed, IsObjectFormed}
use Rattle.adr_model.specs.Member.{Each, Member}
use Rattle.adr_model.specs.Reflects.{IsTombstoned}
use Rattle.adr_model.specs.Store.{Held, updates_of, with_row}
use Rattle.adr_model.specs.Update.{Key, RowOf, LinkOf, Update, key_order, same_object, deleted_attr}
use Rattle.adr_model.proofs.Keys.{keys_total, objects_tell}
use Rattle.adr_model.proofs.Members.{filter_all, member_left, member_mapped, member_right}

-- ---- each fits behind those before it

module _ {E : Type 0} (put_one : List E → E → List E) (Fits : List E → E → Type 0) (goes_behind : (done : List E) (e : E) → Fits done e → put_one done e ≡ done ++ e ∷ []) where
  abbrev FitInTurn : List E → List E → Type 0
  FitInTurn done [] = Unit {0}
  FitInTurn done (e ∷ es) = Fits done e × FitInTurn (done ++ e ∷ []) es

  pub all_behind : (done es : List E) → FitInTurn done es → fold put_one done es ≡ done ++ es
  all_behind done [] fit = sym (append-nil done)
  all_behind done (e ∷ es) fit =
      ap (λ (xs : List E). fold put_one xs es) (goes_behind done e fit.0) ∙ all_behind (done ++ e ∷ []) es fit.1 ∙ append_assoc done (e ∷ []) es

module _ {K E : Type 0} (R : K → K → Ordering) (total : IsTotalOrder R) (key : E → K) where
  -- a key above those of all these elements
  abbrev pub IsBehind : List E → E → Type 0
  IsBehind done e = AllByRecursion (λ x. R (key e) (key x) ≡ Greater) done

  all_at : (k : K) (xs : List E) (e : E) (ys : List E) → AllByRecursion (λ l. R k l ≡ Less) (map key (xs ++ e ∷ ys)) → R k (key e) ≡ Less
  all_at k [] e ys all = all.0
  all_at k (x ∷ xs) e ys all = all_at k xs e ys all.1

  pub is_behind : (xs : List E) (e : E) (ys : List E) → IsStrictlySortedBy R (map key (xs ++ e ∷ ys)) → IsBehind xs e
  unfolding IsStrictlySortedBy
  is_behind [] e ys s = tt
  is_behind (x ∷ xs) e ys s = (total.antisymm (key e) (key x) ∙ ap ordering_reverse (all_at (key x) xs e ys s.0), is_behind xs e ys s.1)

-- ---- entries

module _ {K X : Type 0} (R : K → K → Ordering) (total : IsTotalOrder R) where
  entered : (done : List (K × X)) (e : K × X) → IsBehind R total (λ (x : K × X). x.0) done e → insert_entry R done e.0 e.1 ≡ done ++ e ∷ []
  entered [] e all = refl
  entered (x ∷ xs) e all =
      ap (λ (o : Ordering). match_ordering o (e ∷ x ∷ xs) ((x.0, e.1) ∷ xs) (x ∷ insert_entry R xs e.0 e.1)) all.0 ∙ ap (λ (es : List (K × X)). x ∷ es) (entered xs e all.1)

  entries_fit : (done es : List (K × X)) → IsStrictlySortedBy R (map (λ (x : K × X). x.0) (done ++ es)) → FitInTurn (λ (xs : List (K × X)) (e : K × X). insert_entry R xs e.0 e.1) (IsBehind R total (λ (x : K × X). x.0)) entered done es
  entries_fit done [] s = tt
  entries_fit done (e ∷ es) s = (
    is_behind R total (λ (x : K × X). x.0) done e es s,
    entries_fit (done ++ e ∷ []) es (subst (λ (xs : List (K × X)). IsStrictlySortedBy R (map (λ (x : K × X). x.0) xs)) (sym (append_assoc done (e ∷ []) es)) s),
  )

  pub entries_anew : (es : List (K × X)) → IsStrictlySortedBy R (map (λ (x : K × X). x.0) es) → fold (λ (xs : List (K × X)) (e : K × X). insert_entry R xs e.0 e.1) [] es ≡ es
  entries_anew es s = all_behind (λ (xs : List (K × X)) (e : K × X). insert_entry R xs e.0 e.1) (IsBehind R total (λ (x : K × X). x.0)) entered [] es (entries_fit [] es s)

-- ---- rows

abbrev row_key : Held → Key
row_key h = h.update.key

-- none of the rows goes when this one is put
abbrev Spares : Held → List Held → Type 0
Spares h rows = (o : Oid) → killed_by h.update.key ≡ Some o → Each (λ x. goes_with o x.update.key ≡ false) rows

record IsNext (done : List Held) (h : Held) : Type 0 where
  pub behind : IsBehind key_order keys_total row_key done h
  pub spares : Spares h (done ++ h ∷ [])

rowed : (done : List Held) (h : Held) → IsBehind key_order keys_total row_key done h → with_row done h ≡ done ++ h ∷ []
rowed [] h all = refl
rowed (x ∷ xs) h all =
    ap (λ (o : Ordering). match_ordering o (h ∷ x ∷ xs) (h ∷ xs) (x ∷ with_row xs h)) all.0 ∙ ap (λ (hs : List Held). x ∷ hs) (rowed xs h all.1)

unstripped : (killed : Option Oid) (rows : List Held) → ((o : Oid) → killed ≡ Some o → Each (λ x. goes_with o x.update.key ≡ false) rows) → stripped killed rows ≡ rows
unstripped None rows spares = refl
unstripped (Some o) rows spares = filter_all (λ x. not (goes_with o x.update.key)) rows (λ x m. ap not (spares o refl x m))

placed : (done : List Held) (h : Held) → IsNext done h → put done h ≡ done ++ h ∷ []
placed done h next = ap (stripped (killed_by h.update.key)) (rowed done h next.behind) ∙ unstripped (killed_by h.update.key) (done ++ h ∷ []) next.spares

rows_fit : (done rows : List Held) → AreRising (done ++ rows) → Each (λ h. Spares h (done ++ rows)) (done ++ rows) → FitInTurn put IsNext placed done rows
rows_fit done [] rising spare = tt
rows_fit done (h ∷ hs) rising spare =
    let again : (done ++ h ∷ []) ++ hs ≡ done ++ h ∷ hs = append_assoc done (h ∷ []) hs in
    let next : IsNext done h = record {
      behind = is_behind key_order keys_total row_key done h hs rising;
      spares = λ o dies x m. spare h (member_right done (h ∷ hs) h (inl refl)) o dies x (subst (λ (xs : List Held). Member x xs) again (member_left (done ++ h ∷ []) hs x m));
    } in
    (next, rows_fit (done ++ h ∷ []) hs (subst AreRising (sym again) rising) (subst (λ (xs : List Held). Each (λ g. Spares g xs) xs) (sym again) spare))

-- ---- formed rows

module _ (table : Table) (rows : List Held) (formed : AreFormedRows table (updates_of rows)) where
  abbrev us : List Update
  us = updates_of rows

  there : (x : Held) → Member x rows → Member x.update us
  there x m = member_mapped (λ (h : Held). h.update) rows x m

  killed_is : (k : Key) (o : Oid) → killed_by k ≡ Some o → k ≡ RowOf o deleted_attr
  killed_is (RowOf p attr) o h = by (eqb attr deleted_attr) refl h
    where
      by : (b : Bool) → eqb attr deleted_attr ≡ b → cond b (Some p) None ≡ Some o → RowOf p attr ≡ RowOf o deleted_attr
      by true is e = let same : p ≡ o = cc in ap (λ (q : Oid). RowOf q attr) same ∙ ap (λ (n : ℕ). RowOf o n) (eqb-true attr deleted_attr is)
      by false is e = absurd (cc)
  killed_is (LinkOf l) o h = absurd (cc)

  -- a dead object has no row beside its class, its name and its death
  bare : (o : Oid) → IsTombstoned us o → IsObjectFormed table us o → IsDeadFormed us o
  bare o dead (inl d) = d
  bare o dead (inr alive) = absurd (alive.0 dead)

  other_row : (o p : Oid) (attr : ℕ) (x : Held) → IsTombstoned us o → Member x rows → x.update.key ≡ RowOf p attr → goes_with o (RowOf p attr) ≡ false
  other_row o p attr x dead m is = by (same_object p o) refl (ltb deleted_attr attr) refl
    where
      by : (b : Bool) → same_object p o ≡ b → (t : Bool) → ltb deleted_attr attr ≡ t → cond b t false ≡ false
      by true same true above =
          let key : x.update.key ≡ RowOf o attr = is ∙ ap (λ (q : Oid). RowOf q attr) (objects_tell p o same) in
          let d = bare o dead (formed.objects o (x.update, attr, there x m, key)) in
          absurd (d.bare attr (ltb-true deleted_attr attr above) x.update (there x m) key)
      by true same false above = refl
      by false same t above = refl

  no_link : (o : Oid) (l : LinkKey) (x : Held) → IsTombstoned us o → Member x rows → x.update.key ≡ LinkOf l → goes_with o (LinkOf l) ≡ false
  no_link o l x dead m is = by (same_object l.from o) refl (same_object l.to o) refl
    where
      by : (b : Bool) → same_object l.from o ≡ b → (t : Bool) → same_object l.to o ≡ t → (b || t) ≡ false
      by true from t to = absurd ((formed.links l x.update (there x m) is).from (subst (IsTombstoned us) (sym (objects_tell l.from o from)) dead))
      by false from true to = absurd ((formed.links l x.update (there x m) is).to (subst (IsTombstoned us) (sym (objects_tell l.to o to)) dead))
      by false from false to = refl

  spared : (o : Oid) (x : Held) (k : Key) → IsTombstoned us o → Member x rows → x.update.key ≡ k → goes_with o k ≡ false
  spared o x (RowOf p attr) dead m is = other_row o p attr x dead m is
  spared o x (LinkOf l) dead m is = no_link o l x dead m is

  all_spare : Each (λ h. Spares h rows) rows
  all_spare h n o dies x m = spared o x x.update.key (h.update, there h n, killed_is h.update.key o dies) m refl

  -- rows that are written anew are the same rows
  pub rows_anew : AreRising rows → rows_after [] rows [] ≡ rows
  rows_anew rising = all_behind put IsNext placed [] rows (rows_fit [] rows rising all_spare)
