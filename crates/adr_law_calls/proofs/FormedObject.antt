-- An object of which rows are put that keep to the schema is well formed.
use Rattle.std.proofs.Common.{◌≡◌, ◌⊎◌, inl, inr, ⊎_elim, ℕ, ◌<◌, List, [], ◌∷◌, true, false, refl, sym, ap, ◌∙◌, subst, arith}
use Rattle.std.specs.Prelude.{nat_le, None}
use Rattle.std.proofs.lemmas.Bool.{and_parts}
use Rattle.std.proofs.lemmas.Bool.Decides.{nat_tests}
use Rattle.adr_values.specs.declared.stamp.Oid.{Oid}
use Rattle.adr_values.specs.declared.content.Value.{Value as Datum}
use Rattle.adr_values.specs.declared.content.Content.TheVariants.{Class, Name, Dead, Values}
use Rattle.adr_values.specs.Table.{Table, has, must_of}
use Rattle.adr_values.specs.Names.{name_fault}
use Rattle.adr_model.specs.Member.{Member, Each}
use Rattle.adr_model.specs.Update.{Identifier, Key, RowOf, Update, Said, Holds, class_attr, name_attr, deleted_attr}
use Rattle.adr_model.specs.Reflects.{IsTombstoned, IsDeath, IsDeathOf}
use Rattle.adr_model.specs.Store.{Held, updates_of}
use Rattle.adr_model.specs.Change.{goes_with}
use Rattle.adr_model.specs.Take.{is_birth, is_reserved_row}
use Rattle.adr_model.specs.Formed.{AreRising, HasRow, IsNamed, KeepsSchema, IsDeadFormed, IsObjectFormed}
use Rattle.adr_law_calls.specs.Puts.{ArePut}
use Rattle.adr_law_calls.specs.Forms.{IsWellSaid, HasKey, MayChange, MayCome}
use Rattle.adr_law_calls.proofs.Rows.{reserved_stays}
use Rattle.adr_law_calls.proofs.Rising.{one_update}
use Rattle.adr_law_calls.proofs.FormedRows.{Fares, death_or_none, goes_of_object, value_goes, stands, stood, fares, bare}

-- values that an attribute is full of
abbrev IsFilled : Said → Type 0
IsFilled said = (v : Datum) × (vs : List Datum) × (said ≡ Holds (Values (v ∷ vs)))

-- a name that is allowed
abbrev IsName : Said → Type 0
IsName said = (text : List ℕ) × (parent : Identifier) × (said ≡ Holds (Name text parent)) × (name_fault text ≡ None)

filled_values : (vs : List Datum) (said : Said) → said ≡ Holds (Values vs) → (vs ≡ [] → ⊥) → IsFilled said
filled_values [] said e full = absurd (full refl)
filled_values (v ∷ vs) said e full = (v, vs, e)

not_reserved : (o : Oid) (k : Key) (attr : ℕ) → deleted_attr < attr → k ≡ RowOf o attr → is_reserved_row k ≡ true → ⊥
not_reserved o k attr above is r = let t : nat_le attr deleted_attr ≡ true = (and_parts (nat_le class_attr attr) (nat_le attr deleted_attr) (ap is_reserved_row (sym is) ∙ r)).1 in absurd (grind (arith, nat_tests))

module _ (table : Table) (usn : ℕ) (before after : List Held) (o : Oid) (class : ℕ) (us : List Update) (p : ArePut usn us before after)
    (beside : Each (λ d. IsDeath d → Each (λ u. is_reserved_row u.key ≡ true) us) us)
    (said : Each (IsWellSaid table class o) us)
    (must : (attr : ℕ) → has (must_of table class) attr ≡ true → deleted_attr < attr) where
  -- a row that is put
  written_row : (attr : ℕ) (P : Said → Type 0) → ((u : Update) → Member u us → u.key ≡ RowOf o attr → P u.said) → HasKey us o attr → HasRow (updates_of after) o attr P
  written_row attr P says (u, m, is) = (u, stands usn before after us p u m, is, says u m is)

  -- a row that no death takes, or one of its key
  reserved_row : (attr : ℕ) (P : Said → Type 0) → is_reserved_row (RowOf o attr) ≡ true → ((u : Update) → Member u us → u.key ≡ RowOf o attr → P u.said) → HasRow (updates_of before) o attr P → HasRow (updates_of after) o attr P
  reserved_row attr P low says (r, m, is, old) = by (fares usn before after us p r m)
    where
      by : Fares us (updates_of after) r → HasRow (updates_of after) o attr P
      by (inl (u, n, same)) = written_row attr P says (u, n, same ∙ is)
      by (inr (inl (d, q, n, death, g))) = let t : goes_with q (RowOf o attr) ≡ true = ap (goes_with q) (sym is) ∙ g in let f : goes_with q (RowOf o attr) ≡ false = reserved_stays q (RowOf o attr) low in cc
      by (inr (inr n)) = (r, n, is, old)

  -- a row where there is no death, or one of its key
  value_row : (attr : ℕ) (P : Said → Type 0) → Each (λ u. IsDeathOf o u → ⊥) us → ((u : Update) → Member u us → u.key ≡ RowOf o attr → P u.said) → HasRow (updates_of before) o attr P → HasRow (updates_of after) o attr P
  value_row attr P none says (r, m, is, old) = by (fares usn before after us p r m)
    where
      by : Fares us (updates_of after) r → HasRow (updates_of after) o attr P
      by (inl (u, n, same)) = written_row attr P says (u, n, same ∙ is)
      by (inr (inl (d, q, n, death, g))) = let same : o ≡ q = goes_of_object q o attr (ap (goes_with q) (sym is) ∙ g) in absurd (none d n (subst (λ z. IsDeathOf z d) (sym same) death))
      by (inr (inr n)) = (r, n, is, old)

  class_said : (u : Update) → Member u us → u.key ≡ RowOf o class_attr → u.said ≡ Holds (Class class)
  class_said u m is = ((said u m).of_class is).0

  name_said : (u : Update) → Member u us → u.key ≡ RowOf o name_attr → IsName u.said
  name_said u m is = (said u m).of_name is

  named : HasRow (updates_of after) o class_attr (λ s. s ≡ Holds (Class class)) → HasRow (updates_of after) o name_attr IsName → IsNamed (updates_of after) o
  named of_class (r, m, is, t) = record { class = class; of_class = of_class; text = t.0; parent = t.1; of_name = (r, m, is, t.2); well_named = t.3 }

  death_said : (u : Update) → Member u us → u.key ≡ RowOf o deleted_attr → u.said ≡ Holds Dead
  death_said u m is = (said u m).of_death is

  filled_said : (attr : ℕ) → has (must_of table class) attr ≡ true → (u : Update) → Member u us → u.key ≡ RowOf o attr → IsFilled u.said
  filled_said attr h u m is = let t = (said u m).of_values attr (must attr h) is in filled_values t.0 u.said t.1 (t.2.filled h)

  -- a death among the rows
  died : (d : Update) → Member d us → IsDeathOf o d → IsDeadFormed (updates_of after) o
  died d m is = record {
    dead = written_row deleted_attr (λ s. s ≡ Holds Dead) death_said (d, m, is);
    bare = λ attr above r n own. let t : goes_with o r.key ≡ true = ap (goes_with o) own ∙ value_goes o attr above in ⊎_elim (λ i. not_reserved o r.key attr above own (beside d m (o, is) r i)) (λ f. let g : goes_with o r.key ≡ false = f in cc) (bare usn before after us p d r o m is n);
  }

  pub births_put : Each (λ r. r.key ≡ RowOf o class_attr → is_birth o r ≡ true) (updates_of before) → Each (λ r. r.key ≡ RowOf o class_attr → is_birth o r ≡ true) (updates_of after)
  births_put old r m is = ⊎_elim (λ n. ((said r n).of_class is).1) (λ n. old r n is) (stood usn before after us p r m)

  -- a live object of one class
  living : AreRising after → HasRow (updates_of after) o class_attr (λ s. s ≡ Holds (Class class)) → (IsTombstoned (updates_of after) o → ⊥) → KeepsSchema table (updates_of after) o class → IsObjectFormed table (updates_of after) o
  living rising (r, m, is, says) lives keeps = inr (lives, of_class)
    where
      of_class : (other : ℕ) → HasRow (updates_of after) o class_attr (λ s. s ≡ Holds (Class other)) → KeepsSchema table (updates_of after) o other
      of_class other (t, n, same, tells) =
          let one : r ≡ t = one_update after rising r m t n (is ∙ sym same) in
          let agree : class ≡ other = cc in
          subst (KeepsSchema table (updates_of after) o) agree keeps

  module _ (c : MayChange table (updates_of before) o class us) where
    changed_class : HasRow (updates_of after) o class_attr (λ s. s ≡ Holds (Class class))
    changed_class = reserved_row class_attr (λ s. s ≡ Holds (Class class)) refl class_said c.of_class

    pub changed_named : IsNamed (updates_of before) o → IsNamed (updates_of after) o
    changed_named old = named changed_class (reserved_row name_attr IsName refl name_said (old.of_name.0, old.of_name.1, old.of_name.2, old_name))
      where
        old_name : IsName old.of_name.0.said
        old_name = (old.text, old.parent, old.of_name.3, old.well_named)

    still_dead : IsDeadFormed (updates_of before) o → IsDeadFormed (updates_of after) o
    still_dead old = record {
      dead = reserved_row deleted_attr (λ s. s ≡ Holds Dead) refl death_said old.dead;
      bare = λ attr above r m is. ⊎_elim (λ n. not_reserved o r.key attr above is (c.dead tomb r n)) (λ n. old.bare attr above r n is) (stood usn before after us p r m);
    }
      where
        tomb : IsTombstoned (updates_of before) o
        tomb = (old.dead.0, old.dead.1, old.dead.2)

    changed_keeps : Each (λ u. IsDeathOf o u → ⊥) us → KeepsSchema table (updates_of before) o class → KeepsSchema table (updates_of after) o class
    changed_keeps none old = record {
      known = old.known;
      allowed = λ attr above r m is. ⊎_elim (λ n. let t = (said r n).of_values attr above is in (t.0, t.1, t.2.allowed)) (λ n. old.allowed attr above r n is) (stood usn before after us p r m);
      whole = λ attr h. value_row attr IsFilled none (filled_said attr h) (old.whole attr h);
    }

    pub changed_formed : AreRising after → IsObjectFormed table (updates_of before) o → IsObjectFormed table (updates_of after) o
    changed_formed rising old = by (death_or_none us o) old
      where
        by : ((d : Update) × Member d us × IsDeathOf o d) ⊎ Each (λ u. IsDeathOf o u → ⊥) us → IsObjectFormed table (updates_of before) o → IsObjectFormed table (updates_of after) o
        by (inl (d, m, is)) was = inl (died d m is)
        by (inr none) (inl dead) = inl (still_dead dead)
        by (inr none) (inr (lives, keeps)) =
            living rising changed_class (λ t. ⊎_elim (λ n. none t.0 n t.2) (λ n. lives (t.0, n, t.2)) (stood usn before after us p t.0 t.1)) (changed_keeps none (keeps class c.of_class))

  module _ (c : MayCome table (updates_of before) o class us) where
    -- all rows of an object that comes are those that are put
    came : (r : Update) (attr : ℕ) → r.key ≡ RowOf o attr → Member r (updates_of after) → Member r us
    came r attr is m = ⊎_elim (λ n. n) (λ n. absurd (c.absent (r, attr, n, is))) (stood usn before after us p r m)

    came_class : HasRow (updates_of after) o class_attr (λ s. s ≡ Holds (Class class))
    came_class = written_row class_attr (λ s. s ≡ Holds (Class class)) class_said c.of_class

    pub came_named : IsNamed (updates_of after) o
    came_named = named came_class (written_row name_attr IsName name_said c.of_name)

    came_keeps : ((attr : ℕ) → has (must_of table class) attr ≡ true → HasKey us o attr) → KeepsSchema table (updates_of after) o class
    came_keeps whole = record {
      known = c.known;
      allowed = λ attr above r m is. let t = (said r (came r attr is m)).of_values attr above is in (t.0, t.1, t.2.allowed);
      whole = λ attr h. written_row attr IsFilled (filled_said attr h) (whole attr h);
    }

    pub came_formed : AreRising after → IsObjectFormed table (updates_of after) o
    came_formed rising = by (death_or_none us o) c.whole
      where
        by : ((d : Update) × Member d us × IsDeathOf o d) ⊎ Each (λ u. IsDeathOf o u → ⊥) us → ((d : Update) × Member d us × IsDeathOf o d) ⊎ ((attr : ℕ) → has (must_of table class) attr ≡ true → HasKey us o attr) → IsObjectFormed table (updates_of after) o
        by (inl (d, m, is)) whole = inl (died d m is)
        by (inr none) (inl (d, m, is)) = absurd (none d m is)
        by (inr none) (inr whole) = living rising came_class (λ t. none t.0 (came t.0 deleted_attr t.2 t.1) t.2) (came_keeps whole)
