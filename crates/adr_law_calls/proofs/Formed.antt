-- Rows of one object are put, and objects stay formed, classes known and links closed.
use Rattle.std.proofs.Common.{◌≡◌, ◌⊎◌, inl, inr, ⊎_elim, ℕ, zero, suc, List, true, sym, ap, ◌∙◌, subst, arith}
use Rattle.std.specs.Prelude.{IsSome}
use Rattle.adr_values.specs.declared.stamp.Oid.{Oid}
use Rattle.adr_values.specs.declared.stamp.LinkKey.{LinkKey}
use Rattle.adr_values.specs.declared.stamp.Unit.TheVariants.{Object}
use Rattle.adr_values.specs.declared.content.Content.TheVariants.{Class, Name, Dead, Values}
use Rattle.adr_values.specs.Table.{Table, class_at}
use Rattle.adr_values.specs.Numbered.{numbered}
use Rattle.adr_model.specs.Member.{Member, Each}
use Rattle.adr_model.specs.Update.{Update, RowOf, LinkOf, Holds, class_attr}
use Rattle.adr_model.specs.Reflects.{Numbers, HoldsObject}
use Rattle.adr_model.specs.Store.{Held, updates_of}
use Rattle.adr_model.specs.Take.{is_birth}
use Rattle.adr_model.specs.Formed.{AreRising, AreFormedRows, IsNamed, IsObjectFormed, IsLinkFormed}
use Rattle.adr_model.specs.Sound.{AreClassesKnown}
use Rattle.adr_law_calls.specs.Puts.{MayPut, ArePut, AreClosed}
use Rattle.adr_law_calls.specs.Forms.{IsWellSaid, MayChange, MayCome}
use Rattle.adr_law_calls.proofs.Rows.{row_of_unit, object_of_row, no_link_row}
use Rattle.adr_law_calls.proofs.FormedRows.{object_or_not, stood}
use Rattle.adr_law_calls.proofs.FormedMust.{must_above}
use Rattle.adr_law_calls.proofs.FormedSame.{named_same, held_same, births_same, object_same}
use Rattle.adr_law_calls.proofs.FormedObject.{births_put, changed_named, changed_formed, came_named, came_formed}
use Rattle.adr_law_calls.proofs.FormedOther.{other_back, other_to, link_formed, closed_put}

well_said : (table : Table) (before : List Update) (o : Oid) (class : ℕ) (us : List Update) → MayChange table before o class us ⊎ MayCome table before o class us → Each (IsWellSaid table class o) us
well_said table before o class us (inl c) = c.said
well_said table before o class us (inr c) = c.said

module _ (schema usn : ℕ) (before after : List Held) (V : Numbers) (o : Oid) (class : ℕ) (us : List Update) (may : MayPut (updates_of before) V (Object o) us) (put : ArePut usn us before after)
    (case : MayChange (numbered schema) (updates_of before) o class us ⊎ MayCome (numbered schema) (updates_of before) o class us) where
  abbrev table : Table
  table = numbered schema

  said : Each (IsWellSaid table class o) us
  said = well_said table (updates_of before) o class us case

  module _ (rising : AreRising after) (old : AreFormedRows table (updates_of before)) where
    named_itself : IsNamed (updates_of after) o
    named_itself = by case
      where
        by : MayChange table (updates_of before) o class us ⊎ MayCome table (updates_of before) o class us → IsNamed (updates_of after) o
        by (inl c) = changed_named table usn before after o class us put may.bare said (must_above schema class) c (old.named o (c.of_class.0, class_attr, c.of_class.1, c.of_class.2))
        by (inr c) = came_named table usn before after o class us put may.bare said (must_above schema class) c

    formed_itself : IsObjectFormed table (updates_of after) o
    formed_itself = by case
      where
        by : MayChange table (updates_of before) o class us ⊎ MayCome table (updates_of before) o class us → IsObjectFormed table (updates_of after) o
        by (inl c) = changed_formed table usn before after o class us put may.bare said (must_above schema class) c rising (old.objects o (c.of_class.0, class_attr, c.of_class.1, c.of_class.2))
        by (inr c) = came_formed table usn before after o class us put may.bare said (must_above schema class) c rising

    module _ (q : Oid) (other : q ≡ o → ⊥) where
      apart : Object q ≡ Object o → ⊥
      apart e = let same : q ≡ o = cc in other same

      to : (r : Update) (attr : ℕ) → r.key ≡ RowOf q attr → Member r (updates_of before) → Member r (updates_of after)
      to = other_to usn before after us put (Object o) may.of_unit q apart

      back : (r : Update) (attr : ℕ) → r.key ≡ RowOf q attr → Member r (updates_of after) → Member r (updates_of before)
      back = other_back usn before after us put (Object o) may.of_unit q apart

      named_other : HoldsObject (updates_of after) q → IsNamed (updates_of after) q
      named_other h = named_same (updates_of before) (updates_of after) q to (old.named q (held_same (updates_of before) (updates_of after) q to back h))

      formed_other : HoldsObject (updates_of after) q → IsObjectFormed table (updates_of after) q
      formed_other h = object_same (updates_of before) (updates_of after) q to back table (old.objects q (held_same (updates_of before) (updates_of after) q to back h))

      births_other : Each (λ r. r.key ≡ RowOf q class_attr → is_birth q r ≡ true) (updates_of after)
      births_other = births_same (updates_of before) (updates_of after) q to back (old.births q)

    named : (q : Oid) → HoldsObject (updates_of after) q → IsNamed (updates_of after) q
    named q h = ⊎_elim (λ e. subst (IsNamed (updates_of after)) (sym e) named_itself) (λ n. named_other q n h) (object_or_not q o)

    formed : (q : Oid) → HoldsObject (updates_of after) q → IsObjectFormed table (updates_of after) q
    formed q h = ⊎_elim (λ e. subst (IsObjectFormed table (updates_of after)) (sym e) formed_itself) (λ n. formed_other q n h) (object_or_not q o)

    births : (q : Oid) → Each (λ r. r.key ≡ RowOf q class_attr → is_birth q r ≡ true) (updates_of after)
    births q = by (object_or_not q o)
      where
        by : (q ≡ o) ⊎ (q ≡ o → ⊥) → Each (λ r. r.key ≡ RowOf q class_attr → is_birth q r ≡ true) (updates_of after)
        by (inl e) = subst (λ z. Each (λ r. r.key ≡ RowOf z class_attr → is_birth z r ≡ true) (updates_of after)) (sym e) (births_put table usn before after o class us put may.bare said (must_above schema class) (old.births o))
        by (inr n) = births_other q n

    none : (q : Oid) → Each (λ r. r.key ≡ RowOf q 0 → ⊥) (updates_of after)
    none q r m is = ⊎_elim (λ n. let same : q ≡ o = object_of_row r.key o q 0 (may.of_unit r n) is in (said r n).none (is ∙ ap (λ p. RowOf p 0) same)) (λ n. old.none q r n is) (stood usn before after us put r m)

    links : (l : LinkKey) → Each (λ r. r.key ≡ LinkOf l → IsLinkFormed table (updates_of after) l) (updates_of after)
    links l r m is = by (stood usn before after us put r m)
      where
        by : Member r us ⊎ Member r (updates_of before) → IsLinkFormed table (updates_of after) l
        by (inl n) = absurd (no_link_row r.key o l (may.of_unit r n) is)
        by (inr n) = let f : IsLinkFormed table (updates_of before) l = old.links l r n is in link_formed usn before after us put (Object o) may.of_unit table r l m is f.forward f.from f.to

  known : (c : ℕ) → c ≡ class → AreClassesKnown table (updates_of before) → IsSome (class_at table c)
  known c e old = by case
    where
      by : MayChange table (updates_of before) o class us ⊎ MayCome table (updates_of before) o class us → IsSome (class_at table c)
      by (inl change) = subst (λ z. IsSome (class_at table z)) (sym e) (old change.of_class.0 change.of_class.1 class change.of_class.3)
      by (inr come) = subst (λ z. IsSome (class_at table z)) (sym e) come.known

  -- a row that is put says the class of its object, or none
  said_class : (u : Update) → Member u us → (c : ℕ) → u.said ≡ Holds (Class c) → c ≡ class
  said_class u m c says = let t = row_of_unit u.key o (may.of_unit u m) in by t.0 t.1
    where
      by : (attr : ℕ) → u.key ≡ RowOf o attr → c ≡ class
      by zero is = absurd ((said u m).none is)
      by (suc zero) is = let e : u.said ≡ Holds (Class class) = ((said u m).of_class is).0 in cc
      by (suc (suc zero)) is = let t = (said u m).of_name is in let e : u.said ≡ Holds (Name t.0 t.1) = t.2 in cc
      by (suc (suc (suc zero))) is = let e : u.said ≡ Holds Dead = (said u m).of_death is in cc
      by (suc (suc (suc (suc n)))) is = let t = (said u m).of_values (suc (suc (suc (suc n)))) (omega arith) is in let e : u.said ≡ Holds (Values t.0) = t.1 in cc

pub objects_stay_formed : (schema usn : ℕ) (before after : List Held) (V : Numbers) (o : Oid) (class : ℕ) (us : List Update) → AreRising before → AreRising after → AreFormedRows (numbered schema) (updates_of before)
    → MayPut (updates_of before) V (Object o) us → ArePut usn us before after
    → MayChange (numbered schema) (updates_of before) o class us ⊎ MayCome (numbered schema) (updates_of before) o class us → AreFormedRows (numbered schema) (updates_of after)
objects_stay_formed schema usn before after V o class us _ rising old may put case = record {
  none = none schema usn before after V o class us may put case rising old;
  named = named schema usn before after V o class us may put case rising old;
  births = births schema usn before after V o class us may put case rising old;
  objects = formed schema usn before after V o class us may put case rising old;
  links = links schema usn before after V o class us may put case rising old;
}

pub classes_stay_known : (schema usn : ℕ) (before after : List Held) (V : Numbers) (o : Oid) (class : ℕ) (us : List Update) → AreClassesKnown (numbered schema) (updates_of before)
    → MayPut (updates_of before) V (Object o) us → ArePut usn us before after
    → MayChange (numbered schema) (updates_of before) o class us ⊎ MayCome (numbered schema) (updates_of before) o class us → AreClassesKnown (numbered schema) (updates_of after)
classes_stay_known schema usn before after V o class us old may put case u m c says =
    ⊎_elim (λ n. known schema usn before after V o class us may put case c (said_class schema usn before after V o class us may put case u n c says) old) (λ n. old u n c says) (stood usn before after us put u m)

pub objects_stay_closed : (usn : ℕ) (before after : List Held) (V : Numbers) (o : Oid) (us : List Update) → AreClosed V (updates_of before)
    → MayPut (updates_of before) V (Object o) us → ArePut usn us before after → AreClosed V (updates_of after)
objects_stay_closed usn before after V o us old may put = closed_put usn before after us put V old (λ r n l is. absurd (no_link_row r.key o l (may.of_unit r n) is))
