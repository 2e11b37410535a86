-- What rows of an object say: a class with its birth, a name, a death, or values that may be held.
use Rattle.std.proofs.Common.{◌≡◌, ℕ, ◌<◌, List, true, None, sym, ◌∙◌, subst, arith}
use Rattle.adr_values.specs.declared.stamp.Oid.{Oid}
use Rattle.adr_values.specs.declared.content.Value.{Value as Datum}
use Rattle.adr_values.specs.declared.content.Content.TheVariants.{Class, Name, Dead, Values}
use Rattle.adr_values.specs.Table.{Table}
use Rattle.adr_values.specs.Allowed.{MayBeHeld}
use Rattle.adr_values.specs.Names.{name_fault}
use Rattle.adr_model.specs.Member.{Each}
use Rattle.adr_model.specs.Update.{Identifier, RowOf, Holds, Update, class_attr, name_attr, deleted_attr}
use Rattle.adr_model.specs.Take.{is_birth}
use Rattle.adr_law_calls.specs.Forms.{IsWellSaid, MayChange}
use Rattle.adr_law_calls.specs.MayWrites.{IsLive, IsHeldAlive}

pub live_is_held : (rows : List Update) (o : Oid) (class : ℕ) → IsLive rows o class → IsHeldAlive rows o
live_is_held rows o class live = ((live.of_class.0, class_attr, live.of_class.1, live.of_class.2), live.alive)

-- rows of a live object change it
pub may_change : (table : Table) (rows us : List Update) (o : Oid) (class : ℕ) → IsLive rows o class → Each (IsWellSaid table class o) us → MayChange table rows o class us
may_change table rows us o class live said = record { of_class = live.of_class; said = said; dead = λ t. absurd (live.alive t) }

module _ (table : Table) (class : ℕ) (o : Oid) (u : Update) where
  same_attr : (a b : ℕ) → u.key ≡ RowOf o a → u.key ≡ RowOf o b → a ≡ b
  same_attr a b p q = let e : RowOf o a ≡ RowOf o b = sym p ∙ q in cc

  -- two attributes of one row
  never : (P : Type 0) (a b : ℕ) → u.key ≡ RowOf o a → u.key ≡ RowOf o b → a < b → P
  never P a b p q less = absurd (omega (arith, same_attr a b p q, less))

  pub class_well_said : u.key ≡ RowOf o class_attr → u.said ≡ Holds (Class class) → is_birth o u ≡ true → IsWellSaid table class o u
  class_well_said is said birth = record {
    none = λ e. never ⊥ 0 class_attr e is (omega arith);
    of_class = λ e. (said, birth);
    of_name = λ e. never _ class_attr name_attr is e (omega arith);
    of_death = λ e. never _ class_attr deleted_attr is e (omega arith);
    of_values = λ attr above e. never _ class_attr attr is e (omega (arith, above));
  }

  pub name_well_said : (text : List ℕ) (parent : Identifier) → u.key ≡ RowOf o name_attr → u.said ≡ Holds (Name text parent) → name_fault text ≡ None → IsWellSaid table class o u
  name_well_said text parent is said right = record {
    none = λ e. never ⊥ 0 name_attr e is (omega arith);
    of_class = λ e. never _ class_attr name_attr e is (omega arith);
    of_name = λ e. (text, parent, said, right);
    of_death = λ e. never _ name_attr deleted_attr is e (omega arith);
    of_values = λ attr above e. never _ name_attr attr is e (omega (arith, above));
  }

  pub death_well_said : u.key ≡ RowOf o deleted_attr → u.said ≡ Holds Dead → IsWellSaid table class o u
  death_well_said is said = record {
    none = λ e. never ⊥ 0 deleted_attr e is (omega arith);
    of_class = λ e. never _ class_attr deleted_attr e is (omega arith);
    of_name = λ e. never _ name_attr deleted_attr e is (omega arith);
    of_death = λ e. said;
    of_values = λ attr above e. never _ deleted_attr attr is e above;
  }

  pub values_well_said : (a : ℕ) (vs : List Datum) → deleted_attr < a → u.key ≡ RowOf o a → u.said ≡ Holds (Values vs) → MayBeHeld table class a vs → IsWellSaid table class o u
  values_well_said a vs above is said may = record {
    none = λ e. never ⊥ 0 a e is (omega (arith, above));
    of_class = λ e. never _ class_attr a e is (omega (arith, above));
    of_name = λ e. never _ name_attr a e is (omega (arith, above));
    of_death = λ e. never _ deleted_attr a e is above;
    of_values = λ attr above e. (vs, said, subst (λ n. MayBeHeld table class n vs) (same_attr a attr is e) may);
  }
