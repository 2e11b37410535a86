-- What a schema accepts is in the ranges of a record, whichever schema it is.
use Rattle.std.proofs.Common.{◌≡◌, ℕ, ◌<◌, ◌≤◌, List, [], ◌∷◌, Bool, true, false, ◌&&◌, Option, Some, None, inl, inr, refl, sym, ap, length, arith, ◌∙◌, ◌==◌, if◌then◌else◌}
use Rattle.std.specs.Prelude.{is_some, nat_lt, nat_le}
use Rattle.std.specs.List.{list_all, AllByRecursion}
use Rattle.std.specs.Option.{option_map}
use Rattle.std.proofs.lemmas.Bool.{and_parts, ltb-true, ltb-false, leb-true, eqb-true, ne_eqb}
use Rattle.adr_values.specs.declared.content.Value.{Value as Datum}
use Rattle.adr_values.specs.declared.content.Value.TheVariants.{Text, Number, Flag, Octets, Ref}
use Rattle.adr_values.specs.declared.content.Content.TheVariants.{Values}
use Rattle.adr_values.specs.declared.table.Syntax.{Syntax}
use Rattle.adr_values.specs.declared.table.Syntax.TheVariants.{Text as OfText, Number as OfNumber, Flag as OfFlag, Octets as OfOctets, Ref as OfRef}
use Rattle.adr_values.specs.declared.table.Kind.{Kind}
use Rattle.adr_values.specs.declared.table.Kind.TheVariants.{Reserved, Plain, Forward, Back}
use Rattle.adr_values.specs.Table.{Table, Attribute, Class as ClassOf, class_at, attribute_at, kind_at, is_forward}
use Rattle.adr_values.specs.Schemas.{schema_1, schema_2}
use Rattle.adr_values.specs.Numbered.{numbered}
use Rattle.adr_values.specs.Names.{name_fault, is_wrong_byte}
use Rattle.adr_values.specs.Places.{first_place}
use Rattle.adr_values.specs.Values.{fits, is_within}
use Rattle.adr_values.specs.Allowed.{IsAllowed}
use Rattle.adr_wire.specs.Ranges.{IsU16, IsValue, IsContent}
use Rattle.adr_model.specs.Member.{Each}
use Rattle.adr_model.specs.Update.{deleted_attr}
use Rattle.adr_model.proofs.Members.{found_member, each_passes}
use Rattle.adr_law_calls.proofs.Values.{place_of}
use Rattle.adr_law_recorded.specs.Typed.{IsTypedValue}

-- ---- the bounds of a table, which are computed

abbrev is_syntax_small : Syntax → Bool
is_syntax_small (OfText least greatest) = nat_lt greatest 65536
is_syntax_small (OfNumber least greatest) = true
is_syntax_small OfFlag = true
is_syntax_small (OfOctets least greatest) = nat_lt greatest 65536
is_syntax_small OfRef = true

abbrev is_kind_small : Kind → Bool
is_kind_small Reserved = true
is_kind_small (Plain syntax most) = nat_lt most 256 && is_syntax_small syntax
is_kind_small (Forward back) = true
is_kind_small (Back forward) = true

abbrev is_attribute_small : Attribute → Bool
is_attribute_small a = nat_lt a.number 65536 && is_kind_small a.kind

abbrev is_class_small : ClassOf → Bool
is_class_small c = nat_lt c.number 65536

abbrev is_table_small : Table → Bool
is_table_small t = list_all is_class_small t.classes && list_all is_attribute_small t.attributes

one_is_small : is_table_small schema_1 ≡ true
unfolding schema_1
one_is_small = refl

two_is_small : is_table_small schema_2 ≡ true
unfolding schema_2
two_is_small = refl

each_is_small : (number : ℕ) → is_table_small (numbered number) ≡ true
each_is_small number = by (nat_le number 1)
  where
    by : (b : Bool) → is_table_small (if b then schema_1 else schema_2) ≡ true
    by true = one_is_small
    by false = two_is_small

-- ---- numbers

module _ (t : Table) (small : is_table_small t ≡ true) where
  class_small : (class : ℕ) → is_some (class_at t class) ≡ true → IsU16 class
  class_small class known = by (class_at t class) refl known
    where
      by : (o : Option ClassOf) → class_at t class ≡ o → is_some o ≡ true → IsU16 class
      by None is there = absurd (cc)
      by (Some c) is there =
          let m = found_member (λ (x : ClassOf). x.number == class) t.classes c is in
          let passes = each_passes is_class_small t.classes (and_parts (list_all is_class_small t.classes) _ small).0 c m.0 in
          omega (arith, ltb-true c.number 65536 passes, eqb-true c.number class m.1)

  kind_small : (attr : ℕ) (kind : Kind) → kind_at t attr ≡ Some kind → IsU16 attr × (is_kind_small kind ≡ true)
  kind_small attr kind known = by (attribute_at t attr) refl known
    where
      by : (o : Option Attribute) → attribute_at t attr ≡ o → option_map (λ (a : Attribute). a.kind) o ≡ Some kind
          → IsU16 attr × (is_kind_small kind ≡ true)
      by None is there = absurd (cc)
      by (Some a) is there =
          let m = found_member (λ (x : Attribute). x.number == attr) t.attributes a is in
          let passes = each_passes is_attribute_small t.attributes (and_parts (list_all is_class_small t.classes) _ small).1 a m.0 in
          let parts = and_parts (nat_lt a.number 65536) (is_kind_small a.kind) passes in
          let same : a.kind ≡ kind = cc in
          (omega (arith, ltb-true a.number 65536 parts.0, eqb-true a.number attr m.1), ap is_kind_small (sym same) ∙ parts.1)

  forward_small : (attr : ℕ) → is_forward (kind_at t attr) ≡ true → IsU16 attr
  forward_small attr forward = by (kind_at t attr) refl forward
    where
      by : (o : Option Kind) → kind_at t attr ≡ o → is_forward o ≡ true → IsU16 attr
      by None is is_one = absurd (cc)
      by (Some kind) is is_one = (kind_small attr kind is).0

pub class_in_range : (schema class : ℕ) → is_some (class_at (numbered schema) class) ≡ true → IsU16 class
class_in_range schema = class_small (numbered schema) (each_is_small schema)

pub forward_in_range : (schema attr : ℕ) → is_forward (kind_at (numbered schema) attr) ≡ true → IsU16 attr
forward_in_range schema = forward_small (numbered schema) (each_is_small schema)

-- ---- names and values

pub name_is_short : (text : List ℕ) → name_fault text ≡ None → length text ≤ 128
unfolding name_fault
name_is_short text none = by (length text == 0) (nat_lt 128 (length text)) refl none
  where
    by : (b c : Bool) → nat_lt 128 (length text) ≡ c
        → (if b then Some 0 else (if c then Some 128 else first_place (is_wrong_byte text) (length text))) ≡ None
        → length text ≤ 128
    by true c is nothing = absurd (cc)
    by false true is nothing = absurd (cc)
    by false false is nothing = ltb-false 128 (length text) is

bytes_small : (least greatest : ℕ) (bytes : List ℕ) → nat_lt greatest 65536 ≡ true
    → is_within least greatest (length bytes) ≡ true → IsU16 (length bytes)
bytes_small least greatest bytes small within =
    let above = and_parts (nat_le least (length bytes)) (nat_le (length bytes) greatest) within in
    omega (arith, ltb-true greatest 65536 small, leb-true (length bytes) greatest above.1)

value_in_range : (syntax : Syntax) (v : Datum) → is_syntax_small syntax ≡ true → fits syntax v ≡ true
    → IsTypedValue v → IsValue v
value_in_range (OfText least greatest) (Text bytes) small fit typed = (bytes_small least greatest bytes small fit, typed)
value_in_range (OfOctets least greatest) (Octets bytes) small fit typed = bytes_small least greatest bytes small fit
value_in_range syntax (Number n) small fit typed = typed
value_in_range syntax (Flag b) small fit typed = tt
value_in_range syntax (Ref guid) small fit typed = typed
value_in_range _ _ small fit typed = absurd (cc)

pub all_in : {A : Type 0} (P : A → Type 0) (xs : List A) → Each P xs → AllByRecursion P xs
all_in P [] each = tt
all_in P (x ∷ xs) each = (each x (inl refl), all_in P xs (λ y m. each y (inr m)))

pub values_in_range : (schema class attr : ℕ) (vs : List Datum) → IsAllowed (numbered schema) class attr vs
    → deleted_attr < attr → Each IsTypedValue vs → IsU16 attr × IsContent attr (Values vs)
values_in_range schema class attr vs allowed above typed = (
  kind.0,
  (
    ne_eqb attr 1 (λ e. omega (arith, above, e)),
    ne_eqb attr 2 (λ e. omega (arith, above, e)),
    ne_eqb attr 3 (λ e. omega (arith, above, e)),
    omega (arith, allowed.right.few, ltb-true allowed.most 256 bounds.0),
    all_in IsValue vs each,
  ),
)
  where
    kind : IsU16 attr × (is_kind_small (Plain allowed.syntax allowed.most) ≡ true)
    kind = kind_small (numbered schema) (each_is_small schema) attr (Plain allowed.syntax allowed.most) allowed.plain

    bounds : (nat_lt allowed.most 256 ≡ true) × (is_syntax_small allowed.syntax ≡ true)
    bounds = and_parts (nat_lt allowed.most 256) (is_syntax_small allowed.syntax) kind.1

    each : Each IsValue vs
    each v m = let p = place_of vs v m in
        value_in_range allowed.syntax v bounds.1 (allowed.right.fit p.0 v p.1) (typed v m)
