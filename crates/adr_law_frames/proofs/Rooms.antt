-- How many bytes the row of each attribute has at most, by the newest schema, and all of an object's rows together.
use Rattle.std.proofs.Common.{◌≡◌, inl, inr, ℕ, zero, suc, ◌+◌, ◌*◌, ◌<◌, ◌≤◌, List, [], ◌∷◌, length, fold, Bool, true, false, nat_lt, nat_le, ◌==◌, if◌then◌else◌, Option, Some, None, refl, ap, subst, arith}
use Rattle.std.specs.List.{list_all}
use Rattle.std.specs.Option.{option_map}
use Rattle.std.proofs.lemmas.Bool.{and_parts, leb-true, ltb-true, eqb-true, eqb-false}
use Rattle.std.proofs.lemmas.Nat.{mul-le}
use Rattle.adr_values.specs.declared.content.Value.{Value as Datum}
use Rattle.adr_values.specs.declared.content.Value.TheVariants.{Text, Number, Flag, Octets, Ref}
use Rattle.adr_values.specs.declared.table.Kind.{Kind}
use Rattle.adr_values.specs.declared.table.Kind.TheVariants.{Plain}
use Rattle.adr_values.specs.declared.table.Syntax.{Syntax}
use Rattle.adr_values.specs.declared.table.Syntax.TheVariants.{Text as OfText, Number as OfNumber, Flag as OfFlag, Octets as OfOctets, Ref as OfRef}
use Rattle.adr_values.specs.Table.{Attribute, attribute_at, kind_at}
use Rattle.adr_values.specs.Schemas.{schema_2}
use Rattle.adr_values.specs.Values.{fits, is_within}
use Rattle.adr_model.specs.Member.{Each}
use Rattle.adr_model.specs.Serve.{value_length, content_length}
use Rattle.adr_model.specs.Update.{Key, RowOf, LinkOf, Update}
use Rattle.adr_model.proofs.Members.{each_passes, found_member}

-- ---- values

abbrev pub value_room : Syntax → ℕ
value_room (OfText least greatest) = 3 + greatest
value_room (OfNumber least greatest) = 9
value_room OfFlag = 2
value_room (OfOctets least greatest) = 3 + greatest
value_room OfRef = 17

within_greatest : (least greatest n : ℕ) → is_within least greatest n ≡ true → n ≤ greatest
within_greatest least greatest n e = leb-true n greatest (and_parts (nat_le least n) (nat_le n greatest) e).1

value_fits : (syntax : Syntax) (v : Datum) → fits syntax v ≡ true → value_length v ≤ value_room syntax
value_fits (OfText least greatest) (Text bytes) e = let most = within_greatest least greatest (length bytes) e in omega arith
value_fits (OfNumber least greatest) (Number n) e = omega arith
value_fits OfFlag (Flag b) e = omega arith
value_fits (OfOctets least greatest) (Octets bytes) e = let most = within_greatest least greatest (length bytes) e in omega arith
value_fits OfRef (Ref guid) e = omega arith
value_fits syntax v e = absurd (cc)

values_within : (room n : ℕ) (vs : List Datum) → Each (λ v. value_length v ≤ room) vs → fold (λ m v. m + value_length v) n vs ≤ n + length vs * room
values_within room n [] each = omega arith
values_within room n (v ∷ vs) each =
    let rest = values_within room (n + value_length v) vs (λ w m. each w (inr m)) in
    let here = each v (inl refl) in
    let more : suc (length vs) * room ≡ room + length vs * room = omega arith in
    omega arith

-- the values of a list that a schema allows
pub values_fit : (syntax : Syntax) (most : ℕ) (vs : List Datum) → length vs ≤ most → Each (λ v. fits syntax v ≡ true) vs
    → fold (λ m v. m + value_length v) 0 vs ≤ most * value_room syntax
values_fit syntax most vs few fit =
    let all = values_within (value_room syntax) 0 vs (λ v m. value_fits syntax v (fit v m)) in
    let up : length vs * value_room syntax ≤ most * value_room syntax = mul-le (length vs) (value_room syntax) most (value_room syntax) few (omega arith) in
    omega arith

-- ---- rows: an attribute's number and a stamp have 38 bytes

abbrev pub kind_room : Option Kind → ℕ
kind_room (Some (Plain syntax most)) = 39 + most * value_room syntax
kind_room _ = 0

-- a class, a name of at most 128 bytes under its parent, and a death
abbrev pub reserved_room : ℕ → ℕ
reserved_room attr = if attr == 1 then 40 else if attr == 2 then 184 else if attr == 3 then 38 else 0

unfoldable pub room : ℕ → ℕ
room attr = reserved_room attr + kind_room (kind_at schema_2 attr)

-- attributes have numbers below this
abbrev pub attribute_limit : ℕ
attribute_limit = 36

pub class_room : 40 ≤ room 1
unfolding room
class_room = omega arith

pub name_room : 184 ≤ room 2
unfolding room
name_room = omega arith

pub death_room : 38 ≤ room 3
unfolding room
death_room = omega arith

pub plain_room : (attr : ℕ) (syntax : Syntax) (most : ℕ) → kind_at schema_2 attr ≡ Some (Plain syntax most) → 39 + most * value_room syntax ≤ room attr
unfolding room
plain_room attr syntax most e = let here = ap kind_room e in omega arith

numbers_below : list_all (λ (a : Attribute). nat_lt a.number attribute_limit) schema_2.attributes ≡ true
unfolding schema_2
numbers_below = refl

pub kind_below : (attr : ℕ) (kind : Kind) → kind_at schema_2 attr ≡ Some kind → attr < attribute_limit
kind_below attr kind e = by (attribute_at schema_2 attr) refl e
  where
    by : (o : Option Attribute) → attribute_at schema_2 attr ≡ o → option_map (λ (a : Attribute). a.kind) o ≡ Some kind → attr < attribute_limit
    by None is h = absurd (cc)
    by (Some a) is h =
        let t = found_member (λ (b : Attribute). b.number == attr) schema_2.attributes a is in
        let low = ltb-true a.number attribute_limit (each_passes (λ (b : Attribute). nat_lt b.number attribute_limit) schema_2.attributes numbers_below a t.0) in
        let same = eqb-true a.number attr t.1 in
        omega arith

-- ---- all rows of an object

-- the room of so many attributes from one on
unfoldable pub rooms : ℕ → ℕ → ℕ
rooms zero from = 0
rooms (suc n) from = room from + rooms n (suc from)

pub all_rooms : 43 + rooms attribute_limit 0 ≡ 4762
unfolding rooms room schema_2
all_rooms = refl

abbrev pub attr_of : Key → ℕ
attr_of (RowOf o attr) = attr
attr_of (LinkOf l) = 0

abbrev pub row_cost : Update → ℕ
row_cost u = 38 + content_length u.said

-- attributes rise from one on, and each row has room
abbrev pub HaveRoom : ℕ → ℕ → List Update → Type 0
HaveRoom from end [] = Unit {0}
HaveRoom from end (u ∷ us) = (from ≤ attr_of u.key) × (attr_of u.key < end) × (row_cost u ≤ room (attr_of u.key)) × HaveRoom (suc (attr_of u.key)) end us

abbrev pub all_rows : ℕ → List Update → ℕ
all_rows m us = fold (λ k (u : Update). k + 38 + content_length u.said) m us

pub rows_within : (n from end m : ℕ) (us : List Update) → end ≡ from + n → HaveRoom from end us
    → all_rows m us ≤ m + rooms n from
unfolding rooms
rows_within zero from end m [] e fit = omega arith
rows_within zero from end m (u ∷ us) e fit = absurd (omega (arith, fit.0, fit.1))
rows_within (suc n) from end m [] e fit = omega arith
rows_within (suc n) from end m (u ∷ us) e fit = by (attr_of u.key == from) refl
    (λ k fits. rows_within n (suc from) end k us (omega arith) fits) (λ fits. rows_within n (suc from) end m (u ∷ us) (omega arith) fits)
  where
    by : (b : Bool) → (attr_of u.key == from) ≡ b
        → ((k : ℕ) → HaveRoom (suc from) end us → all_rows k us ≤ k + rooms n (suc from))
        → (HaveRoom (suc from) end (u ∷ us) → all_rows m (u ∷ us) ≤ m + rooms n (suc from))
        → all_rows m (u ∷ us) ≤ m + (room from + rooms n (suc from))
    by true is after all_after =
        let same = eqb-true (attr_of u.key) from is in
        let here = subst (λ (k : ℕ). row_cost u ≤ room k) same fit.2 in
        let rest = after (m + 38 + content_length u.said) (subst (λ (k : ℕ). HaveRoom (suc k) end us) same fit.3) in
        omega arith
    by false is after all_after =
        let other = eqb-false (attr_of u.key) from is in
        let low : suc from ≤ attr_of u.key = omega (arith, fit.0) in
        let rest = all_after (low, fit.1, fit.2, fit.3) in
        omega arith
