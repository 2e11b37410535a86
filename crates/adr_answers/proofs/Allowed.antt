-- What a schema knows and allows is printable.
use Rattle.std.proofs.Common.{◌≡◌, ℕ, ◌+◌, ◌<◌, ◌^◌, Bool, true, not, ◌&&◌, ◌||◌, get_or, Option, Some, None, refl, sym, ap, subst, arith}
use Rattle.std.specs.Prelude.{◌==◌, nat_lt, int_le, pos, negsuc, ℤ}
use Rattle.std.specs.List.{list_all}
use Rattle.std.specs.Option.{option_map}
use Rattle.std.specs.Int.Signed.{mag}
use Rattle.std.proofs.lemmas.Bool.{and_parts, eqb-true, leb-true, ltb-true}
use Rattle.std.proofs.lemmas.Option.{slice_get-get_or}
use Rattle.adr_values.specs.declared.content.Value.{Value as Item}
use Rattle.adr_values.specs.declared.content.Value.TheVariants.{Text, Number, Flag, Octets, Ref}
use Rattle.adr_values.specs.declared.table.Kind.{Kind}
use Rattle.adr_values.specs.declared.table.Kind.TheVariants.{Plain}
use Rattle.adr_values.specs.declared.table.Syntax.{Syntax}
use Rattle.adr_values.specs.declared.table.Syntax.TheVariants.{Text as OfText, Number as OfNumber, Flag as OfFlag, Octets as OfOctets, Ref as OfRef}
use Rattle.adr_values.specs.Extends.{Extends}
use Rattle.adr_values.specs.Numbered.{numbered}
use Rattle.adr_values.specs.Schemas.{newest, schema_2}
use Rattle.adr_values.specs.Table.{Attribute, Table, attribute_at, is_back, is_forward, is_link, kind_at}
use Rattle.adr_values.specs.Values.{fits}
use Rattle.adr_values.proofs.Extending.{second_is_last}
use Rattle.adr_token.proofs.Lists.{found, mapped}
use Rattle.adr_answers.specs.Laws.{AllowedValuesArePrintable, IsWholeReference, KnownClassesArePrintable, LinksArePrintable}
use Rattle.adr_answers.specs.Printable.{IsPrintableValue}
use Rattle.adr_answers.proofs.Names.{attribute_small, class_small}

-- the newest schema has all that a schema has
in_newest : (number : ℕ) → Extends (numbered number) newest
in_newest = second_is_last

-- the ranges of numbers lie within 64 bits
is_narrow : Kind → Bool
is_narrow (Plain (OfNumber least greatest) most) = nat_lt (mag least) 9223372036854775808 && nat_lt (mag greatest) 9223372036854775808
is_narrow kind = true

attributes_narrow : list_all (λ (a : Attribute). is_narrow a.kind) newest.attributes ≡ true
unfolding is_narrow schema_2
attributes_narrow = refl

upper : (n : ℕ) (greatest : ℤ) → mag greatest < 2 ^ 63 → int_le (pos n) greatest ≡ true → n < 2 ^ 63
upper n (pos b) h e = let below = leb-true n b e in omega arith
upper n (negsuc b) h e = absurd (cc)

lower : (n : ℕ) (least : ℤ) → mag least < 2 ^ 63 → int_le least (negsuc n) ≡ true → n < 2 ^ 63
lower n (pos b) h e = absurd (cc)
lower n (negsuc b) h e = let below = leb-true n b e in omega arith

within : (z least greatest : ℤ) → mag least < 2 ^ 63 → mag greatest < 2 ^ 63 → (int_le least z && int_le z greatest) ≡ true → mag z < 2 ^ 63
within (pos n) least greatest hl hg e = upper n greatest hg (and_parts (int_le least (pos n)) (int_le (pos n) greatest) e).1
within (negsuc n) least greatest hl hg e = lower n least hl (and_parts (int_le least (negsuc n)) (int_le (negsuc n) greatest) e).0

number_told : (syntax : Syntax) (most : ℕ) (z : ℤ) → is_narrow (Plain syntax most) ≡ true → fits syntax (Number z) ≡ true → mag z < 2 ^ 63
unfolding is_narrow
number_told (OfNumber least greatest) most z narrow e =
    let parts = and_parts (nat_lt (mag least) 9223372036854775808) (nat_lt (mag greatest) 9223372036854775808) narrow in
    within z least greatest (ltb-true (mag least) 9223372036854775808 parts.0) (ltb-true (mag greatest) 9223372036854775808 parts.1) e
number_told (OfText least greatest) most z narrow e = absurd (cc)
number_told OfFlag most z narrow e = absurd (cc)
number_told (OfOctets least greatest) most z narrow e = absurd (cc)
number_told OfRef most z narrow e = absurd (cc)

value_told : (syntax : Syntax) (most : ℕ) (v : Item) → is_narrow (Plain syntax most) ≡ true → fits syntax v ≡ true → IsWholeReference v → IsPrintableValue v
value_told syntax most (Text text) narrow e whole = tt
value_told syntax most (Number number) narrow e whole = number_told syntax most number narrow e
value_told syntax most (Flag flag) narrow e whole = tt
value_told syntax most (Octets octets) narrow e whole = tt
value_told syntax most (Ref id) narrow e whole = whole

pub classes : KnownClassesArePrintable
classes schema class there = class_small class ((in_newest schema).known class there)

pub values : AllowedValuesArePrintable
values schema class attr vs h whole =
    let plain : kind_at newest attr ≡ Some (Plain h.syntax h.most) = (in_newest schema).kinds attr (Plain h.syntax h.most) h.plain in
    let there = mapped (λ (a : Attribute). a.kind) (attribute_at newest attr) (Plain h.syntax h.most) plain in
    let narrow = (found (λ (a : Attribute). a.number == attr) (λ (a : Attribute). is_narrow a.kind) newest.attributes there.0 attributes_narrow there.1).1 in
    record {
      no_link = ap is_link plain;
      attribute = attribute_small attr there.0 there.1;
      values = λ k d below.
          value_told h.syntax h.most (get_or vs k d) (subst (λ kind. is_narrow kind ≡ true) there.2 narrow) (h.right.fit k (get_or vs k d) (slice_get-get_or vs k d below)) (whole k d below);
    }

-- behind each forward link stands a back link
is_paired : Attribute → Bool
is_paired a = not (is_forward (Some a.kind)) || is_link (kind_at newest (a.number + 1))

attributes_paired : list_all is_paired newest.attributes ≡ true
unfolding is_paired schema_2
attributes_paired = refl

back_at : (attr : ℕ) (o : Option Attribute) → attribute_at newest attr ≡ o → is_forward (option_map (λ (a : Attribute). a.kind) o) ≡ true → is_link (kind_at newest (attr + 1)) ≡ true
unfolding is_paired
back_at attr None e h = absurd (cc)
back_at attr (Some a) e h =
    let there = found (λ (x : Attribute). x.number == attr) is_paired newest.attributes a attributes_paired e in
    let paired : (not (is_forward (Some a.kind)) || is_link (kind_at newest (a.number + 1))) ≡ true = there.1 in
    let back : is_link (kind_at newest (a.number + 1)) ≡ true = rw h at paired in
    subst (λ n. is_link (kind_at newest (n + 1)) ≡ true) (eqb-true a.number attr there.0) back

-- a forward link stays one
forward_kept : (t u : Table) (attr : ℕ) → Extends t u → is_forward (kind_at t attr) ≡ true → is_forward (kind_at u attr) ≡ true
forward_kept t u attr more h = by (kind_at t attr) refl h
  where
    by : (o : Option Kind) → kind_at t attr ≡ o → is_forward o ≡ true → is_forward (kind_at u attr) ≡ true
    by None is h = absurd (cc)
    by (Some kind) is h = subst (λ o. is_forward o ≡ true) (sym (more.kinds attr kind is)) h

pub links : LinksArePrintable
links schema attr guids h whole =
    let forward : is_forward (kind_at newest attr) ≡ true = forward_kept (numbered schema) newest attr (in_newest schema) h in
    (record { link = ap (λ b. b || is_back (kind_at newest attr)) forward; ends = whole }, record { link = back_at attr (attribute_at newest attr) refl forward; ends = whole })
