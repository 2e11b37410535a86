-- The data of an entry tells the entry.
use Rattle.std.proofs.Common.{◌≡◌, ℕ, ◌<◌, ◌^◌, ℤ, pos, negsuc, inl, List, [], ◌∷◌, ◌++◌, Option, Some, map, true, flat_map, refl, sym, ap, subst, ◌∙◌, arith}
use Rattle.std.specs.Prelude.{All, codes}
use Rattle.std.proofs.lemmas.List.Elements.{All-head, All-tail}
use Rattle.uuid.specs.Text.{hyphenated_text, lower, parsed}
use Rattle.uuid.proofs.RoundTrips.{parses_hyphenated}
use Rattle.serde_json.specs.Data.{Data, string}
use Rattle.serde_json.specs.Find.{of_integer}
use Rattle.serde_json.specs.Read.{read}
use Rattle.serde_json.specs.View.{items_of}
use Rattle.adr_values.specs.declared.content.Value.{Value as Item}
use Rattle.adr_values.specs.declared.content.Value.TheVariants.{Text, Number, Flag, Octets, Ref}
use Rattle.adr_values.specs.declared.table.Kind.{Kind}
use Rattle.adr_values.specs.declared.table.Kind.TheVariants.{Plain}
use Rattle.adr_values.specs.declared.table.Syntax.{Syntax}
use Rattle.adr_values.specs.declared.table.Syntax.TheVariants.{Text as OfText, Number as OfNumber, Flag as OfFlag, Octets as OfOctets, Ref as OfRef}
use Rattle.adr_values.specs.Schemas.{newest}
use Rattle.adr_values.specs.Table.{kind_at}
use Rattle.adr_call.specs.declared.directory.Entry.{Entry}
use Rattle.adr_token.specs.Laws.{IsIdentifier}
use Rattle.adr_token.specs.Spelling.{class_token, two_figures, value_token}
use Rattle.adr_answers.specs.Printable.{ArePrintableLinks, ArePrintableValues, IsPrintable, IsPrintableEntry, IsPrintableValue}
use Rattle.adr_answers.proofs.Names.{classes_divide, link_small}
use Rattle.adr_answers.proofs.Values.{value_divide}
use Rattle.adr_json.specs.Text.{array_by, entry_json, identifier_json, json_text, object_by, value_json}
use Rattle.adr_json.specs.Exportable.{AreOfKind, IsExportable, IsExportableEntry, is_of_kind, is_of_syntax}
use Rattle.adr_json.specs.Laws.{EqualJsonMeansEqualDirectories, JsonReadsBack}
use Rattle.adr_json.proofs.Numbers.{AllNumbers, OfValue, of_entry, of_items}
use Rattle.adr_json.proofs.Texts.{IsSmall}
use Rattle.adr_json.proofs.Ordered.{directory_ordered}
use Rattle.adr_json.proofs.Depths.{directory_within}
use Rattle.adr_json.proofs.ReadBack.{reads_back}
use Rattle.adr_json.proofs.Attributes.{attributes_same}

-- an array tells its elements
items_same : {A : Type 0} (f : A → Data) (P : A → Type 0) → ((a b : A) → P a → P b → f a ≡ f b → a ≡ b) → (xs ys : List A) → All P xs → All P ys
    → items_of (map f xs) ≡ items_of (map f ys) → xs ≡ ys
items_same f P one [] [] hx hy h = refl
items_same f P one [] (y ∷ ys) hx hy h = absurd (cc)
items_same f P one (x ∷ xs) [] hx hy h = absurd (cc)
items_same f P one (x ∷ xs) (y ∷ ys) hx hy h =
    let first : f x ≡ f y = cc in
    let rest : items_of (map f xs) ≡ items_of (map f ys) = cc in
    let at : x ≡ y = one x y (All-head P x xs hx) (All-head P y ys hy) first in
    let more : xs ≡ ys = items_same f P one xs ys (All-tail P x xs hx) (All-tail P y ys hy) rest in
    λ i. at i ∷ more i

arrays_same : {A : Type 0} (f : A → Data) (P : A → Type 0) → ((a b : A) → P a → P b → f a ≡ f b → a ≡ b) → (xs ys : List A) → All P xs → All P ys
    → array_by f xs ≡ array_by f ys → xs ≡ ys
arrays_same f P one xs ys hx hy h =
    let inside : items_of (map f xs) ≡ items_of (map f ys) = cc in
    items_same f P one xs ys hx hy inside

strings_same : (s t : List ℕ) → string s ≡ string t → s ≡ t
strings_same s t h = cc

some_same : (s t : List ℕ) → ◌≡◌ {A = Option (List ℕ)} (Some s) (Some t) → s ≡ t
some_same s t h = cc

identifier_same : (i j : List ℕ) → IsIdentifier i → IsIdentifier j → identifier_json i ≡ identifier_json j → i ≡ j
identifier_same i j hi hj h =
    let texts : hyphenated_text lower i ≡ hyphenated_text lower j = strings_same _ _ h in
    some_same i j (parses_hyphenated lower i (inl refl) hi.0 hi.1 ∙ ap parsed texts ∙ sym (parses_hyphenated lower j (inl refl) hj.0 hj.1))

-- values of one syntax
sort : Item → ℕ
sort (Text text) = 0
sort (Number number) = 1
sort (Flag flag) = 2
sort (Octets octets) = 3
sort (Ref id) = 4

sort_of_syntax : Syntax → ℕ
sort_of_syntax (OfText least greatest) = 0
sort_of_syntax (OfNumber least greatest) = 1
sort_of_syntax OfFlag = 2
sort_of_syntax (OfOctets least greatest) = 3
sort_of_syntax OfRef = 4

of_syntax : (s : Syntax) (v : Item) → is_of_syntax s v ≡ true → sort v ≡ sort_of_syntax s
unfolding sort sort_of_syntax
of_syntax (OfText least greatest) (Text text) h = refl
of_syntax (OfNumber least greatest) (Number n) h = refl
of_syntax OfFlag (Flag flag) h = refl
of_syntax (OfOctets least greatest) (Octets octets) h = refl
of_syntax OfRef (Ref id) h = refl
of_syntax s v h = absurd (cc)

of_kind : (k : Option Kind) (v w : Item) → is_of_kind k v ≡ true → is_of_kind k w ≡ true → sort v ≡ sort w
of_kind (Some (Plain syntax most)) v w hv hw = of_syntax syntax v hv ∙ sym (of_syntax syntax w hw)
of_kind k v w hv hw = absurd (cc)

integer_same : (y z : ℤ) → of_integer y ≡ of_integer z → y ≡ z
integer_same (pos m) (pos n) h =
    let inside : m ≡ n = cc in
    ap pos inside
integer_same (negsuc m) (negsuc n) h = cc
integer_same (pos m) (negsuc n) h = absurd (cc)
integer_same (negsuc m) (pos n) h = absurd (cc)

figures_same : (x y : List ℕ) → flat_map two_figures x ≡ flat_map two_figures y → Octets x ≡ Octets y
unfolding value_token
figures_same x y h = (value_divide (Octets x) (Octets y) [] [] tt tt refl refl (ap (λ (z : List ℕ). (codes "x" ++ z) ++ []) h)).0

value_same : (v w : Item) → sort v ≡ sort w → IsPrintableValue v → IsPrintableValue w → value_json v ≡ value_json w → v ≡ w
unfolding sort
value_same (Text x) (Text y) k hv hw h = ap Text (strings_same x y h)
value_same (Number y) (Number z) k hv hw h =
    let inside : of_integer y ≡ of_integer z = cc in
    ap Number (integer_same y z inside)
value_same (Flag a) (Flag b) k hv hw h =
    let inside : a ≡ b = cc in
    ap Flag inside
value_same (Octets x) (Octets y) k hv hw h = figures_same x y (strings_same _ _ h)
value_same (Ref i) (Ref j) k hv hw h = ap Ref (identifier_same i j hv hw h)
value_same v w k hv hw h = absurd (omega arith)

-- an attribute with its values
record AreTold (v : ℕ × List Item) : Type 0 where
  printable : ArePrintableValues v
  kinds : AreOfKind v

record IsTold (attr : ℕ) (v : Item) : Type 0 where
  printable : IsPrintableValue v
  kind : is_of_kind (kind_at newest attr) v ≡ true

values_same : (v w : ℕ × List Item) → AreTold v → AreTold w → v.0 ≡ w.0 → array_by value_json v.1 ≡ array_by value_json w.1 → v.1 ≡ w.1
values_same v w hv hw at h =
    let one = λ (a b : Item) (ha : IsTold v.0 a) (hb : IsTold v.0 b).
    value_same a b (of_kind (kind_at newest v.0) a b ha.kind hb.kind) ha.printable hb.printable in
    let at_w : AreOfKind (v.0, w.1) = subst (λ (n : ℕ). AreOfKind (n, w.1)) (sym at) hw.kinds in
    arrays_same value_json (IsTold v.0) one v.1 w.1
    (λ k d below. record { printable = hv.printable.values k d below; kind = hv.kinds k d below })
    (λ k d below. record { printable = hw.printable.values k d below; kind = at_w k d below }) h

links_same : (k l : ℕ × List (List ℕ)) → ArePrintableLinks k → ArePrintableLinks l → k.0 ≡ l.0
    → array_by identifier_json k.1 ≡ array_by identifier_json l.1 → k.1 ≡ l.1
links_same k l hk hl at h = arrays_same identifier_json IsIdentifier identifier_same k.1 l.1 hk.ends hl.ends h

-- the parts of an entry's object
record AreEqual (a b : Entry) : Type 0 where
  class : class_token a.class ≡ class_token b.class
  guid : identifier_json a.guid ≡ identifier_json b.guid
  links : object_by identifier_json a.links ≡ object_by identifier_json b.links
  name : a.name ≡ b.name
  parent : identifier_json a.parent ≡ identifier_json b.parent
  values : object_by value_json a.values ≡ object_by value_json b.values

parts_same : (a b : Entry) → entry_json a ≡ entry_json b → AreEqual a b
unfolding entry_json
parts_same a b h = record { class = cc; guid = cc; links = cc; name = cc; parent = cc; values = cc }

class_same : (m n : ℕ) → m < 2 ^ 64 → n < 2 ^ 64 → class_token m ≡ class_token n → m ≡ n
class_same m n hm hn h = (classes_divide m n [] [] hm hn refl refl (ap (λ (x : List ℕ). x ++ []) h)).0

links_of_same : (a b : Entry) → IsExportableEntry a → IsExportableEntry b → AreEqual a b → a.links ≡ b.links
links_of_same a b ha hb is =
    attributes_same identifier_json ArePrintableLinks (λ l hl. link_small l.0 hl.link) links_same a.links b.links
    ha.printable.links hb.printable.links ha.links_rise hb.links_rise is.links

values_told : (e : Entry) → IsExportableEntry e → All AreTold e.values
values_told e h = λ k d below. record { printable = h.printable.values k d below; kinds = h.kinds k d below }

values_of_same : (a b : Entry) → IsExportableEntry a → IsExportableEntry b → AreEqual a b → a.values ≡ b.values
values_of_same a b ha hb is =
    attributes_same value_json AreTold (λ v hv. hv.printable.attribute) values_same a.values b.values
    (values_told a ha) (values_told b hb) ha.values_rise hb.values_rise is.values

entry_same : (a b : Entry) → IsExportableEntry a → IsExportableEntry b → entry_json a ≡ entry_json b → a ≡ b
entry_same a b ha hb h =
    let p = ha.printable in
    let q = hb.printable in
    let is = parts_same a b h in
    let class = class_same a.class b.class p.class q.class is.class in
    let guid = identifier_same a.guid b.guid p.guid q.guid is.guid in
    let parent = identifier_same a.parent b.parent p.parent q.parent is.parent in
    let links = links_of_same a b ha hb is in
    let values = values_of_same a b ha hb is in
    λ i. record { guid = guid i; class = class i; parent = parent i; name = is.name i; values = values i; links = links i }

-- the numbers of an entry are within 63 bits
value_small : (v : Item) → IsPrintableValue v → OfValue IsSmall v
value_small (Text text) h = tt
value_small (Number n) h = (n, refl, h)
value_small (Flag flag) h = tt
value_small (Octets octets) h = tt
value_small (Ref id) h = tt

entry_small : (e : Entry) → IsPrintableEntry e → AllNumbers IsSmall (entry_json e)
entry_small e h = of_entry IsSmall e (λ k d below. λ j w inside. value_small _ ((h.values k d below).values j w inside))

directory_small : (d : List Entry) → IsPrintable d → AllNumbers IsSmall (array_by entry_json d)
directory_small d h = of_items IsSmall entry_json IsPrintableEntry entry_small d h

pub directory_back : JsonReadsBack
unfolding json_text
directory_back d h = reads_back (array_by entry_json d) (directory_small d h) (directory_ordered d) (omega (arith, directory_within d))

are_printable : (d : List Entry) → IsExportable d → IsPrintable d
are_printable d h = λ k e below. (h k e below).printable

read_same : (a b : Data) → ◌≡◌ {A = Option Data} (Some a) (Some b) → a ≡ b
read_same a b h = cc

pub directories_same : EqualJsonMeansEqualDirectories
directories_same d e hd he h =
    let read_both = sym (directory_back d (are_printable d hd)) ∙ ap read h ∙ directory_back e (are_printable e he) in
    arrays_same entry_json IsExportableEntry entry_same d e hd he (read_same (array_by entry_json d) (array_by entry_json e) read_both)
