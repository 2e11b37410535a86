-- A node is made of the class row of its object.
use Rattle.std.proofs.Common.{◌≡◌, ◌==◌, ℕ, List, Bool, true, false, cond, Option, Some, None, ap}
use Rattle.std.specs.Option.{option_and_then}
use Rattle.adr_values.specs.declared.stamp.Oid.{Oid}
use Rattle.adr_values.specs.declared.stamp.LinkStamp.{LinkStamp}
use Rattle.adr_values.specs.declared.content.Content.TheVariants.{Class, Name, Dead, Values}
use Rattle.adr_model.specs.Update.{Key, RowOf, LinkOf, Said, Holds, IsPresent, Update, class_attr, name_attr}
use Rattle.adr_model.specs.Place.{Node, row_at, with_name, node_of}

abbrev pub IsNodeOf : Key → Said → Node → Type 0
IsNodeOf k said n = (attr : ℕ) × (k ≡ RowOf n.object attr) × (said ≡ Holds (Class n.class))

named_node : (o : Oid) (class : ℕ) (stamp : LinkStamp) (said : Said) (n : Node) → with_name o class stamp said ≡ Some n → (o ≡ n.object) × (class ≡ n.class)
named_node o class stamp (Holds (Name text parent)) n e = let same : record { object = o; class = class; text = text; parent = parent; stamp = stamp } ≡ n = cc in (ap (λ (m : Node). m.object) same, ap (λ (m : Node). m.class) same)
named_node o class stamp (Holds (Class c)) n e = absurd (cc)
named_node o class stamp (Holds Dead) n e = absurd (cc)
named_node o class stamp (Holds (Values vs)) n e = absurd (cc)
named_node o class stamp (IsPresent b) n e = absurd (cc)

pub is_node_of : (rows : List Update) (k : Key) (said : Said) (n : Node) → node_of rows k said ≡ Some n → IsNodeOf k said n
is_node_of rows (RowOf o attr) (Holds (Class class)) n e = by (attr == class_attr) (row_at rows (RowOf o name_attr)) e
  where
    by : (b : Bool) (u : Option Update) → cond b (option_and_then (λ (v : Update). with_name o class v.stamp v.said) u) None ≡ Some n → IsNodeOf (RowOf o attr) (Holds (Class class)) n
    by false u h = absurd (cc)
    by true None h = absurd (cc)
    by true (Some u) h = let t = named_node o class u.stamp u.said n h in (attr, ap (λ p. RowOf p attr) t.0, ap (λ c. Holds (Class c)) t.1)
is_node_of rows (RowOf o attr) (Holds (Name text parent)) n e = absurd (cc)
is_node_of rows (RowOf o attr) (Holds Dead) n e = absurd (cc)
is_node_of rows (RowOf o attr) (Holds (Values vs)) n e = absurd (cc)
is_node_of rows (RowOf o attr) (IsPresent b) n e = absurd (cc)
is_node_of rows (LinkOf l) said n e = absurd (cc)
