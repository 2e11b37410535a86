-- A link that comes, by its other end and by what the schema says of it.
use Rattle.std.proofs.Common.{◌≡◌, ℕ, Bool, Option, Some, ap, ◌∙◌}
use Rattle.std.specs.Bool.{then_some}
use Rattle.std.specs.Option.{option_and_then}
use Rattle.adr_values.specs.declared.stamp.LinkKey.{LinkKey}
use Rattle.adr_values.specs.declared.stamp.Oid.{Oid}
use Rattle.adr_values.specs.Schemas.{newest}
use Rattle.adr_values.specs.Table.{kind_at}
use Rattle.adr_model.specs.Store.{State, updates_of}
use Rattle.adr_model.specs.Update.{Identifier}
use Rattle.adr_model.specs.Write.{is_link_of, link_at, link_revived, nodes_held, other_end}

pub link_as : (s : State) (o : Oid) (class attr : ℕ) (guid : Identifier) (p : Oid) (l : LinkKey) (b : Bool)
    → other_end (nodes_held (updates_of s.store.rows)) o guid ≡ Some p → link_at (kind_at newest attr) attr o p ≡ Some l → is_link_of s o class l ≡ b
    → link_revived s o class attr guid ≡ then_some b l
link_as s o class attr guid p l b ends is has =
    ap (λ (q : Option Oid). option_and_then (λ (k : LinkKey). then_some (is_link_of s o class k) k) (option_and_then (link_at (kind_at newest attr) attr o) q)) ends
    ∙ (ap (option_and_then (λ (k : LinkKey). then_some (is_link_of s o class k) k)) is ∙ ap (λ (c : Bool). then_some c l) has)
