-- Which parts of a store name an identifier.
use Rattle.std.specs.Prelude.{ℕ, List, Bool, ◌||◌}
use Rattle.std.specs.List.{list_any}
use Rattle.adr_values.specs.declared.stamp.Oid.{Oid}
use Rattle.adr_values.specs.Vector.{Cursors}
use Rattle.adr_model.specs.Store.{Held, PartnerMark}
use Rattle.adr_model.specs.Update.{Identifier, Key, ends, inv_of, same_identifier}

abbrev pub cursors_name : Cursors → Identifier → Bool
cursors_name v inv = list_any (λ (c : Identifier × ℕ). same_identifier c.0 inv) v

abbrev pub key_names : Key → Identifier → Bool
key_names k inv = list_any (λ (o : Oid). same_identifier o.birth.inv inv) (ends k)

abbrev pub rows_name : List Held → Identifier → Bool
rows_name rows inv = list_any (λ (h : Held). same_identifier (inv_of h.update) inv || key_names h.update.key inv) rows

abbrev pub marks_name : List (Identifier × PartnerMark) → Identifier → Bool
marks_name marks inv = list_any (λ (k : Identifier × PartnerMark). same_identifier k.1.inv inv) marks
