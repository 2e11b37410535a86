-- What is found in a table of the code is what is found in the schema.
use Rattle.std.proofs.Common.{◌≡◌, ◌==◌, ℕ, List, [], ◌∷◌, Bool, true, false, cond, Option, Some, None, refl, ap, ◌∙◌}
use Rattle.std.specs.List.{find}
use Rattle.std.specs.Option.{option_map, option_map_or, option_and_then}
use Rattle.std.specs.Str.{bytes_eq}
use Rattle.adr_values.specs.Schemas.{newest}
use Rattle.adr_values.specs.Table.{Attribute, Class}
use Rattle.adr_search.specs.declared.fields.Row.{Row as Held}
use Rattle.adr_search.specs.declared.fields.ClassRow.{ClassRow}
use Rattle.adr_search.specs.Fields.{field_among, field_of, lowered}
use Rattle.adr_search.specs.Match.{class_text}
use Rattle.adr_search.specs.Rows.{Row, row_of, rows_of, class_row_of, class_rows_of}

field_there : (low : List ℕ) (attributes : List Attribute) → option_and_then (λ (r : Row). r.1) (find (λ (r : Row). bytes_eq r.0 low) (rows_of attributes)) ≡ field_among attributes low
field_there low [] = refl
field_there low (a ∷ rest) = by (bytes_eq (lowered a.name) low) (field_there low rest)
  where
    by : (b : Bool) → option_and_then (λ (r : Row). r.1) (find (λ (r : Row). bytes_eq r.0 low) (rows_of rest)) ≡ field_among rest low
        → option_and_then (λ (r : Row). r.1) (cond b (Some (lowered a.name, field_of a.number a.kind)) (find (λ (r : Row). bytes_eq r.0 low) (rows_of rest)))
        ≡ option_and_then (λ (x : Attribute). field_of x.number x.kind) (cond b (Some a) (find (λ (x : Attribute). bytes_eq (lowered x.name) low) rest))
    by true further = refl
    by false further = further

pub field_is : (low : List ℕ) (o : Option Held) (rows : List Row) → rows ≡ rows_of newest.attributes → option_map row_of o ≡ find (λ (r : Row). bytes_eq r.0 low) rows → option_and_then (λ (h : Held). h.field) o ≡ field_among newest.attributes low
field_is low None rows same is = ap (option_and_then (λ (r : Row). r.1)) (is ∙ ap (find (λ (r : Row). bytes_eq r.0 low)) same) ∙ field_there low newest.attributes
field_is low (Some h) rows same is = ap (option_and_then (λ (r : Row). r.1)) (is ∙ ap (find (λ (r : Row). bytes_eq r.0 low)) same) ∙ field_there low newest.attributes

class_there : (n : ℕ) (classes : List Class) → option_map_or (λ (r : ℕ × List ℕ). r.1) (find (λ (r : ℕ × List ℕ). r.0 == n) (class_rows_of classes)) [] ≡ option_map_or (λ (c : Class). c.name) (find (λ (c : Class). c.number == n) classes) []
class_there n [] = refl
class_there n (c ∷ cs) = by (c.number == n) (class_there n cs)
  where
    by : (b : Bool) → option_map_or (λ (r : ℕ × List ℕ). r.1) (find (λ (r : ℕ × List ℕ). r.0 == n) (class_rows_of cs)) [] ≡ option_map_or (λ (x : Class). x.name) (find (λ (x : Class). x.number == n) cs) []
        → option_map_or (λ (r : ℕ × List ℕ). r.1) (cond b (Some (c.number, c.name)) (find (λ (r : ℕ × List ℕ). r.0 == n) (class_rows_of cs))) []
        ≡ option_map_or (λ (x : Class). x.name) (cond b (Some c) (find (λ (x : Class). x.number == n) cs)) []
    by true rest = refl
    by false rest = rest

pub class_is : (n : ℕ) (o : Option ClassRow) (rows : List (ℕ × List ℕ)) → rows ≡ class_rows_of newest.classes → option_map class_row_of o ≡ find (λ (r : ℕ × List ℕ). r.0 == n) rows → option_map_or (λ (h : ClassRow). h.name.now) o [] ≡ class_text n
class_is n None rows same is = ap (λ (f : Option (ℕ × List ℕ)). option_map_or (λ (r : ℕ × List ℕ). r.1) f []) (is ∙ ap (find (λ (r : ℕ × List ℕ). r.0 == n)) same) ∙ class_there n newest.classes
class_is n (Some h) rows same is = ap (λ (f : Option (ℕ × List ℕ)). option_map_or (λ (r : ℕ × List ℕ). r.1) f []) (is ∙ ap (find (λ (r : ℕ × List ℕ). r.0 == n)) same) ∙ class_there n newest.classes
