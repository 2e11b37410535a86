-- The image of a store is as long as is counted of the store.
use Rattle.std.proofs.Common.{◌≡◌, ℕ, ◌+◌, ◌*◌, List, [], ◌∷◌, ◌++◌, length, map, fold, ap, ◌∙◌, arith}
use Rattle.adr_values.specs.declared.stamp.Oid.{Oid}
use Rattle.adr_model.specs.Lengths.{row_length, image_length}
use Rattle.adr_model.specs.Store.{Held, Store}
use Rattle.adr_model.specs.Formed.{IsFormedStore}
use Rattle.adr_image.specs.Image.{HeldRow, Rows, HeldLink}
use Rattle.adr_image.specs.Lengths.{total, held_length, object_length}
use Rattle.adr_image.specs.Stored.{held_of, link_of, rows_of, apart, parts_in, image, IsSpelled}
use Rattle.adr_image.proofs.InRange.{in_range, same_rows, objects_counted}
use Rattle.adr_image.proofs.Long.{image_long}
use Rattle.adr_image.proofs.Taking.{split}

abbrev counted : ℕ → List Held → ℕ
counted n hs = fold (λ m (h : Held). m + row_length h) n hs

rows_counted : (o : Oid) (n : ℕ) (hs : List HeldRow) (rest : List Held) → counted n (map (held_of o) hs ++ rest) ≡ counted (n + total held_length hs) rest
rows_counted o n [] rest = ap (λ (m : ℕ). counted m rest) (omega arith)
rows_counted o n (h ∷ hs) rest = rows_counted o (n + held_length h) hs rest ∙ ap (λ (m : ℕ). counted m rest) (omega arith)

links_counted : (n : ℕ) (ls : List HeldLink) → counted n (map link_of ls) ≡ n + 135 * length ls
links_counted n [] = omega arith
links_counted n (l ∷ ls) = let rest = links_counted (n + 135) ls in omega (arith, rest)

units_counted : (n : ℕ) (os : List Rows) (ls : List HeldLink) → 42 * length os + counted n (rows_of (os, ls)) ≡ n + total object_length os + 135 * length ls
units_counted n [] ls = let rest = links_counted n ls in omega (arith, rest)
units_counted n (x ∷ xs) ls =
    let here : counted n (rows_of (x ∷ xs, ls)) ≡ counted (n + total held_length x.1) (rows_of (xs, ls)) = ap (counted n) (split x xs ls) ∙ rows_counted x.0 n x.1 (rows_of (xs, ls)) in
    let rest = units_counted (n + total held_length x.1) xs ls in
    omega (arith, here, rest)

pub store_long : (s : Store) → IsFormedStore s → IsSpelled s → length (image s) ≡ image_length s
store_long s f q =
    let long = image_long (parts_in s) (in_range s f q) in
    let rows = ap (counted 0) (same_rows s f q) in
    let objects = objects_counted s f q in
    let units = units_counted 0 (apart s.rows).0 (apart s.rows).1 in
    omega (arith, long, rows, objects, units)
