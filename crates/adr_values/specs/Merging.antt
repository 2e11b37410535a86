-- Two rising lists of cursors as one, with the greater USN where both have the identifier.
use Rattle.std.specs.Prelude.{ℕ, List, [], ◌∷◌, max}
use Rattle.std.specs.Ordering.{match_ordering}
use Rattle.adr_values.specs.Order.{identifier_order}
use Rattle.adr_values.specs.Vector.{Cursors}

-- rest merges what follows c in its list
abbrev pub merged_with : List ℕ × ℕ → (Cursors → Cursors) → Cursors → Cursors
merged_with c rest [] = c ∷ rest []
merged_with c rest (d ∷ ds) = match_ordering (identifier_order c.0 d.0) (c ∷ rest (d ∷ ds)) ((c.0, max c.1 d.1) ∷ rest ds) (d ∷ merged_with c rest ds)

abbrev pub merged : Cursors → Cursors → Cursors
merged [] ds = ds
merged (c ∷ cs) ds = merged_with c (merged cs) ds
