-- Cursors, each beside the moment that is known of it.
use Rattle.std.specs.Prelude.{if◌then◌else◌, ℕ, List, [], ◌∷◌, ◌==◌, map}
use Rattle.adr_values.specs.Vector.{Cursors, at}

-- a cursor with its moment, 0 where none is known
abbrev pub Dated : Type 0
Dated = (List ℕ × ℕ) × ℕ

abbrev pub cursors_of : List Dated → Cursors
cursors_of ds = map (λ (d : Dated). d.0) ds

-- the moments that are known
abbrev pub moments_of : List Dated → Cursors
moments_of [] = []
moments_of (d ∷ ds) = if d.1 == 0 then moments_of ds else (d.0.0, d.1) ∷ moments_of ds

-- each cursor with its moment
abbrev pub with_moments : Cursors → Cursors → List Dated
with_moments times cursors = map (λ (c : List ℕ × ℕ). (c, at times c.0)) cursors
