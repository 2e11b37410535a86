-- Vectors with the moments beside them, by the version of a format. The first version has vectors alone.
use Rattle.std.specs.Prelude.{if◌then◌else◌, ℕ, List, [], ◌++◌, ◌==◌, ◌≡◌, true, length, nat_le, Option, None}
use Rattle.std.specs.List.{flat_map, AllByRecursion}
use Rattle.adr_values.specs.Order.{identifier_order}
use Rattle.adr_values.specs.Times.{AreTimesOf}
use Rattle.adr_values.specs.Vector.{Cursors, cursor_limit}
use Rattle.adr_values.specs.Dated.{Dated, cursors_of, moments_of, with_moments}
use Rattle.adr_wire.specs.Composites.{vector, vector_at}
use Rattle.adr_wire.specs.Fields.{id_at, usn_at, u32_at, u64_at, id, u32, u64}
use Rattle.adr_wire.specs.Ranges.{IsCursors, IsU64}
use Rattle.adr_wire.specs.Reading.{Reading, as_at, where_at, then_at, elements_at, above_at}

-- a vector, and the moments of its cursors that are known
abbrev pub Timed : Type 0
Timed = Cursors × Cursors

unfoldable pub dated_above : Option (List ℕ) → Reading Dated
dated_above = above_at identifier_order id_at (λ inv. as_at (λ p. ((inv, p.0), p.1)) (then_at usn_at (λ _. u64_at)))

unfoldable pub dated_at : ℕ → Option (List ℕ) → Reading (List Dated)
dated_at = elements_at (λ d. d.0.0) dated_above

abbrev pub parted : List Dated → Timed
parted ds = (cursors_of ds, moments_of ds)

unfoldable pub dated_vector_at : Reading (List Dated)
dated_vector_at = as_at (λ p. p.1) (then_at (where_at (λ count. nat_le count cursor_limit) u32_at) (λ count. dated_at count None))

-- a vector of version 2
unfoldable pub vector2_at : Reading Timed
vector2_at = as_at parted dated_vector_at

-- by the version of the format
abbrev pub timed_at : ℕ → Reading Timed
timed_at version = if version == 1 then as_at (λ v. (v, [])) vector_at else vector2_at

-- ---- spelled

abbrev pub dated : Dated → List ℕ
dated d = id d.0.0 ++ (u64 d.0.1 ++ u64 d.1)

abbrev pub vector2 : Timed → List ℕ
vector2 t = u32 (length t.0) ++ flat_map dated (with_moments t.1 t.0)

abbrev pub timed : ℕ → Timed → List ℕ
timed version t = if version == 1 then vector t.0 else vector2 t

-- a vector with moments of its cursors, all in range
pub record IsVector2 (t : Timed) : Type 0 where
  pub cursors : IsCursors t.0
  pub times : AreTimesOf t.0 t.1
  pub moments : AllByRecursion (λ m. IsU64 m.1) t.1

-- of version 1 there are no moments
pub record IsTimed (version : ℕ) (t : Timed) : Type 0 where
  pub is : IsVector2 t
  pub none : (version == 1) ≡ true → t.1 ≡ []
