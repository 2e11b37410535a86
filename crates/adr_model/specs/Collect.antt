-- Collecting tombstones, images and how a controller is made of one, and quarantine.
use Rattle.std.specs.Prelude.{ℕ, ◌+◌, List, [], ◌∷◌, Bool, ◌&&◌, ◌||◌, nat_le, nat_lt, length, map, fold, Option, Some, None, Result, if◌then◌else◌}
use Rattle.std.specs.List.{filter_map}
use Rattle.std.specs.Bool.{then_some}
use Rattle.adr_values.specs.declared.stamp.Oid.{Oid}
use Rattle.adr_values.specs.Vector.{Cursors, raised, cursor_limit}
use Rattle.adr_call.specs.declared.refusal.Table.TheVariants.{Cursors as CursorTable}
use Rattle.adr_call.specs.declared.refusal.CollectRefusal.{CollectRefusal}
use Rattle.adr_call.specs.declared.refusal.CollectRefusal.TheVariants.{Quarantined as IsQuarantined, UsnLimit}
use Rattle.adr_call.specs.declared.refusal.AdoptRefusal.{AdoptRefusal}
use Rattle.adr_call.specs.declared.refusal.AdoptRefusal.TheVariants.{IdentifierUsed, Full}
use Rattle.adr_values.specs.First.{first_of}
use Rattle.adr_model.specs.Refusing.{unless}
use Rattle.adr_model.specs.Update.{Identifier, Update, inv_of, usn_of}
use Rattle.adr_model.specs.Naming.{cursors_name, rows_name, marks_name}
use Rattle.adr_model.specs.Visible.{covers_update, covers_birth}
use Rattle.adr_model.specs.Store.{Held, Normal, Quarantined, Store, State}
use Rattle.adr_model.specs.Change.{Change, killed_by, unchanged}
use Rattle.adr_model.specs.Serve.{is_quarantined}
use Rattle.adr_model.specs.Write.{usn_limit}

-- the dead object of a death that may be collected: the vector covers its birth and its death, and the lifetime is over
abbrev pub collected_by : Cursors → ℕ → ℕ → Update → Option Oid
collected_by vector now lifetime u = by (killed_by u.key)
  where
    by : Option Oid → Option Oid
    by None = None
    by (Some o) = then_some (covers_birth vector o && covers_update vector u && nat_le (u.stamp.stamp.time + lifetime) now) o

abbrev pub deaths_to_collect : State → ℕ → ℕ → List (Oid × Update)
deaths_to_collect s now lifetime =
    filter_map (λ (h : Held). by h.update (collected_by s.store.vector now lifetime h.update)) s.store.rows
  where
    by : Update → Option Oid → Option (Oid × Update)
    by u None = None
    by u (Some o) = Some (o, u)

-- the least vector that covers births and deaths
abbrev pub covering : List (Oid × Update) → Cursors
covering deaths = fold (λ v (d : Oid × Update). raised (raised v d.0.birth.inv d.0.birth.usn) (inv_of d.1) (usn_of d.1)) [] deaths

-- it takes a USN where it removes anything
abbrev pub collection : State → List (Oid × Update) → Change
collection s deaths =
    record (unchanged s) {
      usn = s.store.usn + (if nat_lt 0 (length deaths) then 1 else 0);
      purged = covering deaths;
      removed = map (λ (d : Oid × Update). d.0) deaths;
    }

-- why a collection is refused, first in order
abbrev pub collect_refusal : State → Change → Option CollectRefusal
collect_refusal s change = first_of (then_some (is_quarantined s.mode) IsQuarantined ∷ then_some (nat_lt usn_limit change.usn) UsnLimit ∷ [])

-- a controller collects its tombstones: the first refusal, or the change
abbrev pub collect : State → ℕ → ℕ → Result Change CollectRefusal
collect s now lifetime = let change = collection s (deaths_to_collect s now lifetime) in unless (collect_refusal s change) change

-- the image of a controller, if it isn't quarantined
abbrev pub backup : State → Option Store
backup s = if is_quarantined s.mode then None else Some s.store

-- whether a store names an identifier: in a cursor, a birth, a stamp or a mark
abbrev pub names_inv : Store → Identifier → Bool
names_inv s inv = cursors_name s.vector inv || cursors_name s.purged inv || rows_name s.rows inv || marks_name s.marks inv

-- a controller of a store: its own cursor is the store's USN, and the rest stays
abbrev pub woken : Store → Identifier → Identifier → State
woken s dsa inv =
    record {
      dsa = dsa;
      inv = inv;
      mode = Normal;
      store = record s { vector = raised s.vector inv s.usn };
    }

-- why an image can't be adopted, first in order
abbrev pub adopt_refusal : Store → Identifier → State → Option AdoptRefusal
adopt_refusal image inv s =
    first_of (then_some (names_inv image inv) IdentifierUsed ∷ then_some (nat_lt cursor_limit (length s.store.vector)) (Full CursorTable cursor_limit) ∷ [])

-- a controller is made of an image under a fresh identifier
abbrev pub adopt : Store → Identifier → Identifier → Result State AdoptRefusal
adopt image dsa inv = let s = woken image dsa inv in unless (adopt_refusal image inv s) s

-- a controller that showed that it was put back is quarantined: it writes, serves, takes, collects and backs up no more, until it is
-- restored, or put back again
abbrev pub quarantine : State → Change
quarantine s = record (unchanged s) { mode = Quarantined }
