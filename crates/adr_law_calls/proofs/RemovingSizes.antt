-- There are no more objects and no more links after objects were removed.
use Rattle.std.proofs.Common.{◌≤◌, List, length}
use Rattle.adr_values.specs.declared.stamp.Oid.{Oid}
use Rattle.adr_model.specs.Live.{objects_of}
use Rattle.adr_model.specs.Store.{Held, updates_of}
use Rattle.adr_model.specs.Write.{links_in}
use Rattle.adr_model.specs.Formed.{AreRising}
use Rattle.adr_law_knowledge.proofs.Standing.{among_objects, objects_within}
use Rattle.adr_law_calls.proofs.Rows.{updated}
use Rattle.adr_law_calls.proofs.Counts.{links_within}
use Rattle.adr_law_knowledge.proofs.RisingHeld.{removals_rise}
use Rattle.adr_law_calls.proofs.Removing.{without, stood_before, update_stood}

pub objects_fewer : (os : List Oid) (rows : List Held) → length (objects_of (updates_of (without os rows))) ≤ length (objects_of (updates_of rows))
objects_fewer os rows = objects_within (updates_of (without os rows)) (objects_of (updates_of rows)) (λ u m o is. among_objects (updates_of rows) u o (update_stood os rows u m) is)

pub links_fewer : (os : List Oid) (rows : List Held) → AreRising rows → links_in (without os rows) ≤ links_in rows
links_fewer os rows rising = links_within rows (without os rows) (removals_rise os rows rising) (λ x m l is. (x.update, updated rows x (stood_before os rows x m), is))
