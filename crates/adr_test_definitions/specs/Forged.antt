-- Rows that no controller makes, as a forged packet may bring them, and changes that share a USN.
use Rattle.std.specs.Prelude.{ℕ, ◌+◌, List, [], ◌∷◌, ◌++◌, map, Option, codes}
use Rattle.adr_values.specs.declared.content.Value.TheVariants.{Text}
use Rattle.adr_values.specs.declared.content.Content.TheVariants.{Class, Name, Dead, Values}
use Rattle.adr_call.specs.declared.directory.Entry.{Entry}
use Rattle.adr_call.specs.declared.refusal.TakeRefusal.{TakeRefusal}
use Rattle.adr_model.specs.Update.{Update, Key}
use Rattle.adr_model.specs.Place.{identifier, root, lost_and_found}
use Rattle.adr_model.specs.Store.{State}
use Rattle.adr_model.specs.Change.{Item, Change}
use Rattle.adr_model.specs.LocalLog.{LocalLog}
use Rattle.adr_model.specs.Write.{row, of_object, own_change}
use Rattle.adr_model.specs.Take.{rows_taken, item_refusal}
use Rattle.adr_values.specs.Numbered.{numbered}
use Rattle.adr_test_definitions.specs.Acting.{first, adds, bare}
use Rattle.adr_test_definitions.specs.Runs.{object, stamped, class_and_name}

-- an orphan, and a live object with the GUID of LostAndFound below it: the way up from the orphan ends at LostAndFound, so there
-- is no loop
abbrev pub on_a_fixed_guid : List Update
on_a_fixed_guid =
    class_and_name (object 2 161 2) (stamped 0 1 20 161 2) 3 (codes "z") (identifier 16)
    ++ class_and_name (object 16 161 1) (stamped 0 1 10 161 1) 3 (codes "x") (identifier 17)

abbrev pub on_a_fixed_guid_shown : List Entry
on_a_fixed_guid_shown = bare 2 3 (identifier 16) (codes "z") ∷ bare 16 3 lost_and_found (codes "x") ∷ []

-- a row of another attribute that says a class makes no second object
abbrev pub two_classes : List Update
two_classes =
    class_and_name (object 16 161 1) (stamped 0 1 10 161 1) 4 (codes "x") root
    ++ row (object 16 161 1) (stamped 0 1 10 161 1) 12 (Class 3) ∷ []

-- a new object that comes dead, with a row of attribute 0: that row is left out, and nothing is refused
abbrev pub dead_with_row_0 : Item
dead_with_row_0 =
    of_object (object 16 161 1)
    (row (object 16 161 1) (stamped 0 1 10 161 1) 0 (Values (Text (codes "n") ∷ []))
    ∷ row (object 16 161 1) (stamped 0 1 10 161 1) 1 (Class 4)
    ∷ row (object 16 161 1) (stamped 0 1 10 161 1) 2 (Name (codes "x") root)
    ∷ row (object 16 161 1) (stamped 0 1 10 161 2) 3 Dead
    ∷ [])

abbrev pub keys_taken : Item → List Key
keys_taken i = map (λ (u : Update). u.key) (rows_taken [] [] i)

-- the same row of an object that is held, and dies by the item, is looked at
abbrev pub refused_with_row_0 : Option TakeRefusal × Option TakeRefusal
refused_with_row_0 =
    adds first 10 16 (codes "x") (λ a. (item_refusal (numbered 1) [] [] 0 dead_with_row_0, item_refusal (numbered 1) [] a.store.rows 0 dead_with_row_0))

-- a write of two items takes two USNs
abbrev pub two_items : State → Change
two_items s =
    own_change s (
    record { local = s.store.usn + 1; item = of_object (object 16 161 1) (row (object 16 161 1) (stamped 0 1 10 161 1) 1 (Class 4) ∷ []) }
    ∷ record { local = s.store.usn + 2; item = of_object (object 17 161 2) (row (object 17 161 2) (stamped 0 1 10 161 2) 1 (Class 4) ∷ []) }
    ∷ [])

-- two births under one USN, each written by a change of its own
abbrev pub birth_at_1 : ℕ → Update
birth_at_1 guid = row (object guid 161 1) (stamped 0 1 10 161 1) 1 (Class 4)

abbrev pub change_at_1 : ℕ → Change
change_at_1 guid = own_change first (record { local = 1; item = of_object (object guid 161 1) (birth_at_1 guid ∷ []) } ∷ [])

abbrev pub one_usn_twice : LocalLog
one_usn_twice = record { start_usn = 0; start_rows = []; changes = change_at_1 17 ∷ change_at_1 16 ∷ [] }
