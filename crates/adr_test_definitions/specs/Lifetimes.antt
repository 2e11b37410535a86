-- Restores, a database that was put back, and collected objects.
use Rattle.std.specs.Prelude.{true, ℕ, List, [], ◌∷◌, length, Option, Some, None, Result, Ok, Err, codes}
use Rattle.adr_values.specs.declared.content.Value.TheVariants.{Text}
use Rattle.adr_call.specs.declared.directory.Entry.{Entry}
use Rattle.adr_call.specs.declared.refusal.WriteRefusal.{WriteRefusal}
use Rattle.adr_call.specs.declared.refusal.WriteRefusal.TheVariants.{Quarantined}
use Rattle.adr_call.specs.declared.refusal.ServeRefusal.{ServeRefusal}
use Rattle.adr_call.specs.declared.refusal.ServeRefusal.TheVariants.{RolledBack, TooOld}
use Rattle.adr_call.specs.declared.refusal.CollectRefusal.{CollectRefusal}
use Rattle.adr_call.specs.declared.refusal.AdoptRefusal.{AdoptRefusal}
use Rattle.adr_model.specs.Place.{identifier, root}
use Rattle.adr_model.specs.Store.{State, Store}
use Rattle.adr_model.specs.Change.{Change, after}
use Rattle.adr_model.specs.Serve.{ask, serve}
use Rattle.adr_model.specs.Write.{AddObject, Modify, Delete, write}
use Rattle.adr_model.specs.Collect.{collect, backup, adopt, quarantine}
use Rattle.adr_test_definitions.specs.Acting.{first, second, third, writes, adds, made, Pulled, pulls, shows, from_image, mark, container}

abbrev pub refusal_in : {A E : Type 0} → Result A E → Option E
refusal_in (Ok x) = None
refusal_in (Err e) = Some e

abbrev pub adds_five : {A : Type 0} → State → (State → A) → A
adds_five s next =
    adds s 0 16 (codes "1") (λ s. adds s 0 17 (codes "2") (λ s. adds s 0 18 (codes "3") (λ s. adds s 0 19 (codes "4") (λ s. adds s 0 20 (codes "5") next))))

-- what a restore lost comes back from the partner that had it
abbrev pub restored : List Entry × Pulled × List Entry
restored =
    adds_five first (λ a. pulls second a 10 (λ p b.
    pulls (from_image first first.dsa (identifier 162)) b 10 (λ q c. (shows (from_image first first.dsa (identifier 162)), q, shows c))))

abbrev pub restored_told : List Entry × Pulled × List Entry
restored_told = (
  [],
  Some ((mark 0 0 0, mark 5 5 5, 5, 10, true), Ok (5, 5)),
  container 16 (codes "1") ∷ container 17 (codes "2") ∷ container 18 (codes "3") ∷ container 19 (codes "4") ∷ container 20 (codes "5") ∷ [],
)

-- a database that was put back without a fresh identifier: it refuses, and is quarantined
abbrev pub put_back : Option ServeRefusal × Option WriteRefusal × Option Store
put_back =
    adds first 0 16 (codes "x") (λ a. pulls second a 10 (λ p b.
    let q = after first (quarantine first) in
    (refusal_in (serve first (ask b first.dsa 10 2) 0), refusal_in (write q (AddObject (identifier 17) 4 root (codes "y") []) 0), backup q)))

abbrev pub put_back_told : Option ServeRefusal × Option WriteRefusal × Option Store
put_back_told = (Some (RolledBack (identifier 161) 0 1), Some Quarantined, None)

abbrev pub removed_by : Result Change CollectRefusal → Option ℕ
removed_by (Ok c) = Some (length c.removed)
removed_by (Err e) = None

-- a tombstone that is collected: a partner that missed the death is too old, a new one installs from media
abbrev pub collected_once : Option ℕ × Option ServeRefusal × Pulled
collected_once =
    adds first 10 16 (codes "x") (λ a. pulls second a 10 (λ p b. writes a 10 (Delete (identifier 16)) (λ a.
    let c = collect a 100 50 in
    let d = made a c in
    pulls (from_image d third.dsa third.inv) d 10 (λ q e. (removed_by c, refusal_in (serve d (ask b d.dsa 10 2) 0), q)))))

abbrev pub collected_once_told : Option ℕ × Option ServeRefusal × Pulled
collected_once_told = (Some 1, Some (TooOld (identifier 161) 2 1), Some ((mark 0 0 0, mark 3 3 3, 0, 0, true), Ok (0, 3)))

-- a tombstone whose lifetime isn't over, and one of an object whose death isn't covered, stay
abbrev pub kept_tombstones : Option ℕ × Option ℕ
kept_tombstones =
    adds first 10 16 (codes "x") (λ a. adds a 10 17 (codes "y") (λ a. pulls second a 10 (λ p b.
    writes a 10 (Delete (identifier 16)) (λ a. writes b 20 (Delete (identifier 17)) (λ b. adds b 20 18 (codes "z") (λ b.
    pulls a b 1 (λ q a. (removed_by (collect a 59 50), removed_by (collect a 60 50)))))))))

-- a change of an object that was collected here
abbrev pub late_change : Pulled × List Entry
late_change =
    adds first 10 16 (codes "x") (λ a. pulls second a 10 (λ p b.
    writes b 10 (Modify (identifier 16) ((12, Text (codes "d") ∷ []) ∷ [])) (λ b. writes a 10 (Delete (identifier 16)) (λ a.
    pulls (made a (collect a 100 50)) b 10 (λ q a. (q, shows a))))))

abbrev pub late_change_told : Pulled × List Entry
late_change_told = (Some ((mark 0 0 0, mark 2 2 2, 1, 1, true), Ok (0, 3)), [])

-- an image is adopted under no identifier that it names
abbrev pub adopted_anew : Option AdoptRefusal × Option AdoptRefusal
adopted_anew =
    adds first 0 16 (codes "x") (λ a. (refusal_in (adopt a.store a.dsa a.inv), refusal_in (adopt a.store a.dsa (identifier 162))))
