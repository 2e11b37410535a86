-- The verb of a word.
use Rattle.std.specs.Prelude.{ℕ, List, [], ◌∷◌, Option}
use Rattle.std.specs.List.{find}
use Rattle.std.specs.Str.{bytes_eq}
use Rattle.adr_call.specs.declared.verb.Verb.{Verb}
use Rattle.adr_call.specs.Verbs.{word_of}
use Rattle.adr_call.specs.declared.verb.Verb.TheVariants.{Controller, Time, Add, Modify, Rename, Delete, Link, Unlink, Ask, Serve, Deliver, Pull, Cycle, Ring, Collect, Upgrade, Revive, Backup, Restore, Install, Snapshot, Rollback, Stop, Fail, Start, Show, Vector, Marks, Meta}

-- the verbs that a text knows
abbrev pub verbs : List Verb
verbs =
    Controller ∷ Time ∷ Add ∷ Modify ∷ Rename ∷ Delete ∷ Link ∷ Unlink ∷ Ask ∷ Serve ∷ Deliver ∷ Pull ∷ Cycle ∷ Ring ∷ Collect ∷ Upgrade ∷ Revive ∷ Backup ∷ Restore ∷ Install ∷ Snapshot ∷ Rollback ∷ Stop ∷ Fail ∷ Start ∷ Show ∷ Vector ∷ Marks ∷ Meta ∷ []

-- the verb of a word
abbrev pub verb_said : List ℕ → Option Verb
verb_said word = find (λ verb. bytes_eq word (word_of verb)) verbs
