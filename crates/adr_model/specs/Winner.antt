-- Of the updates of one key, the one with the greatest stamp wins.
use Rattle.std.specs.Prelude.{List, [], ◌∷◌, Bool, true, false, Option, Some, None, map, fold, if◌then◌else◌}
use Rattle.std.specs.List.{filter_map}
use Rattle.std.specs.BTreeSet.{insert_key}
use Rattle.adr_model.specs.Update.{Key, Update, same_key, is_older, key_order}

-- the younger of an update and another one, the first where their stamps are equal
abbrev pub younger : Update → Option Update → Option Update
younger u None = Some u
younger u (Some v) = if is_older u v then Some v else Some u

-- the winner so far, and an update that may be of the key
abbrev pub or_younger : Bool → Update → Option Update → Option Update
or_younger true u found = younger u found
or_younger false u found = found

-- the update of this key with the greatest stamp
abbrev pub winner : List Update → Key → Option Update
winner [] key = None
winner (u ∷ us) key = or_younger (same_key u.key key) u (winner us key)

-- the keys of updates, in order, each once
abbrev pub keys_of : List Update → List Key
keys_of us = fold (insert_key key_order) [] (map (λ u. u.key) us)

-- the winner of each key, in order of the keys
abbrev pub winners : List Update → List Update
winners us = filter_map (winner us) (keys_of us)
