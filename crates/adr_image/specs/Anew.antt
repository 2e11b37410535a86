-- What an image says, as a change of an empty store.
use Rattle.std.specs.Prelude.{◌≡◌, [], None}
use Rattle.adr_model.specs.Change.{Change, held_of}
use Rattle.adr_model.specs.Store.{Normal, Store}

-- a change of an empty store of the same schema that makes all of this one but the marks
pub record MakesAll (s : Store) (c : Change) : Type 0 where
  pub writes : held_of c.writes ≡ s.rows
  pub is :
      c ≡ record { usn = s.usn; mode = Normal; schema = s.schema; mark = None; joined = s.vector; times = s.times; purged = s.purged; removed = []; writes = c.writes }
