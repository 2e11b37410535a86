-- What the bytes of an image say.
use Rattle.std.specs.Prelude.{ℕ, List, [], Result, Ok, Err}
use Rattle.adr_wire.specs.declared.refusal.DecodeRefusal.{DecodeRefusal}
use Rattle.adr_model.specs.Store.{Store, empty_state}
use Rattle.adr_image.specs.Stored.{decoded}

-- the store that was read; nothing of what is refused
abbrev pub or_empty : Result Store DecodeRefusal → Store
or_empty (Ok s) = s
or_empty (Err refusal) = (empty_state [] []).store

abbrev pub said_by : List ℕ → Store
said_by bytes = or_empty (decoded bytes)
