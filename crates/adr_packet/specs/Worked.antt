-- Messages whose bytes are written down.
use Rattle.std.specs.Prelude.{ℕ, List, [], ◌∷◌, ◌++◌}
use Rattle.adr_call.specs.declared.refusal.ServeRefusal.TheVariants.{SchemaMismatch}
use Rattle.adr_model.specs.Serve.{Request}
use Rattle.adr_packet.specs.declared.refusal.Refusal.{Refusal}
use Rattle.adr_packet.specs.declared.refusal.Refusal.TheVariants.{Serve}

-- fifteen bytes, and a last one
abbrev pub named : ℕ → List ℕ
named last = 0 ∷ 0 ∷ 0 ∷ 0 ∷ 0 ∷ 0 ∷ 0 ∷ 0 ∷ 0 ∷ 0 ∷ 0 ∷ 0 ∷ 0 ∷ 0 ∷ 0 ∷ last ∷ []

abbrev pub eight : List ℕ
eight = 0 ∷ 0 ∷ 0 ∷ 0 ∷ 0 ∷ 0 ∷ 0 ∷ 0 ∷ []

-- a controller that has nothing asks another one for the first time
abbrev pub a_request : Request
a_request = record { version = 1; dest = named 0xb0; source = named 0xa0; inv = named 0; mark = record { obj = 0; prop = 0; seen = 0 }; schema = 1; max = 10; vector = [] }

abbrev pub behind_version : List ℕ
behind_version = named 0xb0 ++ (named 0xa0 ++ (named 0 ++ (eight ++ (eight ++ (eight ++ (0 ∷ 0 ∷ 0 ∷ 1 ∷ 0 ∷ 0 ∷ 0 ∷ 10 ∷ 0 ∷ 0 ∷ 0 ∷ 0 ∷ []))))))

abbrev pub request_as_bytes : List ℕ
request_as_bytes = (65 ∷ 68 ∷ 82 ∷ 81 ∷ 0 ∷ 1 ∷ []) ++ behind_version

abbrev pub of_version_two : List ℕ
of_version_two = (65 ∷ 68 ∷ 82 ∷ 81 ∷ 0 ∷ 2 ∷ []) ++ behind_version

abbrev pub of_version_three : List ℕ
of_version_three = (65 ∷ 68 ∷ 82 ∷ 81 ∷ 0 ∷ 3 ∷ []) ++ behind_version

abbrev pub a_refusal : Refusal
a_refusal = Serve (SchemaMismatch 1 2)

abbrev pub refusal_as_bytes : List ℕ
refusal_as_bytes = 65 ∷ 68 ∷ 82 ∷ 70 ∷ 0 ∷ 1 ∷ 31 ∷ 0 ∷ 0 ∷ 0 ∷ 1 ∷ 0 ∷ 0 ∷ 0 ∷ 2 ∷ []
