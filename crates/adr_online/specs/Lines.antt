-- The line of a connection that was served.
use Rattle.std.specs.Prelude.{ℕ, List, ◌++◌, codes}
use Rattle.std.specs.Fmt.{decimal}
use Rattle.adr_session.specs.declared.ending.End.{End}
use Rattle.adr_session.specs.declared.ending.End.TheVariants as ended

abbrev pub end_word : End → List ℕ
end_word ended.Hung = codes "end"
end_word ended.Malformed = codes "malformed"
end_word ended.Fault = codes "fault"
end_word ended.Limit = codes "limit"

-- which connection it was, from 1 on, how many messages were answered, and how it ended
unfoldable pub connection_line : ℕ → ℕ → End → List ℕ
connection_line number messages end =
    codes "connection " ++ decimal number ++ codes ": " ++ decimal messages ++ codes " " ++ end_word end ++ codes "\n"
