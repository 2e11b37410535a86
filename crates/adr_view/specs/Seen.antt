-- What a live object shows of itself, whatever its place and its name.
use Rattle.adr_call.specs.declared.directory.Entry.{Entry}
use Rattle.adr_view.specs.declared.seen.Shown.{Shown}

-- the class, the values and the links of an entry
abbrev pub seen_of : Entry → Shown
seen_of e = record { class = e.class; values = e.values; links = e.links }
