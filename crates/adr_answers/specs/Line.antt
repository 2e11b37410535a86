-- How an answer is written: its line, and the lines of a report behind it.
use Rattle.std.specs.Prelude.{ℕ, List, Bool, true, false, [], ◌∷◌, ◌++◌, length, flat_map, codes}
use Rattle.std.specs.Fmt.{decimal}
use Rattle.adr_values.specs.declared.content.Value.{Value as Item}
use Rattle.adr_values.specs.declared.mark.Mark.{Mark}
use Rattle.adr_values.specs.Dated.{Dated, with_moments}
use Rattle.adr_call.specs.declared.answer.Answer.{Answer}
use Rattle.adr_call.specs.declared.outcome.Field.{Field}
use Rattle.adr_call.specs.declared.outcome.Plainly.{Plainly}
use Rattle.adr_call.specs.declared.outcome.Plainly.TheVariants.{Id, Number, Mark as OneMark, Attr, Word}
use Rattle.adr_call.specs.declared.outcome.Outcome.{Outcome}
use Rattle.adr_call.specs.declared.outcome.Outcome.TheVariants.{Ok, Usn, Served, Took, Removed, Compared, Show, Vector, Marks, Meta, More, Up, Down, Failed, Disk, Stopped, Absent, Refused}
use Rattle.adr_call.specs.declared.directory.Entry.{Entry}
use Rattle.adr_call.specs.declared.meta.Life.{Life}
use Rattle.adr_call.specs.declared.meta.Life.TheVariants.{Live, Hidden, Dead}
use Rattle.adr_call.specs.declared.meta.MetaLine.{MetaLine}
use Rattle.adr_call.specs.declared.meta.MetaLine.TheVariants.{Object, Row}
use Rattle.adr_token.specs.Spelling.{identifier_token, text_token, class_token, attribute_token, set_token}

-- an attribute with its values, behind a space
unfoldable pub values_text : ℕ × List Item → List ℕ
values_text v = codes " " ++ set_token v.0 v.1

-- identifiers with commas between them
abbrev pub listed : List (List ℕ) → List ℕ
listed [] = []
listed (id ∷ ids) = identifier_token id ++ flat_map (λ (i : List ℕ). codes "," ++ identifier_token i) ids

-- a link attribute with the objects at its other ends, behind a space
unfoldable pub links_text : ℕ × List (List ℕ) → List ℕ
links_text l = codes " " ++ attribute_token l.0 ++ codes "=" ++ listed l.1

-- the line of an entry
unfoldable pub entry_line : Entry → List ℕ
entry_line e =
    (codes "  " ++ identifier_token e.guid ++ codes " " ++ class_token e.class)
    ++ (codes " parent=" ++ identifier_token e.parent ++ codes " name=" ++ text_token e.name)
    ++ flat_map values_text e.values ++ flat_map links_text e.links ++ codes "\n"

-- a high watermark
unfoldable pub mark_text : Mark → List ℕ
mark_text m = decimal m.obj ++ codes "/" ++ decimal m.prop ++ codes "/" ++ decimal m.seen

-- the line of an incarnation: what was seen of it, and when it was last read whole, 0 where that isn't known
unfoldable pub dated_line : Dated → List ℕ
dated_line d = codes "  " ++ identifier_token d.0.0 ++ codes " " ++ decimal d.0.1 ++ codes " " ++ decimal d.1 ++ codes "\n"

-- the line of a partner: the incarnation that was read, and how far
unfoldable pub partner_line : List ℕ × List ℕ × Mark → List ℕ
partner_line p = codes "  " ++ identifier_token p.0 ++ codes " " ++ identifier_token p.1 ++ codes " " ++ mark_text p.2 ++ codes "\n"

-- how an object is held
abbrev pub life_text : Life → List ℕ
life_text Live = codes " live"
life_text Hidden = codes " hidden"
life_text Dead = codes " dead"

-- the line of an object, or of a row: which write made it, and under which USN it was written here
unfoldable pub meta_line : MetaLine → List ℕ
meta_line (Object birth life name) =
    codes "  object" ++ (codes " birth=" ++ identifier_token birth.inv ++ codes "/" ++ decimal birth.usn)
    ++ life_text life ++ codes " name=" ++ text_token name ++ codes "\n"
meta_line (Row attr stamp local) =
    (codes "  attr=" ++ attribute_token attr ++ codes " version=" ++ decimal stamp.version)
    ++ (codes " time=" ++ decimal stamp.time ++ codes " inv=" ++ identifier_token stamp.inv)
    ++ codes " usn=" ++ decimal stamp.usn ++ codes " local=" ++ decimal local ++ codes "\n"

unfoldable pub plain_text : Plainly → List ℕ
plain_text (Id id) = identifier_token id
plain_text (Number number) = decimal number
plain_text (OneMark mark) = mark_text mark
plain_text (Attr attr) = attribute_token attr
plain_text (Word word) = word

unfoldable pub field_text : Field → List ℕ
field_text f = codes " " ++ f.name ++ codes "=" ++ plain_text f.value

-- where a reply begins and ends
abbrev pub from_to : Mark → Mark → List ℕ
from_to from to = codes "ok from=" ++ mark_text from ++ codes " to=" ++ mark_text to

-- whether anything is left to send
abbrev pub left_text : Bool → List ℕ
left_text true = codes " last"
left_text false = codes " more"

-- what a reply has
abbrev pub counts_text : ℕ → ℕ → Bool → List ℕ
counts_text items rows last = codes " items=" ++ decimal items ++ codes " rows=" ++ decimal rows ++ left_text last

-- whether something is so
abbrev pub truth_text : Bool → List ℕ
truth_text true = codes "true"
truth_text false = codes "false"

-- what stands behind the colon of an answer's line
unfoldable pub result_text : Outcome → List ℕ
result_text Ok = codes "ok"
result_text (Usn usn) = codes "ok usn=" ++ decimal usn
result_text (Served from to items rows last) = from_to from to ++ counts_text items rows last
result_text (Took items wrote usn) = codes "ok items=" ++ decimal items ++ codes " wrote=" ++ decimal wrote ++ codes " usn=" ++ decimal usn
result_text (Removed removed) = codes "ok removed=" ++ decimal removed
result_text (Compared rounds directories vectors) = codes "ok rounds=" ++ decimal rounds ++ codes " directories=" ++ truth_text directories ++ codes " vectors=" ++ truth_text vectors
result_text (Show entries) = decimal (length entries)
result_text (Vector vector times) = decimal (length vector)
result_text (Marks marks) = decimal (length marks)
result_text (Meta lines) = decimal (length lines)
result_text More = codes "more"
result_text Up = codes "up"
result_text Down = codes "down"
result_text Failed = codes "failed"
result_text Disk = codes "disk"
result_text Stopped = codes "stopped"
result_text Absent = codes "absent"
result_text (Refused number label fields) = codes "refused " ++ decimal number ++ codes " " ++ label ++ flat_map field_text fields

-- the lines behind an answer's line
unfoldable pub report_lines : Outcome → List ℕ
report_lines (Show entries) = flat_map entry_line entries
report_lines (Vector vector times) = flat_map dated_line (with_moments times vector)
report_lines (Marks marks) = flat_map partner_line marks
report_lines (Meta lines) = flat_map meta_line lines
report_lines _ = []

-- an answer's line, and the lines behind it
unfoldable pub line : Answer → List ℕ
line a = a.verb ++ codes " " ++ a.name ++ codes ": " ++ result_text a.outcome ++ codes "\n" ++ report_lines a.outcome

-- an answer's line without a controller's name, and without a line feed
abbrev pub nameless_line : List ℕ → Outcome → List ℕ
nameless_line verb outcome = verb ++ codes ": " ++ result_text outcome
