use Rattle.std.proofs.Common.{List, []}
use Rattle.adr_wire.specs.Reading.{gathered_at}
use Rattle.adr_image.specs.Image.{Rows, with_link, link_at}
use Rattle.adr_image.specs.Whole.{dead_of, no_links}
use Rattle.adr_image.specs.Seen.{KeepsLinks}
use Rattle.adr_image.proofs.Keeping.{IsAmid}
use Rattle.adr_image.proofs.links.Links.read_each.Given as goal

-- what is kept is what the links so far say, and the others are left to read
abbrev pub invariant-loop : goal.invariant-loop
invariant-loop l =
    (os : List Rows) → KeepsLinks os l.fn.self []
    → IsAmid with_link (link_at l.usn l.schema (dead_of os)) (no_links os) (KeepsLinks os) l.count (gathered_at with_link (link_at l.usn l.schema (dead_of os)) l.count (no_links os) l.fn.reader) l.counter l.links l.reader
