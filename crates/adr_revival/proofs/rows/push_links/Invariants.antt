use Rattle.std.proofs.Common.{◌≡◌, ◌≤◌, ◌+◌, ◌++◌, drop, length}
use Rattle.adr_model.specs.Write.{new_links, usn_limit}
use Rattle.adr_revival.proofs.rows.push_links.Given as goal

-- the rows so far, and those of the links that are left, are all; each of these has a number
abbrev pub invariant-loop-link : goal.invariant-loop-link
invariant-loop-link l = record {
  same : l.writes.items ++ new_links l.state l.now l.usn (drop l.link-index l.links) ≡ l.initial.writes.items ++ new_links l.state l.now l.first l.links;
  room : l.usn + length (drop l.link-index l.links) ≤ usn_limit + 1;
}
