use Rattle.std.proofs.Common.{◌≡◌, Some, ◌∙◌}
use Rattle.adr_token.specs.Values.{octet_of}
use Rattle.adr_token.proofs.OctetLemmas.{octet_read}
use Rattle.adr_token.proofs.sets.octets_of.Goals as goal

pub loop-first-preserved : goal.loop-first-preserved
loop-first-preserved c =
    let octet : octet_of c.in-Some.first.now c.in-Some-split_first.second.now ≡ Some c.in-Some-octet_of.octet = cc c.in-Some-octet_of.ensures in
    octet_read c.loop-first.octets.items c.in-Some.first.now c.in-Some-split_first.second.now c.in-Some-octet_of.octet
    c.loop-first.rest.now c.in-Some.more.now c.in-Some-split_first.more.now c.push.new.self.items
    c.in-Some.ensures.cases.0 c.in-Some-split_first.ensures.cases.0 octet c.in_ok-push.ensures.items
    ∙ c.loop-first.invariant
