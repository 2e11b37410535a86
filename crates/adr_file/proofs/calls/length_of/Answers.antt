use Rattle.adr_file.proofs.calls.length_of.Goals as goal

pub returns-clause-length : goal.returns-clause-length
returns-clause-length g c = λ there is.
    let own = (c.requires there is).1 in
    let opened = c.in_ok-measure.ensures.opened there is in
    c.in_ok-measure.ensures.length there is (cc (own, opened))
