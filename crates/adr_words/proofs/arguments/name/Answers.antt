use Rattle.clap.specs.Words.{first_of, found_of, rows_of}
use Rattle.adr_words.specs.Commands.{name_of}
use Rattle.std.proofs.Common.{codes}
use Rattle.adr_words.proofs.Forms.{nothing_through, read_through}
use Rattle.adr_words.proofs.arguments.name.Goals as goal

pub returns-in-Some : goal.returns-in-Some
returns-in-Some c =
    read_through c.name_of.result name_of (first_of (codes "NAME") (rows_of (found_of c.args.matches.now))) c.as_bytes.result.now c.in-Some.word.now
    c.in-Some.ensures c.as_bytes.ensures.value c.name_of.ensures

pub returns-in-None : goal.returns-in-None
returns-in-None c = nothing_through name_of (first_of (codes "NAME") (rows_of (found_of c.args.matches.now))) c.in-None.ensures
