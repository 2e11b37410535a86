use Rattle.clap.specs.Words.{first_of, found_of, rows_of}
use Rattle.adr_words.specs.Commands.{number_within}
use Rattle.adr_words.proofs.Forms.{nothing_through, read_through}
use Rattle.adr_words.proofs.arguments.number_at.Goals as goal

pub returns-in-Some-clause-value : goal.returns-in-Some-clause-value
returns-in-Some-clause-value c =
    read_through c.number_of.result (number_within 1 c.args.most) (first_of c.args.id.now (rows_of (found_of c.args.matches.now))) c.as_bytes.result.now c.in-Some.word.now
    c.in-Some.ensures c.as_bytes.ensures.value c.number_of.ensures.value

pub returns-in-None-clause-value : goal.returns-in-None-clause-value
returns-in-None-clause-value c = nothing_through (number_within 1 c.args.most) (first_of c.args.id.now (rows_of (found_of c.args.matches.now))) c.in-None.ensures
