use Rattle.std.proofs.Common.{refl}
use Rattle.adr_words.specs.Parser.{parser}
use Rattle.adr_words.proofs.parser.subcommands.Goals as goal

-- the table of the code is that of the commands
pub returns : goal.returns
unfolding parser
returns c = refl
