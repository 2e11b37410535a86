use Rattle.adr_token.proofs.TextLemmas.{name_utf8}
use Rattle.adr_token.proofs.words.own_text.Goals as goal

pub of-requires : goal.of-requires
of-requires c = rw c.in_ok-bytes.ensures.items (name_utf8 c.args.word.now c.requires)
