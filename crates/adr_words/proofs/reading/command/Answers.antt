use Rattle.std.proofs.Common.{◌∙◌, sym}
use Rattle.std.specs.Prelude.{map, string_bytes}
use Rattle.clap.proofs.WalkLemmas.{list_any-map}
use Rattle.adr_words.specs.Asked.{is_flag}
use Rattle.adr_words.proofs.Judged.{no_flag_command}
use Rattle.adr_words.proofs.reading.command.Goals as goal

pub parsed-requires : goal.parsed-requires
parsed-requires c = sym (list_any-map is_flag string_bytes c.args.words.now) ∙ sym c.has_flag.ensures ∙ c.if-has_flag.false

pub returns-then-has_flag : goal.returns-then-has_flag
returns-then-has_flag c =
    sym (no_flag_command (map string_bytes c.args.words.now) (sym (list_any-map is_flag string_bytes c.args.words.now) ∙ sym c.has_flag.ensures ∙ c.if-has_flag.true))
