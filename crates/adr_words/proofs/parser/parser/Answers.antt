use Rattle.std.proofs.Common.{◌≡◌, ◌∙◌, List, ap}
use Rattle.std.proofs.lemmas.Result.{IfOk-weaker}
use Rattle.clap.specs.Words.{App, app_of}
use Rattle.adr_words.specs.declared.parser.Subcommand.{Subcommand}
use Rattle.adr_words.specs.Parser.{bare, parser, with_leaves}
use Rattle.adr_words.proofs.parser.parser.Goals as goal

with_all : (app old : App) (leaves : List Subcommand) → app ≡ with_leaves old leaves → old ≡ bare → with_leaves bare leaves ≡ parser → app ≡ parser
with_all app old leaves is same all = is ∙ ap (λ (a : App). with_leaves a leaves) same ∙ all

pub returns : goal.returns
returns c =
    let leaves = c.subcommands.result.now in
    IfOk-weaker c.with_leaves.result (λ last. app_of last ≡ with_leaves (app_of c.bare.result) leaves) (λ last. app_of last ≡ parser)
    (λ last is. with_all (app_of last) (app_of c.bare.result) leaves is c.bare.ensures c.subcommands.ensures) c.with_leaves.ensures
