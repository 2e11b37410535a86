use Rattle.std.proofs.Common.{◌∙◌, sym}
use Rattle.std.specs.Prelude.{map, string_bytes}
use Rattle.std.proofs.lemmas.Result.{IfOk-weaker}
use Rattle.clap.specs.Words.{app_of}
use Rattle.adr_words.proofs.Judged.{asked_right, refused_right}
use Rattle.adr_words.proofs.reading.parsed.Goals as goal

pub returns-in-Ok : goal.returns-in-Ok
returns-in-Ok c =
    let right = asked_right (app_of c.in_ok-parser.parser) (map string_bytes c.args.words.now) c.in-Ok.matches c.in_ok-parser.ensures c.requires c.in-Ok.ensures.kinds c.in-Ok.ensures.matches in
    IfOk-weaker c.asked.result _ _ (λ command is. is ∙ right) c.asked.ensures

pub returns : goal.returns
returns c =
    sym (refused_right (app_of c.in_ok-parser.parser) (map string_bytes c.args.words.now) c.in-Err.error c.in_ok-parser.ensures c.requires c.in-Err.ensures.kinds
    (λ is. c.in_default.not-OutOfMemory (c.kind.ensures ∙ is)))
