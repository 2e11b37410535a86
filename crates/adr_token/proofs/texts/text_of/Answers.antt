use Rattle.std.proofs.Common.{arith}
use Rattle.std.proofs.lemmas.Str.{is_utf8-from_IsUtf8}
use Rattle.adr_token.proofs.TextLemmas.{not_utf8, fits, unfit}
use Rattle.adr_token.proofs.texts.text_of.Goals as goal

pub returns-in-Ok : goal.returns-in-Ok
returns-in-Ok c =
    (c.of.ensures, rw (← c.as_slice.ensures.value) (fits c.as_slice.result.now (omega arith) (is_utf8-from_IsUtf8 _ c.in-Ok.ensures.cases.1)))

pub returns-in-Err : goal.returns-in-Err
returns-in-Err c = rw (← c.as_slice.ensures.value) (unfit c.as_slice.result.now (not_utf8 _ c.in-Err.ensures.cases.0))
