use Rattle.std.proofs.Common.{◌∙◌, ℕ, ◌<◌, get_or, arith}
use Rattle.std.proofs.lemmas.Result.{IfOk-weaker}
use Rattle.adr_json.proofs.Figures.{encode_lower-figures}
use Rattle.adr_json.proofs.values.figures.Goals as goal

pub returns : goal.returns
returns c =
    let bytes : (k : ℕ) → get_or c.args.bytes.now k 0 < 256 = λ k. omega (arith, c.type_inv.bytes k) in
    IfOk-weaker c.encode.result _ _ (λ text is. is ∙ encode_lower-figures c.args.bytes.now bytes) c.encode.ensures
