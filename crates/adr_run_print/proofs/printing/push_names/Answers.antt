use Rattle.std.proofs.Common.{ℕ, List, ◌++◌, codes, arith, sym, ap, ◌∙◌}
use Rattle.adr_token.proofs.Lists.{added, all_added}
use Rattle.adr_run_print.specs.Printed.{spaced}
use Rattle.adr_run_print.proofs.PrintLaws.{names_text}
use Rattle.adr_run_print.proofs.printing.push_names.Goals as goal

pub loop-name-preserved : goal.loop-name-preserved
loop-name-preserved c =
    added (λ (name : List ℕ). codes " " ++ name) c.args.out.now.items c.loop-name.out.items c.push_spaced_name.new.out.items c.args.names.now c.loop-name.name-index c.name-item.result c.name-item.result
    c.loop-name-test.true c.name-item.is c.loop-name.invariant c.in_ok-push_spaced_name.ensures

pub returns : goal.returns
returns c =
    all_added (λ (name : List ℕ). codes " " ++ name) c.args.out.now.items c.loop-name.out.items c.args.names.now c.loop-name.name-index (omega arith) c.loop-name.invariant
    ∙ ap (λ (names : List (List ℕ)). c.args.out.now.items ++ spaced names) (sym (names_text c.args.names.now))
