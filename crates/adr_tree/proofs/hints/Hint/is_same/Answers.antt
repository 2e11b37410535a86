use Rattle.std.proofs.Common.{◌≡◌, Bool, true, false, refl, sym, ap, ◌∙◌}
use Rattle.std.specs.Bool.{OnFalse}
use Rattle.std.specs.Ordering.{is_eq}
use Rattle.adr_tree.specs.Hints.{hint_order}
use Rattle.adr_tree.proofs.Runs.{itself_at}
use Rattle.adr_tree.proofs.hints.Hint.is_same.Goals as goal

pub returns : goal.returns
returns c = by c.is_eq.result refl
  where
    by : (b : Bool) → c.is_eq.result ≡ b → OnFalse b (c.args.hint.now ≡ c.args.self.now → ⊥)
    by true is = tt
    by false is = λ e.
        let own : is_eq (hint_order c.args.hint.now c.args.self.now) ≡ true = ap (λ h. is_eq (hint_order c.args.hint.now h)) (sym e) ∙ itself_at c.args.hint.now in
        let no : false ≡ true = sym is ∙ c.is_eq.ensures ∙ ap is_eq c.cmp.ensures ∙ own in cc
