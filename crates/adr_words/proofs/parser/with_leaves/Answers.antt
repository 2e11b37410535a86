use Rattle.std.proofs.Common.{◌≡◌, ◌∙◌, ◌+◌, ℕ, List, [], ◌∷◌, ◌++◌, ap, sym, map, arith, get_or, take}
use Rattle.std.proofs.lemmas.List.{take_more}
use Rattle.std.proofs.lemmas.List.Sums.{fold-append}
use Rattle.clap.specs.Words.{App}
use Rattle.adr_words.specs.declared.parser.Subcommand.{Subcommand}
use Rattle.adr_words.specs.Parser.{with_leaf, with_leaves}
use Rattle.adr_words.proofs.parser.with_leaves.Goals as goal

abbrev with_one : App → Subcommand → App
with_one app one = with_leaf app one.word.now (map (λ id. id.now) one.ids.now)

-- one subcommand more
one_more : (app : App) (leaves : List Subcommand) (i : ℕ) (one : Subcommand) → take (i + 1) leaves ≡ take i leaves ++ one ∷ []
    → with_one (with_leaves app (take i leaves)) one ≡ with_leaves app (take (i + 1) leaves)
one_more app leaves i one more = sym (fold-append with_one app (take i leaves) (one ∷ [])) ∙ ap (with_leaves app) (sym more)

pub loop-leaf-preserved : goal.loop-leaf-preserved
loop-leaf-preserved c =
    let none : Subcommand = record { word = record { ref_ptr = (0, 0); now = [] }; ids = record { ref_ptr = (0, 0); now = [] } } in
    let leaves = c.args.leaves.now in
    let i = c.loop-leaf.leaf-index in
    let one = get_or leaves i none in
    c.in_ok-parser.ensures ∙ ap (λ (app : App). with_one app one) c.loop-leaf.invariant
    ∙ one_more _ leaves i one (take_more leaves i none (omega arith))
