use Rattle.std.proofs.Common.{◌≡◌}
use Rattle.std.specs.Prelude.{take}
use Rattle.clap.specs.Words.{app_of}
use Rattle.adr_words.specs.Parser.{with_leaves}
use Rattle.adr_words.proofs.parser.with_leaves.Given as goal

-- the subcommands so far
abbrev pub invariant-loop-leaf : goal.invariant-loop-leaf
invariant-loop-leaf l = app_of l.parser ≡ with_leaves (app_of l.fn.parser) (take l.leaf-index l.leaves)
