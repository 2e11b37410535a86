use Rattle.std.proofs.Common.{◌≡◌, false, map, []}
use Rattle.std.specs.Prelude.{take}
use Rattle.clap.specs.Words.{app_of}
use Rattle.clap.specs.declared.builder.command.Command.TheViews.{out-Command}
use Rattle.adr_words.specs.Parser.{leaf}
use Rattle.adr_words.proofs.parser.leaf.Given as goal

-- the arguments so far
abbrev pub invariant-loop-id : goal.invariant-loop-id
invariant-loop-id l = record {
  shape : app_of l.command ≡ record { top = leaf l.word (map (λ id. id.now) (take l.id-index l.ids)); subs = [] };
  local : (out-Command l.command).has_globals ≡ false;
}
