use Rattle.std.proofs.Common.{◌≡◌, ◌++◌, take, flat_map}
use Rattle.adr_token.specs.Spelling.{two_figures}
use Rattle.adr_token.proofs.values.push_all_figures.Given as goal

-- the bytes so far are added
abbrev pub invariant-loop-byte : goal.invariant-loop-byte
invariant-loop-byte l = l.out.items ≡ l.fn.out.items ++ flat_map two_figures (take l.byte-index l.bytes)
