use Rattle.std.proofs.Common.{◌≡◌, ◌++◌, map, drop}
use Rattle.std.specs.Prelude.{false, nat_lt}
use Rattle.serde_json.specs.View.{items_of}
use Rattle.serde_json.specs.Written.{items_text}
use Rattle.adr_json.specs.Text.{entry_json}
use Rattle.adr_json.proofs.entries.push_entries.Given as goal

-- with what is left the array is whole
abbrev pub invariant-loop-place : goal.invariant-loop-place
invariant-loop-place l =
    l.out.items ++ items_text (nat_lt 0 l.place) (items_of (map entry_json (drop l.place l.entries)))
    ≡ l.fn.out.items ++ items_text false (items_of (map entry_json l.entries))
