use Rattle.std.proofs.Common.{◌≡◌, map, take}
use Rattle.serde_json.specs.View.{view}
use Rattle.adr_json.proofs.objects.array_json.Given as goal

-- those so far stand in the array
abbrev pub invariant-loop-item : goal.invariant-loop-item
invariant-loop-item g l = map view l.items.items ≡ map g.T.ToJson.json (take l.item-index l.list)
