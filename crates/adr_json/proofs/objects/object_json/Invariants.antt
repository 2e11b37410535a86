use Rattle.std.proofs.Common.{◌≡◌, take}
use Rattle.std.specs.List.{fold}
use Rattle.serde_json.specs.Data.{no_members}
use Rattle.serde_json.specs.View.{members_view}
use Rattle.adr_json.specs.Text.{with_member}
use Rattle.adr_json.proofs.objects.object_json.Given as goal

-- those so far are members
abbrev pub invariant-loop-attr : goal.invariant-loop-attr
invariant-loop-attr g l = members_view l.members.entries ≡ fold (with_member g.T.ToJson.json) no_members (take l.attr-index l.attributes)
