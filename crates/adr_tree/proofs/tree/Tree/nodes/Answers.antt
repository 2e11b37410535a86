use Rattle.std.proofs.Common.{◌≡◌, ◌++◌, ◌∷◌, [], List, Option, sym, ap, ◌∙◌, append_assoc}
use Rattle.std.specs.List.{cons_option}
use Rattle.adr_model.specs.Place.{Node}
use Rattle.adr_model.specs.Update.{Identifier}
use Rattle.adr_update.specs.Referents.{referents}
use Rattle.adr_tree.specs.Slots.{seen}
use Rattle.adr_tree.proofs.Found.{pushed}
use Rattle.adr_tree.proofs.tree.Tree.nodes.Goals as goal

-- what is seen of an entry and of those behind it
seen_next : (left rest : List (Identifier × Option Node)) (guid : Identifier) (slot : Option Node) → left ≡ (guid, slot) ∷ rest → seen left ≡ cons_option slot (seen rest)
seen_next left rest guid slot is = ap seen is

pub loop-slot-preserved-in-Continue-1 : goal.loop-slot-preserved-in-Continue-1
loop-slot-preserved-in-Continue-1 c =
    let live = referents c.loop-slot.live.items in
    let rest = c.next.new.self in
    let node = c.in-Some-slot.node in
    ap (λ (ns : List Node). ns ++ seen rest) (pushed c.loop-slot.live.items c.push.new.self.items _ c.in_ok-push.ensures.items)
    ∙ (append_assoc live (node ∷ []) (seen rest)
    ∙ (ap (λ (ns : List Node). live ++ ns)
    (sym (seen_next c.loop-slot.slot-iterator rest _ c.in-Some.slot.now (rw c.in-Some.is at c.next.ensures.steps) ∙ ap (λ (s : Option Node). cons_option s (seen rest)) c.in-Some-slot.is))
    ∙ c.loop-slot.invariant))
