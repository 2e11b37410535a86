use Rattle.std.proofs.Common.{◌≡◌, ℕ, [], drop, map, fold}
use Rattle.std.specs.Ordering.{nat_cmp}
use Rattle.std.specs.BTreeSet.{insert_key}
use Rattle.adr_model.specs.Update.{Identifier}
use Rattle.adr_view.proofs.links.attributes_of.Given as goal

-- with the attributes of the ends that are left they are all
abbrev pub invariant-loop-attr : goal.invariant-loop-attr
invariant-loop-attr l =
    fold (insert_key nat_cmp) l.attributes.keys (map (λ (e : ℕ × Identifier). e.0) (drop l.attr-index l.ends)) ≡ fold (insert_key nat_cmp) [] (map (λ (e : ℕ × Identifier). e.0) l.ends)
