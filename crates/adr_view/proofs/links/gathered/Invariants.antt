use Rattle.std.proofs.Common.{◌≡◌, ◌++◌, ℕ, [], map, fold}
use Rattle.std.specs.List.{filter_map}
use Rattle.std.specs.BTreeSet.{insert_key}
use Rattle.adr_values.specs.Order.{identifier_order}
use Rattle.adr_model.specs.Directory.{of_attribute, gathered}
use Rattle.adr_view.proofs.links.gathered.Given as goal

-- with those of the attributes that are left they are all
abbrev pub invariant-loop-attr : goal.invariant-loop-attr
invariant-loop-attr l = record {
  can : (goal.iterator-loop-attr).can_next l.attr-iterator;
  finite : (goal.iterator-loop-attr).is_finite l.attr-iterator;
  same : l.list.items ++ map (λ (attr : ℕ). (attr, fold (insert_key identifier_order) [] (filter_map (of_attribute attr) l.ends))) l.attr-iterator ≡ gathered l.ends;
}
