use Rattle.std.proofs.Common.{◌≡◌, ◌∙◌, ◌+◌, ℕ, List, [], ◌∷◌, ◌++◌, map, true, false, ◌||◌, ap, ap₂, sym, arith, Bor, get_or, take}
use Rattle.std.proofs.lemmas.List.{map_push, take_more}
use Rattle.clap.specs.Words.{Rule, Text, new_rule, rule_of, with_rule}
use Rattle.clap.specs.Simple.{new_shape}
use Rattle.clap.specs.declared.builder.arg.Arg.{Arg}
use Rattle.adr_words.specs.Parser.{argument}
use Rattle.adr_words.proofs.parser.leaf.Goals as goal

abbrev now : Bor Text → Text
now id = id.now

-- one argument more
one_more : (ids : List (Bor Text)) (i : ℕ) (id : Bor Text) → take (i + 1) ids ≡ take i ids ++ id ∷ []
    → map argument (map now (take i ids)) ++ argument id.now ∷ [] ≡ map argument (map now (take (i + 1) ids))
one_more ids i id more =
    sym (map_push argument (map now (take i ids)) id.now) ∙ ap (map argument) (sym (map_push now (take i ids) id)) ∙ ap (λ (xs : List (Bor Text)). map argument (map now xs)) (sym more)

-- an argument that has to be there now
has_rule : (old arg : Arg) (id : Text) → arg ≡ record old { required = true } → rule_of old ≡ new_rule id → rule_of arg ≡ argument id
has_rule old arg id is rule = ap rule_of is ∙ ap (λ (r : Rule). record r { required = true }) rule

is_local : (old arg : Arg) → arg ≡ record old { required = true } → old.global ≡ false → arg.global ≡ false
is_local old arg is local = ap (λ (a : Arg). a.global) is ∙ local

pub loop-id-preserved : goal.loop-id-preserved
loop-id-preserved c =
    let i = c.loop-id.id-index in
    let ids = c.args.ids.now in
    let id = get_or ids i (record { ref_ptr = (0, 0); now = [] }) in
    let rule = has_rule c.new.result c.required.result id.now c.required.ensures c.new.ensures.rule in
    let local = is_local c.new.result c.required.result c.required.ensures c.new.ensures.optional.1 in
    let rules = one_more ids i id (take_more ids i (record { ref_ptr = (0, 0); now = [] }) (omega arith)) in
    record {
      shape = c.in_ok-command.ensures.shape local ∙ ap₂ with_rule c.loop-id.invariant.shape rule
          ∙ ap (λ (rs : List Rule). record { top = record (new_shape c.args.word.now) { rules = rs }; subs = [] }) rules;
      local = c.in_ok-command.ensures.globals ∙ ap₂ (λ a b. a || b) c.loop-id.invariant.local local;
    }
