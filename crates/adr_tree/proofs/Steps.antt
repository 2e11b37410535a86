-- One step of a walk.
use Rattle.std.proofs.Common.{◌≡◌, ℕ, zero, suc, ◌-◌, ◌<◌, ◌&&◌, ◌||◌, Bool, false, Option, Some, None, sym, ap, ◌∙◌, arith}
use Rattle.std.specs.Prelude.{if◌then◌else◌}
use Rattle.std.specs.Option.{option_map_or}
use Rattle.adr_model.specs.Update.{Identifier, same_identifier}
use Rattle.adr_model.specs.Place.{Node, named_before}
use Rattle.adr_law_tree.specs.Walk.{Look}
use Rattle.adr_law_tree.specs.Closing.{closing}
use Rattle.adr_law_tree.specs.Opening.{climbs, comes_to, first_breaker}

pub one_more : (at : Look) (stop : Node → Bool) (target : Identifier) (left : ℕ) (guid : Identifier) (best p next_best : Node) (next : Identifier) (whole : Option Node) → 0 < left
    → same_identifier guid target ≡ false → at guid ≡ Some p → stop p ≡ false → next_best ≡ (if named_before best p then p else best) → next ≡ p.parent
    → closing at stop target left guid best ≡ whole → closing at stop target (left - 1) next next_best ≡ whole
one_more at stop target zero guid best p next_best next whole some other found goes younger up so_far = absurd (omega (arith, some))
one_more at stop target (suc left) guid best p next_best next whole some other found goes younger up so_far =
    let e : suc left - 1 ≡ left = omega arith in
    rw (e, younger, up) (sym step ∙ so_far)
  where
    step : closing at stop target (suc left) guid best ≡ closing at stop target left p.parent (if named_before best p then p else best)
    step =
        ap (λ b. if b then Some best else option_map_or (λ p. if stop p then None else closing at stop target left p.parent (if named_before best p then p else best)) (at guid) None) other
        ∙ ap (λ o. option_map_or (λ p. if stop p then None else closing at stop target left p.parent (if named_before best p then p else best)) o None) found
        ∙ ap (λ b. if b then None else closing at stop target left p.parent (if named_before best p then p else best)) goes

pub none_more : (at : Look) (stop : Node → Bool) (target : Identifier) (left : ℕ) (guid : Identifier) (best : Node) (whole : Option Node) → 0 < left → same_identifier guid target ≡ false → at guid ≡ None
    → closing at stop target left guid best ≡ whole → None ≡ whole
none_more at stop target zero guid best whole some other found so_far = absurd (omega (arith, some))
none_more at stop target (suc left) guid best whole some other found so_far = sym step ∙ so_far
  where
    step : closing at stop target (suc left) guid best ≡ None
    step =
        ap (λ b. if b then Some best else option_map_or (λ p. if stop p then None else closing at stop target left p.parent (if named_before best p then p else best)) (at guid) None) other
        ∙ ap (λ o. option_map_or (λ p. if stop p then None else closing at stop target left p.parent (if named_before best p then p else best)) o None) found

pub one_less : (at : Look) (breaks : Node → Bool) (left : ℕ) (guid : Identifier) (p : Node) (next : Identifier) (whole : Option Node) → 0 < left → at guid ≡ Some p → breaks p ≡ false → next ≡ p.parent
    → first_breaker at breaks left guid ≡ whole → first_breaker at breaks (left - 1) next ≡ whole
one_less at breaks zero guid p next whole some found goes up so_far = absurd (omega (arith, some))
one_less at breaks (suc left) guid p next whole some found goes up so_far =
    let e : suc left - 1 ≡ left = omega arith in
    rw (e, up) (sym (ap (λ o. option_map_or (λ p. if breaks p then Some p else first_breaker at breaks left p.parent) o None) found ∙ ap (λ b. if b then Some p else first_breaker at breaks left p.parent) goes) ∙ so_far)

pub one_on : (at : Look) (target : Identifier) (left : ℕ) (guid : Identifier) (p : Node) (next : Identifier) (whole : Bool) → 0 < left → same_identifier guid target ≡ false → at guid ≡ Some p → next ≡ p.parent
    → comes_to at target left guid ≡ whole → comes_to at target (left - 1) next ≡ whole
one_on at target zero guid p next whole some other found up so_far = absurd (omega (arith, some))
one_on at target (suc left) guid p next whole some other found up so_far =
    let e : suc left - 1 ≡ left = omega arith in
    rw (e, up) (sym (ap (λ b. b || option_map_or (λ p. comes_to at target left p.parent) (at guid) false) other ∙ ap (λ o. option_map_or (λ p. comes_to at target left p.parent) o false) found) ∙ so_far)

pub one_up : (at : Look) (breaks : Node → Bool) (target : Identifier) (left : ℕ) (guid : Identifier) (seen next_seen second : Bool) (p : Node) (next : Identifier) (whole : Bool) → 0 < left → at guid ≡ Some p
    → same_identifier p.object.guid target ≡ false → second ≡ (breaks p && seen) → second ≡ false → next_seen ≡ (breaks p || seen) → next ≡ p.parent
    → climbs at breaks target seen left guid ≡ whole → climbs at breaks target next_seen (left - 1) next ≡ whole
one_up at breaks target zero guid seen next_seen second p next whole some found other is not_second sees up so_far = absurd (omega (arith, some))
one_up at breaks target (suc left) guid seen next_seen second p next whole some found other is not_second sees up so_far =
    let e : suc left - 1 ≡ left = omega arith in
    rw (e, sees, up) (sym step ∙ so_far)
  where
    step : climbs at breaks target seen (suc left) guid ≡ climbs at breaks target (breaks p || seen) left p.parent
    step =
        ap (λ o. option_map_or (λ p. same_identifier p.object.guid target || (if breaks p && seen then false else climbs at breaks target (breaks p || seen) left p.parent)) o false) found
        ∙ ap (λ b. b || (if breaks p && seen then false else climbs at breaks target (breaks p || seen) left p.parent)) other
        ∙ ap (λ b. if b then false else climbs at breaks target (breaks p || seen) left p.parent) (sym is ∙ not_second)
