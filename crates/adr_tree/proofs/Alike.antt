-- Walks by look-ups that are alike.
use Rattle.std.proofs.Common.{◌≡◌, ℕ, zero, suc, Bool, false, ◌&&◌, ◌||◌, Option, Some, None, refl, sym, ap, ap₂, ◌∙◌}
use Rattle.std.specs.Prelude.{if◌then◌else◌}
use Rattle.std.specs.Option.{option_map_or, option_and_then}
use Rattle.adr_model.specs.Update.{Identifier, same_identifier}
use Rattle.adr_model.specs.Place.{Node, named_before}
use Rattle.adr_law_tree.specs.Walk.{Look}
use Rattle.adr_law_tree.specs.Closing.{closing}
use Rattle.adr_law_tree.specs.Opening.{opening, first_breaker, comes_to, climbs}

pub closing_alike : (at also : Look) (stop ends : Node → Bool) (target : Identifier) → ((g : Identifier) → at g ≡ also g) → ((g : Identifier) (p : Node) → at g ≡ Some p → stop p ≡ ends p)
    → (left : ℕ) (g : Identifier) (best : Node) → closing at stop target left g best ≡ closing also ends target left g best
closing_alike at also stop ends target same alike zero g best = refl
closing_alike at also stop ends target same alike (suc left) g best = ap (λ o. if same_identifier g target then Some best else o) (by (at g) refl (λ p c. closing_alike at also stop ends target same alike left p.parent c))
  where
    Next : Look → (Node → Bool) → Node → Option Node
    Next f s p = closing f s target left p.parent (if named_before best p then p else best)

    by : (o : Option Node) → at g ≡ o → ((p c : Node) → closing at stop target left p.parent c ≡ closing also ends target left p.parent c)
        → option_map_or (λ p. if stop p then None else closing at stop target left p.parent (if named_before best p then p else best)) (at g) None
        ≡ option_map_or (λ p. if ends p then None else closing also ends target left p.parent (if named_before best p then p else best)) (also g) None
    by None e rest =
        ap (λ o. option_map_or (λ p. if stop p then None else closing at stop target left p.parent (if named_before best p then p else best)) o None) e
        ∙ sym (ap (λ o. option_map_or (λ p. if ends p then None else closing also ends target left p.parent (if named_before best p then p else best)) o None) (sym (same g) ∙ e))
    by (Some p) e rest =
        ap (λ o. option_map_or (λ p. if stop p then None else closing at stop target left p.parent (if named_before best p then p else best)) o None) e
        ∙ ap₂ (λ b o. if b then None else o) (alike g p e) (rest p (if named_before best p then p else best))
        ∙ sym (ap (λ o. option_map_or (λ p. if ends p then None else closing also ends target left p.parent (if named_before best p then p else best)) o None) (sym (same g) ∙ e))

comes_alike : (at also : Look) (target : Identifier) → ((g : Identifier) → at g ≡ also g) → (left : ℕ) (g : Identifier) → comes_to at target left g ≡ comes_to also target left g
comes_alike at also target same zero g = refl
comes_alike at also target same (suc left) g = ap (λ b. same_identifier g target || b) (by (at g) refl (λ p. comes_alike at also target same left p.parent))
  where
    by : (o : Option Node) → at g ≡ o → ((p : Node) → comes_to at target left p.parent ≡ comes_to also target left p.parent)
        → option_map_or (λ p. comes_to at target left p.parent) (at g) false ≡ option_map_or (λ p. comes_to also target left p.parent) (also g) false
    by None e rest =
        ap (λ o. option_map_or (λ p. comes_to at target left p.parent) o false) e ∙ sym (ap (λ o. option_map_or (λ p. comes_to also target left p.parent) o false) (sym (same g) ∙ e))
    by (Some p) e rest =
        ap (λ o. option_map_or (λ p. comes_to at target left p.parent) o false) e ∙ rest p ∙ sym (ap (λ o. option_map_or (λ p. comes_to also target left p.parent) o false) (sym (same g) ∙ e))

first_alike : (at also : Look) (breaks ends : Node → Bool) → ((g : Identifier) → at g ≡ also g) → ((g : Identifier) (p : Node) → at g ≡ Some p → breaks p ≡ ends p) → (left : ℕ) (g : Identifier)
    → first_breaker at breaks left g ≡ first_breaker also ends left g
first_alike at also breaks ends same alike zero g = refl
first_alike at also breaks ends same alike (suc left) g = by (at g) refl (λ p. first_alike at also breaks ends same alike left p.parent)
  where
    by : (o : Option Node) → at g ≡ o → ((p : Node) → first_breaker at breaks left p.parent ≡ first_breaker also ends left p.parent)
        → option_map_or (λ p. if breaks p then Some p else first_breaker at breaks left p.parent) (at g) None ≡ option_map_or (λ p. if ends p then Some p else first_breaker also ends left p.parent) (also g) None
    by None e rest =
        ap (λ o. option_map_or (λ p. if breaks p then Some p else first_breaker at breaks left p.parent) o None) e
        ∙ sym (ap (λ o. option_map_or (λ p. if ends p then Some p else first_breaker also ends left p.parent) o None) (sym (same g) ∙ e))
    by (Some p) e rest =
        ap (λ o. option_map_or (λ p. if breaks p then Some p else first_breaker at breaks left p.parent) o None) e
        ∙ ap₂ (λ b o. if b then Some p else o) (alike g p e) (rest p)
        ∙ sym (ap (λ o. option_map_or (λ p. if ends p then Some p else first_breaker also ends left p.parent) o None) (sym (same g) ∙ e))

pub opening_alike : (at also : Look) (breaks ends : Node → Bool) (left : ℕ) (x : Node) → ((g : Identifier) → at g ≡ also g) → ((g : Identifier) (p : Node) → at g ≡ Some p → breaks p ≡ ends p) → breaks x ≡ ends x
    → opening at breaks left x ≡ opening also ends left x
opening_alike at also breaks ends left x same alike own =
    ap₂ (λ b o. if b then Some x else option_and_then (λ (b : Node). if comes_to at b.object.guid left b.parent then None else Some b) o) own (first_alike at also breaks ends same alike left x.parent)
    ∙ ap (λ o. if ends x then Some x else o) (by (first_breaker also ends left x.parent))
  where
    by : (o : Option Node) → option_and_then (λ (b : Node). if comes_to at b.object.guid left b.parent then None else Some b) o ≡ option_and_then (λ (b : Node). if comes_to also b.object.guid left b.parent then None else Some b) o
    by None = refl
    by (Some b) = ap (λ t. if t then None else Some b) (comes_alike at also b.object.guid same left b.parent)

pub climbs_alike : (at also : Look) (breaks ends : Node → Bool) (target : Identifier) → ((g : Identifier) → at g ≡ also g) → ((g : Identifier) (p : Node) → at g ≡ Some p → breaks p ≡ ends p) → (seen : Bool) (left : ℕ) (g : Identifier)
    → climbs at breaks target seen left g ≡ climbs also ends target seen left g
climbs_alike at also breaks ends target same alike seen zero g = refl
climbs_alike at also breaks ends target same alike seen (suc left) g = by (at g) refl (λ p t. climbs_alike at also breaks ends target same alike t left p.parent)
  where
    by : (o : Option Node) → at g ≡ o → ((p : Node) (t : Bool) → climbs at breaks target t left p.parent ≡ climbs also ends target t left p.parent)
        → option_map_or (λ p. same_identifier p.object.guid target || (if breaks p && seen then false else climbs at breaks target (breaks p || seen) left p.parent)) (at g) false
        ≡ option_map_or (λ p. same_identifier p.object.guid target || (if ends p && seen then false else climbs also ends target (ends p || seen) left p.parent)) (also g) false
    by None e rest =
        ap (λ o. option_map_or (λ p. same_identifier p.object.guid target || (if breaks p && seen then false else climbs at breaks target (breaks p || seen) left p.parent)) o false) e
        ∙ sym (ap (λ o. option_map_or (λ p. same_identifier p.object.guid target || (if ends p && seen then false else climbs also ends target (ends p || seen) left p.parent)) o false) (sym (same g) ∙ e))
    by (Some p) e rest =
        ap (λ o. option_map_or (λ p. same_identifier p.object.guid target || (if breaks p && seen then false else climbs at breaks target (breaks p || seen) left p.parent)) o false) e
        ∙ ap (λ b. same_identifier p.object.guid target || (if breaks p && seen then false else b)) (rest p (breaks p || seen))
        ∙ ap (λ b. same_identifier p.object.guid target || (if b && seen then false else climbs also ends target (b || seen) left p.parent)) (alike g p e)
        ∙ sym (ap (λ o. option_map_or (λ p. same_identifier p.object.guid target || (if ends p && seen then false else climbs also ends target (ends p || seen) left p.parent)) o false) (sym (same g) ∙ e))
