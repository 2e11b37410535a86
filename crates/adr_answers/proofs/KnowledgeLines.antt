-- The line of a cursor tells the cursor and its moment, and the line of a partner the partner's mark.
use Rattle.std.proofs.Common.{◌≡◌, ◌<◌, ◌^◌, ℕ, Bool, true, false, cond, List, [], ◌∷◌, ◌++◌, refl, sym, ◌∙◌, append_assoc, arith}
use Rattle.std.specs.Prelude.{All, codes}
use Rattle.std.specs.Ordering.{is_eq}
use Rattle.std.specs.Fmt.{decimal}
use Rattle.std.proofs.lemmas.List.{append_cancel_left}
use Rattle.std.proofs.lemmas.List.Elements.{All-cons, All-head, All-nil, All-tail}
use Rattle.adr_values.specs.Dated.{Dated, with_moments}
use Rattle.adr_values.specs.Order.{identifier_order}
use Rattle.adr_values.specs.Vector.{Cursors, at}
use Rattle.adr_values.specs.declared.mark.Mark.{Mark}
use Rattle.adr_token.specs.Laws.{IsIdentifier}
use Rattle.adr_token.specs.Spelling.{identifier_token}
use Rattle.adr_answers.specs.Line.{dated_line, mark_text, partner_line}
use Rattle.adr_answers.specs.Printable.{IsPrintableCursor, IsPrintableMoment, IsPrintablePartner}
use Rattle.adr_answers.proofs.Tokens.{identifiers_divide, numbers_divide}

some_first : (x : List ℕ) → 32 ∷ x ≡ [] → ⊥
some_first x e = absurd (cc)

-- an identifier behind two spaces, and a space
id_text : List ℕ → List ℕ → List ℕ
id_text i x = codes "  " ++ (identifier_token i ++ (32 ∷ x))

id_divide : (i j x y : List ℕ) → IsIdentifier i → IsIdentifier j → id_text i x ≡ id_text j y → (i ≡ j) × (x ≡ y)
unfolding id_text
id_divide i j x y hi hj e =
    let inside : identifier_token i ++ (32 ∷ x) ≡ identifier_token j ++ (32 ∷ y) = append_cancel_left (codes "  ") _ _ e in
    let d = identifiers_divide i j (32 ∷ x) (32 ∷ y) hi hj refl refl inside in
    let behind : 32 ∷ x ≡ 32 ∷ y = d.1 in
    let left : x ≡ y = cc in
    (d.0, left)

-- a cursor with its moment
pub record IsPrintableDated (d : Dated) : Type 0 where
  pub cursor : IsPrintableCursor d.0
  pub moment : d.1 < 2 ^ 64

dated_flat : (a i b n c m f r : List ℕ) → (a ++ i ++ b ++ n ++ c ++ m ++ f) ++ r ≡ a ++ (i ++ (b ++ (n ++ (c ++ (m ++ (f ++ r))))))
dated_flat a i b n c m f r = simp append_assoc

dated_is : (d : Dated) (r : List ℕ) → dated_line d ++ r ≡ id_text d.0.0 (decimal d.0.1 ++ (32 ∷ (decimal d.1 ++ (10 ∷ r))))
unfolding dated_line id_text
dated_is d r = dated_flat (codes "  ") (identifier_token d.0.0) (codes " ") (decimal d.0.1) (codes " ") (decimal d.1) (codes "\n") r

pub dated_divide : (d e : Dated) (r s : List ℕ) → IsPrintableDated d → IsPrintableDated e → dated_line d ++ r ≡ dated_line e ++ s → (d ≡ e) × (r ≡ s)
dated_divide d e r s hd he h =
    let id = id_divide d.0.0 e.0.0 (decimal d.0.1 ++ (32 ∷ (decimal d.1 ++ (10 ∷ r)))) (decimal e.0.1 ++ (32 ∷ (decimal e.1 ++ (10 ∷ s)))) hd.cursor.inv he.cursor.inv (sym (dated_is d r) ∙ h ∙ dated_is e s) in
    let usn = numbers_divide 32 refl d.0.1 e.0.1 (decimal d.1 ++ (10 ∷ r)) (decimal e.1 ++ (10 ∷ s)) hd.cursor.usn he.cursor.usn id.1 in
    let moment = numbers_divide 10 refl d.1 e.1 r s hd.moment he.moment usn.1 in
    (λ i. ((id.0 i, usn.0 i), moment.0 i), moment.1)

pub dated_some : (d : Dated) (r : List ℕ) → dated_line d ++ r ≡ [] → ⊥
unfolding id_text
dated_some d r h = some_first _ (sym (dated_is d r) ∙ h)

-- the moment at an identifier is one of those that are known, or 0
small_at : (times : Cursors) (q : List ℕ) → All IsPrintableMoment times → at times q < 2 ^ 64
small_at [] q all = omega arith
small_at (t ∷ ts) q all = by (is_eq (identifier_order q t.0)) (small_at ts q (All-tail IsPrintableMoment t ts all))
  where
    by : (b : Bool) → at ts q < 2 ^ 64 → cond b t.1 (at ts q) < 2 ^ 64
    by true rest = All-head IsPrintableMoment t ts all
    by false rest = rest

pub printable_dated : (times cs : Cursors) → All IsPrintableMoment times → All IsPrintableCursor cs → All IsPrintableDated (with_moments times cs)
printable_dated times [] moments all = All-nil IsPrintableDated
printable_dated times (c ∷ cs) moments all =
    All-cons IsPrintableDated (c, at times c.0) (with_moments times cs)
    (record { cursor = All-head IsPrintableCursor c cs all; moment = small_at times c.0 moments })
    (printable_dated times cs moments (All-tail IsPrintableCursor c cs all))

mark_behind : Mark → List ℕ → List ℕ
mark_behind m r = decimal m.obj ++ (47 ∷ (decimal m.prop ++ (47 ∷ (decimal m.seen ++ (10 ∷ r)))))

partner_flat : (a i b j c n d o e p f r : List ℕ) → (a ++ i ++ b ++ j ++ c ++ (n ++ d ++ o ++ e ++ p) ++ f) ++ r ≡ a ++ (i ++ (b ++ (j ++ (c ++ (n ++ (d ++ (o ++ (e ++ (p ++ (f ++ r))))))))))
partner_flat a i b j c n d o e p f r = simp append_assoc

partner_is : (p : List ℕ × List ℕ × Mark) (r : List ℕ) → partner_line p ++ r ≡ id_text p.0 (identifier_token p.1 ++ (32 ∷ mark_behind p.2 r))
unfolding partner_line mark_text id_text mark_behind
partner_is p r = partner_flat (codes "  ") (identifier_token p.0) (codes " ") (identifier_token p.1) (codes " ") (decimal p.2.obj) (codes "/") (decimal p.2.prop) (codes "/") (decimal p.2.seen) (codes "\n") r

pub partner_divide : (p q : List ℕ × List ℕ × Mark) (r s : List ℕ) → IsPrintablePartner p → IsPrintablePartner q → partner_line p ++ r ≡ partner_line q ++ s → (p ≡ q) × (r ≡ s)
unfolding mark_behind
partner_divide p q r s hp hq e =
    let dsa = id_divide p.0 q.0 (identifier_token p.1 ++ (32 ∷ mark_behind p.2 r)) (identifier_token q.1 ++ (32 ∷ mark_behind q.2 s)) hp.dsa hq.dsa (sym (partner_is p r) ∙ e ∙ partner_is q s) in
    let inv = identifiers_divide p.1 q.1 (32 ∷ mark_behind p.2 r) (32 ∷ mark_behind q.2 s) hp.inv hq.inv refl refl dsa.1 in
    let mark : mark_behind p.2 r ≡ mark_behind q.2 s = append_cancel_left (codes " ") _ _ inv.1 in
    let obj = numbers_divide 47 refl p.2.obj q.2.obj _ _ hp.obj hq.obj mark in
    let prop = numbers_divide 47 refl p.2.prop q.2.prop _ _ hp.prop hq.prop obj.1 in
    let seen = numbers_divide 10 refl p.2.seen q.2.seen r s hp.seen hq.seen prop.1 in
    (λ i. (dsa.0 i, inv.0 i, record { obj = obj.0 i; prop = prop.0 i; seen = seen.0 i }), seen.1)

pub partner_some : (p : List ℕ × List ℕ × Mark) (r : List ℕ) → partner_line p ++ r ≡ [] → ⊥
unfolding id_text
partner_some p r h = some_first _ (sym (partner_is p r) ∙ h)
