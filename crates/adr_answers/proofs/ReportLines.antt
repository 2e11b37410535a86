-- What a report writes tells what it reports.
use Rattle.std.proofs.Common.{◌≡◌, ℕ, ◌<◌, ◌^◌, List, [], ◌∷◌, ◌++◌, length, flat_map, refl, sym, ap, ◌∙◌, append_assoc}
use Rattle.std.specs.Prelude.{All, codes}
use Rattle.std.specs.Fmt.{decimal}
use Rattle.std.proofs.lemmas.Fmt.{decimal_injective}
use Rattle.std.proofs.lemmas.List.{append_cancel_left}
use Rattle.adr_call.specs.declared.directory.Entry.{Entry}
use Rattle.adr_values.specs.declared.mark.Mark.{Mark}
use Rattle.adr_values.specs.Dated.{Dated, cursors_of, moments_of, with_moments}
use Rattle.adr_values.specs.Vector.{Cursors}
use Rattle.adr_values.proofs.Dated.{cursors_with, moments_with}
use Rattle.adr_call.specs.declared.outcome.Outcome.{Outcome}
use Rattle.adr_call.specs.declared.outcome.Outcome.TheVariants.{Show, Vector, Marks}
use Rattle.adr_answers.specs.Line.{dated_line, entry_line, line, partner_line, report_lines, result_text}
use Rattle.adr_answers.specs.Laws.{EqualLinesMeanEqualDirectories, EqualEntryLinesMeanEqualDirectories, LinesAreToldFromWhatFollows, EqualLinesMeanEqualVectors, EqualLinesMeanEqualMarks, report}
use Rattle.adr_answers.specs.Printable.{IsPrintableEntry, IsPrintablePartner}
use Rattle.adr_answers.proofs.Prefixes.{as_many_divide, lists_divide}
use Rattle.adr_answers.proofs.Tokens.{figures_divide}
use Rattle.adr_answers.proofs.EntryLines.{entry_divide, entry_some}
use Rattle.adr_answers.proofs.KnowledgeLines.{IsPrintableDated, dated_divide, dated_some, printable_dated, partner_divide, partner_some}

-- a report in its pieces: what is the same in each, the number of lines, the lines
front : List ℕ → List ℕ → List ℕ → List ℕ
front verb name x = verb ++ ((codes " " ++ name) ++ (codes ": " ++ x))

flat : (a n c k l es r : List ℕ) → (a ++ n ++ c ++ k ++ l ++ es) ++ r ≡ a ++ (n ++ (c ++ (k ++ (l ++ (es ++ r)))))
flat a n c k l es r = simp append_assoc

front_same : (verb name x y : List ℕ) → front verb name x ≡ front verb name y → x ≡ y
unfolding front
front_same verb name x y e =
    let behind : (codes " " ++ name) ++ (codes ": " ++ x) ≡ (codes " " ++ name) ++ (codes ": " ++ y) = append_cancel_left verb _ _ e in
    append_cancel_left (codes ": ") x y (append_cancel_left ((codes " " ++ name)) _ _ behind)

-- no bytes are left
Nothing : List ℕ → Type 0
Nothing r = r ≡ []

module _ {A : Type 0} (verb : List ℕ) (outcome : List A → Outcome) (f : A → List ℕ) (P : A → Type 0)
    (is : (name : List ℕ) (xs : List A) (r : List ℕ) → report verb name (outcome xs) ++ r ≡ front verb name (decimal (length xs) ++ (10 ∷ (flat_map f xs ++ r))))
    (one : (a b : A) (r s : List ℕ) → P a → P b → f a ++ r ≡ f b ++ s → (a ≡ b) × (r ≡ s))
    (some : (a : A) (r : List ℕ) → f a ++ r ≡ [] → ⊥) where
  pieces_divide : (name : List ℕ) (xs ys : List A) (r s : List ℕ) → report verb name (outcome xs) ++ r ≡ report verb name (outcome ys) ++ s
      → (decimal (length xs) ≡ decimal (length ys)) × (flat_map f xs ++ r ≡ flat_map f ys ++ s)
  pieces_divide name xs ys r s h =
      figures_divide 10 refl (length xs) (length ys) (flat_map f xs ++ r) (flat_map f ys ++ s) (front_same verb name _ _ (sym (is name xs r) ∙ h ∙ is name ys s))

  lines_divide : (xs ys : List A) (r s : List ℕ) → All P xs → All P ys → Nothing r → Nothing s → flat_map f xs ++ r ≡ flat_map f ys ++ s → (xs ≡ ys) × (r ≡ s)
  unfolding Nothing
  lines_divide = lists_divide f P (λ (x : List ℕ). Unit {0}) Nothing (λ a b r s ha hb er es h. one a b r s ha hb h) (λ xs r h. tt) (λ a r s ha er es h. some a r (h ∙ es))

  reports_same : (name : List ℕ) (xs ys : List A) → All P xs → All P ys → report verb name (outcome xs) ≡ report verb name (outcome ys) → xs ≡ ys
  unfolding Nothing
  reports_same name xs ys hx hy h =
      (lines_divide xs ys [] [] hx hy refl refl (pieces_divide name xs ys [] [] (ap (λ (x : List ℕ). x ++ []) h)).1).0

  below_same : (xs ys : List A) → All P xs → All P ys → flat_map f xs ≡ flat_map f ys → xs ≡ ys
  unfolding Nothing
  below_same xs ys hx hy h = (lines_divide xs ys [] [] hx hy refl refl (ap (λ (x : List ℕ). x ++ []) h)).0

  reports_divide : (name : List ℕ) (xs ys : List A) (r s : List ℕ) → All P xs → All P ys → length xs < 2 ^ 64 → length ys < 2 ^ 64
      → report verb name (outcome xs) ++ r ≡ report verb name (outcome ys) ++ s → (xs ≡ ys) × (r ≡ s)
  reports_divide name xs ys r s hx hy nx ny h =
      let parts = pieces_divide name xs ys r s h in
      as_many_divide f P one xs ys r s (decimal_injective (length xs) (length ys) nx ny parts.0) hx hy parts.1

shown_is : (name : List ℕ) (d : List Entry) (r : List ℕ) → report (codes "show") name (Show d) ++ r ≡ front (codes "show") name (decimal (length d) ++ (10 ∷ (flat_map entry_line d ++ r)))
unfolding line result_text report_lines front
shown_is name d r = flat (codes "show") ((codes " " ++ name)) (codes ": ") (decimal (length d)) (codes "\n") (flat_map entry_line d) r

vector_is : (name : List ℕ) (v t : Cursors) (r : List ℕ)
    → report (codes "vector") name (Vector v t) ++ r ≡ front (codes "vector") name (decimal (length v) ++ (10 ∷ (flat_map dated_line (with_moments t v) ++ r)))
unfolding line result_text report_lines front
vector_is name v t r = flat (codes "vector") ((codes " " ++ name)) (codes ": ") (decimal (length v)) (codes "\n") (flat_map dated_line (with_moments t v)) r

marks_are : (name : List ℕ) (m : List (List ℕ × List ℕ × Mark)) (r : List ℕ)
    → report (codes "marks") name (Marks m) ++ r ≡ front (codes "marks") name (decimal (length m) ++ (10 ∷ (flat_map partner_line m ++ r)))
unfolding line result_text report_lines front
marks_are name m r = flat (codes "marks") ((codes " " ++ name)) (codes ": ") (decimal (length m)) (codes "\n") (flat_map partner_line m) r

pub directories_same : EqualLinesMeanEqualDirectories
directories_same = reports_same (codes "show") Show entry_line IsPrintableEntry shown_is entry_divide entry_some

pub directories_same_below : EqualEntryLinesMeanEqualDirectories
unfolding report_lines
directories_same_below = below_same (codes "show") Show entry_line IsPrintableEntry shown_is entry_divide entry_some

pub directories_divide : LinesAreToldFromWhatFollows
directories_divide = reports_divide (codes "show") Show entry_line IsPrintableEntry shown_is entry_divide entry_some

-- the lines of cursors with their moments
dated_divides : (ds es : List Dated) → All IsPrintableDated ds → All IsPrintableDated es → flat_map dated_line ds ++ [] ≡ flat_map dated_line es ++ [] → ds ≡ es
unfolding Nothing
dated_divides ds es hd he h =
    (lists_divide dated_line IsPrintableDated (λ (x : List ℕ). Unit {0}) Nothing (λ a b r s ha hb er es h. dated_divide a b r s ha hb h) (λ xs r h. tt) (λ a r s ha er es h. dated_some a r (h ∙ es))
    ds es [] [] hd he refl refl h).0

vectors_divide : (name : List ℕ) (v w t u : Cursors) → report (codes "vector") name (Vector v t) ≡ report (codes "vector") name (Vector w u)
    → flat_map dated_line (with_moments t v) ++ [] ≡ flat_map dated_line (with_moments u w) ++ []
vectors_divide name v w t u h =
    (figures_divide 10 refl (length v) (length w) (flat_map dated_line (with_moments t v) ++ []) (flat_map dated_line (with_moments u w) ++ [])
    (front_same (codes "vector") name _ _ (sym (vector_is name v t []) ∙ ap (λ (x : List ℕ). x ++ []) h ∙ vector_is name w u []))).1

pub vectors_same : EqualLinesMeanEqualVectors
vectors_same name v w t u hv hw ht hu pv pw pt pu h =
    let same : with_moments t v ≡ with_moments u w = dated_divides (with_moments t v) (with_moments u w) (printable_dated t v pt pv) (printable_dated u w pu pw) (vectors_divide name v w t u h) in (
      sym (cursors_with t v) ∙ ap cursors_of same ∙ cursors_with u w,
      sym (moments_with v t hv.rising hv.from_one ht) ∙ ap moments_of same ∙ moments_with w u hw.rising hw.from_one hu,
    )

pub marks_same : EqualLinesMeanEqualMarks
marks_same = reports_same (codes "marks") Marks partner_line IsPrintablePartner marks_are partner_divide partner_some
