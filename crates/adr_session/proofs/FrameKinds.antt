-- What frames say, by their kinds.
use Rattle.std.proofs.Common.{◌≡◌, ◌∙◌, sym, ap, subst, refl, ℕ, true, false, List, [], ◌∷◌, length, Option, Some, None, Ok, Err, arith}
use Rattle.std.specs.Prelude.{◌==◌}
use Rattle.std.proofs.lemmas.Bool.{cond-false, cond-true, ne_eqb}
use Rattle.adr_wire.specs.declared.refusal.DecodeRefusal.{DecodeRefusal}
use Rattle.adr_model.specs.Serve.{Request}
use Rattle.adr_packet.specs.Requests.{decoded_request}
use Rattle.adr_session.specs.Talk.{Said, Asks, Gives, Greets, asked, is_line, said_in}

pub no_kind : (kind : ℕ) (body : List ℕ) → (kind ≡ 1 → ⊥) → (kind ≡ 4 → ⊥) → (kind ≡ 6 → ⊥) → said_in (kind ∷ body) ≡ None
no_kind kind body request line greeting =
    cond-false (kind == 1) _ _ (ne_eqb kind 1 request) ∙ cond-false (kind == 4) _ _ (ne_eqb kind 4 line) ∙ cond-false (kind == 6) _ _ (ne_eqb kind 6 greeting)

pub of_kind : (P : Option Said → Type 0) (bytes body : List ℕ) (kind n : ℕ) → bytes ≡ kind ∷ body → kind ≡ n → P (said_in (n ∷ body)) → P (said_in bytes)
of_kind P bytes body kind n is same holds = subst (λ (bytes : List ℕ). P (said_in bytes)) (sym (is ∙ ap (λ (k : ℕ). k ∷ body) same)) holds

pub line_said : (body : List ℕ) → is_line body ≡ true → said_in (4 ∷ body) ≡ Some (Gives body)
line_said body is = cond-true (is_line body) (Some (Gives body)) None is

pub no_line : (body : List ℕ) → is_line body ≡ false → said_in (4 ∷ body) ≡ None
no_line body is = cond-false (is_line body) (Some (Gives body)) None is

pub greeting_said : (body : List ℕ) → (length body == 0) ≡ true → said_in (6 ∷ body) ≡ Some Greets
greeting_said body is = cond-true (length body == 0) (Some Greets) None is

pub no_greeting : (body : List ℕ) → (length body == 0) ≡ false → said_in (6 ∷ body) ≡ None
no_greeting body is = cond-false (length body == 0) (Some Greets) None is

-- bytes that are no request
pub no_request : (body : List ℕ) (why : DecodeRefusal) → decoded_request body ≡ Err why → said_in (1 ∷ body) ≡ None
no_request body why is = ap asked is

pub request_said : (body : List ℕ) (request : Request) → decoded_request body ≡ Ok request → said_in (1 ∷ body) ≡ Some (Asks request)
request_said body request is = ap asked is

pub no_bytes : (bytes : List ℕ) → length bytes ≡ 0 → said_in bytes ≡ None
no_bytes [] none = refl
no_bytes (b ∷ bytes) none = absurd (omega (arith, none))
