-- Whole cycles, one after the other and round after round: what they leave, whom word reaches, and what is claimed of it.
use Rattle.std.specs.Prelude.{◌≡◌, ◌≤◌, ◌⊎◌, ◌+◌, ◌*◌, ℕ, zero, suc, List, [], ◌∷◌, ◌++◌, Bool, true, ◌&&◌, ◌||◌, length, map, codes}
use Rattle.std.specs.Str.{bytes_eq}
use Rattle.adr_call.specs.declared.answer.Answer.{Answer}
use Rattle.adr_call.specs.declared.outcome.Outcome.TheVariants as outcomes
use Rattle.adr_call.specs.declared.event.Event.{Event}
use Rattle.adr_call.specs.declared.event.Event.TheVariants as events
use Rattle.adr_call.specs.declared.event.Exchange.TheVariants as exchanges
use Rattle.adr_model.specs.Member.{Member, Each}
use Rattle.adr_model.specs.Directory.{directory}
use Rattle.adr_model.specs.World.{World, Name, answer, empty_world}
use Rattle.adr_model.specs.Rings.{is_fine, Connection, ring}
use Rattle.adr_model.specs.Step.{step, after_lines}
use Rattle.adr_model.specs.Sound.{IsSoundWorld}
use Rattle.adr_model.specs.Convergence.{MayAllHappen, behind, held_by}

-- ---- whole cycles

-- one controller pulls a cycle from another one, with at most so many items in a reply
pub record Exchange : Type 0 where
  pub dest : Name
  pub source : Name
  pub max : ℕ

abbrev pub line_of : Exchange → Event
line_of x = events.Goes x.dest (exchanges.Cycle x.source x.max)

-- a cycle ended with its last reply: each of its answers is ok, and none is that there is more
abbrev pub IsWhole : List Answer → Type 0
IsWhole answers = Each (λ a. is_fine a.outcome ≡ true) answers

-- each of the exchanges, one after the other, is whole
abbrev pub AreWhole : World → List Exchange → Type 0
AreWhole w [] = Unit {0}
AreWhole w (x ∷ xs) = IsWhole (step w (line_of x)).1 × AreWhole (step w (line_of x)).0 xs

abbrev pub behind_exchanges : World → List Exchange → World
behind_exchanges w xs = after_lines w (map line_of xs)

-- ---- who hears from whom

abbrev pub connection : Exchange → Connection
connection x = (x.dest, x.source)

-- who has it behind an exchange: whoever had it, and the one that pulled where the one that was pulled from had it
abbrev pub passed_on : (Name → Bool) → Exchange → Name → Bool
passed_on has x name = has name || (bytes_eq name x.dest && has x.source)

abbrev pub spread : (Name → Bool) → List Exchange → Name → Bool
spread has [] = has
spread has (x ∷ xs) = spread (passed_on has x) xs

-- whether word from one controller reaches another one through the exchanges
abbrev pub hears : List Exchange → Name → Name → Bool
hears xs name from = spread (λ n. bytes_eq n from) xs name

-- each of these controllers hears from each
abbrev pub AllHear : List Name → List Exchange → Type 0
AllHear names xs = Each (λ name. Each (λ from. hears xs name from ≡ true) names) names

-- who of these pulls, pulls from one of these
abbrev pub AreAmong : List Name → List Exchange → Type 0
AreAmong names xs = Each (λ x. Member x.dest names → Member x.source names) xs

-- ---- what is equal

-- the directories of these controllers are equal
abbrev pub ShowTheSame : List Name → World → Type 0
ShowTheSame names w =
    Each (λ r. Each (λ q. Member r.name names → Member q.name names → directory (held_by r) ≡ directory (held_by q)) w.replicas) w.replicas

-- and their vectors
abbrev pub HaveOneVector : List Name → World → Type 0
HaveOneVector names w =
    Each (λ r. Each (λ q. Member r.name names → Member q.name names → r.safe.store.vector ≡ q.safe.store.vector) w.replicas) w.replicas

-- what each controller holds is as it was, and so is its USN
abbrev pub HoldTheSame : World → World → Type 0
HoldTheSame w v = Each (λ r. Each (λ q. q.name ≡ r.name → (q.safe.store.rows ≡ r.safe.store.rows) × (q.safe.store.usn ≡ r.safe.store.usn)) v.replicas) w.replicas

-- ---- rounds

-- a round over connections: over each of them at least once, in any order, and over no other
pub record IsRound (over : List Connection) (xs : List Exchange) : Type 0 where
  pub each : Each (λ c. (x : Exchange) × Member x xs × (connection x ≡ c)) over
  pub only : Each (λ x. Member (connection x) over) xs

abbrev pub in_turn : List (List Exchange) → List Exchange
in_turn [] = []
in_turn (r ∷ rs) = r ++ in_turn rs

-- word goes from one to another in at most so many steps
abbrev pub Reaches : List Connection → ℕ → Name → Name → Type 0
Reaches over zero from name = name ≡ from
Reaches over (suc n) from name = Reaches over n from name ⊎ ((next : Name) × Member (next, from) over × Reaches over n next name)

abbrev pub AreWithin : List Connection → List Name → ℕ → Type 0
AreWithin over names n = Each (λ name. Each (λ from. Reaches over n from name) names) names

-- connections among these, by which word from each comes to each
pub record AreConnected (over : List Connection) (names : List Name) : Type 0 where
  pub among : Each (λ c. Member c.0 names × Member c.1 names) over
  pub ways : Each (λ name. Each (λ from. (n : ℕ) × Reaches over n from name) names) names

-- ---- what is claimed

-- whoever hears from each other shows the same
abbrev pub HearersShowTheSame : Type 0
HearersShowTheSame =
    (w : World) (names : List Name) (xs : List Exchange) → IsSoundWorld w → AreWhole w xs → AreAmong names xs → AllHear names xs
    → ShowTheSame names (behind_exchanges w xs)

-- n controllers have nothing left to write behind n - 1 rounds, over whatever connections among them
abbrev pub RoundsSettle : Type 0
RoundsSettle =
    (w : World) (names : List Name) (over : List Connection) (rounds : List (List Exchange)) (more : List Exchange)
    → IsSoundWorld w → Each (λ c. Member c.0 names × Member c.1 names) over → Each (IsRound over) rounds → Each (λ x. Member (connection x) over) more
    → AreWhole w (in_turn rounds ++ more) → length names ≤ length rounds + 1
    → HoldTheSame (behind_exchanges w (in_turn rounds)) (behind_exchanges w (in_turn rounds ++ more))

-- and then have one vector as soon as each hears from each once more
abbrev pub HearersHaveOneVector : Type 0
HearersHaveOneVector =
    (w : World) (names : List Name) (over : List Connection) (rounds : List (List Exchange)) (more : List Exchange)
    → IsSoundWorld w → Each (λ c. Member c.0 names × Member c.1 names) over → Each (IsRound over) rounds → Each (λ x. Member (connection x) over) more
    → AreWhole w (in_turn rounds ++ more) → length names ≤ length rounds + 1 → AllHear names more
    → HaveOneVector names (behind_exchanges w (in_turn rounds ++ more))

-- who hears from whom by lists alone: behind as many rounds as the longest of the shortest ways, and behind n - 1 rounds where there
-- is some way from each to each
abbrev pub RoundsReach : Type 0
RoundsReach =
    (over : List Connection) (names : List Name) (rounds : List (List Exchange)) → Each (IsRound over) rounds
    → ((n : ℕ) → AreWithin over names n → n ≤ length rounds → AllHear names (in_turn rounds))
    × (AreConnected over names → length names ≤ length rounds + 1 → AllHear names (in_turn rounds))

-- n controllers that are connected, in whatever way: behind n - 1 rounds their directories are equal, and behind twice as many
-- their vectors
abbrev pub RoundsConverge : Type 0
RoundsConverge =
    (w : World) (names : List Name) (over : List Connection) (rounds : List (List Exchange))
    → IsSoundWorld w → AreConnected over names → Each (IsRound over) rounds → AreWhole w (in_turn rounds)
    → (length names ≤ length rounds + 1 → ShowTheSame names (behind_exchanges w (in_turn rounds)))
    × (2 * length names ≤ length rounds + 2 → HaveOneVector names (behind_exchanges w (in_turn rounds)))

-- the same by the longest of the shortest ways: so many rounds for directories, and n - 1 more for vectors
abbrev pub NearRoundsConverge : Type 0
NearRoundsConverge =
    (w : World) (names : List Name) (over : List Connection) (rounds : List (List Exchange)) (far : ℕ)
    → IsSoundWorld w → Each (λ c. Member c.0 names × Member c.1 names) over → AreWithin over names far → Each (IsRound over) rounds → AreWhole w (in_turn rounds)
    → (far ≤ length rounds → ShowTheSame names (behind_exchanges w (in_turn rounds)))
    × (length names + far ≤ length rounds + 1 → HaveOneVector names (behind_exchanges w (in_turn rounds)))

-- a ring connects all that are in it
abbrev pub RingsAreConnected : Type 0
RingsAreConnected = (first : Name) (others : List Name) → AreConnected (ring first others) (first ∷ others)

-- a ring that was answered ok tells that directories are equal, behind as many rounds as there are others, and behind twice as many
-- that vectors are
abbrev pub RingsTell : World → Type 0
RingsTell w =
    (first : Name) (others : List Name) (rounds max : ℕ) (directories vectors : Bool)
    → (step w (events.Goes first (exchanges.Ring others rounds max))).1 ≡ answer (codes "ring") first (outcomes.Compared rounds directories vectors) ∷ []
    → (length others ≤ rounds → directories ≡ true) × (2 * length others ≤ rounds → vectors ≡ true)

abbrev pub RingsTellTrue : Type 0
RingsTellTrue = (w : World) → IsSoundWorld w → RingsTell w

-- ---- of every run, as long as no database was put back

-- lines behind these that are whole cycles, in rounds over connections, bring together whom they connect
abbrev pub ComeTogether : List Event → Type 0
ComeTogether before =
    (names : List Name) (over : List Connection) (rounds : List (List Exchange))
    → AreConnected over names → Each (IsRound over) rounds → AreWhole (behind before) (in_turn rounds)
    → let end = behind (before ++ map line_of (in_turn rounds)) in
    (length names ≤ length rounds + 1 → ShowTheSame names end) × (2 * length names ≤ length rounds + 2 → HaveOneVector names end)

abbrev pub RunsComeTogether : Type 0
RunsComeTogether =
    (before : List Event) → MayAllHappen empty_world before → (behind before).clean ≡ true → ComeTogether before × RingsTell (behind before)
