-- The objects that are added, each by its number.
use Rattle.std.specs.Prelude.{◌≡◌, ℕ, ◌+◌, ◌*◌, ◌^◌, List, [], true}
use Rattle.std.specs.Int.{w128, to_be_bytes}
use Rattle.std.specs.Str.{is_utf8}
use Rattle.adr_call.specs.declared.write.Write.{Write}
use Rattle.adr_call.specs.declared.write.Write.TheVariants.{Add}
use Rattle.adr_model.specs.Update.{Identifier}
use Rattle.adr_model.specs.Place.{root}
use Rattle.adr_journal.specs.declared.keeper.Keeper.{Ghosts}
use Rattle.adr_controller.specs.Able.{AllFollow, written_in}

-- the GUID of a number
abbrev pub guid_of : ℕ → Identifier
guid_of number = to_be_bytes w128 (0x6f62_6a65_6374_7300 * 2 ^ 64 + number)

-- the write of a number adds a container of its GUID under the root
pub record IsAddition (number : ℕ) (what : Write) : Type 0 where
  pub text : List ℕ
  pub utf8 : is_utf8 text ≡ true
  pub is : what ≡ Add (guid_of number) 4 root text []

-- each of them can be committed behind every state that is kept
abbrev pub AdditionsFollow : {K : Type 0} → Ghosts K → Type 0
AdditionsFollow k = (number : ℕ) (what : Write) → IsAddition number what → AllFollow k (written_in what 0)
