-- Why a reply is refused before its items are looked at.
use Rattle.std.specs.Prelude.{[], Option}
use Rattle.adr_call.specs.declared.refusal.TakeRefusal.{TakeRefusal}
use Rattle.adr_model.specs.Store.{State, empty_state}
use Rattle.adr_model.specs.Serve.{Reply}
use Rattle.adr_model.specs.Take.{begin, take_refusal}

-- the refusal where nothing was taken and nothing is held
abbrev pub refusal_before : State → Reply → Option TakeRefusal
refusal_before s r = take_refusal s r (begin (empty_state [] [])) (empty_state [] [])
