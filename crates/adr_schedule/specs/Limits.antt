-- What a schedule has at most.
use Rattle.std.specs.Prelude.{ℕ}

-- the bytes of a text: 16 MiB
abbrev pub text_limit : ℕ
text_limit = 16777216

-- the controllers that its lines make
abbrev pub controller_limit : ℕ
controller_limit = 64

-- the items that a line asks for
abbrev pub ask_limit : ℕ
ask_limit = 10000

-- the device calls that a plan lets pass
abbrev pub plan_limit : ℕ
plan_limit = 1000

-- the rounds of a ring
abbrev pub rounds_limit : ℕ
rounds_limit = 126
