-- A GUID with a number has it.
use Rattle.std.proofs.Common.{◌≡◌, ◌<◌, ◌+◌, ◌*◌, ◌/◌, ◌%◌, ◌^◌, ℕ, List, arith, ap, ◌∙◌}
use Rattle.std.specs.Int.{from_be_bytes, w128}
use Rattle.uuid.proofs.OrderLemmas.{from_be_bytes-to_be_bytes_16}
use Rattle.adr_test_killed.specs.Objects.{guid_of}

module _ (number : ℕ) (fits : number < 2 ^ 64) (guid : List ℕ) (is : guid ≡ guid_of number) where
  value : from_be_bytes w128 guid ≡ 8026094469620462336 * 2 ^ 64 + number
  value = ap (from_be_bytes w128) is ∙ from_be_bytes-to_be_bytes_16 (8026094469620462336 * 2 ^ 64 + number) (omega arith)

  pub low_half : from_be_bytes w128 guid % 2 ^ 64 ≡ number
  low_half = omega (arith, value)

  pub high_half : from_be_bytes w128 guid / 2 ^ 64 ≡ 8026094469620462336
  high_half = omega (arith, value)
