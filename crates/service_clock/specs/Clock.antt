-- Steps of the clock: 01's section "Services". Assumes nothing.
use Rattle.std.specs.Prelude.{ℕ, ◌+◌, ◌-◌, ◌%◌}

-- Clock steps from a to b: (b − a) modulo 16,384, whatever the two numbers of 16 bits. Notice 49, 4(1)(1-1)(d)(イ)
unfoldable pub clock_steps : ℕ → ℕ → ℕ
clock_steps a b = (b + 65536 - a) % 16384
