-- A mask is a number whose bit i stands for unit i.
use Rattle.std.specs.Prelude.{ℕ, zero, suc, ◌/◌, ◌%◌, ◌^◌, Bool, cond, not, ◌||◌, count_by, ◌==◌, bit_or, nat_lt}
use Rattle.masks.specs.Lists.{every, units}

-- the mask m holds unit i: bit i of m is 1
abbrev pub holds : ℕ → ℕ → Bool
holds m i = m / 2 ^ i % 2 == 1

-- the mask m with unit u; a 32-bit mask has no bit for a unit above 31
abbrev pub joined_by : ℕ → ℕ → ℕ
joined_by m u = cond (nat_lt u 32) (bit_or m (2 ^ u)) m

-- how many units a 32-bit mask holds
unfoldable pub size : ℕ → ℕ
size m = count_by (holds m) (units 32)

-- every unit that a 32-bit mask holds is below n
unfoldable pub within : ℕ → ℕ → Bool
within m n = every (λ i. not (holds m i) || nat_lt i n) (units 32)

-- the mask of the units below n that pass a test
unfoldable pub mask_of : (ℕ → Bool) → ℕ → ℕ
mask_of f zero = 0
mask_of f (suc n) = cond (f n) (bit_or (mask_of f n) (2 ^ n)) (mask_of f n)
