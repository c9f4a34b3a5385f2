-- A record's number as one of 32 bits: the nearest. A number below zero is its magnitude and 2 to the power 56.
use Rattle.std.specs.Prelude.{cond, ℕ, ◌%◌, ltb, ℤ, pos, negsuc, neg_ℤ}

-- what stands for a sign
abbrev pub negative : ℕ
negative = 0x100_0000_0000_0000

-- the magnitude as a signed number, above zero and below
abbrev pub above : ℕ → ℤ
above m = cond (ltb 2147483647 m) (pos 2147483647) (pos m)

abbrev pub below : ℕ → ℤ
below m = cond (ltb 2147483647 m) (negsuc 2147483647) (neg_ℤ (pos m))

-- the nearest signed number
abbrev pub signed_of : ℕ → ℤ
signed_of n = cond (ltb n negative) (above (n % negative)) (below (n % negative))

-- the nearest unsigned number; the largest for one below zero
abbrev pub unsigned_of : ℕ → ℕ
unsigned_of n = cond (ltb 4294967295 n) 4294967295 n
