-- The operators at their edges, by computing. The expected values are those of the profile, worked
-- out by hand.
use Rattle.std.proofs.Common.{◌≡◌, ℤ, pos, negsuc, [], ◌∷◌, true, false, codes, refl}
use Rattle.nwq_value.specs.declared.value.Value.TheVariants.{Int, Text, Object}
use Rattle.nwq_value.specs.Operators.{both, either, negation, bits_and, bits_or, bits_xor, complement, shift_left, shift_right, shift_right_unsigned, sum, difference, product, quotient, remainder, opposite, less, less_or_equal, greater, greater_or_equal, value_eq, values_eq, joined_texts}

abbrev greatest : ℤ
greatest = pos 2147483647

-- -2147483648
abbrev least : ℤ
least = negsuc 2147483647

-- ---- shifts

-- the count is taken modulo 32, so 33 is 1 and -1 is 31
counts_are_modulo_32 :
    (shift_left (pos 1) (pos 33) ≡ pos 2) × (shift_left (pos 1) (pos 32) ≡ pos 1) × (shift_left (pos 1) (negsuc 0) ≡ least)
    × (shift_right (pos 8) (pos 33) ≡ pos 4) × (shift_right least (negsuc 0) ≡ negsuc 0) × (shift_right_unsigned (pos 8) (pos 33) ≡ pos 4)
counts_are_modulo_32 = (refl, refl, refl, refl, refl, refl)

-- `-1 >> 33`, `-8 >> 1`, `-7 >> 1`, `7 >> 1`
right_shifts_keep_the_sign :
    (shift_right (negsuc 0) (pos 33) ≡ negsuc 0) × (shift_right (negsuc 7) (pos 1) ≡ negsuc 3) × (shift_right (negsuc 6) (pos 1) ≡ negsuc 3)
    × (shift_right (pos 7) (pos 1) ≡ pos 3)
right_shifts_keep_the_sign = (refl, refl, refl, refl)

-- `-1 >>> 31`, `-1 >>> 1`, `-8 >>> 28`; a count of 0 changes nothing
unsigned_shifts_fill_with_zeros :
    (shift_right_unsigned (negsuc 0) (pos 31) ≡ pos 1) × (shift_right_unsigned (negsuc 0) (pos 1) ≡ greatest)
    × (shift_right_unsigned (negsuc 7) (pos 28) ≡ pos 15) × (shift_right_unsigned (negsuc 0) (pos 32) ≡ negsuc 0)
unsigned_shifts_fill_with_zeros = (refl, refl, refl, refl)

-- `3 << 31`, `-1 << 4`
left_shifts_drop_high_bits : (shift_left (pos 3) (pos 31) ≡ least) × (shift_left (negsuc 0) (pos 4) ≡ negsuc 15)
left_shifts_drop_high_bits = (refl, refl)

-- ---- division

-- `7 / 2`, `-7 / 2`, `7 / -2`, `-7 / -2`
quotients_truncate_towards_zero :
    (quotient (pos 7) (pos 2) ≡ pos 3) × (quotient (negsuc 6) (pos 2) ≡ negsuc 2) × (quotient (pos 7) (negsuc 1) ≡ negsuc 2)
    × (quotient (negsuc 6) (negsuc 1) ≡ pos 3)
quotients_truncate_towards_zero = (refl, refl, refl, refl)

-- `7 % 2`, `-7 % 2`, `7 % -2`, `-7 % -2`
remainders_have_the_dividend's_sign :
    (remainder (pos 7) (pos 2) ≡ pos 1) × (remainder (negsuc 6) (pos 2) ≡ negsuc 0) × (remainder (pos 7) (negsuc 1) ≡ pos 1)
    × (remainder (negsuc 6) (negsuc 1) ≡ negsuc 0)
remainders_have_the_dividend's_sign = (refl, refl, refl, refl)

-- the least int by -1
least_by_minus_one : (quotient least (negsuc 0) ≡ least) × (remainder least (negsuc 0) ≡ pos 0)
least_by_minus_one = (refl, refl)

-- ---- sums wrap

wrapping :
    (sum greatest (pos 1) ≡ least) × (sum least (negsuc 0) ≡ greatest) × (difference least (pos 1) ≡ greatest) × (difference greatest (negsuc 0) ≡ least)
    × (product (pos 65536) (pos 65536) ≡ pos 0) × (product greatest (pos 2) ≡ negsuc 1) × (product least (negsuc 0) ≡ least)
    × (opposite least ≡ least) × (opposite (pos 5) ≡ negsuc 4)
wrapping = (refl, refl, refl, refl, refl, refl, refl, refl, refl)

-- ---- bits

-- 12 is 1100 and 10 is 1010; -1 has all bits
bits :
    (bits_and (pos 12) (pos 10) ≡ pos 8) × (bits_or (pos 12) (pos 10) ≡ pos 14) × (bits_xor (pos 12) (pos 10) ≡ pos 6)
    × (bits_and (negsuc 0) (pos 10) ≡ pos 10) × (bits_or (negsuc 0) (pos 10) ≡ negsuc 0) × (bits_xor (negsuc 0) (pos 10) ≡ negsuc 10)
    × (complement (pos 0) ≡ negsuc 0) × (complement (negsuc 10) ≡ pos 10)
bits = (refl, refl, refl, refl, refl, refl, refl, refl)

-- ---- tests

-- every int but 0 is true, and the answers are 0 and 1
truths :
    (both (pos 2) (negsuc 0) ≡ pos 1) × (both (pos 2) (pos 0) ≡ pos 0) × (both (pos 0) (pos 2) ≡ pos 0) × (either (pos 0) (negsuc 6) ≡ pos 1)
    × (either (pos 4) (pos 0) ≡ pos 1) × (either (pos 0) (pos 0) ≡ pos 0) × (negation (pos 0) ≡ pos 1) × (negation (negsuc 0) ≡ pos 0)
truths = (refl, refl, refl, refl, refl, refl, refl, refl)

comparisons :
    (less (negsuc 0) (pos 0) ≡ pos 1) × (less (pos 3) (pos 3) ≡ pos 0) × (less_or_equal (pos 3) (pos 3) ≡ pos 1) × (less_or_equal (pos 4) (pos 3) ≡ pos 0)
    × (greater (pos 0) least ≡ pos 1) × (greater (pos 3) (pos 3) ≡ pos 0) × (greater_or_equal (pos 3) (pos 3) ≡ pos 1)
    × (greater_or_equal least greatest ≡ pos 0)
comparisons = (refl, refl, refl, refl, refl, refl, refl, refl)

-- ---- several cells, and texts

-- values of structs are equal where all their cells are
equality :
    (values_eq (Int (pos 1) ∷ Text (codes "a") ∷ []) (Int (pos 1) ∷ Text (codes "a") ∷ []) ≡ true)
    × (values_eq (Int (pos 1) ∷ Text (codes "a") ∷ []) (Int (pos 1) ∷ Text (codes "b") ∷ []) ≡ false)
    × (values_eq (Object 3 ∷ []) (Object 4 ∷ []) ≡ false) × (values_eq (Text (codes "a") ∷ []) (Text (codes "ab") ∷ []) ≡ false)
unfolding value_eq
equality = (refl, refl, refl, refl)

texts_in_a_row : joined_texts (codes "ab") (codes "c") ≡ codes "abc"
texts_in_a_row = refl
