-- A number in so many hexadecimal digits, as std's formats show it.
-- Assumes nothing.
use Rattle.std.proofs.Common.{◌≡◌, ℕ, ◌-◌, false, Some, List, [], ◌++◌, length, replicate, arith, append-nil, ap}
use Rattle.std.specs.Fmt.{digits, digits_output, format_spec, styled_digits_output, padded_integral, char_count}
use Rattle.picture_text.specs.Lines.{hex}

short : (n k : ℕ) → n - k - 0 - char_count [] ≡ n - k
unfolding char_count
short n k = omega arith

padded : (n : ℕ) (numeral : List ℕ)
    → padded_integral (format_spec 32 0 4 n 18446744073709551615) false [] numeral
    ≡ replicate (n - length numeral) 48 ++ numeral
unfolding padded_integral
padded n numeral = rw (short n (length numeral), append-nil numeral)

pub hexed : (d : _) (s : _) (n x : ℕ) → digits_output d ≡ Some (digits 16 false x)
    → s ≡ format_spec 32 0 4 n 18446744073709551615
    → styled_digits_output d s ≡ Some (hex n x)
hexed d s n x e f = rw (f, e) (ap Some (padded n (digits 16 false x)))
