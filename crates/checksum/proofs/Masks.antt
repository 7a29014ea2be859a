-- The mask of a place, from what its column and its row bring to it.
use Rattle.std.proofs.Common.{◌≡◌, ℕ, ◌+◌, ◌*◌, ◌/◌, ◌%◌, ◌^◌, ◌<◌, sym, refl, ap, ◌∙◌, ap₂, arith}
use Rattle.std.proofs.Common.{below_none, below_more}
use lib.Arith.{bin_ind}
use lib.Bits.{bit_xor, differ, xor_comm, xor_mod, xor_shr, xor_step}
use Rattle.checksum.specs.Checksum.{mask}
use Rattle.checksum.specs.Rows.{fold}

-- ---- three numbers may be joined in either order: so may three binary digits

abbrev Assoc : ℕ → ℕ → ℕ → Type 0
Assoc a b c = differ (bit_xor a b) c ≡ differ a (bit_xor b c)

each : (P : ℕ → Type 0) → P 0 → P 1 → (d : ℕ) → d < 2 → P d
each P zeroth first = below_more P 1 (below_more P 0 (below_none P) zeroth) first

digits_assoc : (a b c : ℕ) → a < 2 → b < 2 → c < 2 → Assoc a b c
digits_assoc a b c ha hb hc =
    each (λ (a : ℕ). Assoc a b c)
    (each (λ (b : ℕ). Assoc 0 b c) (each (Assoc 0 0) refl refl c hc) (each (Assoc 0 1) refl refl c hc) b hb)
    (each (λ (b : ℕ). Assoc 1 b c) (each (Assoc 1 0) refl refl c hc) (each (Assoc 1 1) refl refl c hc) b hb) a ha

-- digit by digit
pub xor_assoc : (a b c : ℕ) → bit_xor (bit_xor a b) c ≡ bit_xor a (bit_xor b c)
xor_assoc =
    bin_ind (λ (n : ℕ). (b c : ℕ) → bit_xor (bit_xor n b) c ≡ bit_xor n (bit_xor b c)) (λ b c. refl)
    (λ n ih b c.
    xor_step (bit_xor n b) c
    ∙ ap₂ (λ (k d : ℕ). k * 2 + d)
    (ap (λ (k : ℕ). bit_xor k (c / 2)) (xor_shr n b 1) ∙ ih (b / 2) (c / 2)
    ∙ ap (bit_xor (n / 2)) (sym (xor_shr b c 1)))
    (ap (λ (d : ℕ). differ d (c % 2)) (xor_mod n b 1)
    ∙ digits_assoc (n % 2) (b % 2) (c % 2) (omega arith) (omega arith) (omega arith)
    ∙ ap (differ (n % 2)) (sym (xor_mod b c 1)))
    ∙ sym (xor_step n (bit_xor b c)))

-- ---- the mask

regrouped : (a b c d : ℕ) → bit_xor (bit_xor (bit_xor a b) c) d ≡ bit_xor (bit_xor a c) (bit_xor b d)
regrouped a b c d =
    ap (λ (n : ℕ). bit_xor n d) (xor_assoc a b c ∙ ap (bit_xor a) (xor_comm b c) ∙ sym (xor_assoc a c b))
    ∙ xor_assoc (bit_xor a c) b d

pub mask_folds : (x y : ℕ) → mask x y ≡ bit_xor (fold x) (fold y)
mask_folds x y = regrouped (x % 2 ^ 8) (y % 2 ^ 8) (x / 2 ^ 8) (y / 2 ^ 8)
