-- What is copied, by parts and strides that are equal.
use Prim.Native.Nat.{ℕ}
use mathlib.Core.Path.{◌≡◌, ◌∙◌}
use mathlib.Core.List.{List}
use Rattle.picture.specs.Given.{planes_of}
use Rattle.picture.specs.Plane.{Part, crop}
use Rattle.tile_parts.specs.Parts.{first_rows}
use Rattle.tile_parts.proofs.Cropped.{crop_is}

-- the rows that are copied are the definition's part
pub crop_as : {a b : Part} → a ≡ b → (l : List ℕ) {m n : ℕ} → m ≡ n → first_rows l m a a.height ≡ crop l n b
crop_as {a} e l {m} f = crop_is l m a ∙ (λ k. crop l (f k) (e k))

pub planes_as : {y y' cb cb' cr cr' : List ℕ} → y ≡ y' → cb ≡ cb' → cr ≡ cr'
    → planes_of y cb cr ≡ planes_of y' cb' cr'
planes_as ey eb er = λ k. record { y = ey k; cb = eb k; cr = er k }
