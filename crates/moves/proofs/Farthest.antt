-- Of some distances there is one answer.
use Prim.Native.Nat.{ℕ, ◌≤◌, ◌<◌}
use mathlib.Core.Path.{◌≡◌, sym, ◌∙◌}
use mathlib.Core.Logic.{⊎_elim}
use native.Mathlib.Omega.{arith}
use Rattle.ints.proofs.Laws.{either}
use Rattle.moves.specs.declared.Move.{Move}
use Rattle.moves.specs.Farthest.{FarthestOf}

module _ (far : ℕ → ℕ) where
  -- a place that is as far lies not before that of an answer
  not_before : (n k : ℕ) (s : Move) → FarthestOf far n s → far k ≡ s.distance → s.place ≤ k
  not_before n k s h e =
      ⊎_elim (λ (before : k < s.place). omega (arith, h.first k before)) (λ l. l) (either k s.place)

  -- two answers are one
  pub one_answer : (n : ℕ) (r s : Move) → FarthestOf far n r → FarthestOf far n s → r ≡ s
  one_answer n r s g h = λ i. record { distance = both.0 i; place = both.1 i }
    where
      both : (r.distance ≡ s.distance) × (r.place ≡ s.place)
      both = ⊎_elim
          (λ (some : 0 < n).
          let a = g.there some in
          let b = h.there some in
          let same : r.distance ≡ s.distance =
          omega (arith, a.1, b.1, g.most s.place b.0, h.most r.place a.0) in
          let one = not_before n r.place s h (a.1 ∙ same) in
          let other = not_before n s.place r g (b.1 ∙ sym same) in
          (same, omega (arith, one, other)))
          (λ (empty : n ≤ 0).
          let a = g.none (omega arith) in
          let b = h.none (omega arith) in
          (omega (arith, a.0, b.0), omega (arith, a.1, b.1)))
          (either 0 n)
