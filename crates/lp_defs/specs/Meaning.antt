-- What the certificates mean for all points of a program.
use Rattle.std.specs.Prelude.{◌≡◌, ℕ, List}
use Rattle.rationals.specs.Rational.{ℚ, zero_ℚ, ◌+ℚ◌, ◌*ℚ◌, ◌≤ℚ◌}
use Rattle.rationals.specs.Sparse.{product}
use Rattle.lp_defs.specs.Program.{Program, IsProgram}
use Rattle.lp_defs.specs.Certificates.{IsFeasible, IsOptimal, IsInfeasible, IsUnbounded}

pub record CertificatesHold : Type 0 where
  -- no point costs less than an optimal one
  pub optimal : (p : Program) (x : ℕ → ℚ) (y : List ℚ) (z : ℕ → ℚ) → IsProgram p → IsOptimal p x y → IsFeasible p z
      → product p.cost x ≤ℚ product p.cost z
  -- an infeasible program has no point
  pub infeasible : (p : Program) (y : List ℚ) (z : ℕ → ℚ) → IsProgram p → IsInfeasible p y → IsFeasible p z → ⊥
  -- along the ray of an unbounded one each step leads to a point, and the cost falls with it
  pub unbounded : (p : Program) (x d : ℕ → ℚ) (s : ℚ) → IsUnbounded p x d → zero_ℚ ≤ℚ s
      → IsFeasible p (λ j. x j +ℚ s *ℚ d j)
      × (product p.cost (λ j. x j +ℚ s *ℚ d j) ≡ product p.cost x +ℚ s *ℚ product p.cost d)
