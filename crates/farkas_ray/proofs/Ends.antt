-- What holds of the answer that an outcome names holds of the answer that it tells.
use Rattle.std.proofs.Common.{◌≡◌, ℕ, List, sym, ap, subst, ◌∙◌}
use Rattle.std.specs.Prelude.{Vec}
use Rattle.std.specs.declared.alloc.Global.{Global}
use mathlib.Core.Path.{fun_ext}
use Rattle.rationals.specs.Rational.{ℚ}
use Rattle.rationals.specs.Sparse.{Entry, coefficient}
use Rattle.lp_defs.specs.Solution.{Solution, Optimum, Endless}
use Rattle.simplex_core.specs.Told.{Tells}
use Rattle.simplex_core.specs.declared.outcome.Outcome.{Outcome}
use Rattle.simplex_core.specs.declared.outcome.Outcome.TheVariants as outcome

module _ (P : Solution → Type 0) (o : Outcome) where
  pub of_optimum : (point : List Entry) (duals : Vec ℚ Global) → o ≡ outcome.Optimal point duals → P (Optimum (coefficient point) duals.items)
      → (end : Solution) → Tells end o → P end
  of_optimum point duals is h end tells =
      let t : Tells end (outcome.Optimal point duals) = subst (Tells end) is tells in
      let same : coefficient point ≡ t.0 = fun_ext t.2 in
      let e : end ≡ Optimum (coefficient point) duals.items = t.1 ∙ ap (λ (f : ℕ → ℚ). Optimum f duals.items) (sym same) in
      subst P (sym e) h

  pub of_endless : (point ray : List Entry) → o ≡ outcome.Unbounded point ray → P (Endless (coefficient point) (coefficient ray))
      → (end : Solution) → Tells end o → P end
  of_endless point ray is h end tells =
      let t : Tells end (outcome.Unbounded point ray) = subst (Tells end) is tells in
      let point_same : coefficient point ≡ t.0 = fun_ext t.3 in
      let ray_same : coefficient ray ≡ t.1 = fun_ext t.4 in
      let e : end ≡ Endless (coefficient point) (coefficient ray) =
      t.2 ∙ ap (λ (f : ℕ → ℚ). Endless f t.1) (sym point_same) ∙ ap (λ (f : ℕ → ℚ). Endless (coefficient point) f) (sym ray_same) in
      subst P (sym e) h
