-- The point of an answer meets the rows and bounds of its node.
use Rattle.std.proofs.Common.{◌≡◌, ℕ, Bool, true, false, ◌||◌, eqb, List, [], ◌∷◌, Option, map, refl, subst, eqb-true}
use Rattle.rationals.specs.Rational.{ℚ}
use Rattle.rationals.specs.Sparse.{Entry, coefficient}
use Rattle.scen_defs.specs.Lists.{Each, Once}
use Rattle.rationals.specs.Intervals.{Between}
use Rattle.scen_defs.specs.Program.{View, IsTree}
use Rattle.scen_defs.specs.declared.program.NodeRow.{NodeRow}
use Rattle.scen_defs.proofs.SumLaws.{each-map}
use Rattle.cut_defs.specs.declared.datum.ColumnBounds.{ColumnBounds}
use Rattle.cut_defs.specs.Data.{bounds_of, is_own}
use Rattle.cut_defs.specs.Stored.{Stored}
use Rattle.cut_defs.proofs.Present.{each_unmap}
use Rattle.node_lp.specs.declared.task.Task.{Task}
use Rattle.node_lp.specs.Problem.{problem_of}
use Rattle.node_lp.specs.Records.{form_at}
use Rattle.node_lp.specs.Answers.{PointAnswer}
use Rattle.answer_laws.specs.Points.{IsDatumIn, PointMeets, PointsMeet}

-- what holds of each column holds of an own one
own_holds : (v : View) (P : ℕ → Type 0) (j : ℕ) (js : List ℕ) → is_own (map (bounds_of v) js) j ≡ true → Each P js → P j
own_holds v P j [] e h = absurd (let no : false ≡ true = e in cc)
own_holds v P j (i ∷ js) e h = go (eqb i j) refl e (λ f. own_holds v P j js f h.1)
  where
    go : (b : Bool) → eqb i j ≡ b → (b || is_own (map (bounds_of v) js) j) ≡ true → (is_own (map (bounds_of v) js) j ≡ true → P j) → P j
    go true q e rest = subst P (eqb-true i j q) h.0
    go false q e rest = rest e

points_at : (v : View) (n : ℕ) (t : Task) (x : List Entry) (value : ℚ) (cut : Option Stored) → IsTree v → IsDatumIn v n t.datum
    → PointAnswer t x value cut → PointMeets v n t.trial x
points_at v n t x value cut tree d a =
    let js : List ℕ = v.columns (v.stage n) in
    let once : Each (λ j. Once j js) js = each-map {Q = λ j. Once j js} (λ j c. c.once) js (tree.columns (v.stage n)) in
    record {
      form = a.columns.form;
      columns = each-map {Q = λ (e : Entry). Once e.column js} (λ e i. own_holds v (λ j. Once j js) e.column js
          (subst (λ (bs : List ColumnBounds). is_own bs e.column ≡ true) d.bounds i) once) x a.columns.own;
      rows = subst (Each (λ (r : NodeRow). Between r.low r.high (form_at (problem_of t) x r.entries))) d.rows a.point.meets.rows;
      bounds = each_unmap (λ (b : ColumnBounds). Between b.lower b.upper (coefficient x b.column)) (bounds_of v) js
          (subst (Each (λ (b : ColumnBounds). Between b.lower b.upper (coefficient x b.column))) d.bounds a.point.meets.bounds);
    }

pub points_meet : PointsMeet
points_meet = points_at
