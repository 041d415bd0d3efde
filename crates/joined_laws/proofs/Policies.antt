-- The points of all nodes together, and numbers that cover what they cost.
use Rattle.std.proofs.Common.{◌≡◌, ℕ, List, Option, Some, None, sym, ap, ap₂, subst, ◌∙◌}
use Rattle.rationals.specs.Rational.{ℚ, ◌+ℚ◌, ◌≤ℚ◌, zero_add_ℚ}
use Rattle.rationals.specs.Sparse.{Entry, product, coefficient}
use Rattle.rationals.specs.Forms.{IsForm}
use Rattle.scen_defs.specs.declared.program.NodeRow.{NodeRow}
use Rattle.scen_defs.specs.declared.report.Kind.{Kind}
use Rattle.scen_defs.specs.Lists.{Each, Once}
use Rattle.rationals.specs.Intervals.{Between}
use Rattle.scen_defs.specs.Values.{at}
use Rattle.scen_defs.specs.Program.{Program, View, IsLive, IsTree}
use Rattle.scen_defs.specs.Flat.{Feasible, cost, IsRoot}
use Rattle.scen_defs.specs.Valid.{IsProgram}
use Rattle.cut_defs.proofs.Closure.{costs_covered}
use Rattle.edit_defs.specs.Data.{view_in}
use Rattle.dual_assemble.specs.Values.{point_entries}
use Rattle.node_data.specs.Frames.{frame_of, parent_in}
use Rattle.found_ends.specs.declared.last.Last.{Last}
use Rattle.found_ends.specs.Lasts.{last_at, last_point, along_of, trial_of, joined_points}
use Rattle.joined_laws.specs.Points.{MeetsAt, AllMeet, point_at, CoversAt, AllCover}
use Rattle.joined_laws.specs.Joins.{PoliciesJoin, ValuesCover}
use Rattle.joined_laws.proofs.Along.{StandTogether, together_feasible, together_covered}
use Rattle.joined_laws.proofs.Joined.{joined_number}
use Rattle.joined_laws.proofs.Places.{IsFramed, framed_in, tree_in, few_nodes, root_in, root_is_live}

module _ (kind : Kind) (p : Program) (lasts : List (Option Last)) (i : IsProgram p) (h : AllMeet kind p lasts) where
  abbrev v : View
  v = view_in kind p

  -- the values along node n
  abbrev beside_at : ℕ → List Entry
  beside_at n = along_of (last_at lasts n)

  frame : IsFramed p v
  frame = framed_in kind p i

  meets : (n : ℕ) → IsLive v n → MeetsAt kind p lasts n
  meets n l = h n (frame.alive n l)

  beside_is : (n j : ℕ) (parent : Option ℕ) → MeetsAt kind p lasts n → parent_in (frame_of p) n ≡ parent
      → coefficient (beside_at n) j ≡ coefficient (trial_of lasts parent) j +ℚ coefficient (point_at lasts n) j
  beside_is n j parent m e =
      ap (λ (o : Option Last). coefficient (along_of o) j) m.there ∙ m.along j
      ∙ ap₂ (λ (o : Option ℕ) (x : Option Last). coefficient (trial_of lasts o) j +ℚ coefficient (point_entries (last_point x)) j)
      e (sym m.there)

  form_is : (n : ℕ) → MeetsAt kind p lasts n → IsForm (point_at lasts n)
  form_is n m = subst (λ (o : Option Last). IsForm (point_entries (last_point o))) (sym m.there) m.form

  stand : StandTogether v (point_at lasts) beside_at (at (joined_points lasts))
  stand = record {
    own = λ n l. subst (λ (o : Option Last). Each (λ (e : Entry). Once e.column (v.columns (v.stage n))) (point_entries (last_point o)))
        (sym (meets n l).there) (meets n l).own;
    first = λ n j l e. beside_is n j None (meets n l) (frame.first n (frame.alive n l) e) ∙ zero_add_ℚ (coefficient (point_at lasts n) j);
    later = λ n s j l e. beside_is n j (Some (v.parent n)) (meets n l) (frame.later n s (frame.alive n l) e);
    value = λ n s j l o. joined_number lasts n j (form_is n (meets n l)) (few_nodes p n i (frame.alive n l)) (frame.column s j o);
  }

  rows_met : (n : ℕ) → IsLive v n → Each (λ (r : NodeRow). Between r.low r.high (product r.entries (coefficient (beside_at n)))) (v.rows n)
  rows_met n l = subst
      (λ (o : Option Last). Each (λ (r : NodeRow). Between r.low r.high (product r.entries (coefficient (along_of o)))) (v.rows n))
      (sym (meets n l).there) (meets n l).rows

  bounds_met : (n : ℕ) → IsLive v n → Each (λ j. Between (v.lower j) (v.upper j) (coefficient (point_at lasts n) j)) (v.columns (v.stage n))
  bounds_met n l = subst
      (λ (o : Option Last). Each (λ j. Between (v.lower j) (v.upper j) (coefficient (point_entries (last_point o)) j))
      (v.columns (v.stage n)))
      (sym (meets n l).there) (meets n l).bounds

  joined_feasible : Feasible v (at (joined_points lasts))
  joined_feasible =
      together_feasible v (point_at lasts) beside_at (at (joined_points lasts)) (tree_in kind p i) stand rows_met bounds_met

  joined_below : (value_of : ℕ → ℚ) → AllCover kind p lasts value_of → cost v (at (joined_points lasts)) ≤ℚ value_of 0
  joined_below value_of c =
      let covers : (n : ℕ) → IsLive v n → CoversAt kind p lasts value_of n = λ n l. c n (frame.alive n l) in
      let t : IsTree v = tree_in kind p i in
      let r : IsRoot v 0 = root_in kind p i in
      costs_covered v t (at (joined_points lasts)) value_of
      (together_covered v (point_at lasts) beside_at (at (joined_points lasts)) t stand value_of
      (λ n l. (covers n l).child_cost) (λ n l. (covers n l).value_is) (λ n l. (covers n l).below))
      0 (root_is_live v 0 v.scenarios t.paths r.certain) r

pub policies_join : PoliciesJoin
policies_join kind p lasts i h = joined_feasible kind p lasts i h

pub values_cover : ValuesCover
values_cover kind p lasts value_of i h c = joined_below kind p lasts i h value_of c
