-- The solve of a node's program, operation by operation: its rows, the path of their standard form, and what is made of its end.
use Rattle.std.specs.Prelude.{ℕ, suc, Bool, List, [], ◌∷◌, ◌++◌, Ok, Err, length, take, drop}
use Rattle.rationals.specs.declared.Op.TheVariants.{Add}
use Rattle.rationals.specs.Rational.{ℚ, zero_ℚ}
use Rattle.rationals.specs.Passes.{then_walk, add_product_walk}
use Rattle.rationals.specs.Sparse.{Entry, coefficient}
use Rattle.rationals.specs.Forms.{put}
use Rattle.smps_words.specs.declared.row_kind.RowKind.TheVariants.{Greater}
use Rattle.lp_defs.specs.Walks.{Walk}
use Rattle.lp_defs.specs.Program as lp
use Rattle.lp_defs.specs.Solution.{Solution, Optimum, Nowhere, Endless, Cut_off, Passes, solution}
use Rattle.farkas_ray.specs.Sums.{ray_walk}
use Rattle.farkas_ray.specs.Halts.{or_passed}
use Rattle.slack_form.specs.declared.limits.Limit.{Limit}
use Rattle.slack_form.specs.Standard.{standard_from, turned_back}
use Rattle.scen_defs.specs.Lists.{Each}
use Rattle.cut_defs.specs.declared.datum.ColumnBounds.{ColumnBounds}
use Rattle.interval_form.specs.declared.part.Part.{Part}
use Rattle.interval_form.specs.declared.part.Vector.TheVariants.{Point}
use Rattle.interval_form.specs.Parts.{parts_from, behind_all, part_at, spread_form, value_walk}
use Rattle.interval_form.specs.Spans.{limit_count}
use Rattle.rationals.specs.Totals.{sum_walk}
use Rattle.rationals.specs.Choices.{pick}
use Rattle.scen_defs.specs.declared.program.NodeRow.{NodeRow}
use Rattle.interval_form.specs.Rows.{terms_walk, right_walk, own_limits_from, bound_limits_from}
use Rattle.cut_defs.specs.declared.datum.Share.{Share}
use Rattle.cut_proof.specs.declared.child.ChildCuts.{ChildCuts}
use Rattle.node_lp.specs.declared.found.Found.{Found}
use Rattle.node_lp.specs.declared.found.Found.TheVariants as found
use Rattle.node_lp.specs.Problem.{PlacedCut, Problem, IsCut, taken_of}
use Rattle.node_lp.specs.Plain.{all_bounds, all_costs, cut_form}
use Rattle.node_lp.specs.Points.{weights_of}

-- ---- rows

-- a cut's row: from the constant, the terms of the trial, then of the shifts, added
abbrev pub cut_walk : List ColumnBounds → List Part → List Entry → PlacedCut → Walk Limit
cut_walk bs parts trial c = then_walk (right_walk Add bs parts trial c.cut.constant c.cut.form)
    (λ right. Ok (record { entries = spread_form parts (cut_form bs c); kind = Greater; right = right }))

abbrev pub cuts_from : List ColumnBounds → List Part → List Entry → List Limit → List PlacedCut → Walk (List Limit)
cuts_from bs parts trial made [] = Ok made
cuts_from bs parts trial made (c ∷ cs) = then_walk (cut_walk bs parts trial c) (λ l. cuts_from bs parts trial (made ++ l ∷ []) cs)

-- the same, child by child, from the child at place k on
abbrev pub child_cuts_from : List ColumnBounds → List Part → List Entry → Bool → List Limit
    → ℕ → List ChildCuts → Walk (List Limit)
child_cuts_from bs parts trial priced made k [] = Ok made
child_cuts_from bs parts trial priced made k (c ∷ cs) =
    then_walk (cuts_from bs parts trial made (taken_of priced k c.cuts.items))
    (λ more. child_cuts_from bs parts trial priced more (suc k) cs)

abbrev pub AreCuts : Bool → List Share → ℕ → List ChildCuts → Type 0
AreCuts priced shares k [] = Unit {0}
AreCuts priced shares k (c ∷ cs) = Each (IsCut priced shares) (taken_of priced k c.cuts.items) × AreCuts priced shares (suc k) cs

abbrev pub node_parts : Problem → List Part
node_parts p = parts_from 0 (all_bounds p)

-- the own rows, then the cuts by child, then the bounds
abbrev pub rows_walk : Problem → Walk (List Limit)
rows_walk p = then_walk (own_limits_from p.bounds (node_parts p) p.trial [] p.rows) (λ own.
    then_walk (cuts_from p.bounds (node_parts p) p.trial own p.cuts) (λ made. bound_limits_from 0 made (all_bounds p)))

-- the same by children
abbrev pub made_walk : Bool → List ColumnBounds → List Part → List Entry → List NodeRow → List ChildCuts → List ColumnBounds
    → Walk (List Limit)
made_walk priced bs parts trial rows children all = then_walk (own_limits_from bs parts trial [] rows) (λ own.
    then_walk (child_cuts_from bs parts trial priced own 0 children) (λ made. bound_limits_from 0 made all))

abbrev pub standard_seen : Problem → List Limit → lp.Program
standard_seen p limits = standard_from (behind_all 0 (node_parts p)) limits (spread_form (node_parts p) (all_costs p))

-- ---- the end of the path

-- the own columns' values, behind those that are made, the next of them at place k; those that are 0 are left out
abbrev pub point_from : (ℕ → ℚ) → List Part → List Entry → ℕ → List ColumnBounds → Walk (List Entry)
point_from z ps made k [] = Ok made
point_from z ps made k (b ∷ bs) =
    then_walk (value_walk Point (part_at ps k) z) (λ v. point_from z ps (made ++ put b.column v []) (suc k) bs)

-- s and the share times the child's cost, as a step
abbrev pub child_walk : (ℕ → ℚ) → ℚ → ℚ → Part → Walk ℚ
child_walk z s h q = then_walk (value_walk Point q z) (λ c. add_product_walk s h c)

-- child by child, the next of them at place k
abbrev pub children_from : (ℕ → ℚ) → List Part → ℚ → ℕ → List Share → Walk ℚ
children_from z ps s k [] = Ok s
children_from z ps s k (h ∷ hs) = then_walk (child_walk z s h.share (part_at ps k)) (λ t. children_from z ps t (suc k) hs)

-- the cost times the values x by column, then by child; n is the number of own columns
abbrev pub total_walk : Bool → ℕ → List Entry → List Share → List Part → (ℕ → ℚ) → List Entry → Walk ℚ
total_walk priced n cost shares ps z x =
    then_walk (terms_walk Add (coefficient x) zero_ℚ cost) (λ s. pick priced (children_from z ps s n shares) (Ok s))

abbrev pub cost_walk : Problem → (ℕ → ℚ) → List Entry → Walk ℚ
cost_walk p z x = total_walk p.priced (length p.bounds) p.cost p.shares (node_parts p) z x

-- the own rows' multipliers, behind those that are made; those that are 0 are left out
abbrev pub multipliers_from : List Entry → List NodeRow → List ℚ → Walk (List Entry)
multipliers_from made [] duals = Ok made
multipliers_from made (r ∷ rs) duals = then_walk (sum_walk (take (limit_count r.low r.high) duals))
    (λ y. multipliers_from (made ++ put r.row y []) rs (drop (limit_count r.low r.high) duals))

-- the own multipliers by row, then the point by column, then the value
abbrev pub best_walk : Problem → List Limit → (ℕ → ℚ) → List ℚ → Walk Found
best_walk p limits z y = then_walk (multipliers_from [] p.rows (turned_back limits y)) (λ own.
    then_walk (point_from z (node_parts p) [] 0 p.bounds) (λ x. then_walk (cost_walk p z x) (λ v.
    Ok (found.Point x v (record { rows = own; weights = weights_of p (turned_back limits y) })))))

-- the own multipliers by row, then the operations that show that they exclude every point
abbrev pub nowhere_walk : Problem → List Limit → lp.Program → List ℚ → Walk Found
nowhere_walk p limits standard y = then_walk (multipliers_from [] p.rows (turned_back limits y)) (λ own.
    then_walk (ray_walk standard y) (λ shown.
    Ok (found.NoPoint (record { rows = own; weights = weights_of p (turned_back limits y) }))))

abbrev pub end_walk : Problem → List Limit → lp.Program → Solution → Walk Found
end_walk p limits standard (Optimum x y) = best_walk p limits x y
end_walk p limits standard (Nowhere y) = nowhere_walk p limits standard y
end_walk p limits standard (Endless x d) = Ok found.Loose
end_walk p limits standard Cut_off = Ok found.PivotsEnded
end_walk p limits standard (Passes k o) = Err o

-- ---- all

abbrev pub path_walk : Problem → ℕ → List Limit → Walk Found
path_walk p pivots limits = end_walk p limits (standard_seen p limits) (solution (standard_seen p limits) pivots)

abbrev pub solve_walk : Problem → ℕ → Walk Found
solve_walk p pivots = then_walk (rows_walk p) (path_walk p pivots)

-- what is found in at most so many pivots
abbrev pub found_in : Problem → ℕ → Found
found_in p pivots = or_passed found.Passed (solve_walk p pivots)
