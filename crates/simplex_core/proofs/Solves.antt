-- From the parts of a solve to its answer.
use Rattle.std.proofs.Common.{◌≡◌, ℕ, ◌+◌, ◌-◌, ◌*◌, ◌^◌, ◌≤◌, Bool, true, false, List, [], Result, Ok, length, refl, sym, ap, ap₂, ◌∙◌, subst, subst₂, arith, le_refl}
use Rattle.std.specs.Prelude.{IfOk}
use Rattle.rationals.specs.Rational.{ℚ, one_ℚ}
use Rattle.rationals.specs.Sparse.{Entry, Ascending, coefficient}
use Rattle.frac128.specs.declared.memory.Memory.{Memory}
use Rattle.lp_defs.specs.Walks.{Walk}
use Rattle.lp_defs.specs.Path.{Row, Tableau, Done, Open, path}
use Rattle.lp_defs.specs.Ends.{EndsWell}
use Rattle.lp_defs.specs.Basis.{point, ray}
use Rattle.lp_defs.specs.Phases.{unit_rows, with_units, unit_costs, priced, has_artificial_above, Driven_out, driven, first_duals, unit_duals}
use Rattle.lp_defs.specs.Program.{Program, IsProgram, EndsInUnits}
use Rattle.lp_defs.specs.Solution.{Solution, Optimum, Nowhere, Endless, Cut_off, counted, first_rows, first_cost, first_end, second_end, second, between, solution}
use Rattle.lp_defs.specs.Stages.{First, Driving, DrivenOut, Second}
use Rattle.lp_defs.specs.Certificates.{IsCertified}
use Rattle.lp_defs.specs.Placed.{BasicsDiffer}
use Rattle.lp_defs.specs.Trace.{NotIn}
use Rattle.lp_defs.proofs.Placed.{basics_differ}
use Rattle.lp_defs.proofs.Rays.{entering_falls}
use Rattle.lp_defs.proofs.Ready.{apart_entering, first_begins, first_path, never_open, driving_begins, EndsDriven, driven_well, second_begins, second_path}
use Rattle.lp_defs.proofs.Certified.{solutions_are_certified}
use Rattle.lp_defs.proofs.Feasible.{unit_columns_are_feasible}
use Rattle.lp_defs.proofs.Bound.{pivots_are_bounded}
use Rattle.lp_defs.proofs.Same.{optimal_same, unbounded_same}
use Rattle.lp_defs.specs.Lines.{value_at}
use Rattle.lp_defs.specs.Linear.{AllLines, AllRows}
use Rattle.lp_defs.proofs.Starts.{rows_rise, length_with_units}
use Rattle.rationals.specs.Forms.{EndsBelow}
use Rattle.simplex_core.proofs.Sweep.{rows_below, basics_cost}
use Rattle.simplex_core.specs.declared.tableau.End.{End}
use Rattle.simplex_core.specs.declared.tableau.End.TheVariants as end
use Rattle.simplex_core.specs.declared.drive.Driven.{Driven as DriveEnd}
use Rattle.simplex_core.specs.declared.drive.Driven.TheVariants as drive_end
use Rattle.simplex_core.specs.declared.outcome.Outcome.{Outcome}
use Rattle.simplex_core.specs.declared.outcome.Outcome.TheVariants as outcome
use Rattle.simplex_core.specs.Reached.{Reached}
use Rattle.simplex_core.specs.Drove.{Drove}
use Rattle.simplex_core.specs.Told.{Tells, Shows, IsNotInfeasible, IsNotPivotsEnded}

-- an answer by another name
pub renamed : (s z : Solution) (r : Result Outcome Memory) → z ≡ s → IfOk r (Tells s) → IfOk r (Tells z)
renamed s z r e h = subst (λ (x : Solution). IfOk r (Tells x)) (sym e) h

-- ---- the ends of paths
pub reached_done : (n columns l m last : ℕ) (t new : Tableau) (e : End) → columns ≡ n → e ≡ end.Done last → Reached (path columns l m t) e new → path n l m t ≡ Done last new
reached_done n columns l m last t new e h k r = ap (λ (c : ℕ). path c l m t) (sym h) ∙ subst (λ (x : End). Reached (path columns l m t) x new) k r

pub reached_open : (n columns l m j : ℕ) (t new : Tableau) (e : End) → columns ≡ n → e ≡ end.Open j → Reached (path columns l m t) e new → path n l m t ≡ Open j new
reached_open n columns l m j t new e h k r = ap (λ (c : ℕ). path c l m t) (sym h) ∙ subst (λ (x : End). Reached (path columns l m t) x new) k r

-- ---- phase two
pub differ_done : (p : Program) (l m last : ℕ) (t new : Tableau) (rows : List Row) → Second p t → path p.columns l m t ≡ Done last new → rows ≡ new.rows → BasicsDiffer rows
differ_done p l m last t new rows s e h = subst BasicsDiffer (sym h) (basics_differ new.rows (subst (EndsWell (Second p) p.columns) e (second_path p l m t s)).0.three.1.units)

pub differ_open : (p : Program) (l m j : ℕ) (t new : Tableau) (rows : List Row) → Second p t → path p.columns l m t ≡ Open j new → rows ≡ new.rows → BasicsDiffer rows
differ_open p l m j t new rows s e h = subst BasicsDiffer (sym h) (basics_differ new.rows (subst (EndsWell (Second p) p.columns) e (second_path p l m t s)).0.three.1.units)

pub apart_open : (p : Program) (l m j : ℕ) (t new : Tableau) (rows : List Row) → Second p t → path p.columns l m t ≡ Open j new → rows ≡ new.rows → NotIn j rows
apart_open p l m j t new rows s e h =
    let w = subst (EndsWell (Second p) p.columns) e (second_path p l m t s) in
    subst (NotIn j) (sym h) (apart_entering new.objective j new.rows w.0.three.1.objective_rises (entering_falls p.columns 0 j new.objective w.0.three.1.objective_rises w.1) w.0.three.1.priced)

pub tells_optimal : (n columns : ℕ) (t : Tableau) (lines forms : List (List Entry)) (rows : List Row) (objective x : List Entry) (y : List ℚ) → columns ≡ n → forms ≡ lines → rows ≡ t.rows → objective ≡ t.objective
    → ((c : ℕ) → coefficient x c ≡ point rows c) → y ≡ unit_duals columns (length forms) objective
    → (v : ℕ → ℚ) × (Optimum (point t.rows) (unit_duals n (length lines) t.objective) ≡ Optimum v y) × ((c : ℕ) → coefficient x c ≡ v c)
tells_optimal n columns t lines forms rows objective x y h k r o px dy =
    let d : y ≡ unit_duals n (length lines) t.objective =
    dy ∙ ap (λ (z : List Entry). unit_duals columns (length forms) z) o ∙ ap₂ (λ (m : ℕ) (f : List (List Entry)). unit_duals m (length f) t.objective) h k in (
      point t.rows,
      ap (λ (z : List ℚ). Optimum (point t.rows) z) (sym d),
      λ c. px c ∙ ap (λ (z : List Row). point z c) r,
    )

pub tells_endless : (j : ℕ) (t : Tableau) (rows again : List Row) (x d : List Entry) → rows ≡ t.rows → again ≡ t.rows → ((c : ℕ) → coefficient x c ≡ point rows c) → ((c : ℕ) → coefficient d c ≡ ray j again c)
    → (v : ℕ → ℚ) × (w : ℕ → ℚ) × (Endless (point t.rows) (ray j t.rows) ≡ Endless v w) × ((c : ℕ) → coefficient x c ≡ v c) × ((c : ℕ) → coefficient d c ≡ w c)
tells_endless j t rows again x d r s px dx = (
  point t.rows,
  ray j t.rows,
  refl,
  λ c. px c ∙ ap (λ (z : List Row). point z c) r,
  λ c. dx c ∙ ap (λ (z : List Row). ray j z c) s,
)

-- the objective row of a phase, as the code made it
pub priced_is : (cost made : List Entry) (rows read : List Row) (o : List Entry) → made ≡ cost → read ≡ rows → priced made read made ≡ Ok o → priced cost rows cost ≡ Ok o
priced_is cost made rows read o h k e = sym (ap₂ (λ (c : List Entry) (r : List Row). priced c r c) h k) ∙ e

pub second_ready : (p : Program) (t u : Tableau) (o : List Entry) → IsProgram p → DrivenOut p t → priced p.cost t.rows p.cost ≡ Ok o → u ≡ record { rows = t.rows; objective = o } → Second p u
second_ready p t u o is d e h = subst (Second p) (sym h) (second_begins p t o is d e)

pub second_is : (p : Program) (pivots made : ℕ) (t u : Tableau) (o : List Entry) → priced p.cost t.rows p.cost ≡ Ok o → u ≡ record { rows = t.rows; objective = o } → second p pivots made t ≡ second_end p (path p.columns (pivots - made) made u)
second_is p pivots made t u o e h =
    ap (λ (w : Walk (List Entry)). counted made w (λ x. second_end p (path p.columns (pivots - made) made (record { rows = t.rows; objective = x })))) e
    ∙ ap (λ (v : Tableau). second_end p (path p.columns (pivots - made) made v)) (sym h)

-- ---- the pivots on artificial columns
pub driven_is : (p : Program) (columns left made last : ℕ) (t new : Tableau) (e : DriveEnd) → columns ≡ p.columns → e ≡ drive_end.Out last → Drove (driven columns (length t.rows) 0 left made t) e new → driven p.columns (length t.rows) 0 left made t ≡ Driven_out last new
driven_is p columns left made last t new e h k d = ap (λ (c : ℕ). driven c (length t.rows) 0 left made t) (sym h) ∙ subst (λ (x : DriveEnd). Drove (driven columns (length t.rows) 0 left made t) x new) k d

pub driven_ready : (p : Program) (left made last : ℕ) (t new : Tableau) → Driving p t → driven p.columns (length t.rows) 0 left made t ≡ Driven_out last new → DrivenOut p new
driven_ready p left made last t new d e = subst (EndsDriven p) e (driven_well p left made t d)

-- ---- behind phase one
pub driving_ready : (p : Program) (t : Tableau) (b : Bool) → First p t → b ≡ has_artificial_above p.columns t.rows → b ≡ false → Driving p t
driving_ready p t b h e k = driving_begins p t h (sym e ∙ k)

pub feasible_is : (p : Program) (pivots made : ℕ) (t : Tableau) (b : Bool) → b ≡ has_artificial_above p.columns t.rows → b ≡ false → first_end p pivots (Done made t) ≡ between p pivots (driven p.columns (length t.rows) 0 (pivots - made) made t)
feasible_is p pivots made t b e k =
    ap (λ (x : Bool). elim x as (λ y. Solution) [ true ↦ counted made (first_duals p.columns (length p.rows) t.objective []) Nowhere | false ↦ between p pivots (driven p.columns (length t.rows) 0 (pivots - made) made t) ]) (sym e ∙ k)

-- ---- phase one
pub first_done : (p : Program) (l m last : ℕ) (t new : Tableau) → First p t → path p.columns l m t ≡ Done last new → First p new
first_done p l m last t new h e = (subst (EndsWell (First p) p.columns) e (first_path p l m t h)).0

pub first_open : (p : Program) (l m j : ℕ) (t new : Tableau) → First p t → path p.columns l m t ≡ Open j new → ⊥
first_open p l m j t new h e =
    let w = subst (EndsWell (First p) p.columns) e (first_path p l m t h) in
    never_open p j new w.0 w.1 w.2

pub none_made : (n : ℕ) → n - 0 ≡ n
none_made n = omega arith

pub from_start : (n columns pivots : ℕ) (t new : Tableau) (e : End) → Reached (path columns (pivots - 0) 0 t) e new → Reached (path columns pivots 0 t) e new
from_start n columns pivots t new e r = subst (λ (l : ℕ). Reached (path columns l 0 t) e new) (none_made pivots) r

-- ---- the start
pub rows_are : (p : Program) (columns : ℕ) (forms : List (List Entry)) (right : List ℚ) (rows : List Row) → columns ≡ p.columns → forms ≡ p.rows → right ≡ p.right → rows ≡ unit_rows columns (with_units columns forms) right → rows ≡ first_rows p
rows_are p columns forms right rows h k m e =
    e ∙ ap₂ (λ (n : ℕ) (f : List (List Entry)). unit_rows n (with_units n f) right) h k ∙ ap (λ (r : List ℚ). unit_rows p.columns (with_units p.columns p.rows) r) m

-- the rows rise, are below the columns behind the artificial ones, and are basic in columns that cost 1
pub begins_rise : (p : Program) (rows : List Row) → IsProgram p → rows ≡ first_rows p → AllLines (λ line. Ascending 0 line.entries) rows
begins_rise p rows is e = subst (AllLines (λ line. Ascending 0 line.entries)) (sym e) (rows_rise p.columns p.columns p.rows p.right (le_refl p.columns) is.rows)

pub begins_below : (p : Program) (columns count : ℕ) (forms : List (List Entry)) (rows : List Row) → IsProgram p → columns ≡ p.columns → forms ≡ p.rows → count ≡ length forms → rows ≡ first_rows p → AllLines (λ line. EndsBelow (columns + count) line.entries) rows
begins_below p columns count forms rows is h k m e =
    let n : columns + count ≡ p.columns + length p.rows = ap₂ (λ (a b : ℕ). a + b) h (m ∙ ap (λ (f : List (List Entry)). length f) k) in
    subst₂ (λ (b : ℕ) (r : List Row). AllLines (λ line. EndsBelow b line.entries) r) (sym n) (sym e) (rows_below p.columns p.columns (p.columns + length p.rows) p.rows p.right (le_refl p.columns) (omega arith) is.rows)

pub begins_basic : (p : Program) (columns count : ℕ) (forms : List (List Entry)) (rows : List Row) → columns ≡ p.columns → forms ≡ p.rows → count ≡ length forms → rows ≡ first_rows p → AllRows (λ r. value_at (unit_costs columns count) r.basic ≡ one_ℚ) rows
begins_basic p columns count forms rows h k m e =
    let n : count ≡ length p.rows = m ∙ ap (λ (f : List (List Entry)). length f) k in
    let long : length (with_units p.columns p.rows) ≡ length p.rows = length_with_units p.columns p.rows in
    subst₂ (λ (c : List Entry) (r : List Row). AllRows (λ s. value_at c s.basic ≡ one_ℚ) r) (sym (ap₂ (λ (a b : ℕ). unit_costs a b) h n)) (sym e)
    (basics_cost p.columns (length p.rows) p.columns (with_units p.columns p.rows) p.right (le_refl p.columns) (omega arith))

pub cost_is : (p : Program) (columns count : ℕ) (forms : List (List Entry)) → columns ≡ p.columns → forms ≡ p.rows → count ≡ length forms → unit_costs columns count ≡ first_cost p
cost_is p columns count forms h k m = ap₂ (λ (a b : ℕ). unit_costs a b) h (m ∙ ap (λ (f : List (List Entry)). length f) k)

pub first_ready : (p : Program) (t : Tableau) (rows : List Row) (o : List Entry) → IsProgram p → rows ≡ first_rows p → priced (first_cost p) (first_rows p) (first_cost p) ≡ Ok o → t ≡ record { rows = rows; objective = o } → First p t
first_ready p t rows o is h e k = subst (First p) (sym (k ∙ ap (λ (r : List Row). record { rows = r; objective = o }) h)) (first_begins p o is e)

pub solution_is : (p : Program) (pivots : ℕ) (t : Tableau) (rows : List Row) (o : List Entry) → rows ≡ first_rows p → priced (first_cost p) (first_rows p) (first_cost p) ≡ Ok o → t ≡ record { rows = rows; objective = o } → solution p pivots ≡ first_end p pivots (path p.columns pivots 0 t)
solution_is p pivots t rows o h e k =
    ap (λ (w : Walk (List Entry)). counted 0 w (λ x. first_end p pivots (path p.columns pivots 0 (record { rows = first_rows p; objective = x })))) e
    ∙ ap (λ (v : Tableau). first_end p pivots (path p.columns pivots 0 v)) (sym (k ∙ ap (λ (r : List Row). record { rows = r; objective = o }) h))

-- ---- an outcome that tells a certified answer shows that it is right
shows : (p : Program) (s : Solution) (o : Outcome) → IsCertified p s → Tells s o → Shows p o
shows p s (outcome.Optimal x y) h t = optimal_same p t.0 (coefficient x) y.items t.2 (subst (IsCertified p) t.1 h)
shows p s (outcome.Infeasible y) h t = subst (IsCertified p) t h
shows p s (outcome.Unbounded x d) h t = unbounded_same p t.0 (coefficient x) t.1 (coefficient d) t.3 t.4 (subst (IsCertified p) t.2 h)
shows p s outcome.PivotsEnded h t = tt
shows p s (outcome.Passed k q) h t = tt

pub shown : (p : Program) (pivots : ℕ) (o : Outcome) → IsProgram p → Tells (solution p pivots) o → Shows p o
shown p pivots o is t = shows p (solution p pivots) o (solutions_are_certified p pivots is) t

not_infeasible : (p : Program) (o : Outcome) → IsProgram p → EndsInUnits p → Shows p o → IsNotInfeasible o
not_infeasible p (outcome.Optimal x y) is u h = tt
not_infeasible p (outcome.Infeasible y) is u h = unit_columns_are_feasible p y.items is u h
not_infeasible p (outcome.Unbounded x d) is u h = tt
not_infeasible p outcome.PivotsEnded is u h = tt
not_infeasible p (outcome.Passed k q) is u h = tt

pub feasible : (p : Program) (pivots : ℕ) (o : Outcome) → IsProgram p → EndsInUnits p → Tells (solution p pivots) o → IsNotInfeasible o
feasible p pivots o is u t = not_infeasible p o is u (shown p pivots o is t)

-- ---- a path that may be long enough
goes_on : (p : Program) (pivots : ℕ) (o : Outcome) → (solution p pivots ≡ Cut_off → ⊥) → Tells (solution p pivots) o → IsNotPivotsEnded o
goes_on p pivots (outcome.Optimal x y) h t = tt
goes_on p pivots (outcome.Infeasible y) h t = tt
goes_on p pivots (outcome.Unbounded x d) h t = tt
goes_on p pivots outcome.PivotsEnded h t = h t
goes_on p pivots (outcome.Passed k q) h t = tt

pub bounded : (p : Program) (pivots : ℕ) (o : Outcome) → IsProgram p → Tells (solution p pivots) o → 2 * 2 ^ (p.columns + length p.rows) + length p.rows ≤ pivots → IsNotPivotsEnded o
bounded p pivots o is t h = goes_on p pivots o (pivots_are_bounded p pivots is h) t
