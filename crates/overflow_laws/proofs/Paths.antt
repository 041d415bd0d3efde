-- The path of the simplex method ends in no operation but one that passes 128 bits.
use Rattle.std.proofs.Common.{ℕ, zero, suc, ◌+◌, ◌-◌, Bool, true, false, ltb, List, [], ◌∷◌, ◌++◌, length, Option, Some, None, Ok, Err}
use Rattle.std.specs.List.{remove}
use Rattle.rationals.specs.declared.Op.TheVariants.{Sub, Div}
use Rattle.rationals.specs.Rational.{ℚ, zero_ℚ, one_ℚ}
use Rattle.rationals.specs.Sparse.{Entry}
use Rattle.lp_defs.specs.Tests.{is_zero, is_above_zero}
use Rattle.lp_defs.specs.Walks.{Walk}
use Rattle.lp_defs.specs.Lines.{Line, value_at, keep, less_right, less_meet, less_entries, cleared_form, cleared, divided_entries, divided}
use Rattle.lp_defs.specs.Path.{Row, Tableau, Candidate, entering, choose, leaving, has_above_zero, cleared_rows, row_at, pivoted}
use Rattle.lp_defs.specs.Path.{Ending, Done, Open, TooLong, Stopped, with_choice, with_value, at_limit, path}
use Rattle.lp_defs.specs.Phases.{priced, has_artificial_above, replacing, Driven, Driven_out, Driven_long, Driven_stop}
use Rattle.lp_defs.specs.Phases.{driven_by, driven_at, driven, first_duals}
use Rattle.lp_defs.specs.Program.{Program}
use Rattle.lp_defs.specs.Solution.{Solution, Optimum, Nowhere, Endless, Cut_off, Passes, counted, first_rows, first_cost}
use Rattle.lp_defs.specs.Solution.{second_end, second, between, first_end, solution}
use Rattle.claim_laws.proofs.Passing.{EndsIn, IsWide, then_ends, walk_ends, step_ends}

test_ends : {X : Type 0} (b : Bool) (x y : Walk X) → EndsIn IsWide x → EndsIn IsWide y
    → EndsIn IsWide (elim b as (λ c. Walk X) [ true ↦ x | false ↦ y ])
test_ends true x y h k = h
test_ends false x y h k = k

-- ---- lines
less_right_ends : (f : ℚ) (ys done : List Entry) → EndsIn IsWide (less_right f ys done)
less_right_ends f [] done = tt
less_right_ends f (y ∷ ys) done =
    then_ends IsWide _ _ (step_ends Sub zero_ℚ f y.value) (λ v. less_right_ends f ys (keep done y.column v))

less_meet_ends : (f : ℚ) (x : Entry) (next : List Entry → List Entry → Walk (List Entry))
    → ((ys done : List Entry) → EndsIn IsWide (next ys done)) → (ys done : List Entry) → EndsIn IsWide (less_meet f x next ys done)
less_meet_ends f x next h [] done = h [] (done ++ x ∷ [])
less_meet_ends f x next h (y ∷ ys) done =
    test_ends (ltb x.column y.column) _ _ (h (y ∷ ys) (done ++ x ∷ []))
    (test_ends (ltb y.column x.column) _ _
    (then_ends IsWide _ _ (step_ends Sub zero_ℚ f y.value) (λ v. less_meet_ends f x next h ys (keep done y.column v)))
    (then_ends IsWide _ _ (step_ends Sub x.value f y.value) (λ v. h ys (keep done x.column v))))

less_entries_end : (f : ℚ) (xs ys done : List Entry) → EndsIn IsWide (less_entries f xs ys done)
less_entries_end f [] ys done = less_right_ends f ys done
less_entries_end f (x ∷ xs) ys done = less_meet_ends f x (less_entries f xs) (less_entries_end f xs) ys done

cleared_form_ends : (f : ℚ) (pivot form : List Entry) → EndsIn IsWide (cleared_form f pivot form)
cleared_form_ends f pivot form = test_ends (is_zero f) _ _ tt (less_entries_end f form pivot [])

cleared_ends : (j : ℕ) (pivot line : Line) → EndsIn IsWide (cleared j pivot line)
cleared_ends j pivot line =
    test_ends (is_zero (value_at line.entries j)) _ _ tt
    (then_ends IsWide _ _ (less_entries_end (value_at line.entries j) line.entries pivot.entries []) (λ entries.
    then_ends IsWide _ _ (step_ends Sub line.right (value_at line.entries j) pivot.right) (λ right. tt)))

divided_entries_ends : (a : ℚ) (xs done : List Entry) → EndsIn IsWide (divided_entries a xs done)
divided_entries_ends a [] done = tt
divided_entries_ends a (x ∷ xs) done = then_ends IsWide _ _ (walk_ends Div x.value a)
    (λ v. divided_entries_ends a xs (done ++ record { column = x.column; value = v } ∷ []))

divided_ends : (a : ℚ) (line : Line) → EndsIn IsWide (divided a line)
divided_ends a line = then_ends IsWide _ _ (divided_entries_ends a line.entries [])
    (λ entries. then_ends IsWide _ _ (walk_ends Div line.right a) (λ right. tt))

-- ---- a pivot
leaving_ends : (j : ℕ) (rows : List Row) (i : ℕ) (best : Option Candidate) → EndsIn IsWide (leaving j rows i best)
leaving_ends j [] i best = tt
leaving_ends j (r ∷ rows) i best =
    test_ends (is_above_zero (value_at r.line.entries j)) _ _
    (then_ends IsWide _ _ (walk_ends Div r.line.right (value_at r.line.entries j))
    (λ q. leaving_ends j rows (i + 1) (choose best (record { index = i; ratio = q; basic = r.basic }))))
    (leaving_ends j rows (i + 1) best)

cleared_rows_end : (j : ℕ) (pivot : Line) (rows done : List Row) → EndsIn IsWide (cleared_rows j pivot rows done)
cleared_rows_end j pivot [] done = tt
cleared_rows_end j pivot (r ∷ rows) done = then_ends IsWide _ _ (then_ends IsWide _ _ (cleared_ends j pivot r.line) (λ line. tt))
    (λ new. cleared_rows_end j pivot rows (done ++ new ∷ []))

pivoted_ends : (j i : ℕ) (t : Tableau) → EndsIn IsWide (pivoted j i t)
pivoted_ends j i t =
    then_ends IsWide _ _ (divided_ends (value_at (row_at t.rows i).line.entries j) (row_at t.rows i).line) (λ pivot.
    then_ends IsWide _ _ (cleared_rows_end j pivot (remove t.rows i) []) (λ rows.
    then_ends IsWide _ _ (cleared_form_ends (value_at t.objective j) pivot.entries t.objective) (λ objective. tt)))

-- ---- the path
abbrev EndsWide : Ending → Type 0
EndsWide (Done k t) = Unit {0}
EndsWide (Open j t) = Unit {0}
EndsWide TooLong = Unit {0}
EndsWide (Stopped k o) = IsWide o

choice_ends : {A : Type 0} (a : Option A) (stop : Ending) (go : A → Ending) → EndsWide stop → ((x : A) → EndsWide (go x))
    → EndsWide (with_choice a stop go)
choice_ends None stop go h r = h
choice_ends (Some x) stop go h r = r x

value_ends : {A : Type 0} (w : Walk A) (k : ℕ) (go : A → Ending) → EndsIn IsWide w → ((x : A) → EndsWide (go x))
    → EndsWide (with_value w (Stopped k) go)
value_ends (Ok x) k go h r = r x
value_ends (Err o) k go h r = h

limit_ends : (j : ℕ) (t : Tableau) (b : Bool) → EndsWide (at_limit j t b)
limit_ends j t true = tt
limit_ends j t false = tt

path_ends : (n left k : ℕ) (t : Tableau) → EndsWide (path n left k t)
path_ends n zero k t = choice_ends (entering n t.objective) _ _ tt (λ j. limit_ends j t (has_above_zero j t.rows))
path_ends n (suc left) k t =
    choice_ends (entering n t.objective) _ _ tt (λ j.
    value_ends (leaving j t.rows 0 None) (k + 1) _ (leaving_ends j t.rows 0 None) (λ found.
    choice_ends found _ _ tt (λ c.
    value_ends (pivoted j c.index t) (k + 1) _ (pivoted_ends j c.index t) (λ next. path_ends n left (k + 1) next))))

-- ---- the phases
priced_ends : (cost : List Entry) (rows : List Row) (objective : List Entry) → EndsIn IsWide (priced cost rows objective)
priced_ends cost [] objective = tt
priced_ends cost (r ∷ rows) objective =
    then_ends IsWide _ _ (cleared_form_ends (value_at cost r.basic) r.line.entries objective) (λ next. priced_ends cost rows next)

abbrev DrivenWide : Driven → Type 0
DrivenWide (Driven_out k t) = Unit {0}
DrivenWide Driven_long = Unit {0}
DrivenWide (Driven_stop k o) = IsWide o

driven_by_ends : (k : ℕ) (w : Walk Tableau) (go : Tableau → Driven) → EndsIn IsWide w → ((u : Tableau) → DrivenWide (go u))
    → DrivenWide (driven_by k w go)
driven_by_ends k (Ok u) go h r = r u
driven_by_ends k (Err o) go h r = h

driven_at_ends : (i left k : ℕ) (t : Tableau) (j : Option ℕ) (go : ℕ → ℕ → Tableau → Driven)
    → ((l m : ℕ) (u : Tableau) → DrivenWide (go l m u)) → DrivenWide (driven_at i left k t j go)
driven_at_ends i left k t None go h = h left k t
driven_at_ends i zero k t (Some j) go h = tt
driven_at_ends i (suc left) k t (Some j) go h = driven_by_ends (k + 1) (pivoted j i t) _ (pivoted_ends j i t) (h left (k + 1))

driven_ends : (n rows i left k : ℕ) (t : Tableau) → DrivenWide (driven n rows i left k t)
driven_ends n zero i left k t = tt
driven_ends n (suc rows) i left k t =
    driven_at_ends i left k t (replacing n (row_at t.rows i)) (driven n rows (i + 1)) (driven_ends n rows (i + 1))

duals_end : (j m : ℕ) (objective : List Entry) (done : List ℚ) → EndsIn IsWide (first_duals j m objective done)
duals_end j zero objective done = tt
duals_end j (suc m) objective done =
    then_ends IsWide _ _ (walk_ends Sub one_ℚ (value_at objective j)) (λ y. duals_end (suc j) m objective (done ++ y ∷ []))

-- ---- all
abbrev pub SolutionWide : Solution → Type 0
SolutionWide (Optimum x y) = Unit {0}
SolutionWide (Nowhere y) = Unit {0}
SolutionWide (Endless x d) = Unit {0}
SolutionWide Cut_off = Unit {0}
SolutionWide (Passes k o) = IsWide o

counted_ends : {A : Type 0} (k : ℕ) (w : Walk A) (go : A → Solution) → EndsIn IsWide w → ((a : A) → SolutionWide (go a))
    → SolutionWide (counted k w go)
counted_ends k (Ok a) go h r = r a
counted_ends k (Err o) go h r = h

module _ (p : Program) where
  second_end_ends : (e : Ending) → EndsWide e → SolutionWide (second_end p e)
  second_end_ends (Done k t) h = tt
  second_end_ends (Open j t) h = tt
  second_end_ends TooLong h = tt
  second_end_ends (Stopped k o) h = h

  second_ends : (pivots k : ℕ) (t : Tableau) → SolutionWide (second p pivots k t)
  second_ends pivots k t = counted_ends k (priced p.cost t.rows p.cost) _ (priced_ends p.cost t.rows p.cost)
      (λ objective. second_end_ends (path p.columns (pivots - k) k (record { rows = t.rows; objective = objective }))
      (path_ends p.columns (pivots - k) k (record { rows = t.rows; objective = objective })))

  between_ends : (pivots : ℕ) (d : Driven) → DrivenWide d → SolutionWide (between p pivots d)
  between_ends pivots (Driven_out k t) h = second_ends pivots k t
  between_ends pivots Driven_long h = tt
  between_ends pivots (Driven_stop k o) h = h

  first_end_ends : (pivots : ℕ) (e : Ending) → EndsWide e → SolutionWide (first_end p pivots e)
  first_end_ends pivots (Done k t) h = go (has_artificial_above p.columns t.rows)
    where
      go : (b : Bool) → SolutionWide (elim b as (λ c. Solution) [
        | true ↦ counted k (first_duals p.columns (length p.rows) t.objective []) Nowhere
        | false ↦ between p pivots (driven p.columns (length t.rows) 0 (pivots - k) k t)
      ])
      go true = counted_ends k (first_duals p.columns (length p.rows) t.objective []) Nowhere
          (duals_end p.columns (length p.rows) t.objective []) (λ y. tt)
      go false = between_ends pivots (driven p.columns (length t.rows) 0 (pivots - k) k t)
          (driven_ends p.columns (length t.rows) 0 (pivots - k) k t)
  first_end_ends pivots (Open j t) h = tt
  first_end_ends pivots TooLong h = tt
  first_end_ends pivots (Stopped k o) h = h

  pub solution_ends : (pivots : ℕ) → SolutionWide (solution p pivots)
  solution_ends pivots = counted_ends 0 (priced (first_cost p) (first_rows p) (first_cost p)) _
      (priced_ends (first_cost p) (first_rows p) (first_cost p))
      (λ objective. first_end_ends pivots (path p.columns pivots 0 (record { rows = first_rows p; objective = objective }))
      (path_ends p.columns pivots 0 (record { rows = first_rows p; objective = objective })))
