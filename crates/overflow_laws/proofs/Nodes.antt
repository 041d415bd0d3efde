-- The solve of a node ends in no operation but one that passes 128 bits; and the values of a point that it finds fit.
use Rattle.std.proofs.Common.{ℕ, zero, suc, Bool, true, false, List, [], ◌∷◌, ◌++◌, Option, Some, None, Result, Ok, Err, length}
use Rattle.std.proofs.Common.{take, drop, ◌≡◌, ◌||◌, eqb, refl, sym, subst}
use Rattle.rationals.specs.declared.Op.{Op}
use Rattle.rationals.specs.declared.Op.TheVariants.{Add, Sub}
use Rattle.rationals.specs.Rational.{ℚ, zero_ℚ}
use Rattle.rationals.specs.Order.{same}
use Rattle.rationals.specs.Forms.{put}
use Rattle.rationals.specs.Sparse.{Entry, coefficient}
use Rattle.rationals.specs.Passes.{Operation, then_walk, IsNarrow}
use Rattle.rationals.specs.Totals.{sum_from}
use Rattle.rationals.specs.Choices.{pick}
use Rattle.smps_words.specs.declared.row_kind.RowKind.{RowKind}
use Rattle.smps_words.specs.declared.row_kind.RowKind.TheVariants.{Less, Greater, Equal}
use Rattle.scen_defs.specs.Lists.{Each}
use Rattle.scen_defs.specs.declared.program.NodeRow.{NodeRow}
use Rattle.scen_defs.proofs.SumLaws.{each-both}
use Rattle.cut_defs.specs.declared.datum.ColumnBounds.{ColumnBounds}
use Rattle.cut_defs.specs.declared.datum.Share.{Share}
use Rattle.cut_defs.specs.declared.kinds.CutKind.TheVariants.{Bound, Ray}
use Rattle.cut_defs.specs.Data.{Datum, is_own}
use Rattle.cut_defs.specs.Stored.{Stored}
use Rattle.lp_defs.specs.Walks.{Walk}
use Rattle.lp_defs.specs.Program as lp
use Rattle.lp_defs.specs.Solution.{Solution, Optimum, Nowhere, Endless, Cut_off, Passes, solution}
use Rattle.farkas_ray.specs.Sums.{column_from, columns_from, value_from, ray_walk}
use Rattle.farkas_ray.specs.Halts.{or_passed}
use Rattle.slack_form.specs.declared.limits.Limit.{Limit}
use Rattle.slack_form.specs.Standard.{turned_back}
use Rattle.interval_form.specs.declared.part.Part.{Part}
use Rattle.interval_form.specs.declared.part.Part.TheVariants.{Above, Below, Free}
use Rattle.interval_form.specs.declared.part.Vector.TheVariants.{Point}
use Rattle.interval_form.specs.Parts.{part_of, part_at, behind, value_walk}
use Rattle.interval_form.specs.Own.{own_form, other_form, place_from}
use Rattle.interval_form.specs.Spans.{shift_at, limit_count}
use Rattle.interval_form.specs.Rows.{terms_walk, right_walk, push_walk, ends_walk, own_limits_from, bound_walk, bound_limits_from}
use Rattle.node_lp.specs.declared.task.Task.{Task}
use Rattle.node_lp.specs.declared.solved.Solved.{Solved}
use Rattle.node_lp.specs.declared.solved.Solved.TheVariants as solved
use Rattle.node_lp.specs.Problem.{PlacedCut, Problem, is_priced, problem_of}
use Rattle.node_lp.specs.Plain.{all_bounds}
use Rattle.node_lp.specs.Walk.{cuts_from, node_parts, rows_walk, standard_seen, point_from, children_from, cost_walk}
use Rattle.node_lp.specs.Walk.{multipliers_from, best_walk, nowhere_walk, end_walk, path_walk, solve_walk, found_in}
use Rattle.node_lp.specs.Points.{weights_of}
use Rattle.node_lp.specs.Weighed.{Weighed}
use Rattle.node_lp.specs.Told.{record_of, cut_made, with_cut, stored_cuts, told, told_of}
use Rattle.node_lp.specs.declared.found.Found.{Found}
use Rattle.node_lp.specs.declared.found.Found.TheVariants as found
use Rattle.node_lp.specs.Shows.{IsSound}
use Rattle.node_lp.specs.Tested.{IsTestable, HasOrigin, IsToldOf}
use Rattle.node_lp.specs.Tested.HasOrigin.{by_test, by_path}
use Rattle.node_lp.specs.Stored.{stored_uses}
use Rattle.claim_laws.proofs.Passing.{EndsIn, IsWide, then_ends, pick_ends, walk_ends, step_ends}
use Rattle.overflow_laws.proofs.Paths.{SolutionWide, solution_ends}
use Rattle.overflow_laws.proofs.Cuts.{made_ends}
use Rattle.overflow_laws.proofs.Points.{FitsOwn, all_fit}

-- ---- the rows of the program
terms_end : (op : Op) (x : ℕ → ℚ) (s : ℚ) (f : List Entry) → EndsIn IsWide (terms_walk op x s f)
terms_end op x s [] = tt
terms_end op x s (e ∷ f) = then_ends IsWide _ _ (step_ends op s e.value (x e.column)) (λ t. terms_end op x t f)

module _ (bs : List ColumnBounds) (parts : List Part) (trial : List Entry) where
  right_ends : (op : Op) (s : ℚ) (f : List Entry) → EndsIn IsWide (right_walk op bs parts trial s f)
  right_ends op s f = then_ends IsWide _ _ (terms_end op (coefficient trial) s (other_form bs f))
      (λ t. terms_end op (shift_at parts) t (own_form bs f))

  push_ends : (f : List Entry) (made : List Limit) (kind : RowKind) (end : ℚ)
      → EndsIn IsWide (push_walk bs parts trial f made kind end)
  push_ends f made kind end = then_ends IsWide _ _ (then_ends IsWide _ _ (right_ends Sub end f) (λ right. tt)) (λ limit. tt)

  row_ends : (f : List Entry) (made : List Limit) (low high : Option ℚ) → EndsIn IsWide (ends_walk bs parts trial f made low high)
  row_ends f made None None = tt
  row_ends f made (Some low) None = push_ends f made Greater low
  row_ends f made None (Some high) = push_ends f made Less high
  row_ends f made (Some low) (Some high) = pick_ends IsWide (same low high) _ _ (push_ends f made Equal low)
      (then_ends IsWide _ _ (push_ends f made Greater low) (λ more. push_ends f more Less high))

  own_limits_end : (made : List Limit) (rows : List NodeRow) → EndsIn IsWide (own_limits_from bs parts trial made rows)
  own_limits_end made [] = tt
  own_limits_end made (r ∷ rs) = then_ends IsWide _ _ (row_ends r.entries made r.low r.high) (λ more. own_limits_end more rs)

  cuts_end : (made : List Limit) (cs : List PlacedCut) → EndsIn IsWide (cuts_from bs parts trial made cs)
  cuts_end made [] = tt
  cuts_end made (c ∷ cs) =
      then_ends IsWide _ _ (then_ends IsWide _ _ (right_ends Add c.cut.constant c.cut.form) (λ right. tt))
      (λ l. cuts_end (made ++ l ∷ []) cs)

bound_ends : (m : ℕ) (made : List Limit) (lower upper : Option ℚ) → EndsIn IsWide (bound_walk m made lower upper)
bound_ends m made None upper = tt
bound_ends m made (Some low) None = tt
bound_ends m made (Some low) (Some high) = then_ends IsWide _ _ (walk_ends Sub high low) (λ width. tt)

bounds_end : (m : ℕ) (made : List Limit) (bs : List ColumnBounds) → EndsIn IsWide (bound_limits_from m made bs)
bounds_end m made [] = tt
bounds_end m made (b ∷ bs) = then_ends IsWide _ _ (bound_ends m made b.lower b.upper)
    (λ more. bounds_end (behind (part_of m b.lower b.upper)) more bs)

rows_end : (p : Problem) → EndsIn IsWide (rows_walk p)
rows_end p =
    then_ends IsWide _ _ (own_limits_end p.bounds (node_parts p) p.trial [] p.rows) (λ own.
    then_ends IsWide _ _ (cuts_end p.bounds (node_parts p) p.trial own p.cuts) (λ made. bounds_end 0 made (all_bounds p)))

-- ---- the way back
number_ends : (q : Part) (z : ℕ → ℚ) → EndsIn IsWide (value_walk Point q z)
number_ends (Above l m) z = walk_ends Add l (z m)
number_ends (Below u m) z = walk_ends Sub u (z m)
number_ends (Free m n) z = walk_ends Sub (z m) (z n)

module _ (z : ℕ → ℚ) (ps : List Part) where
  point_ends : (made : List Entry) (k : ℕ) (bs : List ColumnBounds) → EndsIn IsWide (point_from z ps made k bs)
  point_ends made k [] = tt
  point_ends made k (b ∷ bs) =
      then_ends IsWide _ _ (number_ends (part_at ps k) z) (λ v. point_ends (made ++ put b.column v []) (suc k) bs)

  children_end : (s : ℚ) (k : ℕ) (shares : List Share) → EndsIn IsWide (children_from z ps s k shares)
  children_end s k [] = tt
  children_end s k (h ∷ hs) =
      then_ends IsWide _ _ (then_ends IsWide _ _ (number_ends (part_at ps k) z) (λ c. step_ends Add s h.share c))
      (λ t. children_end t (suc k) hs)

cost_ends : (p : Problem) (z : ℕ → ℚ) (x : List Entry) → EndsIn IsWide (cost_walk p z x)
cost_ends p z x = then_ends IsWide _ _ (terms_end Add (coefficient x) zero_ℚ p.cost)
    (λ s. pick_ends IsWide p.priced _ _ (children_end z (node_parts p) s (length p.bounds) p.shares) tt)

sum_ends : (s : ℚ) (vs : List ℚ) → EndsIn IsWide (sum_from s vs)
sum_ends s [] = tt
sum_ends s (v ∷ vs) = then_ends IsWide _ _ (walk_ends Add s v) (λ t. sum_ends t vs)

multipliers_end : (made : List Entry) (rows : List NodeRow) (duals : List ℚ) → EndsIn IsWide (multipliers_from made rows duals)
multipliers_end made [] duals = tt
multipliers_end made (r ∷ rs) duals = then_ends IsWide _ _ (sum_ends zero_ℚ (take (limit_count r.low r.high) duals))
    (λ y. multipliers_end (made ++ put r.row y []) rs (drop (limit_count r.low r.high) duals))

-- ---- the test of multipliers that exclude every point
column_ends : (s : ℚ) (rows : List (List Entry)) (y : List ℚ) (j : ℕ) → EndsIn IsWide (column_from s rows y j)
column_ends s [] y j = tt
column_ends s (f ∷ rows) [] j = tt
column_ends s (f ∷ rows) (v ∷ y) j = then_ends IsWide _ _ (step_ends Add s (coefficient f j) v) (λ t. column_ends t rows y j)

columns_end : (rows : List (List Entry)) (y : List ℚ) (j m : ℕ) (good : Bool) → EndsIn IsWide (columns_from rows y j m good)
columns_end rows y j zero good = tt
columns_end rows y j (suc m) good = then_ends IsWide _ _ (column_ends zero_ℚ rows y j) (λ s. columns_end rows y (suc j) m _)

worth_ends : (s : ℚ) (y right : List ℚ) → EndsIn IsWide (value_from s y right)
worth_ends s [] right = tt
worth_ends s (v ∷ y) [] = tt
worth_ends s (v ∷ y) (b ∷ right) = then_ends IsWide _ _ (step_ends Add s v b) (λ t. worth_ends t y right)

ray_ends : (p : lp.Program) (y : List ℚ) → EndsIn IsWide (ray_walk p y)
ray_ends p y = then_ends IsWide _ _ (columns_end p.rows y 0 p.columns true)
    (λ good. then_ends IsWide _ _ (worth_ends zero_ℚ y p.right) (λ v. tt))

-- ---- what is told
-- an operation that passes, or a point whose values fit and are of these columns
abbrev pub TellsWell : List ColumnBounds → Solved → Type 0
TellsWell bs (solved.Point x value cut) = Each (FitsOwn bs) x
TellsWell bs (solved.NoPoint cut) = Unit {0}
TellsWell bs solved.Loose = Unit {0}
TellsWell bs solved.PivotsEnded = Unit {0}
TellsWell bs (solved.Passed in_cut o) = IsWide o
TellsWell bs solved.NotGood = Unit {0}

with_cut_ends : (bs : List ColumnBounds) (tell : Stored → Solved) (w : Result (Option Stored) Operation)
    → ((cut : Stored) → TellsWell bs (tell cut)) → EndsIn IsWide w → TellsWell bs (with_cut tell w)
with_cut_ends bs tell (Ok (Some cut)) h k = h cut
with_cut_ends bs tell (Ok None) h k = tt
with_cut_ends bs tell (Err o) h k = k

-- ---- what is found: its value is one of which this holds, or it ends in an operation that passes
abbrev ComesTo : {F : Type 0} → (F → Type 0) → Walk F → Type 0
ComesTo P (Ok f) = P f
ComesTo P (Err o) = IsWide o

then_comes : {X F : Type 0} (P : F → Type 0) (w : Walk X) (next : X → Walk F) → EndsIn IsWide w
    → ((x : X) → w ≡ Ok x → ComesTo P (next x)) → ComesTo P (then_walk w next)
then_comes P (Ok x) next h k = k x refl
then_comes P (Err o) next h k = h

told_of_end : {F : Type 0} (P : F → Type 0) (tell : Operation → F) (w : Walk F) → ((o : Operation) → IsWide o → P (tell o))
    → ComesTo P w → P (or_passed tell w)
told_of_end P tell (Ok f) h k = k
told_of_end P tell (Err o) h k = h o k

module _ (d : Datum) (priced : Bool) (cuts : List Stored) (p : Problem) where
  point_told : (b : Bool) (x : List Entry) (v : ℚ) (m : Weighed) → Each (FitsOwn p.bounds) x
      → TellsWell p.bounds (pick b (with_cut (λ c. solved.Point x v (Some c)) (cut_made d Bound cuts m)) (solved.Point x v None))
  point_told true x v m h = with_cut_ends p.bounds (λ c. solved.Point x v (Some c)) (cut_made d Bound cuts m) (λ c. h)
      (made_ends d (record_of d Bound m) (stored_uses m.weights cuts))
  point_told false x v m h = h

  best_comes : (limits : List Limit) (x : ℕ → ℚ) (y : List ℚ)
      → ComesTo (λ f. TellsWell p.bounds (told d priced cuts f)) (best_walk p limits x y)
  best_comes limits x y =
      then_comes (λ f. TellsWell p.bounds (told d priced cuts f)) _ _ (multipliers_end [] p.rows (turned_back limits y)) (λ own _.
      then_comes (λ f. TellsWell p.bounds (told d priced cuts f)) _ _ (point_ends x (node_parts p) [] 0 p.bounds) (λ at e.
      then_comes (λ f. TellsWell p.bounds (told d priced cuts f)) _ _ (cost_ends p x at) (λ v _.
      point_told priced at v (record { rows = own; weights = weights_of p (turned_back limits y) })
      (all_fit x (node_parts p) p.bounds at e))))

  nowhere_comes : (limits : List Limit) (standard : lp.Program) (y : List ℚ)
      → ComesTo (λ f. TellsWell p.bounds (told d priced cuts f)) (nowhere_walk p limits standard y)
  nowhere_comes limits standard y =
      then_comes (λ f. TellsWell p.bounds (told d priced cuts f)) _ _ (multipliers_end [] p.rows (turned_back limits y)) (λ own _.
      then_comes (λ f. TellsWell p.bounds (told d priced cuts f)) _ _ (ray_ends standard y) (λ shown _.
      let m : Weighed = record { rows = own; weights = weights_of p (turned_back limits y) } in
      with_cut_ends p.bounds solved.NoPoint (cut_made d Ray cuts m) (λ c. tt)
      (made_ends d (record_of d Ray m) (stored_uses m.weights cuts))))

  end_comes : (limits : List Limit) (standard : lp.Program) (s : Solution) → SolutionWide s
      → ComesTo (λ f. TellsWell p.bounds (told d priced cuts f)) (end_walk p limits standard s)
  end_comes limits standard (Optimum x y) h = best_comes limits x y
  end_comes limits standard (Nowhere y) h = nowhere_comes limits standard y
  end_comes limits standard (Endless x d) h = tt
  end_comes limits standard Cut_off h = tt
  end_comes limits standard (Passes k o) h = h

  told_well : (pivots : ℕ) → TellsWell p.bounds (told d priced cuts (found_in p pivots))
  told_well pivots = told_of_end (λ f. TellsWell p.bounds (told d priced cuts f)) _ (solve_walk p pivots) (λ o h. h)
      (then_comes (λ f. TellsWell p.bounds (told d priced cuts f)) (rows_walk p) (path_walk p pivots) (rows_end p)
      (λ limits _. end_comes limits (standard_seen p limits) (solution (standard_seen p limits) pivots)
      (solution_ends (standard_seen p limits) pivots)))

-- what is tested tells well too
own_placed : (k : ℕ) (bs : List ColumnBounds) (j : ℕ) → is_own bs j ≡ true → place_from k bs j ≡ None → ⊥
own_placed k [] j h e = absurd (cc)
own_placed k (b ∷ bs) j h e = go (eqb b.column j) h e (own_placed (suc k) bs j)
  where
    go : (t : Bool) → (t || is_own bs j) ≡ true → pick t (Some k) (place_from (suc k) bs j) ≡ None
        → (is_own bs j ≡ true → place_from (suc k) bs j ≡ None → ⊥) → ⊥
    go true h e rest = absurd (cc)
    go false h e rest = rest h e

kept_well : (t : Task) (f : Found) → IsTestable f → IsSound (problem_of t) f → TellsWell t.datum.bounds (told_of t f)
kept_well t (found.Point x v m) k s =
    point_told t.datum (is_priced t.kind) (stored_cuts (is_priced t.kind) t.children.items) (problem_of t) (is_priced t.kind) x v m
    (each-both (λ (e : Entry) (own : is_own t.datum.bounds e.column ≡ true) (fits : IsNarrow e.value).
    record { own = own_placed 0 t.datum.bounds e.column own; fits = fits }) x s.places.0.own k.0)
kept_well t (found.NoPoint m) k s =
    with_cut_ends t.datum.bounds solved.NoPoint (cut_made t.datum Ray (stored_cuts (is_priced t.kind) t.children.items) m) (λ c. tt)
    (made_ends t.datum (record_of t.datum Ray m) (stored_uses m.weights (stored_cuts (is_priced t.kind) t.children.items)))
kept_well t found.Loose k s = absurd k
kept_well t found.PivotsEnded k s = absurd k
kept_well t (found.Passed o) k s = absurd k

pub tells_well : (t : Task) (all : Solved) → IsToldOf t all → TellsWell t.datum.bounds all
tells_well t all h = subst (TellsWell t.datum.bounds) (sym h.told) (go h.origin h.comes h.sound)
  where
    go : (f : Found) → HasOrigin (problem_of t) t.pivots f → IsSound (problem_of t) f → TellsWell t.datum.bounds (told_of t f)
    go f (by_test k) s = kept_well t f k s
    go f (by_path e) s = subst (λ (f : Found). TellsWell t.datum.bounds (told_of t f)) (sym e)
        (told_well t.datum (is_priced t.kind) (stored_cuts (is_priced t.kind) t.children.items) (problem_of t) t.pivots)
