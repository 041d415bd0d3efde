-- Pivots one after another, as a path makes them, and the law that no basis stands twice among them.
use Rattle.std.specs.Prelude.{◌≡◌, ℕ, zero, suc, List, [], ◌∷◌, ◌++◌, Option, Some, None, Ok, Err, ◌↔◌}
use Rattle.lp_defs.specs.Walks.{Walk}
use Rattle.rationals.specs.Sparse.{Entry}
use Rattle.lp_defs.specs.Path.{Candidate}
use Rattle.lp_defs.specs.Path.{Row, Tableau, entering, leaving, pivoted}
use Rattle.lp_defs.specs.Linear.{AllRows, IsTied}
use Rattle.lp_defs.specs.Ends.{IsChosen}
use Rattle.lp_defs.specs.Basis.{IsBasic}

-- no row has this basic column
abbrev pub NotIn : ℕ → List Row → Type 0
NotIn c rows = AllRows (λ r. r.basic ≡ c → ⊥) rows

pub record Stage : Type 0 where
  pub from : Tableau
  pub enters : ℕ
  pub leaves : Candidate
  pub to : Tableau

-- a pivot by Bland's rule
pub record IsStep (n : ℕ) (g : Stage) : Type 0 where
  pub enter : entering n g.from.objective ≡ Some g.enters
  pub leave : IsChosen g.enters g.from.rows g.leaves
  pub pivot : pivoted g.enters g.leaves.index g.from ≡ Ok g.to

-- the pivots lead from t to u
abbrev pub Leads : ℕ → Tableau → List Stage → Tableau → Type 0
Leads n t [] u = t ≡ u
Leads n t (g ∷ gs) u = (g.from ≡ t) × IsStep n g × Leads n g.to gs u

-- the pivots of a path
abbrev pub add_stage : Tableau → ℕ → Candidate → Walk Tableau → (Tableau → List Stage) → List Stage
add_stage t j c (Ok next) go = record { from = t; enters = j; leaves = c; to = next } ∷ go next
add_stage t j c (Err p) go = []

abbrev pub stage_found : Walk (Option Candidate) → (Candidate → List Stage) → List Stage
stage_found (Ok (Some c)) go = go c
stage_found (Ok None) go = []
stage_found (Err p) go = []

abbrev pub stage_enters : Option ℕ → (ℕ → List Stage) → List Stage
stage_enters None go = []
stage_enters (Some j) go = go j

abbrev pub stages : ℕ → ℕ → Tableau → List Stage
stages n zero t = []
stages n (suc left) t =
    stage_enters (entering n t.objective) (λ j.
    stage_found (leaving j t.rows 0 None) (λ c. add_stage t j c (pivoted j c.index t) (λ next. stages n left next)))

-- of a path's pivots, any that stand one after another begin and end at different basic columns
abbrev pub NoBasisTwiceOnPath : Type 0
NoBasisTwiceOnPath = (cost : List Entry) (rows : List Row) (n left : ℕ) (t : Tableau) (front back gs : List Stage) (g last : Stage)
    → IsTied cost rows t → IsBasic t
    → stages n left t ≡ front ++ (g ∷ gs ++ last ∷ []) ++ back
    → ((c : ℕ) → NotIn c g.from.rows ↔ NotIn c last.to.rows) → ⊥

-- from a tableau in order of a program, one pivot or more never lead to the same basic columns again
abbrev pub NoBasisTwice : Type 0
NoBasisTwice = (cost : List Entry) (rows : List Row) (n : ℕ) (t u : Tableau) (g : Stage) (gs : List Stage) → IsTied cost rows t
    → IsBasic t → Leads n t (g ∷ gs) u
    → ((c : ℕ) → NotIn c t.rows → NotIn c u.rows) → ((c : ℕ) → NotIn c u.rows → NotIn c t.rows) → ⊥
