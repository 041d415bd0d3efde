-- Which lists fit the program.
use Rattle.std.specs.Prelude.{◌≡◌, ℕ, true, false, List, [], Option, None, Ok}
use Rattle.rationals.specs.Rational.{one_ℚ}
use Rattle.rationals.specs.Sparse.{Entry}
use Rattle.rationals.specs.Forms.{IsForm}
use Rattle.scen_defs.specs.declared.report.Kind.{Kind}
use Rattle.scen_defs.specs.Lists.{Each, passes_at}
use Rattle.scen_defs.specs.Values.{at}
use Rattle.scen_defs.specs.Program.{Program, is_live}
use Rattle.scen_defs.specs.Valid.{IsProgram}
use Rattle.scen_model.specs.Derived.{all_fit}
use Rattle.cut_defs.specs.Data.{History, Book, IsBook}
use Rattle.cut_defs.specs.Stored.{Stored, IsMadeFor}
use Rattle.cut_defs.specs.Current.{IsCurrent}
use Rattle.edit_defs.specs.Data.{view_in, book}
use Rattle.dual_assemble.specs.Walks.{flat_from}
use Rattle.dual_assemble.specs.Values.{numbers_by_node}
use Rattle.dual_assemble.specs.Laws.{flat_of}
use Rattle.found_ends.specs.declared.last.Last.{Last}
use Rattle.found_ends.specs.Lasts.{last_at, joined_points}
use Rattle.joined_laws.specs.Points.{AllMeet}
use Rattle.joined_laws.specs.Rows.{IsOnRows, HasForms}

-- the points of all nodes together fit, where no node that isn't live has one
abbrev pub PoliciesFit : Type 0
PoliciesFit = (kind : Kind) (p : Program) (lasts : List (Option Last)) → IsProgram p → AllMeet kind p lasts
    → ((n : ℕ) → passes_at is_live n p.nodes ≡ false → last_at lasts n ≡ None) → all_fit p false (joined_points lasts) ≡ true

-- a cut that is made of the data of a program is of its rows
abbrev pub MadeAreOnRows : Type 0
MadeAreOnRows = (kind : Kind) (p : Program) (cut : Stored) → IsMadeFor (book kind p []) cut → IsOnRows (view_in kind p) cut

-- a cut that is made of the data of a history is of the rows of each program whose data its records have
abbrev pub CurrentAreOnRows : Type 0
CurrentAreOnRows = (h : History) (book : Book) (k : ℕ) (cut : Stored) → IsBook h book → IsMadeFor book cut → IsCurrent h k cut
    → IsOnRows (h.after k) cut

-- where the multipliers of a cut's records are forms, those by node are
abbrev pub FormsAssemble : Type 0
FormsAssemble = (cut : Stored) (fs : List (List Entry)) → HasForms cut → flat_from [] one_ℚ cut ≡ Ok fs → Each IsForm fs

-- the multipliers by node of a cut on the rows of a program fit, and as a list they are what they are as forms
abbrev pub MultipliersFit : Type 0
MultipliersFit = (kind : Kind) (p : Program) (cut : Stored) (fs : List (List Entry)) → IsProgram p → IsOnRows (view_in kind p) cut
    → flat_from [] one_ℚ cut ≡ Ok fs → Each IsForm fs
    → (all_fit p true (numbers_by_node 0 fs) ≡ true) × ((n i : ℕ) → at (numbers_by_node 0 fs) n i ≡ flat_of fs n i)
