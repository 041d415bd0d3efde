-- What the walk of a flat dual means.
use Rattle.std.specs.Prelude.{◌≡◌, ℕ, List, [], Ok}
use Rattle.rationals.specs.Rational.{ℚ, one_ℚ, ◌≤ℚ◌}
use Rattle.rationals.specs.Sparse.{Entry, coefficient}
use Rattle.scen_defs.specs.Flat.{IsGood, IsRoot, value}
use Rattle.cut_defs.specs.Cuts.{priced}
use Rattle.cut_defs.specs.Data.{History, Book, IsBook}
use Rattle.cut_defs.specs.Stored.{Stored, source_of, constant_of, IsMadeFor}
use Rattle.cut_defs.specs.Current.{stored_flat, SupportIsPresent}
use Rattle.dual_assemble.specs.Walks.{form_at, flat_from}

-- where the walk comes to its end, its numbers are the flat dual of the cut
abbrev pub FlatLaw : Type 0
FlatLaw =
    (cut : Stored) (fs : List (List Entry)) (n i : ℕ) → flat_from [] one_ℚ cut ≡ Ok fs
    → coefficient (form_at fs n) i ≡ stored_flat cut n i

-- the numbers of forms by node
abbrev pub flat_of : List (List Entry) → ℕ → ℕ → ℚ
flat_of fs n i = coefficient (form_at fs n) i

-- of a root cut that is made for a book they are good, and worth at least its constant, after every number of edits at
-- which its support is present; for a Ray cut with all costs 0
abbrev pub AssemblyLaw : Type 0
AssemblyLaw = (h : History) (book : Book) (cut : Stored) (fs : List (List Entry)) → IsBook h book → IsMadeFor book cut
    → flat_from [] one_ℚ cut ≡ Ok fs → (k : ℕ) → SupportIsPresent h k cut → IsRoot (h.after k) (source_of cut).node
    → IsGood (priced (h.after k) (source_of cut).kind) (flat_of fs)
    × (constant_of cut ≤ℚ value (priced (h.after k) (source_of cut).kind) (flat_of fs))
