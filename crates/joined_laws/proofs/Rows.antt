-- Cuts that are made of data of nodes are on rows of the program that has these data.
use Rattle.std.proofs.Common.{◌≡◌, ℕ, true, List, [], map, sym, ap, subst, ◌∙◌}
use Rattle.rationals.specs.Sparse.{Entry}
use Rattle.scen_defs.specs.declared.program.NodeRow.{NodeRow}
use Rattle.scen_defs.specs.declared.report.Kind.{Kind}
use Rattle.scen_defs.specs.Lists.{Each, is_in}
use Rattle.scen_defs.specs.Program.{Program}
use Rattle.cut_defs.specs.Data.{History, Book, IsBook, datum_of}
use Rattle.cut_defs.specs.Stored.{Source, Stored, StoredUses, OnRows, IsMadeFor, AreMadeFor}
use Rattle.cut_defs.specs.Stored.Stored.{Stored_of}
use Rattle.cut_defs.specs.Stored.StoredUses.{No_stored, Use_stored}
use Rattle.cut_defs.specs.Current.{IsStamp, IsCurrent, AreCurrent}
use Rattle.edit_defs.specs.Data.{view_in, book}
use Rattle.joined_laws.specs.Rows.{row_numbers_at, IsOnRows, AreOnRows}
use Rattle.joined_laws.specs.Fits.{MadeAreOnRows, CurrentAreOnRows}

-- ---- of one program
module _ (kind : Kind) (p : Program) where
  mutual
    made_on : (cut : Stored) → IsMadeFor (book kind p []) cut → IsOnRows (view_in kind p) cut
    made_on (Stored_of s uses constant form) m = (m.0.on_rows, all_made_on s.node uses m.1)

    all_made_on : (n : ℕ) (uses : StoredUses) → AreMadeFor (book kind p []) n uses → AreOnRows (view_in kind p) uses
    all_made_on n No_stored m = tt
    all_made_on n (Use_stored weight cut uses) m = (made_on cut m.1, all_made_on n uses m.2)

pub made_are_on_rows : MadeAreOnRows
made_are_on_rows kind p cut m = made_on kind p cut m

-- ---- of a history
module _ (h : History) (book : Book) (k : ℕ) (b : IsBook h book) where
  same_rows : (s : Source) → IsStamp h k s → book.rows s.node s.rows_version ≡ (h.after k).rows s.node
  same_rows s c = ap (λ (i : ℕ). book.rows s.node i) (sym c.rows) ∙ sym (b.nodes k s.node c.live).rows

  one_on : (s : Source) → IsStamp h k s → OnRows (datum_of book s.node s.rows_version s.costs_version) s
      → Each (λ (e : Entry). is_in e.column (row_numbers_at (h.after k) s.node) ≡ true) s.multipliers
  one_on s c m = subst
      (λ (rows : List NodeRow). Each (λ (e : Entry). is_in e.column (map (λ (r : NodeRow). r.row) rows) ≡ true) s.multipliers)
      (same_rows s c) m

  mutual
    current_on : (cut : Stored) → IsMadeFor book cut → IsCurrent h k cut → IsOnRows (h.after k) cut
    current_on (Stored_of s uses constant form) m c = (one_on s c.0 m.0.on_rows, all_current_on s.node uses m.1 c.1)

    all_current_on : (n : ℕ) (uses : StoredUses) → AreMadeFor book n uses → AreCurrent h k uses → AreOnRows (h.after k) uses
    all_current_on n No_stored m c = tt
    all_current_on n (Use_stored weight cut uses) m c = (current_on cut m.1 c.0, all_current_on n uses m.2 c.1)

pub current_are_on_rows : CurrentAreOnRows
current_are_on_rows h book k cut b m c = current_on h book k b cut m c
