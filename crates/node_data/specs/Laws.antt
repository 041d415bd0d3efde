-- The data of nodes in runs are those of the books of programs.
use Rattle.std.specs.Prelude.{◌≡◌, ℕ, Ok}
use Rattle.rationals.specs.Forms.{IsForm}
use Rattle.scen_defs.specs.declared.report.Kind.{Kind}
use Rattle.scen_defs.specs.Program.{Program, node_at}
use Rattle.scen_defs.specs.Valid.{Lives, IsProgram}
use Rattle.scen_tree.specs.Trees.{Tree, tree_walk}
use Rattle.cut_defs.specs.Data.{Book, datum_of, IsRight, IsDatum}
use Rattle.edit_defs.specs.Data.{view_in}
use Rattle.node_data.specs.Frames.{frame_of}
use Rattle.node_data.specs.NodeData.{node_datum}

-- a live node of a program, the program's tree, and a book that is right of the node with these versions
pub record IsIn (kind : Kind) (p : Program) (tree : Tree) (n rows_version costs_version : ℕ) (book : Book) : Type 0 where
  pub program : IsProgram p
  pub walk : tree_walk p ≡ Ok tree
  pub lives : Lives p n
  pub right : IsRight (view_in kind p) book n rows_version costs_version

-- by the program's frame and tree the node has the book's datum, and that is a datum
abbrev pub DataAreTheBooks : Type 0
DataAreTheBooks = (kind : Kind) (p : Program) (tree : Tree) (n rows_version costs_version : ℕ) (book : Book)
    → IsIn kind p tree n rows_version costs_version book → IsForm (node_at p.nodes n).cost
    → (node_datum kind p (frame_of p) tree n rows_version costs_version ≡ datum_of book n rows_version costs_version)
    × IsDatum (datum_of book n rows_version costs_version)
