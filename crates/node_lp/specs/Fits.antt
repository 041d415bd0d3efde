-- Whether a task's parts fit together, as a test.
use Rattle.std.specs.Prelude.{ℕ, suc, ◌^◌, Bool, true, false, ◌&&◌, ltb, eqb, length, List, [], ◌∷◌, Option, Some, None}
use Rattle.rationals.specs.Sparse.{Entry}
use Rattle.rationals.specs.Forms.{IsForm}
use Rattle.rationals.specs.Choices.{pick}
use Rattle.scen_defs.specs.Lists.{Each}
use Rattle.interval_form.specs.Own.{place_of}
use Rattle.interval_form.specs.Rows.{HasForm}
use Rattle.cut_defs.specs.declared.datum.ColumnBounds.{ColumnBounds}
use Rattle.cut_defs.specs.declared.datum.Share.{Share}
use Rattle.cut_defs.specs.Stored.{Stored, source_of, form_of}
use Rattle.cut_proof.specs.declared.child.ChildCuts.{ChildCuts}
use Rattle.node_lp.specs.declared.task.Task.{Task}
use Rattle.node_lp.specs.Problem.{child_at, is_taken}

-- what holds of each cut; and of the cuts about each child
pub record HasCutForm (c : Stored) : Type 0 where
  pub form : IsForm (form_of c)

abbrev pub HaveCutForms : ChildCuts → Type 0
HaveCutForms c = Each HasCutForm c.cuts.items

-- what holds of every task: its rows and its cuts have forms
pub record HasForms (t : Task) : Type 0 where
  pub rows : Each HasForm t.datum.rows
  pub cuts : Each HaveCutForms t.children.items

abbrev pub is_place : Option ℕ → Bool
is_place None = false
is_place (Some k) = true

-- no column is an own one
abbrev pub are_others : List ColumnBounds → List Entry → Bool
are_others bs [] = true
are_others bs (e ∷ f) = elim (is_place (place_of bs e.column)) [ true ↦ false | false ↦ are_others bs f ]

-- the node is the child that stands at a place, if one does
abbrev pub is_child_here : Option ℕ → ℕ → Bool
is_child_here None n = false
is_child_here (Some m) n = eqb m n

-- a cut that the program takes is about the child at place k
abbrev pub cut_fits : Bool → List Share → ℕ → Stored → Bool
cut_fits priced ss k c = pick (is_taken priced (source_of c).kind) (is_child_here (child_at ss k) (source_of c).node) true

-- each of these cuts is
abbrev pub cuts_fit : Bool → List Share → ℕ → List Stored → Bool
cuts_fit priced ss k [] = true
cuts_fit priced ss k (c ∷ cs) = elim (cut_fits priced ss k c) [ true ↦ cuts_fit priced ss k cs | false ↦ false ]

-- the cuts about each child are, the next of them at place k
abbrev pub children_fit : Bool → List Share → ℕ → List ChildCuts → Bool
children_fit priced ss k [] = true
children_fit priced ss k (c ∷ cs) = elim (cuts_fit priced ss k c.cuts.items) [ true ↦ children_fit priced ss (suc k) cs | false ↦ false ]

abbrev pub parts_fit : Bool → List ColumnBounds → List Share → List ChildCuts → List Entry → Bool
parts_fit priced bs ss cs trial =
    ltb (length bs) (2 ^ 32) && (ltb (length ss) (2 ^ 32) && (children_fit priced ss 0 cs && are_others bs trial))
