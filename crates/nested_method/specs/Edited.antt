-- The method behind an edit of its program: which pools are swept for what the edit touches.
use Rattle.std.specs.Prelude.{◌≡◌, ◌<◌, Bool, true, false, length, List, [], Option, None, Ok, Err}
use Rattle.rationals.specs.Passes.{Operation}
use Rattle.rationals.specs.Choices.{pick}
use Rattle.scen_defs.specs.declared.report.Kind.TheVariants.{Feasible}
use Rattle.scen_defs.specs.declared.report.Place.TheVariants.{Dual}
use Rattle.scen_defs.specs.Program.{Node, Program, view_of}
use Rattle.scen_tree.specs.Trees.{tree_walk}
use Rattle.frac128.specs.declared.fault.ArithmeticFault.{ArithmeticFault}
use Rattle.frac128.specs.declared.fault.ArithmeticFault.TheVariants.{Memory, Passed as PassedFault}
use Rattle.cut_defs.specs.declared.versions.Touch.{Touch}
use Rattle.cut_defs.specs.declared.versions.Due.{Due}
use Rattle.edit_defs.specs.declared.edit.Edit.{Edit}
use Rattle.edit_defs.specs.declared.edit.Edit.TheVariants.{Set, Prob, Drop, Add}
use Rattle.edit_defs.specs.After.{after}
use Rattle.edit_defs.specs.Touches.{touches}
use Rattle.edit_retire.specs.Dues.{dues, rows_version}
use Rattle.edit_retire.specs.Shifted.{shift_of}
use Rattle.node_data.specs.declared.versions.Version.{Version}
use Rattle.node_data.specs.Counts.{grown}
use Rattle.node_data.specs.Frames.{frame_of}
use Rattle.proved_report.specs.declared.open.Open.{Open}
use Rattle.proved_report.specs.declared.open.Open.TheVariants.{Passed}
use Rattle.cut_banks.specs.declared.banks.Banks.{Banks}
use Rattle.cut_banks.specs.Banks.{edited_banks}
use Rattle.pass_table.specs.Marks.{nothing}
use Rattle.pass_core.specs.declared.state.State.{State}
use Rattle.pass_core.specs.Counting.{after_edit}
use Rattle.pass_core.specs.Versions.{next_touches, next_versions}
use Rattle.pass_core.specs.Explained.{IsUnstopped}
use Rattle.pass_core.specs.Tabled.{IsTabled}
use Rattle.nested_method.specs.declared.method.Working.{Working}

-- whether nodes come or go with an edit
abbrev pub is_grown : Edit → Bool
is_grown (Set name entry v) = false
is_grown (Prob name q) = false
is_grown (Drop name) = true
is_grown (Add name parent q t) = true

-- ---- the sweeps
-- what an edit of a program touches: each place with its next version
abbrev pub touches_of : Program → Edit → List Version → List Touch
touches_of p e versions = next_touches (touches p e) versions

-- the sweeps that are due for these touches of an edit, with the shift that it is
abbrev pub dues_for : Program → Edit → List Touch → List Due
dues_for p e ts = dues (view_of p) ts (shift_of p e (rows_version ts))

-- the sweeps that are due for an edit, by the program before it
abbrev pub dues_of : Program → Edit → List Version → List Due
dues_of p e versions = dues_for p e (touches_of p e versions)

-- ---- what an edit leaves
-- the pools are swept for each due of the edit, and are otherwise as they were; those of nodes that came or went are empty
abbrev pub retired : Program → Edit → List Version → Banks → Banks
retired p e versions banks = edited_banks (is_grown e) (after p e).nodes (dues_of p e versions) banks

-- versions for the nodes of a program, where nodes came or went: no edit has touched the new ones
abbrev pub fit_versions : Bool → List (Option Node) → List Version → List Version
fit_versions grows nodes versions = pick grows (grown (length nodes) versions) versions

-- the versions of what the edit touches rise
abbrev pub raised_versions : Program → Edit → List Version → List Version
raised_versions p e versions = fit_versions (is_grown e) (after p e).nodes (next_versions (touches p e) versions)

-- Where the table of a state fits a machine of some program, and it is told where nodes came or went, the table behind an edit fits a
-- machine of the program behind it, which has no more nodes than a table has numbers for.
abbrev pub KeepsTabled : Program → Bool → State → State → Type 0
KeepsTabled p grows old new = (q : Program) → IsTabled q old → (grows ≡ false → frame_of p ≡ old.frame) → length p.nodes < nothing
    → IsTabled p new

-- So nothing stops the method then.
abbrev pub ClearsStop : Program → Bool → State → State → Type 0
ClearsStop p grows old new = (q : Program) → IsTabled q old → (grows ≡ false → frame_of p ≡ old.frame) → length p.nodes < nothing
    → new.stop ≡ None

-- The method at work behind an edit of the program on which it was at work. Its frame is made anew where nodes came or went, a Feasible
-- run begins, in which no node has a last solve, and the solves since the last report stay counted.
pub record IsEdited (p : Program) (e : Edit) (old new : Working) : Type 0 where
  pub tree : tree_walk (after p e) ≡ Ok new.tree
  pub frame : new.state.frame ≡ pick (is_grown e) (frame_of (after p e)) old.state.frame
  pub budget : new.state.budget ≡ old.state.budget
  pub reasons : IsUnstopped new.state
  pub stop : ClearsStop (after p e) (is_grown e) old.state new.state
  pub kind : new.state.kind ≡ Feasible
  pub is_begun : new.state.is_begun ≡ false
  pub points : new.state.lasts.nodes.items ≡ []
  pub counts : new.state.counts ≡ after_edit old.state.counts
  pub versions : new.state.versions ≡ raised_versions p e old.state.versions
  pub pools : new.state.banks ≡ retired p e old.state.versions old.state.banks

-- why a tree isn't made is told by the operation that passes
abbrev pub IsTreeless : ArithmeticFault → Open → Type 0
IsTreeless (PassedFault o) why = why ≡ Passed Dual o
IsTreeless Memory why = ⊥

-- the program has no tree, since an operation passes, and that is why
pub record HasNoTree (p : Program) (why : Open) : Type 0 where
  pub operation : Operation
  pub passes : tree_walk p ≡ Err operation
  pub why_is : why ≡ Passed Dual operation
