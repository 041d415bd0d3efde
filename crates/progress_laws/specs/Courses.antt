-- The course of the method on a program: from where its nodes are solved, and through reports that are told.
use Rattle.std.specs.Prelude.{◌≡◌, ℕ, ◌+◌, ◌^◌, ◌<◌, false, [], Some, None, Ok}
use Rattle.scen_defs.specs.Program.{Program}
use Rattle.scen_defs.specs.Valid.{IsProgram}
use Rattle.scen_defs.specs.declared.report.Kind.TheVariants.{Feasible}
use Rattle.scen_tree.specs.Trees.{Tree, tree_walk}
use Rattle.proved_report.specs.declared.open.Open.TheVariants.{Solves}
use Rattle.node_data.specs.Frames.{frame_of}
use Rattle.found_ends.specs.Ends.{no_ends}
use Rattle.pass_core.specs.Counting.{after_report}
use Rattle.pass_core.specs.declared.state.State.{State}
use Rattle.nested_method.specs.Stands.{HasFewNodes, SolvesNodes}
use Rattle.kept_cut_laws.specs.Laws.{CutsAreNow}

-- A Feasible run begins, in which nothing was done. Nothing is known but cuts, which are made of the data of the program and up to date;
-- and each pool changed at most so often, beside once for each solve.
pub record IsOpening (p : Program) (most : ℕ) (s : State) : Type 0 where
  pub frame : s.frame ≡ frame_of p
  pub kind : s.kind ≡ Feasible
  pub points : s.lasts.nodes.items ≡ []
  pub ends : s.ends ≡ no_ends
  pub stop : s.stop ≡ None
  pub lasting : s.lasting ≡ None
  pub is_begun : s.is_begun ≡ false
  pub cuts : CutsAreNow p s.versions (most + s.counts.all) s.banks

-- behind a report solves are counted from 0 again, and what stopped the method stays only where a later step of the run would do it again
abbrev pub behind_report : State → State
behind_report s = record s { stop = s.lasting; counts = after_report s.counts }

-- from one state to another nodes are solved, and reports are told between, none of them where the method was stuck
pub data GoesFrom (p : Program) (first : State) : State → Type 0 where
  here : GoesFrom p first first
  by_solves : (mid new : State) → GoesFrom p first mid → SolvesNodes p mid new → GoesFrom p first new
  by_report : (mid : State) → GoesFrom p first mid → ((n : ℕ) → mid.stop ≡ Some (Solves n) → ⊥) → GoesFrom p first (behind_report mid)

-- a program with its tree comes to this state from such an opening
pub record IsRunTo (p : Program) (s : State) : Type 0 where
  pub program : IsProgram p
  pub few : HasFewNodes p
  pub tree : Tree
  pub walk : tree_walk p ≡ Ok tree
  pub most : ℕ
  pub first : State
  pub opens : IsOpening p most first
  pub goes : GoesFrom p first s

-- there are numbers for all solves and for all changes of pools
abbrev pub NumbersSuffice : (p : Program) (s : State) → IsRunTo p s → Type 0
NumbersSuffice p s r = r.most + s.counts.all < 2 ^ 63
