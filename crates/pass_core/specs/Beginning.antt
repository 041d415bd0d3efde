-- The state before anything is done on a program.
use Rattle.std.specs.Prelude.{◌≡◌, false, length, [], None, replicate}
use Rattle.scen_defs.specs.Program.{Program}
use Rattle.scen_defs.specs.declared.report.Kind.TheVariants.{Feasible}
use Rattle.cut_banks.specs.Banks.{empty_banks}
use Rattle.node_data.specs.Counts.{untouched}
use Rattle.node_data.specs.Frames.{frame_of}
use Rattle.found_ends.specs.Ends.{no_ends}
use Rattle.pass_core.specs.declared.budget.Budget.{Budget}
use Rattle.pass_core.specs.declared.state.State.{State}

-- nothing is known of the program yet: a Feasible run without cuts, points and ends, and no edit touched a node
pub record IsBeginning (p : Program) (budget : Budget) (s : State) : Type 0 where
  pub frame : s.frame ≡ frame_of p
  pub budget_is : s.budget ≡ budget
  pub kind : s.kind ≡ Feasible
  pub pools : s.banks ≡ empty_banks (length p.nodes)
  pub points : s.lasts.nodes.items ≡ []
  pub ends : s.ends ≡ no_ends
  pub versions : s.versions ≡ replicate (length p.nodes) untouched
  pub stop : s.stop ≡ None
  pub lasting : s.lasting ≡ None
  pub is_begun : s.is_begun ≡ false

-- the program is begun anew, with the solves as they were counted
pub record StartsOver (p : Program) (old new : State) : Type 0 where
  pub beginning : IsBeginning p old.budget new
  pub counts : new.counts ≡ old.counts
