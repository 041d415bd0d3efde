use Rattle.std.proofs.Common.{◌≡◌, true, Ok, IfSome, length}
use Rattle.scen_defs.specs.Lists.{Each}
use Rattle.scen_defs.specs.Program.{content}
use Rattle.scen_tree.specs.Trees.{tree_walk}
use Rattle.cut_defs.specs.Stored.{IsMadeFor}
use Rattle.node_lp.specs.Problem.{is_priced}
use Rattle.node_data.specs.Frames.{frame_of}
use Rattle.pass_core.specs.Made.{BankBooks, run_book, AreBooksOf, HasGrounds}
use Rattle.pass_core.specs.Turns.{AreFirstFrom}
use Rattle.pass_core.proofs.state.State.ground_cuts.Given as goal

abbrev pub invariant-loop-node : goal.invariant-loop-node
invariant-loop-node l = record {
  long : length l.cuts.items ≡ l.nodes;
  made : (b : BankBooks) → is_priced l.kind ≡ true → tree_walk (content l.program) ≡ Ok l.tree
      → l.self.frame ≡ frame_of (content l.program) → AreBooksOf (content l.program) l.self.versions b
      → HasGrounds (content l.program) (run_book l.kind b) l.node l.cuts.items
      × Each (λ place. IfSome place (IsMadeFor (run_book l.kind b))) l.cuts.items;
  first : tree_walk (content l.program) ≡ Ok l.tree → l.self.frame ≡ frame_of (content l.program)
      → AreFirstFrom l.kind (content l.program) l.tree l.self.versions l.dual l.node l.cuts.items;
}
