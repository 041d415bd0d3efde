use Rattle.std.proofs.Common.{◌≡◌, None, IfSome, drop}
use Rattle.scen_defs.specs.Lists.{Each}
use Rattle.scen_defs.specs.Program.{Program}
use Rattle.cut_defs.specs.Stored.{IsMadeFor}
use Rattle.cut_banks.specs.declared.banks.Banks.{Banks}
use Rattle.pass_core.specs.Made.{BankBooks, run_book, KeepsMade}
use Rattle.scen_tree.specs.Trees.{Tree}
use Rattle.pass_core.specs.Explained.{KeepsExplained}
use Rattle.pass_core.specs.Reasons.{IsOfOpening, GainsReasons}
use Rattle.pass_core.specs.Tabled.{KeepsTable}
use Rattle.pass_core.specs.Grounds.{put_cuts, OneIsNotPut, PutsCuts}
use Rattle.pass_core.specs.Left.{StopsAsStuck}
use Rattle.pass_core.proofs.state.State.put_all.Given as goal

abbrev pub invariant-loop-place : goal.invariant-loop-place
invariant-loop-place l = record {
  explained : (p : Program) (tree : Tree) → KeepsExplained p tree l.initial.self l.self;
  made : (b : BankBooks) → Each (λ place. IfSome place (IsMadeFor (run_book l.kind b))) l.cuts → KeepsMade b l.initial.self l.self;
  kept : KeepsTable l.initial.self l.self;
  others : l.self ≡ record l.initial.self { banks = l.self.banks; stop = l.self.stop };
  reasons : GainsReasons (IsOfOpening l.initial.self.budget.solves (OneIsNotPut l.kind l.cuts l.initial.self.banks) (λ o. ⊥))
      l.initial.self l.self;
  refused : OneIsNotPut l.kind (drop l.place-index l.cuts) l.self.banks → OneIsNotPut l.kind l.cuts l.initial.self.banks;
  puts : l.self.stop ≡ None → (new : Banks) → PutsCuts l.kind (drop l.place-index l.cuts) l.self.banks new
      → PutsCuts l.kind l.cuts l.initial.self.banks new;
  banks : put_cuts l.kind (drop l.place-index l.cuts) l.self.banks ≡ put_cuts l.kind l.cuts l.initial.self.banks;
  stuck : StopsAsStuck l.initial.self l.self;
}
