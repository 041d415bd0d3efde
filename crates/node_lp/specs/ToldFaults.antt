-- What is told where the making of a cut ends.
use Rattle.std.specs.Prelude.{◌≡◌, true}
use Rattle.cut_proof.specs.declared.fault.CutFault.{CutFault}
use Rattle.cut_proof.specs.declared.fault.CutFault.TheVariants as fault
use Rattle.node_lp.specs.declared.solved.Solved.{Solved}
use Rattle.node_lp.specs.declared.solved.Solved.TheVariants as solved

abbrev pub StoppedInCut : CutFault → Solved → Type 0
StoppedInCut fault.NotGood all = all ≡ solved.NotGood
StoppedInCut (fault.Passed o) all = all ≡ solved.Passed true o
StoppedInCut fault.Memory all = ⊥
