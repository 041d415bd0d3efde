use Rattle.std.proofs.Common.{MatchOption, subst}
use Rattle.pass_table.specs.Marks.{HasNone}
use Rattle.pass_table.specs.Rounds.{Round, IsFirst}
use Rattle.pass_table.proofs.RoundLemmas.{first_coming, first_of_waiting}
use Rattle.pass_table.proofs.rounds.Rounds.first.Goals as goal

pub returns-in-Some : goal.returns-in-Some
returns-in-Some c =
    let P : Round → Type 0 = λ r. IsFirst r c.in-Some.number in
    subst P c.self.view_is (first_coming c.self.inside.coming c.self.inside.waiting _ _ c.in-Some.number c.self.invariant c.in-Some.ensures)

pub returns-in-None : goal.returns-in-None
returns-in-None c =
    let P : Round → Type 0 = λ r. MatchOption c.least-in-None.result (HasNone r.flags) (IsFirst r) in
    subst P c.self.view_is
    (first_of_waiting c.self.inside.coming c.self.inside.waiting _ _ c.least-in-None.result c.self.invariant c.in-None.ensures c.least-in-None.ensures)
