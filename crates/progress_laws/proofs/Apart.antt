-- A solve that was begun stays as it was, where a node apart from its own is solved.
use Rattle.pass_table.specs.Fits.{Fits}
use Rattle.crew_turns.specs.Besides.{FitsBesides}
use Rattle.pass_core.specs.Tabled.{EndsBegun}
use Rattle.pass_core.specs.Desks.{EndsOn}
use Rattle.pass_core.proofs.Apart.{stay_begun}
use Rattle.progress_laws.specs.Apart.{SolvesApartStay}

pub stays_begun : SolvesApartStay
stays_begun = record {
  turn = λ p tree old new m n k i walk frame table lives solve.
      stay_begun Fits (λ Way. EndsBegun Way p m n new) p tree old new m n k i walk frame table lives solve;
  end = λ p tree old new m flying w n k i walk frame table lives solve.
      stay_begun FitsBesides (λ Way. EndsOn Way p old m flying w n new) p tree old new m n k i walk frame table lives solve;
}
