use Rattle.std.proofs.Common.{◌≡◌, true, false, arith}
use Rattle.crew_table.proofs.Holding.{has_place}
use Rattle.crew_table.proofs.crew.Crew.forget.Goals as goal

pub returns-else-can_commit-clause-fits : goal.returns-else-can_commit-clause-fits
returns-else-can_commit-clause-fits c = λ m f valid fits has live more.
    let place = has_place c.args.self.now m fits c.args.worker f has live in
    let no : false ≡ true = c.if-can_commit.ensures.1 (place.0, place.1, omega (arith, fits.agrees.commits, more)) in cc
