use Rattle.std.proofs.Common.{◌≡◌, true, false, arith}
use Rattle.crew_table.proofs.Holding.{has_place}
use Rattle.crew_table.proofs.crew.Crew.commit.Goals as goal
use Rattle.crew_table.proofs.crew.Crew.commit.Goals.{else-can_commit-via-then-can_commit+else-can_take, else-can_commit-via-else-can_commit}

pub returns-else-can_commit-clause-fits : goal.returns-else-can_commit-clause-fits
returns-else-can_commit-clause-fits c = λ m f valid fits flown read within more. elim c.else-can_commit.branch [
  | else-can_commit-via-then-can_commit+else-can_take w ↦
      let no : false ≡ true = w.if-can_take.ensures.1 (within, λ i low. fits.agrees.places _ (read.child i low).live) in cc
  | else-can_commit-via-else-can_commit w ↦
      let place = has_place c.args.self.now m fits c.args.worker f flown.flight (valid.flown_live f.node c.args.worker f flown) in
      let no : false ≡ true = w.if-can_commit.ensures.1 (place.0, place.1, omega (arith, fits.agrees.commits, more)) in cc
]
