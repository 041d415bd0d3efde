use Rattle.std.proofs.Common.{sym, subst}
use Rattle.pass_table.specs.declared.table.Table.{Table}
use Rattle.pass_table.specs.Fits.{Fits}
use Rattle.crew_table.proofs.crew.Crew.open.Goals as goal

pub returns-then-run-lt18446744073709551615-clause-fits : goal.returns-then-run-lt18446744073709551615-clause-fits
returns-then-run-lt18446744073709551615-clause-fits c = λ m number valid fits more.
    let P : Table → Type 0 = λ t. Fits t m in c.open.ensures.fits m number valid (subst P (sym c.self.view_is) fits)
