use Rattle.std.proofs.Common.{refl, arith}
use Rattle.pass_core.specs.declared.state.State.{State}
use Rattle.pass_core.proofs.Moving.{drops_on}
use Rattle.pass_core.proofs.state.State.drop_solve.Goals as goal

pub returns-clause-drops : goal.returns-clause-drops
returns-clause-drops c = λ p m n few b.
    let s = c.args.self.now in
    let f = b.desk.fits in
    let new : State = record s { table = c.forget.new.self } in
    drops_on p s m c.args.worker n b new few refl
    (c.forget.ensures.fits f.flying b.flight f.valid f.fits b.flown.flight
    (f.valid.flown_live b.flight.node c.args.worker b.flight (record { flight = b.flown.flight; run = b.flown.run; node = refl }))
    (omega (arith, f.alike.commits, b.room)))
