-- Where nothing can be done.
use Rattle.std.proofs.Common.{◌≡◌, true, false, not, refl, sym, ◌∙◌}
use denote.Enum.Bare.{sameb}
use Rattle.scen_defs.specs.contracts.report.Kind.{the_type}
use Rattle.scen_defs.specs.declared.report.Kind.{Kind}
use Rattle.scen_defs.specs.declared.report.Kind.TheVariants.{Feasible, Recession, Cost}
use Rattle.scen_defs.specs.Program.{Program}
use Rattle.pass_table.specs.Machine.{Machine, IsLive}
use Rattle.pass_table.specs.Fits.{lists_of}
use Rattle.pass_table.proofs.Agree.{ready_is, ready_at}
use Rattle.pass_core.specs.declared.state.State.{State}
use Rattle.pass_core.specs.Tabled.{HasRoom, IsTabledBy}
use Rattle.pass_core.specs.Turns.{IsAtRest}
use Rattle.pass_core.proofs.Tabling.{room_of, room_in}

-- a kind of run that is told to be no other one is Cost
pub only_cost : (k : Kind) → false ≡ not (sameb the_type k Cost) → k ≡ Cost
only_cost Feasible e = absurd (let no : false ≡ true = e in cc)
only_cost Recession e = absurd (let no : false ≡ true = e in cc)
only_cost Cost e = refl

-- a state rests in each machine that its table fits, or in none
pub rests_too : (p : Program) (s : State) (m k : Machine) → IsTabledBy p s m → IsTabledBy p s k → IsAtRest s m → IsAtRest s k
rests_too p s m k t u r = record {
  idle = λ n may.
      let live : IsLive m n = t.machine.live n ∙ sym (u.machine.live n) ∙ may.live in
      r.idle n (ready_is (lists_of s.table) m t.valid t.fits.agrees n live (ready_at (lists_of s.table) k u.valid u.fits.agrees n may));
  last = λ closed. r.last (t.fits.closed.0 (u.fits.closed.1 closed));
}

-- and has room in each, or in none
pub room_too : (p : Program) (s : State) (m k : Machine) → IsTabledBy p s m → IsTabledBy p s k → HasRoom k → HasRoom m
room_too p s m k t u room = room_of m s.table t.fits (room_in k s.table u.fits room)
