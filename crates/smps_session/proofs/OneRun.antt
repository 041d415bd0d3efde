-- What the method does between two items is one run of the machine of the cut pools, and so one run of turns.
use Rattle.std.proofs.Common.{◌≡◌, ℕ, Bool, Some, List, [], ◌∷◌, refl, sym, ap, subst, ◌∙◌}
use Rattle.pass_table.specs.Machine.{Flight, Machine, IsChild, IsFlown, IsNext, IsValid, begun, read_by, read, dropped, committed}
use Rattle.pass_table.proofs.Stale.{same_at}
use Rattle.pass_table.proofs.Valid.{valid_begun, valid_read, valid_committed, valid_dropped, valid_raised, valid_opened}
use Rattle.crew_turns.specs.Turn.{IsIdle, AreChildren, first_flight, read_by_each, read_each, EndsTurn, drops as drops_turn, commits as commits_turn}
use Rattle.crew_turns.specs.Turn.{adds as adds_turn, TakesTurn}
use Rattle.crew_turns.specs.Crew.{CrewRuns, nothing, begins, commits, adds, drops, drops_adding, comes_late, adds_late, opens}
use Rattle.crew_turns.specs.Reads.{read_all}
use Rattle.crew_turns.proofs.Turning.{AreReads, node_read, turn_reads, turn_flown, turn_keeps}
use Rattle.crew_turns.proofs.Reading.{reads_alone}
use Rattle.crew_turns.proofs.Crewing.{crews_turn}
use Rattle.scen_defs.specs.Program.{Program}
use Rattle.pass_core.specs.declared.state.State.{State}
use Rattle.pass_core.specs.Tabled.{IsTabledBy, GoesBySteps, TakesStep, rests, waits, opens as opens_step, turns, TakesSteps, stays, goes, works}
use Rattle.nested_method.specs.declared.method.Method.{Method}
use Rattle.nested_method.specs.declared.method.Method.TheVariants.{Working as AtWork, Idle}
use Rattle.nested_method.specs.Stands.{WorksBySteps}
use Rattle.smps_session.specs.Comes.{IsOneRun, WorksInOneRun}

-- a run goes on where another one ended
runs_on : (a b c : Machine) → CrewRuns a b → CrewRuns b c → CrewRuns a c
runs_on a b c before nothing = before
runs_on a b c before (begins m v n cs runs free next children) = begins m v n cs (runs_on a b m before runs) free next children
runs_on a b c before (commits m v f cs point runs mine children) = commits m v f cs point (runs_on a b m before runs) mine children
runs_on a b c before (adds m v f cs point runs mine children low) = adds m v f cs point (runs_on a b m before runs) mine children low
runs_on a b c before (drops m v f runs mine) = drops m v f (runs_on a b m before runs) mine
runs_on a b c before (drops_adding m v f runs mine low) = drops_adding m v f (runs_on a b m before runs) mine low
runs_on a b c before (comes_late m v f runs has late) = comes_late m v f (runs_on a b m before runs) has late
runs_on a b c before (adds_late m v f runs has late low live free) = adds_late m v f (runs_on a b m before runs) has late low live free
runs_on a b c before (opens m number runs closed) = opens m number (runs_on a b m before runs) closed

-- the children of a node stay behind the Reads of a turn
children_read : (m : Machine) (n : ℕ) (cs : List ℕ) (k : Machine) → AreReads (begun m 0 n) (first_flight m n) cs k → AreChildren m n cs
    → AreChildren k (read_by_each m.number (first_flight m n) cs).node cs
children_read m n cs k reads children c = (λ h. (children c).0 (before h), λ h. after ((children c).1 h))
  where
    before : IsChild k (read_by_each m.number (first_flight m n) cs).node c → IsChild m n c
    before h = record {
      live = ap (λ (l : ℕ → Bool). l c) (sym reads.live) ∙ h.live;
      lower = h.lower;
      parent = ap (λ (p : ℕ → ℕ). p c) (sym reads.parent) ∙ h.parent ∙ node_read m.number (first_flight m n) cs;
    }

    after : IsChild m n c → IsChild k (read_by_each m.number (first_flight m n) cs).node c
    after h = record {
      live = ap (λ (l : ℕ → Bool). l c) reads.live ∙ h.live;
      lower = h.lower;
      parent = ap (λ (p : ℕ → ℕ). p c) reads.parent ∙ h.parent ∙ sym (node_read m.number (first_flight m n) cs);
    }

-- a turn at the node that is next is a Begin of one worker, and the end of its solve
turn_runs : (m k : Machine) → IsValid m → IsIdle m → (turn : TakesTurn m k) → IsNext m turn.node → CrewRuns m k
turn_runs m k valid idle turn next = by turn.added k turn.ends
  where
    n : ℕ
    n = turn.node

    reading : Machine
    reading = read_each (begun m 0 n) (first_flight m n) turn.children

    flight : Flight
    flight = read_by_each m.number (first_flight m n) turn.children

    reads : AreReads (begun m 0 n) (first_flight m n) turn.children reading
    reads = turn_reads m n turn.children valid idle turn.may

    runs : CrewRuns m reading
    runs = subst (λ (x : Machine). CrewRuns m x) (reads_alone (begun m 0 n) (first_flight m n) turn.children)
        (begins m 0 n turn.children nothing (idle 0) next turn.are_children)

    mine : IsFlown reading flight.node 0 flight
    mine = turn_flown m n turn.children reading reads

    children : AreChildren reading flight.node turn.children
    children = children_read m n turn.children reading reads turn.are_children

    by : (added : Bool) (j : Machine) → EndsTurn 0 reading flight added j → CrewRuns m j
    by added j drops_turn = drops reading 0 flight runs mine
    by added j (commits_turn point) = commits reading 0 flight turn.children point runs mine children
    by added j (adds_turn point low) = adds reading 0 flight turn.children point runs mine children low

-- what steps come to
record Comes (m k : Machine) : Type 0 where
  runs : CrewRuns m k
  valid : IsValid k
  idle : IsIdle k

step_comes : (m j k : Machine) (told : Bool) → Comes m j → TakesStep j told k → Comes m k
step_comes m j k told c (rests none) = c
step_comes m j k told c (waits closed) = c
step_comes m j k told c (opens_step closed number) = record {
  runs = opens j number c.runs closed;
  valid = valid_opened j number c.valid;
  idle = c.idle;
}
step_comes m j k' told c (turns k turn next) =
    let kept = turn_keeps j k c.valid c.idle turn in record {
      runs = runs_on m j k c.runs (turn_runs j k c.valid c.idle turn next);
      valid = kept.0;
      idle = kept.1;
    }

-- Reads keep a machine valid
reads_valid : (m : Machine) (v : ℕ) (f : Flight) (cs : List ℕ) → m.flight v ≡ Some f → IsValid m → IsValid (read_all m v f cs)
reads_valid m v f [] has valid = valid
reads_valid m v f (c ∷ cs) has valid =
    reads_valid (read m v f c) v (read_by f c (m.number c)) cs (same_at m.flight v _ v refl) (valid_read m v f c valid has)

-- so does all that workers do
runs_valid : (m k : Machine) → IsValid m → CrewRuns m k → IsValid k
runs_valid m k valid nothing = valid
runs_valid m k valid (begins j v n cs runs free next children) =
    reads_valid (begun j v n) v (first_flight j n) cs (same_at j.flight v _ v refl) (valid_begun j v n (runs_valid m j valid runs) free next.may)
runs_valid m k valid (commits j v f cs point runs mine children) = valid_committed j v f point (runs_valid m j valid runs) mine
runs_valid m k valid (adds j v f cs point runs mine children low) =
    valid_raised (committed j v f point) f.node (valid_committed j v f point (runs_valid m j valid runs) mine)
runs_valid m k valid (drops j v f runs mine) = valid_dropped j v (runs_valid m j valid runs)
runs_valid m k valid (drops_adding j v f runs mine low) = valid_raised (dropped j v) f.node (valid_dropped j v (runs_valid m j valid runs))
runs_valid m k valid (comes_late j v f runs has late) = valid_dropped j v (runs_valid m j valid runs)
runs_valid m k valid (adds_late j v f runs has late low live free) =
    valid_raised (dropped j v) f.node (valid_dropped j v (runs_valid m j valid runs))
runs_valid m k valid (opens j number runs closed) = valid_opened j number (runs_valid m j valid runs)

-- all that was done is one run of several workers
steps_come : (m k : Machine) → IsValid m → IsIdle m → TakesSteps m k → Comes m k
steps_come m k valid idle stays = record { runs = nothing; valid = valid; idle = idle }
steps_come m k' valid idle (goes told j k steps step) = step_comes m j k told (steps_come m j valid idle steps) step
steps_come m k' valid idle (works j k steps runs rest) =
    let c = steps_come m j valid idle steps in
    record { runs = runs_on m j k c.runs runs; valid = runs_valid j k c.valid runs; idle = rest }

-- and so one run of turns
pub one_run : (p : Program) (old new : State) → ((m : Machine) → IsTabledBy p old m → GoesBySteps p m new) → IsOneRun p old new
one_run p old new steps = record {
  steps = steps;
  turns = λ m tabled.
      let to = steps m tabled in
      crews_turn m to.machine tabled.valid tabled.idle (steps_come m to.machine tabled.valid tabled.idle to.steps).runs;
}

-- what a method does before an edit
pub works_in_one_run : (p : Program) (old new : Method) → WorksBySteps p old new → WorksInOneRun p old new
works_in_one_run p (AtWork old) (AtWork new) steps =
    λ program frame. one_run p old.state new.state (λ m tabled. steps m program frame tabled)
works_in_one_run p (AtWork old) (Idle why own) steps = steps
works_in_one_run p (Idle why own) new steps = steps
