-- What a run keeps where several workers solve nodes side by side.
use Rattle.std.proofs.Common.{◌≡◌, ℕ, ◌<◌, ◌≤◌, max, Bool, true, false, List, length, refl, arith}
use Rattle.scen_defs.specs.Program.{Program}
use Rattle.edit_defs.specs.declared.edit.Edit.{Edit}
use Rattle.node_data.specs.Frames.{frame_of}
use Rattle.pass_table.specs.Machine.{Machine}
use Rattle.pass_table.specs.Marks.{nothing}
use Rattle.pass_core.specs.declared.budget.Budget.{Budget}
use Rattle.pass_core.specs.declared.state.State.{State}
use Rattle.pass_core.specs.Tabled.{IsTabledBy, GoesBySteps}
use Rattle.nested_method.specs.declared.method.Working.{Working}
use Rattle.nested_method.specs.Stands.{WorksOn, SolvesOnce}
use Rattle.nested_method.specs.Scripted.{IsInHistory}
use Rattle.nested_method.specs.Batches.{steps_left, LeavesFewer}

-- from the beginning of a run on
abbrev pub RunKeeps : Program → ℕ → Working → Working → Type 0
RunKeeps p work first w = ((budget : Budget) → WorksOn p budget first → WorksOn p budget w)
    × ((m : Machine) → first.state.frame ≡ frame_of p → IsTabledBy p first.state m → GoesBySteps p m w.state × (w.state.frame ≡ frame_of p))
    × ((budget : Budget) → length p.nodes < nothing → WorksOn p budget first → SolvesOnce p first.state w.state)
    × ((budget : Budget) (begins : Program) (edits rest : List Edit) (came : ℕ) → WorksOn p budget first
    → IsInHistory begins edits came p rest first.state → IsInHistory begins edits came p rest w.state)
    × (w.state.counts.since_item ≤ max work first.state.counts.since_item)

pub beside_keeps : (p : Program) (work : ℕ) (first old new : Working) → ((budget : Budget) → WorksOn p budget old → WorksOn p budget new)
    → ((m : Machine) → old.state.frame ≡ frame_of p → GoesBySteps p m old.state → GoesBySteps p m new.state × (new.state.frame ≡ frame_of p))
    → ((budget : Budget) (before : State) → WorksOn p budget old → SolvesOnce p before old.state → SolvesOnce p before new.state)
    → ((budget : Budget) (begins : Program) (edits rest : List Edit) (came : ℕ) → WorksOn p budget old
    → IsInHistory begins edits came p rest old.state → IsInHistory begins edits came p rest new.state)
    → (new.state.counts.since_item ≤ max work old.state.counts.since_item) → RunKeeps p work first old → RunKeeps p work first new
beside_keeps p work first old new stays steps solves made no_more inv = (
  (λ budget w. stays budget (inv.0 budget w)),
  (λ m f h. let before = inv.1 m f h in steps m before.1 before.0),
  (λ budget few w. solves budget first.state (inv.0 budget w) (inv.2 budget few w)),
  (λ budget begins edits rest came w h. made budget begins edits rest came (inv.0 budget w) (inv.3 budget begins edits rest came w h)),
  omega (arith, inv.4, no_more),
)

pub less_then : (a b c : ℕ) → a < b → b ≤ c → a < c
less_then a b c h k = omega (arith, h, k)

pub fewer_by : (old new : State) → steps_left new < steps_left old → LeavesFewer true old new
fewer_by old new less = record { at_most = less_most (steps_left new) (steps_left old) less; fewer = λ e. less }
  where
    less_most : (a b : ℕ) → a < b → a ≤ b
    less_most a b h = omega (arith, h)

pub fewer_then : (did : Bool) (first old new : State) → LeavesFewer did first old → LeavesFewer true old new → LeavesFewer true first new
fewer_then did first old new h k = record {
  at_most = at_most_then (steps_left new) (steps_left old) (steps_left first) k.at_most h.at_most;
  fewer = λ e. less_then (steps_left new) (steps_left old) (steps_left first) (k.fewer refl) h.at_most;
}
  where
    at_most_then : (a b c : ℕ) → a ≤ b → b ≤ c → a ≤ c
    at_most_then a b c h k = omega (arith, h, k)

pub as_few : (did : Bool) (first old new : State) → LeavesFewer did first old → LeavesFewer false old new → LeavesFewer did first new
as_few did first old new h k = record {
  at_most = at_most_then (steps_left new) (steps_left old) (steps_left first) k.at_most h.at_most;
  fewer = λ e. most_less (steps_left new) (steps_left old) (steps_left first) k.at_most (h.fewer e);
}
  where
    at_most_then : (a b c : ℕ) → a ≤ b → b ≤ c → a ≤ c
    at_most_then a b c h k = omega (arith, h, k)

    most_less : (a b c : ℕ) → a ≤ b → b < c → a < c
    most_less a b c h k = omega (arith, h, k)
