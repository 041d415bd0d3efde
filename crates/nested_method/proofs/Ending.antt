-- Where the method can't go on, and how many steps it takes at most before that.
use Rattle.std.proofs.Common.{◌≡◌, ◌⊎◌, inl, inr, ℕ, ◌+◌, ◌-◌, ◌*◌, ◌^◌, ◌<◌, ◌≤◌, max, leb, ◌||◌, Bool, true, false}
use Rattle.std.proofs.Common.{Option, Some, None, is_some, IsSome, refl, sym, ap, subst, ◌∙◌, arith}
use Rattle.std.proofs.lemmas.Bool.{leb-true}
use Rattle.scen_defs.specs.Program.{Program}
use Rattle.scen_defs.specs.declared.report.Kind.{Kind}
use Rattle.scen_defs.specs.declared.report.Kind.TheVariants.{Feasible, Recession, Cost}
use Rattle.proved_report.specs.declared.open.Open.{Open}
use Rattle.found_ends.specs.declared.settled.Settled.{Settled}
use Rattle.pass_table.specs.Machine.{Machine}
use Rattle.pass_core.specs.declared.budget.Budget.{Budget}
use Rattle.pass_core.specs.declared.state.Counts.{Counts}
use Rattle.pass_core.specs.declared.state.State.{State}
use Rattle.pass_core.specs.Counting.{one_solve_more, with_commit}
use Rattle.pass_core.specs.Left.{next_kind}
use Rattle.pass_core.specs.Tabled.{HasRoom, IsTabled, IsTabledBy}
use Rattle.pass_core.specs.Turns.{IsAtRest, MakesStep, begins_none, opens_run, solves, OpensOrStops, Progresses, Rests}
use Rattle.pass_core.proofs.Resting.{rests_too, room_too}
use Rattle.nested_method.specs.Stands.{settled_in, IsAtEnd}
use Rattle.nested_method.specs.Batches.{runs_behind, steps_with, steps_left}
use Rattle.nested_method.proofs.StandLemmas.{goes_on, not_stopped}

-- ---- the end
-- so many solves were counted, or nothing is left to find
pub ripe_ends : (p : Program) (work : ℕ) (s : State) → (leb work s.counts.since_item || is_some (settled_in s)) ≡ true
    → (work ≤ s.counts.since_item) ⊎ IsAtEnd p s
ripe_ends p work s e = go (leb work s.counts.since_item) (settled_in s) refl refl e
  where
    go : (b : Bool) (case : Option Settled) → leb work s.counts.since_item ≡ b → settled_in s ≡ case → (b || is_some case) ≡ true
        → (work ≤ s.counts.since_item) ⊎ IsAtEnd p s
    go true case t u e = inl (leb-true work s.counts.since_item t)
    go false (Some case) t u e = inr (inl (λ left. let no : Some case ≡ None = sym u ∙ left in absurd (cc)))
    go false None t u e = absurd (let no : false ≡ true = e in cc)

rests_there : (p : Program) (old new : State) (m : Machine) (told : Bool) → MakesStep p old m new told → told ≡ false
    → (k : Machine) → IsTabledBy p new k → HasRoom k → IsAtRest new k
rests_there p old new m told (begins_none rests points reasons ready) e k t room =
    let r = rests (room_too p new m k ready.tabled t room) in
    rests_too p new m k ready.tabled t (record { idle = r.idle; last = λ closed. ready.run.kind ∙ r.last closed })
rests_there p old new m told (opens_run closed earlier opens points reasons run first left) e k t room = absurd (let no : true ≡ false = e in cc)
rests_there p old new m told (solves lasts n ready is_next node) e k t room = absurd (let no : true ≡ false = e in cc)

-- a step is told to do nothing
pub rest_ends : (p : Program) (old new : State) (told : Bool) → told ≡ false → IsTabled p old
    → ((m : Machine) → IsTabledBy p old m → MakesStep p old m new told) → IsAtEnd p new
rest_ends p old new told e t step = inr (rests_there p old new t.0 told (step t.0 t.1) e)

-- more solves than 64 bits count aren't allowed
pub ends_anyhow : (p : Program) (s : State) (work : ℕ) → work ≡ 2 ^ 64 - 1 → s.budget.solves < 2 ^ 64
    → s.counts.since_item ≤ s.counts.since_report → (work ≤ s.counts.since_item) ⊎ IsAtEnd p s → IsAtEnd p s
ends_anyhow p s work all bits item (inl counted) = inl (λ left. let less = goes_on s left in omega (arith, all, bits, item, counted, less))
ends_anyhow p s work all bits item (inr ends) = ends

-- ---- how many solves there are
-- no more than are asked for, or were made before: at first, behind a step, and behind one that did nothing
pub none_beyond : (work : ℕ) (s : State) → s.counts.since_item ≤ max work s.counts.since_item
none_beyond work s = omega arith

pub step_within : (work : ℕ) (first old new : State) → old.counts.since_item < work → Progresses old new
    → new.counts.since_item ≤ max work first.counts.since_item
step_within work first old new less step = go step.way
  where
    go : (new.counts ≡ with_commit old.counts) ⊎ OpensOrStops old new → new.counts.since_item ≤ max work first.counts.since_item
    go (inl c) =
        let e : new.counts.since_item ≡ one_solve_more old.counts.since_item = ap (λ (x : Counts). x.since_item) c in
        omega (arith, e, less)
    go (inr o) = let e = ap (λ (x : Counts). x.since_item) o.counts in omega (arith, e, less)

pub rests_within : (work : ℕ) (first old new : State) → Rests old new → old.counts.since_item ≤ max work first.counts.since_item
    → new.counts.since_item ≤ max work first.counts.since_item
rests_within work first old new rests h =
    subst (λ (c : Counts). c.since_item ≤ max work first.counts.since_item) (sym rests.counts) h

-- ---- the steps before it
two_at_most : (kind : Kind) → runs_behind kind ≤ 2
two_at_most Feasible = omega arith
two_at_most Recession = omega arith
two_at_most Cost = omega arith

one_fewer : (kind : Kind) → (kind ≡ Cost → ⊥) → runs_behind (next_kind kind) < runs_behind kind
one_fewer Feasible unlike = omega arith
one_fewer Recession unlike = omega arith
one_fewer Cost unlike = absurd (unlike refl)

at_most : (stop : Option Open) (left : ℕ) (kind : Kind) → steps_with stop left kind ≤ 1 + 3 * left + runs_behind kind
at_most (Some why) left kind = omega arith
at_most None left kind = omega arith

none_with : (stop : Option Open) (left : ℕ) (kind : Kind) → IsSome stop → steps_with stop left kind ≡ 0
none_with (Some why) left kind is = refl
none_with None left kind is = absurd (cc)

-- a step that does something leaves fewer
pub leaves_fewer : (old new : State) → old.budget.solves < 2 ^ 64 → settled_in old ≡ None → Progresses old new → steps_left new < steps_left old
leaves_fewer old new bits left step =
    subst (λ (n : ℕ). steps_left new < n)
    (sym (ap (λ (stop : Option Open). steps_with stop (old.budget.solves - old.counts.since_report) old.kind) (not_stopped old left)))
    (go step.way)
  where
    less : old.counts.since_report < old.budget.solves
    less = goes_on old left

    same : new.budget.solves ≡ old.budget.solves
    same = ap (λ (x : Budget). x.solves) step.budget

    most : steps_left new ≤ 1 + 3 * (new.budget.solves - new.counts.since_report) + runs_behind new.kind
    most = at_most new.stop (new.budget.solves - new.counts.since_report) new.kind

    opens : (new.counts ≡ old.counts) → IsSome new.stop ⊎ ((old.kind ≡ Cost → ⊥) × (new.kind ≡ next_kind old.kind))
        → steps_left new < 1 + 3 * (old.budget.solves - old.counts.since_report) + runs_behind old.kind
    opens c (inl is) = let e = none_with new.stop (new.budget.solves - new.counts.since_report) new.kind is in omega (arith, e)
    opens c (inr k) =
        let e = ap (λ (x : Counts). x.since_report) c in
        let fewer = one_fewer old.kind k.0 in
        let runs : runs_behind new.kind ≡ runs_behind (next_kind old.kind) = ap runs_behind k.1 in
        omega (arith, most, same, e, fewer, runs)

    go : (new.counts ≡ with_commit old.counts) ⊎ OpensOrStops old new
        → steps_left new < 1 + 3 * (old.budget.solves - old.counts.since_report) + runs_behind old.kind
    go (inl c) =
        let e : new.counts.since_report ≡ one_solve_more old.counts.since_report = ap (λ (x : Counts). x.since_report) c in
        let two = two_at_most new.kind in
        omega (arith, most, same, e, two, less, bits)
    go (inr o) = opens o.counts o.way
