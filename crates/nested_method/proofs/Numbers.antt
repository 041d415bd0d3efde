-- Each reason that stops the method is told of a solve, with its number.
use Rattle.std.proofs.Common.{◌≡◌, ◌⊎◌, inl, inr, ℕ, true, false, Option, Some, None, IfSome, refl, sym, ap, subst, ◌∙◌}
use Rattle.rationals.specs.Passes.{Operation}
use Rattle.scen_defs.specs.Program.{Program}
use Rattle.scen_defs.specs.declared.report.Place.{Place}
use Rattle.scen_defs.specs.declared.report.Place.TheVariants.{Solve, Cut, Cost, Ground, Dual, Check}
use Rattle.node_lp.specs.declared.task.Task.{Task}
use Rattle.node_lp.specs.declared.solved.Solved.{Solved}
use Rattle.node_lp.specs.declared.solved.Solved.TheVariants as solved
use Rattle.proved_report.specs.declared.open.Open.{Open}
use Rattle.proved_report.specs.declared.open.Open.TheVariants.{Solves, Pivots, Passed}
use Rattle.found_ends.specs.declared.last.Lasts.{Lasts}
use Rattle.pass_table.specs.Machine.{Machine, IsClosed}
use Rattle.pass_core.specs.declared.budget.Budget.{Budget}
use Rattle.pass_core.specs.declared.state.State.{State}
use Rattle.pass_core.specs.Beginning.{IsBeginning}
use Rattle.pass_core.specs.Counting.{with_commit, after_report}
use Rattle.pass_core.specs.Explained.{IsUnstopped}
use Rattle.pass_core.specs.Reasons.{HasReason, IsAtSolve, IsOfSolve, IsLasting, GainsReasons}
use Rattle.pass_core.specs.Tabled.{IsTabledBy}
use Rattle.pass_core.specs.Desks.{DropsOn}
use Rattle.pass_core.specs.Turns.{node_halts, IsBeforeRun, SolvesAtDesk, AreReady, MakesStep}
use Rattle.pass_core.proofs.Moving.{StepsAtDesk, no_solve, new_run, one_turn, step_moves, work_moves}
use Rattle.edit_defs.specs.declared.edit.Edit.{Edit}
use Rattle.edit_defs.specs.After.{after}
use Rattle.found_ends.specs.Settled.{why_open}
use Rattle.found_ends.specs.Claims.{IsReason, EndsAssembly}
use Rattle.found_ends.proofs.Reasons.{closed_reason}
use Rattle.nested_method.specs.declared.method.Method.{Method}
use Rattle.nested_method.specs.declared.method.Method.TheVariants.{Working as AtWork, Idle}
use Rattle.nested_method.specs.Stands.{HasFewNodes, IsCleared, Begins, settled_in, closing, SolvesNodes, none, more, beside, forgets, anew, HasSolve}
use Rattle.nested_method.specs.Stands.{CutPasses, CostPasses, OpeningPasses, StandsCleared, GoesOn}
use Rattle.nested_method.proofs.StandLemmas.{solves_behind}

-- a reason is told of one of the solves between two states, or where a run between them doesn't open
abbrev ArisesAt : Program → State → State → Operation → Place → Type 0
ArisesAt p old new o (Solve k) = HasSolve p k (solved.Passed false o) old new
ArisesAt p old new o (Cut k) = CutPasses p k o old new
ArisesAt p old new o (Cost k) = CostPasses p k o old new
ArisesAt p old new o Ground = OpeningPasses p o old new
ArisesAt p old new o Dual = ⊥
ArisesAt p old new o Check = ⊥

abbrev Arises : Program → State → State → Open → Type 0
Arises p old new (Solves n) = Unit {0}
Arises p old new (Pivots k) = HasSolve p k solved.PivotsEnded old new
Arises p old new (Passed place o) = ArisesAt p old new o place

gained : (Is : Open → Type 0) (a b : State) (why : Open) → GainsReasons Is a b → HasReason b why → HasReason a why ⊎ Is why
gained Is a b why g (inl e) = g.stop why e
gained Is a b why g (inr e) = go (g.lasting why e)
  where
    go : (a.lasting ≡ Some why) ⊎ (Is why × IsLasting why) → HasReason a why ⊎ Is why
    go (inl l) = inl (inr l)
    go (inr i) = inr i.0

no_reason : (o : Option Open) (why : Open) → o ≡ None → o ≡ Some why → ⊥
no_reason o why n e = let no : None ≡ Some why = sym n ∙ e in absurd (cc)

module _ (p : Program) (old : State) where
  -- more solves come behind
  abbrev solve_longer : (k : ℕ) (all : Solved) (mid new : State) → SolvesNodes p mid new → HasSolve p k all old mid → HasSolve p k all old new
  solve_longer k all mid new x h = record {
    mid = h.mid;
    machine = h.machine;
    node = h.node;
    next = h.next;
    before = h.before;
    lasts = h.lasts;
    ready = h.ready;
    solve = h.solve;
    number = h.number;
    comes = h.comes;
    behind = solves_behind p h.next mid new h.behind x;
  }

  place_longer : (o : Operation) (place : Place) (mid new : State) → SolvesNodes p mid new → ArisesAt p old mid o place → ArisesAt p old new o place
  place_longer o (Solve k) mid new x h = solve_longer k (solved.Passed false o) mid new x h
  place_longer o (Cut k) mid new x h = record { all = h.all; solve = solve_longer k h.all mid new x h.solve; passes = h.passes }
  place_longer o (Cost k) mid new x h = record { all = h.all; solve = solve_longer k h.all mid new x h.solve; passes = h.passes }
  place_longer o Ground mid new x h = record {
    mid = h.mid;
    machine = h.machine;
    next = h.next;
    before = h.before;
    tabled = h.tabled;
    closed = h.closed;
    step = h.step;
    passes = h.passes;
    behind = solves_behind p h.next mid new h.behind x;
  }
  place_longer o Dual mid new x h = h
  place_longer o Check mid new x h = h

  longer : (why : Open) (mid new : State) → SolvesNodes p mid new → Arises p old mid why → Arises p old new why
  longer (Solves n) mid new x h = tt
  longer (Pivots k) mid new x h = solve_longer k solved.PivotsEnded mid new x h
  longer (Passed place o) mid new x h = place_longer o place mid new x h

  -- a run that doesn't open
  at_opening : (why : Open) (mid new : State) (m : Machine) → SolvesNodes p old mid → IsTabledBy p mid m → IsClosed m
      → MakesStep p mid m new true → IsBeforeRun p mid why → Arises p old new why
  at_opening (Solves n) mid new m before tabled closed step h = tt
  at_opening (Pivots k) mid new m before tabled closed step h = absurd h
  at_opening (Passed place o) mid new m before tabled closed step h = subst (ArisesAt p old new o) (sym h.0) (record {
    mid = mid;
    machine = m;
    next = new;
    before = before;
    tabled = tabled;
    closed = closed;
    step = step;
    passes = h.1;
    behind = none;
  })

  -- a reason is told of the solve of this task
  abbrev IsOfThis : State → Lasts → ℕ → Task → Solved → Open → Type 0
  IsOfThis mid lasts n task all = IsOfSolve (with_commit mid.counts).all mid.budget.solves all
      (node_halts p (record mid { lasts = lasts }) n task.trial all)

  -- the last solve
  module _ (mid : State) (m : Machine) (lasts : Lasts) (n : ℕ) (new : State) (before : SolvesNodes p old mid) (ready : AreReady mid lasts)
      (node : SolvesAtDesk p (record mid { lasts = lasts }) m n new) where
    abbrev here : (k : ℕ) (all : Solved) → k ≡ (with_commit mid.counts).all → node.all ≡ all → HasSolve p k all old new
    here k all e c = record {
      mid = mid;
      machine = m;
      node = n;
      next = new;
      before = before;
      lasts = lasts;
      ready = ready;
      solve = node;
      number = sym e;
      comes = c;
      behind = none;
    }

    place_here : (o : Operation) (place : Place)
        → IsAtSolve (with_commit mid.counts).all node.all
        (node_halts p (record mid { lasts = lasts }) n node.task.trial node.all) o place → ArisesAt p old new o place
    place_here o (Solve k) h = here k (solved.Passed false o) h.0 h.1
    place_here o (Cut k) h = record { all = node.all; solve = here k node.all h.0 refl; passes = h.1 }
    place_here o (Cost k) h = record { all = node.all; solve = here k node.all h.0 refl; passes = h.1 }
    place_here o Ground h = absurd h
    place_here o Dual h = h
    place_here o Check h = h

    at_solve : (why : Open) → IsOfThis mid lasts n node.task node.all why → Arises p old new why
    at_solve (Solves k) h = tt
    at_solve (Pivots k) h = here k solved.PivotsEnded h.0 h.1
    at_solve (Passed place o) h = place_here o place h

  step_arises : (why : Open) (mid new : State) (m : Machine) → SolvesNodes p old mid → SolvesNodes p mid new → StepsAtDesk p mid m new
      → (HasReason mid why → HasReason old why ⊎ Arises p old mid why) → HasReason new why → HasReason old why ⊎ Arises p old new why
  step_arises why mid new m before tail step rest h = go step
    where
      kept : HasReason old why ⊎ Arises p old mid why → HasReason old why ⊎ Arises p old new why
      kept (inl x) = inl x
      kept (inr a) = inr (longer why mid new tail a)

      go : StepsAtDesk p mid m new → HasReason old why ⊎ Arises p old new why
      go (no_solve reasons ready) = elim (gained (λ w. ⊥) mid new why reasons h) [ inl x ↦ kept (rest x) | inr n ↦ absurd n ]
      go (new_run tabled made closed earlier opened reasons run first left) =
          elim (gained (IsBeforeRun p mid) mid new why reasons h) [
            | inl x ↦ kept (rest x)
            | inr i ↦ inr (at_opening why mid new m before tabled closed made i)
          ]
      go (one_turn lasts n ready node) =
          elim (gained (IsOfThis mid lasts n node.task node.all) (record mid { lasts = lasts; counts = with_commit mid.counts }) new why node.reasons h) [
            | inl x ↦ kept (rest x)
            | inr i ↦ inr (at_solve mid m lasts n new before ready node why i)
          ]

  -- a solve that isn't wanted any more gives no reason
  dropped_reason : (mid new : State) (m flying : Machine) (w : ℕ) (why : Open) → DropsOn p mid m flying w new → HasReason new why
      → HasReason mid why
  dropped_reason mid new m flying w why drop (inl e) = inl (sym (ap (λ (s : State). s.stop) drop.others) ∙ e)
  dropped_reason mid new m flying w why drop (inr e) = inr (sym (ap (λ (s : State). s.lasting) drop.others) ∙ e)

  arises : (new : State) (why : Open) → SolvesNodes p old new → HasReason new why → HasReason old why ⊎ Arises p old new why
  arises new why none h = inl h
  arises new why (more mid k m told y left t step keeps) h =
      step_arises why mid k m y (more mid k m told none left t step keeps) (step_moves p mid m k told t step) (arises mid why y) h
  arises new why (beside mid k m y left d step keeps) h =
      step_arises why mid k m y (beside mid k m none left d step keeps) (work_moves p mid m k step) (arises mid why y) h
  arises new why (forgets mid k m w n y b drop) h =
      go (arises mid why y (dropped_reason mid k m b.desk.fits.flying w why drop h))
    where
      go : HasReason old why ⊎ Arises p old mid why → HasReason old why ⊎ Arises p old k why
      go (inl x) = inl x
      go (inr a) = inr (longer why mid k (forgets mid k m w n none b drop) a)
  arises new why (anew mid k y ends over) (inl e) = absurd (no_reason k.stop why over.beginning.stop e)
  arises new why (anew mid k y ends over) (inr e) = absurd (no_reason k.lasting why over.beginning.lasting e)

  step_lasts : (mid new : State) (m : Machine) → StepsAtDesk p mid m new → ((why : Open) → mid.lasting ≡ Some why → IsLasting why)
      → (why : Open) → new.lasting ≡ Some why → IsLasting why
  step_lasts mid new m step h why e = go step
    where
      by : (Is : Open → Type 0) → (mid.lasting ≡ Some why) ⊎ (Is why × IsLasting why) → IsLasting why
      by Is (inl l) = h why l
      by Is (inr i) = i.1

      go : StepsAtDesk p mid m new → IsLasting why
      go (no_solve reasons ready) = by (λ w. ⊥) (reasons.lasting why e)
      go (new_run tabled made closed earlier opened reasons run first left) = by (IsBeforeRun p mid) (reasons.lasting why e)
      go (one_turn lasts n ready node) = by (IsOfThis mid lasts n node.task node.all) (node.reasons.lasting why e)

  -- what lasts for a run is told of a cut or of a cost
  still_lasts : (new : State) → SolvesNodes p old new → ((why : Open) → old.lasting ≡ Some why → IsLasting why) → (why : Open) → new.lasting ≡ Some why
      → IsLasting why
  still_lasts new none h why e = h why e
  still_lasts new (more mid k m told y left t step keeps) h why e =
      step_lasts mid k m (step_moves p mid m k told t step) (still_lasts mid y h) why e
  still_lasts new (beside mid k m y left d step keeps) h why e = step_lasts mid k m (work_moves p mid m k step) (still_lasts mid y h) why e
  still_lasts new (forgets mid k m w n y b drop) h why e =
      still_lasts mid y h why (sym (ap (λ (s : State). s.lasting) drop.others) ∙ e)
  still_lasts new (anew mid k y ends over) h why e = absurd (no_reason k.lasting why over.beginning.lasting e)

-- ---- where solves are counted from 0
pub begins_cleared : (p : Program) (budget : Budget) (s : State) → IsBeginning p budget s → IsCleared s
begins_cleared p budget s b = record {
  stop = λ why e. absurd (no_reason s.stop why b.stop e);
  lasting = λ why e. absurd (no_reason s.lasting why b.lasting e);
}

pub edited_cleared : (s : State) → IsUnstopped s → IsCleared s
edited_cleared s u = record {
  stop = λ why e. inr (subst (λ (o : Option Open). IfSome o (λ w. w ≡ Solves s.budget.solves)) e u.stop);
  lasting = λ why e. absurd (no_reason s.lasting why u.lasting e);
}

pub told_cleared : (p : Program) (old s : State) → SolvesNodes p old s → IsCleared old → IsCleared (record s { stop = s.lasting; counts = after_report s.counts })
told_cleared p old s x r = record {
  stop = λ why e. inl (still_lasts p old s x r.lasting why e);
  lasting = λ why e. still_lasts p old s x r.lasting why e;
}

-- the pivots of one of these solves ended, or an operation of it passes
pub pivots_arise : (p : Program) (old new : State) (k : ℕ) → SolvesNodes p old new → IsCleared old → new.stop ≡ Some (Pivots k)
    → HasSolve p k solved.PivotsEnded old new
pivots_arise p old new k x r e = go (arises p old new (Pivots k) x (inl e))
  where
    go : HasReason old (Pivots k) ⊎ HasSolve p k solved.PivotsEnded old new → HasSolve p k solved.PivotsEnded old new
    go (inl (inl s)) = elim (r.stop (Pivots k) s) [ inl n ↦ absurd n | inr q ↦ absurd (cc) ]
    go (inl (inr l)) = absurd (r.lasting (Pivots k) l)
    go (inr h) = h

pub pass_arises : (p : Program) (old new : State) (k : ℕ) (o : Operation) → SolvesNodes p old new → IsCleared old → new.stop ≡ Some (Passed (Solve k) o)
    → HasSolve p k (solved.Passed false o) old new
pass_arises p old new k o x r e = go (arises p old new (Passed (Solve k) o) x (inl e))
  where
    lasts_not : IsLasting (Passed (Solve k) o) → ⊥
    lasts_not (inl c) = let q = c.1 in absurd (cc)
    lasts_not (inr c) = let q = c.1 in absurd (cc)

    go : HasReason old (Passed (Solve k) o) ⊎ HasSolve p k (solved.Passed false o) old new → HasSolve p k (solved.Passed false o) old new
    go (inl (inl s)) = elim (r.stop (Passed (Solve k) o) s) [ inl n ↦ absurd (lasts_not n) | inr q ↦ absurd (cc) ]
    go (inl (inr l)) = absurd (lasts_not (r.lasting (Passed (Solve k) o) l))
    go (inr h) = h

-- one of a cut, or of a cost, passes so, unless it was kept before these solves
pub cut_arises : (p : Program) (old new : State) (k : ℕ) (o : Operation) → SolvesNodes p old new → HasReason new (Passed (Cut k) o)
    → HasReason old (Passed (Cut k) o) ⊎ CutPasses p k o old new
cut_arises p old new k o x h = arises p old new (Passed (Cut k) o) x h

pub cost_arises : (p : Program) (old new : State) (k : ℕ) (o : Operation) → SolvesNodes p old new → HasReason new (Passed (Cost k) o)
    → HasReason old (Passed (Cost k) o) ⊎ CostPasses p k o old new
cost_arises p old new k o x h = arises p old new (Passed (Cost k) o) x h

-- one before a run passes so
pub opening_arises : (p : Program) (old new : State) (o : Operation) → SolvesNodes p old new → IsCleared old
    → new.stop ≡ Some (Passed Ground o) → OpeningPasses p o old new
opening_arises p old new o x r e = go (arises p old new (Passed Ground o) x (inl e))
  where
    lasts_not : IsLasting (Passed Ground o) → ⊥
    lasts_not (inl c) = let q = c.1 in absurd (cc)
    lasts_not (inr c) = let q = c.1 in absurd (cc)

    go : HasReason old (Passed Ground o) ⊎ OpeningPasses p o old new → OpeningPasses p o old new
    go (inl (inl s)) = elim (r.stop (Passed Ground o) s) [ inl n ↦ absurd (lasts_not n) | inr q ↦ absurd (cc) ]
    go (inl (inr l)) = absurd (lasts_not (r.lasting (Passed Ground o) l))
    go (inr h) = h

-- ---- what is claimed
told_stop : (stop : Option Open) (n : ℕ) (told w : Open) → told ≡ w → ((m : ℕ) → w ≡ Solves m → ⊥) → told ≡ why_open stop n → stop ≡ Some w
told_stop None n told w e unlike t = absurd (unlike n (sym e ∙ t))
told_stop (Some f) n told w e unlike t = ap (λ (x : Open). Some x) (sym t ∙ e)

stop_of : (s : State) (w : Open) → ((m : ℕ) → w ≡ Solves m → ⊥) → ((o : Operation) → w ≡ Passed Dual o → ⊥) → (closing s).why ≡ w → s.stop ≡ Some w
stop_of s w unlike never e = go (closed_reason (settled_in s) s.ends (why_open s.stop s.budget.solves) (closing s) refl)
  where
    go : IsReason s.ends (why_open s.stop s.budget.solves) (closing s).why → s.stop ≡ Some w
    go (inl t) = told_stop s.stop s.budget.solves (closing s).why w e unlike t
    go (inr h) = absurd (never h.0 (sym e ∙ h.1))

pub closing_pivots : (s : State) (k : ℕ) → (closing s).why ≡ Pivots k → s.stop ≡ Some (Pivots k)
closing_pivots s k e = stop_of s (Pivots k) (λ m q. cc) (λ o q. cc) e

pub closing_passed : (s : State) (place : Place) (o : Operation) → (place ≡ Dual → ⊥) → (closing s).why ≡ Passed place o
    → s.stop ≡ Some (Passed place o)
closing_passed s place o unlike e = stop_of s (Passed place o) (λ m q. cc) (λ q r. unlike (let same : place ≡ Dual = cc in same)) e

-- an operation that is told at DUAL ends an assembly of the ends
pub closing_dual : (p : Program) (old s : State) (o : Operation) → SolvesNodes p old s → IsCleared old → (closing s).why ≡ Passed Dual o
    → EndsAssembly s.ends o
closing_dual p old s o x r e = go (closed_reason (settled_in s) s.ends (why_open s.stop s.budget.solves) (closing s) refl)
  where
    lasts_not : IsLasting (Passed Dual o) → ⊥
    lasts_not (inl c) = let q = c.1 in absurd (cc)
    lasts_not (inr c) = let q = c.1 in absurd (cc)

    never : HasReason old (Passed Dual o) ⊎ ⊥ → ⊥
    never (inl (inl h)) = elim (r.stop (Passed Dual o) h) [ inl n ↦ lasts_not n | inr q ↦ absurd (cc) ]
    never (inl (inr l)) = lasts_not (r.lasting (Passed Dual o) l)
    never (inr h) = h

    go : IsReason s.ends (why_open s.stop s.budget.solves) (closing s).why → EndsAssembly s.ends o
    go (inl t) = absurd (never (arises p old s (Passed Dual o) x
        (inl (told_stop s.stop s.budget.solves (closing s).why (Passed Dual o) e (λ m q. cc) t))))
    go (inr h) = let q : Passed Dual h.0 ≡ Passed Dual o = sym h.1 ∙ e in
        subst (EndsAssembly s.ends) (let same : h.0 ≡ o = cc in same) h.2

-- ---- methods whose reasons are cleared
pub first_cleared : (p : Program) (budget : Budget) (m : Method) → Begins p budget m → StandsCleared m
first_cleared p budget (AtWork w) b = begins_cleared p budget w.state b.1
first_cleared p budget (Idle why own) b = tt

pub edits_cleared : (p : Program) (e : Edit) (old new : Method) → GoesOn p e old new → HasFewNodes (after p e) → StandsCleared new
edits_cleared p e (AtWork old) (AtWork new) g few = edited_cleared new.state g.reasons
edits_cleared p e (AtWork old) (Idle why own) g few = tt
edits_cleared p e (Idle why own) new g few = first_cleared (after p e) own new (g.1 few)
