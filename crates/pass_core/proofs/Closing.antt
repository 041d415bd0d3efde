-- What is told of why a report is open is explained where the reasons are that a state keeps.
use Rattle.std.proofs.Common.{◌≡◌, ◌⊎◌, ℕ, Option, Some, None, IfSome, refl, sym, subst, inl, inr}
use Rattle.rationals.specs.Passes.{Operation}
use Rattle.scen_defs.specs.Program.{Program}
use Rattle.scen_tree.specs.Trees.{Tree}
use Rattle.cut_defs.specs.Stored.{Stored}
use Rattle.proved_report.specs.declared.open.Open.{Open}
use Rattle.proved_report.specs.declared.open.Open.TheVariants.{Solves}
use Rattle.node_data.specs.Frames.{Frame}
use Rattle.found_ends.specs.declared.ends.Bounded.{Bounded}
use Rattle.found_ends.specs.declared.ends.Ends.{Ends}
use Rattle.found_ends.specs.Settled.{why_open}
use Rattle.found_ends.specs.Claims.{IsReason, EndsAssembly, cut_of}
use Rattle.pass_core.specs.declared.state.State.{State}
use Rattle.pass_core.specs.Explained.{IsCutOfSolve, AreOfSolves, PassesInAssembly, IsExplained, AreExplained}

-- where nothing stopped the method a number of solves that is told is the one that is allowed
pub told_allowed : (ends : Ends) (stop : Option Open) (allowed n : ℕ) (told : Open) → IsReason ends (why_open stop allowed) told → stop ≡ None → told ≡ Solves n → n ≡ allowed
told_allowed ends None allowed n told (inl e) s t = cc
told_allowed ends (Some why) allowed n told (inl e) s t = absurd (cc)
told_allowed ends stop allowed n told (inr h) s t = let e = h.1 in absurd (cc)

-- and what is told is explained where what stopped the method is
why_explained : (p : Program) (tree : Tree) (s : State) (stop : Option Open) → s.stop ≡ stop → AreExplained p tree s → IsExplained p s.frame tree s.budget (why_open stop s.budget.solves)
why_explained p tree s None e h = refl
why_explained p tree s (Some why) e h =
    subst (λ (o : Option Open). IfSome o (IsExplained p s.frame tree s.budget)) e h.0

-- solves gave the cut whose assembly passes
lower_given : (p : Program) (frame : Frame) (tree : Tree) (pivots : ℕ) (lower : Option Bounded) (cut : Stored) → cut_of lower ≡ Some cut
    → IfSome lower (λ b. IsCutOfSolve p frame tree pivots b.cut) → IsCutOfSolve p frame tree pivots cut
lower_given p frame tree pivots None cut e h = absurd (cc)
lower_given p frame tree pivots (Some b) cut e h = let same : b.cut ≡ cut = cc in subst (IsCutOfSolve p frame tree pivots) same h

cut_given_in : (p : Program) (frame : Frame) (tree : Tree) (pivots : ℕ) (e : Ends) (cut : Stored) → (e.nowhere ≡ Some cut) ⊎ (cut_of e.lower ≡ Some cut)
    → AreOfSolves p frame tree pivots e → IsCutOfSolve p frame tree pivots cut
cut_given_in p frame tree pivots e cut (inl n) h = subst (λ (o : Option Stored). IfSome o (IsCutOfSolve p frame tree pivots)) n h.nowhere
cut_given_in p frame tree pivots e cut (inr l) h = lower_given p frame tree pivots e.lower cut l h.lower

assembly_explained : (p : Program) (frame : Frame) (tree : Tree) (pivots : ℕ) (e : Ends) (o : Operation) → EndsAssembly e o → AreOfSolves p frame tree pivots e
    → PassesInAssembly p frame tree pivots o
assembly_explained p frame tree pivots e o a h =
    record { cut = a.cut; given = cut_given_in p frame tree pivots e a.cut a.rests h; passes = a.passes }

pub told_explained : (p : Program) (tree : Tree) (s : State) (told : Open) → IsReason s.ends (why_open s.stop s.budget.solves) told → AreExplained p tree s
    → IsExplained p s.frame tree s.budget told
told_explained p tree s told (inl e) h = subst (IsExplained p s.frame tree s.budget) (sym e) (why_explained p tree s s.stop refl h)
told_explained p tree s told (inr a) h =
    subst (IsExplained p s.frame tree s.budget) (sym a.1) (assembly_explained p s.frame tree s.budget.pivots s.ends a.0 a.2 h.2)

-- where something stopped it, that is told, or the operation of an assembly
pub told_stopped : (ends : Ends) (stop : Option Open) (allowed : ℕ) (w told : Open) → IsReason ends (why_open stop allowed) told → stop ≡ Some w → IsReason ends w told
told_stopped ends stop allowed w told h e = subst (λ (o : Option Open). IsReason ends (why_open o allowed) told) e h
