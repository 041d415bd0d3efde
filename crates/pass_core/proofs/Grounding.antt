-- A step that opens no run.
use Rattle.std.proofs.Common.{◌≡◌, Bool, Ok, sym, subst, ◌∙◌}
use Rattle.rationals.specs.Passes.{Operation}
use Rattle.scen_defs.specs.Program.{Program}
use Rattle.scen_tree.specs.Trees.{Tree, tree_walk}
use Rattle.found_ends.specs.declared.last.Lasts.{Lasts}
use Rattle.proved_report.specs.declared.open.Open.{Open}
use Rattle.pass_core.specs.declared.state.State.{State}
use Rattle.pass_core.specs.Reasons.{IsOfOpening, GainsReasons}
use Rattle.pass_core.specs.Turns.{IsStuckBefore, not_made, not_put, PassesBefore, by_dual, by_first, ByTree, IsBeforeRun}
use Rattle.pass_core.proofs.Reasoning.{wider_reasons, wider_opening}

-- places for last solves don't touch it
module _ (p : Program) (tree : Tree) (old : State) (lasts : Lasts) (begun : Bool) where
  ready_stuck : IsStuckBefore p tree (record old { lasts = lasts; is_begun = begun }) → IsStuckBefore p tree old
  ready_stuck (not_made dual opening ends) = not_made dual opening ends
  ready_stuck (not_put dual cuts opening are refused) = not_put dual cuts opening are refused

  ready_passes : (o : Operation) → PassesBefore p tree (record old { lasts = lasts; is_begun = begun }) o → PassesBefore p tree old o
  ready_passes o (by_dual passes) = by_dual passes
  ready_passes o (by_first dual opening ends) = by_first dual opening ends

pub opening_stuck : (p : Program) (tree : Tree) (old s new : State) → s ≡ record old { lasts = s.lasts; is_begun = s.is_begun }
    → tree_walk p ≡ Ok tree
    → GainsReasons (IsOfOpening s.budget.solves (IsStuckBefore p tree s) (PassesBefore p tree s)) s new
    → GainsReasons (IsBeforeRun p old) old new
opening_stuck p tree old s new e walk h =
    let ready : State = record old { lasts = s.lasts; is_begun = s.is_begun } in
    let is : Open → Type 0 = IsOfOpening old.budget.solves (IsStuckBefore p tree ready) (PassesBefore p tree ready) in
    let k = subst (λ (x : State). GainsReasons (IsOfOpening x.budget.solves (IsStuckBefore p tree x) (PassesBefore p tree x)) x new) e h in
    let here : GainsReasons is old new = record { counts = k.counts; stop = k.stop; lasting = k.lasting } in
    wider_reasons is (IsBeforeRun p old) old new
    (wider_opening (IsStuckBefore p tree ready) (ByTree p (λ (t : Tree). IsStuckBefore p t old)) (PassesBefore p tree ready)
    (λ (o : Operation). ByTree p (λ (t : Tree). PassesBefore p t old o)) old.budget.solves
    (λ x other w. subst (λ (t : Tree). IsStuckBefore p t old) (same other w) (ready_stuck p tree old s.lasts s.is_begun x))
    (λ o x other w. subst (λ (t : Tree). PassesBefore p t old o) (same other w) (ready_passes p tree old s.lasts s.is_begun o x))) here
  where
    same : (other : Tree) → tree_walk p ≡ Ok other → tree ≡ other
    same other w = let both : Ok tree ≡ Ok other = sym walk ∙ w in cc
