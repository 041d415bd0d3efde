-- What the steps of a path say of the whole.
use Rattle.std.proofs.Common.{◌≡◌, ℕ, ◌<◌, ◌+◌, ◌-◌, Result, Ok, Err, sym, ap, ◌∙◌, subst}
use Rattle.std.specs.Prelude.{IfOk}
use Rattle.frac128.specs.declared.fault.ArithmeticFault.{ArithmeticFault}
use Rattle.frac128.specs.declared.fault.ArithmeticFault.TheVariants as fault
use Rattle.frac128.specs.declared.memory.Memory.{Memory}
use Rattle.rationals.specs.Passes.{Operation}
use Rattle.lp_defs.specs.Path.{Tableau, Ending, Done, Open, Stopped, path}
use Rattle.simplex_core.specs.declared.tableau.Step.{Step}
use Rattle.simplex_core.specs.declared.tableau.Step.TheVariants as step
use Rattle.simplex_core.specs.declared.tableau.End.{End}
use Rattle.simplex_core.specs.declared.tableau.End.TheVariants as end
use Rattle.simplex_core.specs.Reached.{Steps, Stops, Reached, EndsWithin}
use Rattle.simplex_core.proofs.Paths.{rest}

pub best_here : (n p m : ℕ) (t new : Tableau) (whole : Ending) (s : Step) → m < p → path n (p - m) m t ≡ whole → s ≡ step.Done → Steps n t (Ok s) new → whole ≡ Done m new
best_here n p m t new whole s h e f g = sym (rest n p m t whole h e) ∙ subst (λ (r : Step). Steps n t (Ok r) new) f g (p - (m + 1)) m

pub open_here : (n p m j : ℕ) (t new : Tableau) (whole : Ending) (s : Step) → m < p → path n (p - m) m t ≡ whole → s ≡ step.Open j → Steps n t (Ok s) new → whole ≡ Open j new
open_here n p m j t new whole s h e f g = sym (rest n p m t whole h e) ∙ subst (λ (r : Step). Steps n t (Ok r) new) f g (p - (m + 1)) m

pub further_here : (n p m : ℕ) (t new : Tableau) (whole : Ending) (s : Step) → m < p → path n (p - m) m t ≡ whole → s ≡ step.Pivoted → Steps n t (Ok s) new → path n (p - (m + 1)) (m + 1) new ≡ whole
further_here n p m t new whole s h e f g = sym (subst (λ (r : Step). Steps n t (Ok r) new) f g (p - (m + 1)) m) ∙ rest n p m t whole h e

pub stops_here : (n p m : ℕ) (t new : Tableau) (whole : Ending) (f : ArithmeticFault) (r : Result End Memory) → m < p → path n (p - m) m t ≡ whole → Steps n t (Err f) new → Stops f (m + 1) r → IfOk r (λ e. Reached whole e new)
stops_here n p m t new whole f r h e g s = go r s
  where
    at : (o : Operation) → f ≡ fault.Passed o → whole ≡ Stopped (m + 1) o
    at o k = sym (rest n p m t whole h e) ∙ subst (λ (x : ArithmeticFault). Steps n t (Err x) new) k g (p - (m + 1)) m

    go : (r : Result End Memory) → Stops f (m + 1) r → IfOk r (λ e. Reached whole e new)
    go (Ok (end.Passed k o)) s = at o s.0 ∙ ap (λ (i : ℕ). Stopped i o) (sym s.1)
    go (Ok (end.Done k)) s = absurd s
    go (Ok (end.Open j)) s = absurd s
    go (Ok end.PivotsEnded) s = absurd s
    go (Err w) s = tt

pub stops_within : (pivots : ℕ) (f : ArithmeticFault) (k : ℕ) (r : Result End Memory) → Stops f k r → IfOk r (EndsWithin pivots)
stops_within pivots f k (Ok (end.Passed i o)) s = tt
stops_within pivots f k (Ok (end.Done i)) s = absurd s
stops_within pivots f k (Ok (end.Open j)) s = tt
stops_within pivots f k (Ok end.PivotsEnded) s = tt
stops_within pivots f k (Err w) s = tt
