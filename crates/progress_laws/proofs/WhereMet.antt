-- An operation that a state keeps as a reason passed on the way to it.
use Rattle.std.proofs.Common.{◌≡◌, ◌⊎◌, inl, inr, None, Some, sym, ◌∙◌}
use Rattle.scen_defs.specs.Program.{Program}
use Rattle.scen_defs.specs.declared.report.Place.TheVariants.{Cut, Cost}
use Rattle.proved_report.specs.declared.open.Open.{Open}
use Rattle.proved_report.specs.declared.open.Open.TheVariants.{Passed}
use Rattle.pass_core.specs.declared.state.State.{State}
use Rattle.pass_core.specs.Reasons.{HasReason}
use Rattle.nested_method.specs.Stands.{SolvesNodes, CutPasses, CostPasses}
use Rattle.nested_method.proofs.Numbers.{cut_arises, cost_arises}
use Rattle.progress_laws.specs.Courses.{GoesFrom, here, by_solves, by_report, IsRunTo, behind_report}
use Rattle.progress_laws.specs.WhereMet.{WasMet, ReasonsWereMet}

module _ (p : Program) (why : Open) (Passes : State → State → Type 0)
    (arise : (old new : State) → SolvesNodes p old new → HasReason new why → HasReason old why ⊎ Passes old new) where
  met : (s : State) (r : IsRunTo p s) (t : State) → GoesFrom p r.first t → HasReason t why → WasMet p Passes t
  met s r t here (inl e) = let q : None ≡ Some why = sym r.opens.stop ∙ e in absurd (cc)
  met s r t here (inr e) = let q : None ≡ Some why = sym r.opens.lasting ∙ e in absurd (cc)
  met s r t (by_solves mid new g x) h = go (arise mid new x h) (met s r mid g)
    where
      go : HasReason mid why ⊎ Passes mid new → (HasReason mid why → WasMet p Passes mid) → WasMet p Passes new
      go (inl k) before = let w : WasMet p Passes mid = before k in
          record { old = w.old; new = w.new; run = w.run; passes = w.passes; behind = by_solves mid new w.behind x }
      go (inr q) before = record {
        old = mid;
        new = new;
        run = record {
          program = r.program;
          few = r.few;
          tree = r.tree;
          walk = r.walk;
          most = r.most;
          first = r.first;
          opens = r.opens;
          goes = g;
        };
        passes = q;
        behind = here;
      }
  met s r t (by_report mid g unstuck) h = go (met s r mid g (kept h))
    where
      kept : HasReason (behind_report mid) why → HasReason mid why
      kept (inl e) = inr e
      kept (inr e) = inr e

      go : WasMet p Passes mid → WasMet p Passes (behind_report mid)
      go w = record { old = w.old; new = w.new; run = w.run; passes = w.passes; behind = by_report mid w.behind unstuck }

pub reasons_were_met : ReasonsWereMet
reasons_were_met = record {
  cut = λ p s k o r h. met p (Passed (Cut k) o) (CutPasses p k o) (λ old new x e. cut_arises p old new k o x e) s r s r.goes h;
  cost = λ p s k o r h. met p (Passed (Cost k) o) (CostPasses p k o) (λ old new x e. cost_arises p old new k o x e) s r s r.goes h;
}
