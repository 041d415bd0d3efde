-- The method is never stuck.
use Rattle.std.proofs.Common.{◌≡◌, ℕ, ◌+◌, ◌<◌, ◌≤◌, ◌^◌, ◌⊎◌, ⊎_elim, inl, inr, None, Some, Ok, length, sym, ap, ◌∙◌, arith}
use Rattle.scen_defs.specs.Program.{Program}
use Rattle.scen_defs.specs.Valid.{IsProgram}
use Rattle.scen_tree.specs.Trees.{Tree, tree_walk}
use Rattle.pass_table.specs.Machine.{Machine}
use Rattle.pass_table.specs.Marks.{nothing}
use Rattle.proved_report.specs.declared.open.Open.TheVariants.{Solves}
use Rattle.pass_core.specs.declared.state.Counts.{Counts}
use Rattle.pass_core.specs.declared.state.State.{State}
use Rattle.pass_core.specs.Desks.{IsDesk}
use Rattle.pass_core.proofs.Moving.{StepsAtDesk, no_solve, new_run, one_turn}
use Rattle.nested_method.specs.Stands.{settled_in}
use Rattle.progress_laws.specs.Courses.{IsOpening, GoesFrom, IsRunTo, NumbersSuffice}
use Rattle.progress_laws.specs.Stuck.{SolvesAreUsed, OpeningsAreMade, NeverStuck}
use Rattle.progress_laws.proofs.Course.{course, beginning_opens}

-- no reason that is kept is that so many solves are told
record KeepsOthers (s : State) : Type 0 where
  stop : (n : ℕ) → s.stop ≡ Some (Solves n) → ⊥
  lasting : (n : ℕ) → s.lasting ≡ Some (Solves n) → ⊥

first_keeps : (p : Program) (most : ℕ) (s : State) → IsOpening p most s → KeepsOthers s
first_keeps p most s b = record {
  stop = λ n e. let q : None ≡ Some (Solves n) = sym b.stop ∙ e in absurd (cc);
  lasting = λ n e. let q : None ≡ Some (Solves n) = sym b.lasting ∙ e in absurd (cc);
}

module _ (solves_are_used : SolvesAreUsed) (openings_are_made : OpeningsAreMade) (p : Program) where
  stepped : (old new : State) (m : Machine) → (r : IsRunTo p old) → NumbersSuffice p old r → settled_in old ≡ None → IsDesk p old m
      → KeepsOthers old → StepsAtDesk p old m new → KeepsOthers new
  stepped old new m r small open_yet table h (no_solve reasons ready) = record {
    stop = λ n e. go n (reasons.stop (Solves n) e);
    lasting = λ n e. lasts n (reasons.lasting (Solves n) e);
  }
    where
      go : (n : ℕ) → ((old.stop ≡ Some (Solves n)) ⊎ (old.lasting ≡ Some (Solves n))) ⊎ ⊥ → ⊥
      go n (inl (inl k)) = h.stop n k
      go n (inl (inr k)) = h.lasting n k
      go n (inr k) = k

      lasts : (n : ℕ) → (old.lasting ≡ Some (Solves n)) ⊎ (⊥ × ⊥) → ⊥
      lasts n (inl k) = h.lasting n k
      lasts n (inr k) = k.1
  stepped old new m r small open_yet table h (new_run tabled made closed earlier opens reasons run puts left) = record {
    stop = λ n e. ⊎_elim (λ k. kept n k)
        (λ k. openings_are_made p old m r.tree r small table open_yet closed earlier r.walk (k.1 r.tree r.walk)) (reasons.stop (Solves n) e);
    lasting = λ n e. ⊎_elim (h.lasting n) (λ k. k.1) (reasons.lasting (Solves n) e);
  }
    where
      kept : (n : ℕ) → (old.stop ≡ Some (Solves n)) ⊎ (old.lasting ≡ Some (Solves n)) → ⊥
      kept n (inl k) = h.stop n k
      kept n (inr k) = h.lasting n k
  stepped old new m r small open_yet table h (one_turn lasts n ready solve) = record {
    stop = λ j e. ⊎_elim (λ k. kept j k) (λ k. solves_are_used p old m lasts n new r small table open_yet solve k.1) (solve.reasons.stop (Solves j) e);
    lasting = λ j e. ⊎_elim (h.lasting j) (λ k. k.1) (solve.reasons.lasting (Solves j) e);
  }
    where
      kept : (j : ℕ) → (old.stop ≡ Some (Solves j)) ⊎ (old.lasting ≡ Some (Solves j)) → ⊥
      kept j (inl k) = h.stop j k
      kept j (inr k) = h.lasting j k

  -- no step counts fewer solves
  step_fewer : (old new : State) (m : Machine) → StepsAtDesk p old m new → new.counts.all < 2 ^ 63 → old.counts.all ≤ new.counts.all
  step_fewer old new m (no_solve reasons ready) small = omega (arith, ap (λ (c : Counts). c.all) reasons.counts)
  step_fewer old new m (new_run tabled made closed earlier opens reasons run puts left) small = omega (arith, ap (λ (c : Counts). c.all) reasons.counts)
  step_fewer old new m (one_turn lasts n ready solve) small = omega (arith, small, ap (λ (c : Counts). c.all) solve.reasons.counts)

  module _ (i : IsProgram p) (few : length p.nodes < nothing) (tree : Tree) (t : tree_walk p ≡ Ok tree) (most : ℕ) (first : State)
      (o : IsOpening p most first) where
    abbrev run_to : (s : State) → GoesFrom p first s → IsRunTo p s
    run_to s g = record { program = i; few = few; tree = tree; walk = t; most = most; first = first; opens = o; goes = g }

    goes_unstuck : (s : State) → GoesFrom p first s → most + s.counts.all < 2 ^ 63 → KeepsOthers s
    goes_unstuck s g = course p first (λ s. most + s.counts.all < 2 ^ 63 → KeepsOthers s)
        (λ budget k b small. first_keeps p most k (beginning_opens p most budget k b))
        (λ mid k m g h open_yet table step keeps all small.
        let less : mid.counts.all ≤ k.counts.all = step_fewer mid k m step (omega (arith, small)) in
        let before : most + mid.counts.all < 2 ^ 63 = omega (arith, less, small) in
        stepped mid k m (run_to mid g) before open_yet table (h before) step)
        (λ mid k m g h f small.
        let all : k.counts.all ≡ mid.counts.all = ap (λ (s : State). s.counts.all) f.others in
        let before : KeepsOthers mid = h (omega (arith, all, small)) in record {
          stop = λ n e. before.stop n (sym (ap (λ (s : State). s.stop) f.others) ∙ e);
          lasting = λ n e. before.lasting n (sym (ap (λ (s : State). s.lasting) f.others) ∙ e);
        })
        (λ mid g h unstuck small. record { stop = (h small).lasting; lasting = (h small).lasting })
        s (λ small. first_keeps p most first o) g

pub never_stuck : SolvesAreUsed → OpeningsAreMade → NeverStuck
never_stuck used opened p s n r small e =
    (goes_unstuck used opened p r.program r.few r.tree r.walk r.most r.first r.opens s r.goes small).stop n e
