-- There is room for the number of another solve, and of another run.
use Rattle.std.proofs.Common.{◌≡◌, ℕ, ◌+◌, ◌≤◌, ◌<◌, ◌^◌, None, Ok, length, refl, sym, ap, ◌∙◌, arith}
use Rattle.scen_defs.specs.Program.{Program}
use Rattle.scen_defs.specs.Valid.{IsProgram}
use Rattle.scen_defs.specs.declared.report.Kind.{Kind}
use Rattle.scen_defs.specs.declared.report.Kind.TheVariants.{Feasible, Recession, Cost}
use Rattle.scen_tree.specs.Trees.{Tree, tree_walk}
use Rattle.pass_table.specs.Machine.{Machine, dropped, opened}
use Rattle.pass_table.specs.Marks.{nothing}
use Rattle.pass_core.specs.declared.state.State.{State}
use Rattle.pass_core.specs.Left.{OpensRun, next_kind}
use Rattle.pass_core.specs.Tabled.{HasRoom, Opens, not_opened, is_opened}
use Rattle.crew_turns.proofs.Beside.{fit_besides}
use Rattle.pass_core.specs.Desks.{IsDesk}
use Rattle.pass_core.proofs.Desks.{desk_at}
use Rattle.pass_core.specs.Turns.{OpensAnyhow, stays_closed, is_open}
use Rattle.pass_core.proofs.Moving.{StepsAtDesk, no_solve, new_run, one_turn}
use Rattle.nested_method.specs.Stands.{settled_in}
use Rattle.progress_laws.specs.Courses.{IsOpening, GoesFrom, IsRunTo, NumbersSuffice}
use Rattle.progress_laws.proofs.Standing.{runs_before}
use Rattle.progress_laws.proofs.Begun.{unused_counts}
use Rattle.progress_laws.proofs.Course.{IsForgotten, course, beginning_opens}
use Rattle.progress_laws.proofs.Held.{tabled_before}
use Rattle.progress_laws.proofs.Kept.{IsClear, is_clear, forgotten_clear, not_stuck, unstopped, goes_lasting, run_clear, run_counted}
use Rattle.progress_laws.proofs.Turned.{turn_run}

module _ (p : Program) (i : IsProgram p) where
  -- at most one run of each kind was opened
  record IsEarly (s : State) : Type 0 where
    most : (m : Machine) → IsDesk p s m → m.run ≤ 1 + runs_before s.kind

  first_early : (most : ℕ) (s : State) → IsOpening p most s → IsEarly s
  first_early most s b = record {
    most = λ m table. let z : m.run ≡ 1 = (unused_counts p s m i b.frame table b.is_begun).1 in omega (arith, z);
  }

  same_runs : (s : State) (m k : Machine) → IsDesk p s m → IsDesk p s k → m.run ≡ k.run
  same_runs s m k tm tk = sym (fit_besides.run s.table m tm.fits) ∙ fit_besides.run s.table k tk.fits

  one_later : (k : Kind) → (k ≡ Cost → ⊥) → runs_before (next_kind k) ≡ runs_before k + 1
  one_later Feasible earlier = refl
  one_later Recession earlier = refl
  one_later Cost earlier = absurd (earlier refl)

  step_early : (old new : State) (m : Machine) → IsEarly old → IsDesk p old m → StepsAtDesk p old m new → old.stop ≡ None → IsClear new → IsEarly new
  step_early old new m h table (no_solve reasons ready) before clear = record {
    most = λ k t. omega (arith, h.most m table, same_runs new m k ready.tabled t, ap runs_before ready.run.kind);
  }
  step_early old new m h table (new_run tabled made closed earlier opens reasons run puts left) before clear = by left
    where
      go : OpensRun old new → new.stop ≡ None → Opens p m new → IsEarly new
      go o stop (not_opened stops fits) = absurd (stops stop)
      go o stop (is_opened number fits) = record {
        most = λ k t. omega (arith, h.most m table, same_runs new (opened m number) k (desk_at p new (opened m number) fits) t, ap runs_before o.kind, one_later old.kind earlier);
      }

      by : OpensAnyhow p old new → IsEarly new
      by (stays_closed e) = record {
        most = λ k t.
            let run : m.run ≡ k.run = sym (fit_besides.run old.table m table.fits) ∙ ap (λ (s : State). s.table.run) (sym e) ∙ fit_besides.run new.table k t.fits in
            omega (arith, h.most m table, run, ap (λ (s : State). runs_before s.kind) e);
      }
      by (is_open o gets halts) =
          let stop : new.stop ≡ None = not_stuck new old.budget.solves clear (halts before) in go (run stop) stop opens
  step_early old new m h table (one_turn lasts n ready solve) before clear = record {
    most = λ k t. omega (
      arith,
      h.most m table,
      same_runs new solve.ends.machine k solve.ends.tabled t,
      turn_run m solve.ends.machine table.valid table.idle solve.ends.turn,
      ap runs_before solve.stays.kind,
    );
  }

  forgotten_early : (old new : State) (m : Machine) → IsEarly old → IsForgotten p old m new → IsEarly new
  forgotten_early old new m h f = record {
    most = λ k t. omega (arith, h.most m f.desk, same_runs new (dropped m 0) k f.behind t, ap (λ (s : State). runs_before s.kind) f.others);
  }

  goes_early : (tree : Tree) (few : length p.nodes < nothing) (t : tree_walk p ≡ Ok tree) (most : ℕ) (first s : State) → IsOpening p most first
      → GoesFrom p first s → IsClear s → IsEarly s
  goes_early tree few t most first s o g = course p first (λ s. IsClear s → IsEarly s)
      (λ budget k b clear. first_early most k (beginning_opens p most budget k b))
      (λ mid k m g h open_yet table step keeps all clear.
      let stop : mid.stop ≡ None = unstopped mid open_yet in
      step_early mid k m (h (is_clear mid (goes_lasting p tree i few t most first mid o g) stop)) table step stop clear)
      (λ mid k m g h f clear. forgotten_early mid k m (h (forgotten_clear p mid k m f clear)) f)
      (λ mid g h unstuck clear.
      let q : IsEarly mid = h (record { lasting = clear.lasting; unstuck = unstuck }) in record { most = λ m fits. q.most m (tabled_before p mid m fits) })
      s (λ clear. first_early most first o) g

  at_most_two : (k : Kind) → runs_before k ≤ 2
  at_most_two Feasible = omega arith
  at_most_two Recession = omega arith
  at_most_two Cost = omega arith

pub has_room : (p : Program) (s : State) (r : IsRunTo p s) → NumbersSuffice p s r → settled_in s ≡ None → (m : Machine) → IsDesk p s m → HasRoom m
has_room p s r small open_yet m table =
    let clear : IsClear s = run_clear p s r (unstopped s open_yet) in
    let all : s.counts.all < 2 ^ 63 = omega (arith, small) in
    let c : m.commits ≤ 2 ^ 62 + s.counts.all = (run_counted p s r).most all m table in
    let e : IsEarly p r.program s = goes_early p r.program r.tree r.few r.walk r.most r.first s r.opens r.goes clear in
    (omega (arith, c, all), omega (arith, e.most m table, at_most_two p r.program s.kind))
