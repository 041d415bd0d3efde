-- Behind solves of a program that nothing stopped, and behind those that came to nothing, its run stands.
use Rattle.std.proofs.Common.{◌≡◌, ℕ, ◌<◌, ◌⊎◌, inl, inr, true, false, List, Option, Some, None, Ok, length, slice_index, refl, sym, ap, ap₂, subst, ◌∙◌, arith}
use Rattle.std.proofs.lemmas.List.{length-replicate}
use Rattle.scen_defs.specs.Program.{Program}
use Rattle.scen_defs.specs.Valid.{IsProgram}
use Rattle.scen_defs.specs.declared.report.Kind.{Kind}
use Rattle.scen_defs.specs.declared.report.Kind.TheVariants as run_kind
use Rattle.scen_tree.specs.Trees.{Tree, tree_walk}
use Rattle.cut_banks.specs.declared.banks.Banks.{Banks}
use Rattle.cut_banks.specs.Banks.{pools_of}
use Rattle.cut_banks.specs.Pools.{numbers_of}
use Rattle.node_lp.specs.declared.solved.Solved.{Solved}
use Rattle.node_lp.specs.declared.solved.Solved.TheVariants as solved
use Rattle.crew_turns.specs.Turn.{first_flight, read_by_each, read_each}
use Rattle.crew_turns.proofs.Turning.{turn_reads}
use Rattle.pass_table.specs.Machine.{Machine, IsOpen, IsClosed, IsComplete, begun as begun_by, dropped, opened}
use Rattle.pass_table.specs.Marks.{nothing as no_place}
use Rattle.proved_report.specs.declared.open.Open.{Open}
use Rattle.proved_report.specs.declared.open.Open.TheVariants.{Solves}
use Rattle.node_data.specs.Frames.{Frame, frame_of}
use Rattle.node_data.specs.declared.versions.Version.{Version}
use Rattle.found_ends.specs.declared.last.Last.{Last}
use Rattle.found_ends.specs.declared.last.Lasts.{Lasts}
use Rattle.found_ends.specs.declared.ends.Priced.{Priced}
use Rattle.found_ends.specs.declared.ends.Ends.{Ends}
use Rattle.found_ends.specs.declared.settled.Settled.{Settled}
use Rattle.found_ends.specs.Ends.{no_ends}
use Rattle.found_ends.specs.Settled.{shown, ended, or_case}
use Rattle.pass_core.specs.declared.state.Counts.{Counts}
use Rattle.pass_core.specs.declared.state.State.{State}
use Rattle.pass_core.specs.Counting.{after_report}
use Rattle.pass_core.specs.Left.{KeepsKnown, HaltsBy, OpensRun, next_kind, places_in}
use Rattle.pass_core.specs.Tabled.{Opens, not_opened, is_opened}
use Rattle.pass_core.specs.Desks.{IsDesk}
use Rattle.pass_core.specs.Turns.{AreFirstCuts, PutsFirstCuts, EndsWithout, EndsBy, OpensAnyhow, stays_closed, is_open}
use Rattle.pass_core.proofs.Desks.{desk_at}
use Rattle.pass_core.proofs.Moving.{StepsAtDesk, no_solve, new_run, one_turn}
use Rattle.nested_method.specs.Stands.{settled_in}
use Rattle.progress_laws.specs.Courses.{IsOpening, GoesFrom, IsRunTo}
use Rattle.progress_laws.proofs.Standing.{Known, known_of, HasMember, HasFirstCuts, EndsHold, StandsBy}
use Rattle.progress_laws.proofs.PoolSteps.{AreAt, first_at, puts_there}
use Rattle.progress_laws.proofs.Same.{stands_too, stands_still}
use Rattle.progress_laws.proofs.Moved.{known}
use Rattle.progress_laws.proofs.Begun.{unsolved_stands, unused_unsolved, places_of, IsReadyState, ready_stands}
use Rattle.progress_laws.proofs.Course.{IsForgotten, course, beginning_opens}
use Rattle.progress_laws.proofs.Held.{IsHeld, IsCounted, goes_held, goes_counted}
use Rattle.progress_laws.proofs.Solved.{StandsBehind, solve_stands}

-- by each machine that the state's table fits
pub record IsStanding (p : Program) (tree : Tree) (s : State) : Type 0 where
  pub frame : s.frame ≡ frame_of p
  pub long : s.is_begun ≡ true → length s.lasts.nodes.items ≡ length p.nodes
  pub stands : (m : Machine) → IsDesk p s m → StandsBy p tree (known_of s) m

-- no reason lasts, and the method isn't stuck
pub record IsClear (s : State) : Type 0 where
  pub lasting : s.lasting ≡ None
  pub unstuck : (n : ℕ) → s.stop ≡ Some (Solves n) → ⊥

pub not_stuck : (s : State) (n : ℕ) → IsClear s → (s.stop ≡ None) ⊎ (s.stop ≡ Some (Solves n)) → s.stop ≡ None
not_stuck s n clear (inl stop) = stop
not_stuck s n clear (inr stuck) = absurd (clear.unstuck n stuck)

pub is_clear : (s : State) → (s.stop ≡ None → s.lasting ≡ None) → s.stop ≡ None → IsClear s
is_clear s h stop = record { lasting = h stop; unstuck = λ n e. let q : None ≡ Some (Solves n) = sym stop ∙ e in absurd (cc) }

-- nor did anything stop it before a solve that isn't wanted any more
pub forgotten_clear : (p : Program) (old new : State) (m : Machine) → IsForgotten p old m new → IsClear new → IsClear old
forgotten_clear p old new m f clear = record {
  lasting = sym (ap (λ (s : State). s.lasting) f.others) ∙ clear.lasting;
  unstuck = λ n e. clear.unstuck n (ap (λ (s : State). s.stop) f.others ∙ e);
}

-- a closed run is complete
pub closed_complete : (m : Machine) → IsClosed m → IsComplete m
closed_complete m c n l = let o : IsOpen m n = c n l in (o.0.made, o.1)

-- where a state isn't settled nothing stops it
pub unstopped : (s : State) → settled_in s ≡ None → s.stop ≡ None
unstopped s e = go s.stop refl
  where
    go : (o : Option Open) → s.stop ≡ o → s.stop ≡ None
    go None q = q
    go (Some why) q =
        let z : or_case (shown s.kind s.table.closed s.ends) (ended (Some why) s.counts.since_report s.budget.solves) ≡ None
        = subst (λ (o : Option Open). or_case (shown s.kind s.table.closed s.ends) (ended o s.counts.since_report s.budget.solves) ≡ None) q e in
        by (shown s.kind s.table.closed s.ends) z
      where
        by : (c : Option Settled) → or_case c (Some Rattle.found_ends.specs.declared.settled.Settled.TheVariants.Stopped) ≡ None → s.stop ≡ None
        by (Some c) z = absurd (cc)
        by None z = absurd (cc)

module _ (p : Program) (tree : Tree) (i : IsProgram p) (few : length p.nodes < no_place) (t : tree_walk p ≡ Ok tree) where
  none_hold : EndsHold p no_ends
  none_hold = record { upper = tt; lower = tt }

  begun : (most : ℕ) (s : State) → IsOpening p most s → IsStanding p tree s
  begun most s b = record {
    frame = b.frame;
    long = λ e. let q : true ≡ false = sym e ∙ b.is_begun in absurd (cc);
    stands = λ m table. unsolved_stands p tree (known_of s) m i (unused_unsolved p s m i b.frame table b.is_begun) table.machine.live
        (subst (EndsHold p) (sym b.ends) none_hold) (λ ne. absurd (ne b.kind)) (λ ne. absurd (ne b.kind));
  }

  -- places for last solves don't touch the table
  pub with_places : (s : State) (lasts : Lasts) (m : Machine) → IsDesk p s m → IsDesk p (record s { lasts = lasts }) m
  with_places s lasts m h = record {
    valid = h.valid;
    fits = h.fits;
    idle = h.idle;
    machine = record { live = h.machine.live; parent = h.machine.parent; number = h.machine.number };
    pools = h.pools;
    unused = h.unused;
  }

  -- what stands doesn't rest on what stops the method, nor on counts
  at_rest : (s : State) (stop : Option Open) (counts : Counts) → IsStanding p tree s → IsStanding p tree (record s { stop = stop; counts = counts })
  at_rest s stop counts h = record {
    frame = h.frame;
    long = h.long;
    stands = λ m table. h.stands m (record {
      valid = table.valid;
      fits = table.fits;
      idle = table.idle;
      machine = record { live = table.machine.live; parent = table.machine.parent; number = table.machine.number };
      pools = table.pools;
      unused = table.unused;
    });
  }

  stands_at_rest : (old new : State) → new ≡ record old { stop = new.stop } → IsStanding p tree old → IsStanding p tree new
  stands_at_rest old new e h = subst (IsStanding p tree) (sym e) (at_rest old new.stop old.counts h)

  -- ---- a step
  same_known : (a : Kind) (b : Frame) (c : List Version) (d : List (Option Last)) (e : Banks) (f : Ends) (a' : Kind) (b' : Frame)
      (c' : List Version) (d' : List (Option Last)) (e' : Banks) (f' : Ends)
      → a' ≡ a → b' ≡ b → c' ≡ c → d' ≡ d → e' ≡ e → f' ≡ f → known a' b' c' d' e' f' ≡ known a b c d e f
  same_known a b c d e f a' b' c' d' e' f' q r s t u v = cc

  -- the opening of a run, where nothing stops the method
  module _ (old new : State) (m : Machine) (h : IsStanding p tree old) (table : IsDesk p old m) (closed : IsClosed m) (stop : new.stop ≡ None)
      (o : OpensRun old new) (first : PutsFirstCuts p tree old new) where
    at : AreAt 0 first.cuts
    at = first_at (next_kind old.kind) p tree old.versions first.dual first.cuts first.are

    go_grounds : HasFirstCuts p tree (known_of new)
    go_grounds = record {
      dual = first.dual;
      cuts = first.cuts;
      are = subst (λ (k : Kind). AreFirstCuts k p tree new.versions first.dual first.cuts) (sym o.kind)
          (subst (λ (v : List Version). AreFirstCuts (next_kind old.kind) p tree v first.dual first.cuts) (sym o.versions) first.are);
      placed = λ n cut e low. subst (λ (k : Kind). HasMember (pools_of k new.banks) n (λ c. c ≡ cut)) (sym o.kind)
          (subst (λ (b : Banks). HasMember (pools_of (next_kind old.kind) b) n (λ c. c ≡ cut)) (sym first.banks)
          (puts_there (next_kind old.kind) 0 first.cuts old.banks at first.can n n cut e (omega arith) low));
    }

    -- a Feasible run that is closed leaves a policy, and the others have one
    go_policy : (k : Kind) → old.kind ≡ k → (u : Priced) × (new.ends.upper ≡ Some u)
    go_policy run_kind.Feasible e =
        let c = ((h.stands m table).complete (closed_complete m closed)).upper (λ q. let z : run_kind.Feasible ≡ run_kind.Recession = sym e ∙ q in absurd (cc)) in
        (c.0, ap (λ (x : Ends). x.upper) o.ends ∙ c.1.0)
    go_policy run_kind.Recession e =
        let u = (h.stands m table).policy (λ q. let z : run_kind.Recession ≡ run_kind.Feasible = sym e ∙ q in absurd (cc)) in
        (u.0, ap (λ (x : Ends). x.upper) o.ends ∙ u.1)
    go_policy run_kind.Cost e =
        let u = (h.stands m table).policy (λ q. let z : run_kind.Cost ≡ run_kind.Feasible = sym e ∙ q in absurd (cc)) in
        (u.0, ap (λ (x : Ends). x.upper) o.ends ∙ u.1)

    run_opens : Opens p m new → IsStanding p tree new
    run_opens (not_opened stops fits) = absurd (stops stop)
    run_opens (is_opened number fits) = record {
      frame = o.frame ∙ h.frame;
      long = λ e. ap length o.lasts ∙ length-replicate (places_in new.frame) None ∙ ap places_in (o.frame ∙ h.frame) ∙ places_of p few;
      stands = λ k other. stands_too p tree new (opened m number) k (desk_at p new (opened m number) fits) other
          (unsolved_stands p tree (known_of new) (opened m number) i (λ n. refl) fits.machine.live
          (subst (EndsHold p) (sym o.ends) (let e : EndsHold p old.ends = (h.stands m table).ends in record { upper = e.upper; lower = e.lower }))
          (λ ne. go_policy old.kind refl) (λ ne. go_grounds));
    }

  stepped : (old new : State) (m : Machine) → IsStanding p tree old → IsDesk p old m → StepsAtDesk p old m new → old.stop ≡ None → IsClear new
      → IsStanding p tree new
  stepped old new m h table (no_solve reasons ready) before clear =
      let r : IsReadyState p tree old new.lasts m = ready_stands p tree old new.lasts m i few h.frame table (h.stands m table) h.long ready.ready in
      let same : known_of new ≡ known_of (record old { lasts = new.lasts })
      = same_known old.kind old.frame old.versions new.lasts.nodes.items old.banks old.ends new.kind new.frame new.versions new.lasts.nodes.items
      new.banks new.ends ready.run.kind ready.run.frame ready.run.versions refl ready.banks ready.ends in
      record {
        frame = ready.run.frame ∙ h.frame;
        long = λ e. r.long;
        stands = λ k fits. stands_too p tree new m k ready.tabled fits (subst (λ (w : Known). StandsBy p tree w m) (sym same) r.stands);
      }
  stepped old new m h table (new_run tabled made closed earlier opens reasons run puts left) before clear = by left
    where
      by : OpensAnyhow p old new → IsStanding p tree new
      by (stays_closed e) = stands_at_rest old new e h
      by (is_open o gets halts) =
          let stop : new.stop ≡ None = not_stuck new old.budget.solves clear (halts before) in
          run_opens old new m h table closed stop (run stop) (puts tree t stop) opens
  stepped old new m h table (one_turn lasts n ready solve) before clear = by solve.all solve.anyhow.halts solve.ends.way
    where
      r : IsReadyState p tree old lasts m
      r = ready_stands p tree old lasts m i few h.frame table (h.stands m table) h.long ready

      found : new.stop ≡ None → IsStanding p tree new
      found stop =
          let b : StandsBehind p tree new
          = solve_stands p tree i t (record old { lasts = lasts }) new m n h.frame (with_places old lasts m table) r.long r.stands solve stop in
          record {
            frame = b.frame;
            long = λ e. b.long;
            stands = λ k fits. stands_too p tree new b.machine k b.tabled fits b.stands;
          }

      -- where it comes to nothing, all that is known stays
      nothing : KeepsKnown (record old { lasts = lasts }) new → EndsWithout 0
          (read_each (begun_by m 0 solve.ends.turn.node) (first_flight m solve.ends.turn.node) solve.ends.turn.children)
          (read_by_each m.number (first_flight m solve.ends.turn.node) solve.ends.turn.children) solve.ends.turn.added solve.ends.machine
          → IsStanding p tree new
      nothing kept (none, e) =
          let reads = turn_reads m solve.ends.turn.node solve.ends.turn.children table.valid table.idle solve.ends.turn.may in
          let same : known_of new ≡ known_of (record old { lasts = lasts })
          = same_known old.kind old.frame old.versions lasts.nodes.items old.banks old.ends new.kind new.frame new.versions new.lasts.nodes.items
          new.banks new.ends solve.stays.kind solve.stays.frame solve.stays.versions kept.lasts kept.banks kept.ends in
          let stands : StandsBy p tree (known_of new) solve.ends.machine = subst (λ (w : Known). StandsBy p tree w solve.ends.machine) (sym same)
          (stands_still p tree (known_of (record old { lasts = lasts })) m solve.ends.machine (ap (λ (j : Machine). j.live) e ∙ reads.live)
          (ap (λ (j : Machine). j.parent) e ∙ reads.parent) (ap (λ (j : Machine). j.last) e ∙ reads.last)
          (λ j. solve.ends.tabled.machine.number j
          ∙ ap₂ (λ (kind : Kind) (banks : Banks). slice_index (numbers_of (pools_of kind banks)) j) solve.stays.kind kept.banks
          ∙ sym (table.machine.number j)) r.stands) in
          record {
            frame = solve.stays.frame ∙ h.frame;
            long = λ e. ap length kept.lasts ∙ r.long;
            stands = λ k fits. stands_too p tree new solve.ends.machine k solve.ends.tabled fits stands;
          }

      by : (all : Solved) → HaltsBy all (record old { lasts = lasts }) new → EndsBy 0 solve.task.trial all
          (read_each (begun_by m 0 solve.ends.turn.node) (first_flight m solve.ends.turn.node) solve.ends.turn.children)
          (read_by_each m.number (first_flight m solve.ends.turn.node) solve.ends.turn.children) solve.ends.turn.added solve.ends.machine
          → IsStanding p tree new
      by (solved.Point x value cut) halts way = found (not_stuck new old.budget.solves clear (halts before clear.lasting))
      by (solved.NoPoint cut) halts way = found (not_stuck new old.budget.solves clear (halts before clear.lasting))
      by solved.Loose halts way = nothing halts way
      by solved.PivotsEnded halts way = nothing halts way
      by (solved.Passed in_cut o) halts way = nothing halts way
      by solved.NotGood halts way = nothing halts way

  -- a solve that isn't wanted any more
  forgotten_stands : (old new : State) (m : Machine) → IsStanding p tree old → IsForgotten p old m new → IsStanding p tree new
  forgotten_stands old new m h f = record {
    frame = ap (λ (s : State). s.frame) f.others ∙ h.frame;
    long = λ e. ap (λ (s : State). length s.lasts.nodes.items) f.others ∙ h.long (sym (ap (λ (s : State). s.is_begun) f.others) ∙ e);
    stands = λ k fits. stands_too p tree new (dropped m 0) k f.behind fits
        (subst (λ (w : Known). StandsBy p tree w (dropped m 0)) (sym (ap (λ (s : State). known_of s) f.others))
        (stands_still p tree (known_of old) m (dropped m 0) refl refl refl (λ n. refl) (h.stands m f.desk)));
  }

  -- ---- all steps
  -- while nothing stops the method no reason lasts
  step_lasting : (old new : State) (m : Machine) → StepsAtDesk p old m new → (old.stop ≡ None → old.lasting ≡ None)
      → old.stop ≡ None → new.stop ≡ None → new.lasting ≡ None
  step_lasting old new m (no_solve reasons ready) h before stop = go new.lasting refl
    where
      go : (o : Option Open) → new.lasting ≡ o → new.lasting ≡ None
      go None e = e
      go (Some why) e = elim (reasons.lasting why e) [
        | inl k ↦ let q : None ≡ Some why = sym (h before) ∙ k in absurd (cc)
        | inr k ↦ absurd k.0
      ]
  step_lasting old new m (new_run tabled made closed earlier opens reasons run puts left) h before stop = by left
    where
      by : OpensAnyhow p old new → new.lasting ≡ None
      by (stays_closed e) = ap (λ (s : State). s.lasting) e ∙ h before
      by (is_open o gets halts) = o.lasting
  step_lasting old new m (one_turn lasts n ready solve) h before stop = solve.anyhow.lasting stop ∙ h before

  pub goes_lasting : (most : ℕ) (first s : State) → IsOpening p most first → GoesFrom p first s → s.stop ≡ None → s.lasting ≡ None
  goes_lasting most first s o g = course p first (λ s. s.stop ≡ None → s.lasting ≡ None) (λ budget k b stop. b.lasting)
      (λ mid k m g h open_yet table step keeps all stop. step_lasting mid k m step h (unstopped mid open_yet) stop)
      (λ mid k m g h f stop. ap (λ (s : State). s.lasting) f.others ∙ h (sym (ap (λ (s : State). s.stop) f.others) ∙ stop))
      (λ mid g h unstuck stop. stop) s (λ stop. o.lasting) g

  pub goes_stand : (most : ℕ) (first s : State) → IsOpening p most first → GoesFrom p first s → IsClear s → IsStanding p tree s
  goes_stand most first s o g = course p first (λ s. IsClear s → IsStanding p tree s)
      (λ budget k b clear. begun most k (beginning_opens p most budget k b))
      (λ mid k m g h open_yet table step keeps all clear.
      let stop : mid.stop ≡ None = unstopped mid open_yet in
      stepped mid k m (h (is_clear mid (goes_lasting most first mid o g) stop)) table step stop clear)
      (λ mid k m g h f clear. forgotten_stands mid k m (h (forgotten_clear p mid k m f clear)) f)
      (λ mid g h unstuck clear. at_rest mid mid.lasting (after_report mid.counts) (h (record { lasting = clear.lasting; unstuck = unstuck })))
      s (λ clear. begun most first o) g

-- ---- of a run
-- where nothing stops it a run is clear
pub run_clear : (p : Program) (s : State) → IsRunTo p s → s.stop ≡ None → IsClear s
run_clear p s r stop = is_clear s (goes_lasting p r.tree r.program r.few r.walk r.most r.first s r.opens r.goes) stop

pub run_stands : (p : Program) (s : State) (r : IsRunTo p s) → s.stop ≡ None → IsStanding p r.tree s
run_stands p s r stop = goes_stand p r.tree r.program r.few r.walk r.most r.first s r.opens r.goes (run_clear p s r stop)

pub run_held : (p : Program) (s : State) (r : IsRunTo p s) → IsHeld p r.most s
run_held p s r = goes_held p r.most r.program r.tree r.walk r.first s r.opens r.goes

pub run_counted : (p : Program) (s : State) → IsRunTo p s → IsCounted p s
run_counted p s r = goes_counted p r.most r.program r.tree r.walk r.first s r.opens r.goes
