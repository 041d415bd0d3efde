-- What a run that nothing stops keeps of what its findings rest on: the multipliers of its cuts are forms, its policies fit the program, and
-- its direction is a point of the recession.
use Rattle.std.proofs.Common.{◌≡◌, ℕ, zero, suc, ◌<◌, Bool, true, false, List, Option, Some, None, Ok, IfSome, length, replicate, refl, sym, ap, subst, ◌∙◌}
use Rattle.rationals.specs.Rational.{ℚ, zero_ℚ, ◌<ℚ◌}
use Rattle.scen_defs.specs.Lists.{passes_at}
use Rattle.scen_defs.specs.Program.{Program, is_live, view_of}
use Rattle.scen_defs.specs.Flat.{Feasible, cost}
use Rattle.scen_defs.specs.Values.{at}
use Rattle.scen_defs.specs.Valid.{IsProgram, Lives}
use Rattle.scen_defs.specs.declared.report.Kind.{Kind}
use Rattle.scen_defs.specs.declared.report.Kind.TheVariants as run_kind
use Rattle.scen_model.specs.Derived.{all_fit}
use Rattle.scen_tree.specs.Trees.{Tree, tree_walk}
use Rattle.rationals.specs.Sparse.{Entry}
use Rattle.cut_defs.specs.Stored.{Source, Stored, StoredUses}
use Rattle.cut_defs.specs.Stored.Stored.{Stored_of}
use Rattle.cut_defs.specs.Stored.StoredUses.{No_stored, Use_stored}
use Rattle.edit_defs.specs.Data.{view_in}
use Rattle.joined_laws.specs.Rows.{HasForms, AllHaveForms}
use Rattle.joined_laws.proofs.Points.{policies_fit}
use Rattle.node_lp.specs.declared.solved.Solved.{Solved}
use Rattle.node_lp.specs.declared.solved.Solved.TheVariants as solved
use Rattle.node_lp.specs.Answers.{value_at_trial, IsAnswer, RayAnswer}
use Rattle.pass_table.specs.Machine.{Machine, opened}
use Rattle.pass_table.specs.Marks.{nothing}
use Rattle.node_data.specs.declared.versions.Version.{Version}
use Rattle.found_ends.specs.declared.last.Last.{Last}
use Rattle.found_ends.specs.declared.last.Lasts.{Lasts}
use Rattle.found_ends.specs.declared.ends.Priced.{Priced}
use Rattle.found_ends.specs.declared.ends.Bounded.{Bounded}
use Rattle.found_ends.specs.declared.ends.Ends.{Ends}
use Rattle.found_ends.specs.Ends.{no_ends, after_policy}
use Rattle.found_ends.specs.Lasts.{last_at, with_last, joined_points}
use Rattle.pass_core.specs.declared.state.State.{State}
use Rattle.pass_core.specs.Explained.{cut_given}
use Rattle.pass_core.specs.Left.{KeepsKnown, HaltsBy, ends_behind, ends_without, TakesComplete, LeavesPoint, LeavesNone, LeavesBy, places_in}
use Rattle.pass_core.specs.Tabled.{Opens, not_opened, is_opened}
use Rattle.crew_turns.proofs.Beside.{fit_besides}
use Rattle.pass_core.specs.Desks.{IsDesk}
use Rattle.pass_core.specs.Turns.{AreReady, SolvesAtDesk, OpensAnyhow, stays_closed, is_open}
use Rattle.pass_core.proofs.Desks.{desk_at}
use Rattle.pass_core.proofs.Moving.{StepsAtDesk, no_solve, new_run, one_turn}
use Rattle.joined_laws.specs.Points.{AllMeet}
use Rattle.joined_laws.proofs.Policies.{policies_join}
use Rattle.joined_laws.proofs.Costs.{joined_points_cost}
use Rattle.kept_cut_laws.specs.Kept.{EachRecord, EachUsed, IsUpToDate, IsCutNow}
use Rattle.kept_cut_laws.proofs.Solves.{solves_give_cuts}
use Rattle.progress_laws.specs.Courses.{IsOpening, GoesFrom, by_solves, IsRunTo}
use Rattle.progress_laws.proofs.Standing.{known_of, ShowsNone, EndsHold, StandsBy}
use Rattle.pass_core.proofs.Apart.{last_other, IsKept, kept_is}
use Rattle.progress_laws.proofs.Ends.{cheaper_holds, greater_holds}
use Rattle.progress_laws.proofs.Policies.{all_meet}
use Rattle.progress_laws.proofs.Solved.{plain_value, no_trial}
use Rattle.progress_laws.proofs.Course.{course, beginning_opens}
use Rattle.progress_laws.proofs.Held.{IsHeld, solve_lives, goes_held}
use Rattle.progress_laws.proofs.Kept.{IsClear, is_clear, forgotten_clear, not_stuck, IsStanding, unstopped, goes_lasting, goes_stand, run_clear}

-- ---- the cuts
-- the multipliers of the records of a cut that is up to date are forms
mutual
  forms_of : (p : Program) (versions : List Version) (cut : Stored) → EachRecord (IsUpToDate p versions) cut → HasForms cut
  forms_of p versions (Stored_of s uses constant form) h = (h.0.form, all_forms p versions uses h.1)

  all_forms : (p : Program) (versions : List Version) (uses : StoredUses) → EachUsed (IsUpToDate p versions) uses → AllHaveForms uses
  all_forms p versions No_stored h = tt
  all_forms p versions (Use_stored weight cut uses) h = (forms_of p versions cut h.0, all_forms p versions uses h.1)

-- ---- the last solves
-- no node that isn't live has one
abbrev pub OnlyLive : Program → List (Option Last) → Type 0
OnlyLive p lasts = (n : ℕ) → passes_at is_live n p.nodes ≡ false → last_at lasts n ≡ None

no_last : (k n : ℕ) → last_at (replicate k None) n ≡ None
no_last zero n = refl
no_last (suc k) zero = refl
no_last (suc k) (suc n) = no_last k n

with_last_live : (p : Program) (lasts : List (Option Last)) (n : ℕ) (x : Option Last) → Lives p n → OnlyLive p lasts → OnlyLive p (with_last lasts n x)
with_last_live p lasts n x l h j dead =
    last_other lasts n x j (λ e. let q : true ≡ false = sym l ∙ ap (λ k. passes_at is_live k p.nodes) (sym e) ∙ dead in absurd (cc)) ∙ h j dead

ready_live : (p : Program) (s : State) (lasts : Lasts) → AreReady s lasts → OnlyLive p s.lasts.nodes.items → OnlyLive p lasts.nodes.items
ready_live p s lasts ready h = go s.is_begun refl
  where
    go : (b : Bool) → s.is_begun ≡ b → OnlyLive p lasts.nodes.items
    go true e = subst (λ (l : Lasts). OnlyLive p l.nodes.items) (sym (ready.same e)) h
    go false e = subst (OnlyLive p) (sym (ready.none e)) (λ n dead. no_last (places_in s.frame) n)

-- ---- the ends
-- a policy of the recession that fits the program, and costs this there
pub record Recedes (p : Program) (d : Priced) : Type 0 where
  pub fits : all_fit p false d.policy ≡ true
  pub feasible : Feasible (view_in run_kind.Recession p) (at d.policy)
  pub costs : cost (view_of p) (at d.policy) ≡ d.cost

-- the cut of the root shows that there is no point, and its multipliers are forms
pub record ShowsByForms (cut : Stored) : Type 0 where
  pub forms : HasForms cut
  pub shows : ShowsNone cut

abbrev pub FitsPolicy : Program → Priced → Type 0
FitsPolicy p u = all_fit p false u.policy ≡ true

pub record EndsShow (p : Program) (e : Ends) : Type 0 where
  pub upper : IfSome e.upper (FitsPolicy p)
  pub direction : IfSome e.direction (Recedes p)
  pub lower : IfSome e.lower (λ (l : Bounded). HasForms l.cut)
  pub nowhere : IfSome e.nowhere ShowsByForms
  pub root : IfSome e.root HasForms

show_at : (p : Program) (kind : Kind) (n : ℕ) (value : ℚ) (cut : Option Stored) (e : Ends) → IfSome cut HasForms → EndsShow p e
    → EndsShow p (ends_behind kind n value cut e)
show_at p kind zero value None e f h = h
show_at p run_kind.Feasible zero value (Some cut) e f h = record { upper = h.upper; direction = h.direction; lower = h.lower; nowhere = h.nowhere; root = f }
show_at p run_kind.Recession zero value (Some cut) e f h = record { upper = h.upper; direction = h.direction; lower = h.lower; nowhere = h.nowhere; root = f }
show_at p run_kind.Cost zero value (Some cut) e f h = record {
  upper = h.upper;
  direction = h.direction;
  lower = greater_holds (λ (l : Bounded). HasForms l.cut) e.lower (record { value = value; cut = cut }) h.lower f;
  nowhere = h.nowhere;
  root = f;
}
show_at p kind (suc n) value cut e f h = h

show_policy : (p : Program) (kind : Kind) (e : Ends) (u : Priced) → FitsPolicy p u → (kind ≡ run_kind.Recession → Recedes p u) → EndsShow p e
    → EndsShow p (after_policy kind e u)
show_policy p run_kind.Feasible e u f r h = record {
  upper = cheaper_holds (FitsPolicy p) e.upper u h.upper f;
  direction = h.direction;
  lower = h.lower;
  nowhere = h.nowhere;
  root = h.root;
}
show_policy p run_kind.Recession e u f r h = record { upper = h.upper; direction = r refl; lower = h.lower; nowhere = h.nowhere; root = h.root }
show_policy p run_kind.Cost e u f r h = record {
  upper = cheaper_holds (FitsPolicy p) e.upper u h.upper f;
  direction = h.direction;
  lower = h.lower;
  nowhere = h.nowhere;
  root = h.root;
}

show_without : (p : Program) (n : ℕ) (cut : Stored) (e : Ends) → HasForms cut → (n ≡ 0 → ShowsNone cut) → EndsShow p e
    → EndsShow p (ends_without n cut e)
show_without p zero cut e f s h = record { upper = h.upper; direction = h.direction; lower = h.lower; nowhere = record { forms = f; shows = s refl }; root = h.root }
show_without p (suc n) cut e f s h = h

-- ---- a state
pub record IsShowing (p : Program) (s : State) : Type 0 where
  pub lasts : OnlyLive p s.lasts.nodes.items
  pub ends : EndsShow p s.ends

nothing_shown : (p : Program) → EndsShow p no_ends
nothing_shown p = record { upper = tt; direction = tt; lower = tt; nowhere = tt; root = tt }

showing_first : (p : Program) (most : ℕ) (s : State) → IsOpening p most s → IsShowing p s
showing_first p most s b = record {
  lasts = subst (OnlyLive p) (sym b.points) (λ n dead. refl);
  ends = subst (EndsShow p) (sym b.ends) (nothing_shown p);
}

module _ (p : Program) (tree : Tree) (i : IsProgram p) (few : length p.nodes < nothing) (t : tree_walk p ≡ Ok tree) (most : ℕ) where
  -- behind a solve
  module _ (old new : State) (lasts : Lasts) (m : Machine) (n : ℕ) (before : OnlyLive p lasts.nodes.items) (shown : EndsShow p old.ends)
      (held : IsHeld p most old) (standing : IsStanding p tree new) (table : IsDesk p old m)
      (solve : SolvesAtDesk p (record old { lasts = lasts }) m n new) where
    live : Lives p n
    live = solve_lives p old new lasts m n table solve

    given_forms : (o : Option Stored) → IfSome o (IsCutNow p old.versions n) → IfSome o HasForms
    given_forms None h = tt
    given_forms (Some cut) h = forms_of p old.versions cut h.records

    told_forms : IfSome (cut_given solve.all) HasForms
    told_forms = given_forms (cut_given solve.all) (solves_give_cuts p (record old { lasts = lasts }) n held.count solve.task solve.all i live held.frame
        solve.is_task solve.fits solve.told solve.answer held.kept)

    stands : StandsBy p tree (known_of new) solve.ends.machine
    stands = standing.stands solve.ends.machine solve.ends.tabled

    meets : new.table.complete ≡ true → AllMeet old.kind p new.lasts.nodes.items
    meets e = subst (λ (k : Kind). AllMeet k p new.lasts.nodes.items) solve.stays.kind
        (all_meet p i (known_of new) solve.ends.machine standing.frame solve.ends.tabled.machine.live stands.lasts
        ((fit_besides.complete new.table solve.ends.machine solve.ends.tabled.fits).0 e))

    policy_shows : (b : Bool) → new.table.complete ≡ b → (middle : Ends) → OnlyLive p new.lasts.nodes.items → EndsShow p middle
        → TakesComplete b p tree old.kind new.lasts.nodes.items middle new.ends → EndsShow p new.ends
    policy_shows false e middle only g q = subst (EndsShow p) (sym q) g
    policy_shows true e middle only g q =
        let found : Priced = record { cost = q.cost; policy = joined_points new.lasts.nodes.items } in
        let fits : FitsPolicy p found = policies_fit old.kind p new.lasts.nodes.items i (meets e) only in
        subst (EndsShow p) (sym q.ends) (show_policy p old.kind middle found fits (λ z. record {
          fits = fits;
          feasible = subst (λ (k : Kind). Feasible (view_in k p) (at (joined_points new.lasts.nodes.items))) z
              (policies_join old.kind p new.lasts.nodes.items i (meets e));
          costs = sym (joined_points_cost old.kind p new.lasts.nodes.items tree q.cost i (meets e) t q.costs);
        }) g)

    point_shows : (x : List Entry) (value : ℚ) (cut : Option Stored) → IfSome cut HasForms
        → LeavesPoint p tree n solve.task.trial x value cut (record old { lasts = lasts }) new → IsShowing p new
    point_shows x value cut f left =
        let keeps : IsKept lasts.nodes.items new.lasts.nodes.items n solve.task.trial x
        = kept_is lasts.nodes.items new.lasts.nodes.items n solve.task.trial x left.lasts in
        let only : OnlyLive p new.lasts.nodes.items
        = subst (OnlyLive p) keeps.is (with_last_live p lasts.nodes.items n (Some (record { point = x; along = keeps.along })) live before) in
        record {
          lasts = only;
          ends = policy_shows new.table.complete refl (ends_behind old.kind n value cut old.ends) only
              (show_at p old.kind n value cut old.ends f shown) left.ends;
        }

    none_shows : (cut : Stored) → HasForms cut → RayAnswer solve.task cut → LeavesNone n solve.task.trial cut (record old { lasts = lasts }) new
        → IsShowing p new
    none_shows cut f a left = record {
      lasts = subst (OnlyLive p) (sym left.lasts) (with_last_live p lasts.nodes.items n None live before);
      ends = subst (EndsShow p) (sym left.ends) (show_without p n cut old.ends f (λ z. (
        ap (λ (s : Source). s.kind) a.cut_of.source,
        subst (λ q. zero_ℚ <ℚ q) (ap (value_at_trial cut) (solve.is_task.trial ∙ no_trial lasts.nodes.items old.frame n z) ∙ plain_value cut) a.above,
      )) shown);
    }

    nothing_left : KeepsKnown (record old { lasts = lasts }) new → IsShowing p new
    nothing_left kept = record {
      lasts = subst (OnlyLive p) (sym kept.lasts) before;
      ends = subst (EndsShow p) (sym kept.ends) shown;
    }

    solve_shows : (all : Solved) → IfSome (cut_given all) HasForms → IsAnswer solve.task all → HaltsBy all (record old { lasts = lasts }) new
        → (new.stop ≡ None → LeavesBy p tree n solve.task.trial all (record old { lasts = lasts }) new) → old.stop ≡ None → IsClear new
        → IsShowing p new
    solve_shows (solved.Point x value cut) f a halts left stop clear = point_shows x value cut f (left (not_stuck new old.budget.solves clear (halts stop clear.lasting)))
    solve_shows (solved.NoPoint cut) f a halts left stop clear = none_shows cut f a (left (not_stuck new old.budget.solves clear (halts stop clear.lasting)))
    solve_shows solved.Loose f a halts left stop clear = nothing_left halts
    solve_shows solved.PivotsEnded f a halts left stop clear = nothing_left halts
    solve_shows (solved.Passed in_cut o) f a halts left stop clear = nothing_left halts
    solve_shows solved.NotGood f a halts left stop clear = nothing_left halts

  step_shows : (old new : State) (m : Machine) → IsShowing p old → IsHeld p most old → IsStanding p tree new → IsDesk p old m
      → StepsAtDesk p old m new → old.stop ≡ None → IsClear new → IsShowing p new
  step_shows old new m h held standing table (no_solve reasons ready) stop clear = record {
    lasts = ready_live p old new.lasts ready.ready h.lasts;
    ends = subst (EndsShow p) (sym ready.ends) h.ends;
  }
  step_shows old new m h held standing table (new_run tabled made closed earlier opens reasons run puts left) stop clear = by left
    where
      by : OpensAnyhow p old new → IsShowing p new
      by (stays_closed e) = record {
        lasts = subst (λ (s : State). OnlyLive p s.lasts.nodes.items) (sym e) h.lasts;
        ends = subst (λ (s : State). EndsShow p s.ends) (sym e) h.ends;
      }
      by (is_open o gets halts) = record {
        lasts = subst (OnlyLive p) (sym o.lasts) (λ n dead. no_last (places_in new.frame) n);
        ends = subst (EndsShow p) (sym o.ends)
            (record { upper = h.ends.upper; direction = h.ends.direction; lower = h.ends.lower; nowhere = h.ends.nowhere; root = tt });
      }
  step_shows old new m h held standing table (one_turn lasts n ready solve) stop clear =
      solve_shows old new lasts m n (ready_live p old lasts ready h.lasts) h.ends held standing table solve solve.all
      (told_forms old new lasts m n (ready_live p old lasts ready h.lasts) h.ends held standing table solve) solve.answer solve.anyhow.halts
      (λ stop. solve.leaves tree t stop) stop clear

  -- behind solves and reports
  goes_show : (first s : State) → IsOpening p most first → GoesFrom p first s → IsClear s → IsShowing p s
  goes_show first s o g = course p first (λ s. IsClear s → IsShowing p s)
      (λ budget k b clear. showing_first p most k (beginning_opens p most budget k b))
      (λ mid k m g h open_yet table step keeps all clear.
      let stop : mid.stop ≡ None = unstopped mid open_yet in
      step_shows mid k m (h (is_clear mid (goes_lasting p tree i few t most first mid o g) stop)) (goes_held p most i tree t first mid o g)
      (goes_stand p tree i few t most first k o (by_solves mid k g all) clear) table step stop clear)
      (λ mid k m g h f clear.
      let before : IsShowing p mid = h (forgotten_clear p mid k m f clear) in record {
        lasts = subst (λ (s : State). OnlyLive p s.lasts.nodes.items) (sym f.others) before.lasts;
        ends = subst (λ (s : State). EndsShow p s.ends) (sym f.others) before.ends;
      })
      (λ mid g h unstuck clear. let q : IsShowing p mid = h (record { lasting = clear.lasting; unstuck = unstuck }) in
      record { lasts = q.lasts; ends = q.ends })
      s (λ clear. showing_first p most first o) g

  -- ---- what the run has by its table
  -- the ends hold, and behind a Feasible run there is a policy
  pub record HasEnds (s : State) : Type 0 where
    pub hold : EndsHold p s.ends
    pub policy : (s.kind ≡ run_kind.Feasible → ⊥) → (u : Priced) × (s.ends.upper ≡ Some u)

  ends_of_stands : (s : State) (m : Machine) → StandsBy p tree (known_of s) m → HasEnds s
  ends_of_stands s m h = record { hold = h.ends; policy = h.policy }

  first_ends : (s : State) → IsOpening p most s → HasEnds s
  first_ends s b = record { hold = subst (EndsHold p) (sym b.ends) (record { upper = tt; lower = tt }); policy = λ ne. absurd (ne b.kind) }

  step_ends : (old new : State) (m : Machine) → HasEnds old → IsStanding p tree new → StepsAtDesk p old m new → IsClear new
      → HasEnds new
  step_ends old new m before h (no_solve reasons ready) clear = ends_of_stands new m (h.stands m ready.tabled)
  step_ends old new m before h (new_run tabled made closed earlier opens reasons run puts left) clear = go opens
    where
      go : Opens p m new → HasEnds new
      go (not_opened stops fits) = ends_of_stands new m (h.stands m (desk_at p new m fits))
      go (is_opened number fits) = ends_of_stands new (opened m number) (h.stands (opened m number) (desk_at p new (opened m number) fits))
  step_ends old new m before h (one_turn lasts n ready solve) clear =
      ends_of_stands new solve.ends.machine (h.stands solve.ends.machine solve.ends.tabled)

  goes_end : (first s : State) → IsOpening p most first → GoesFrom p first s → IsClear s → HasEnds s
  goes_end first s o g = course p first (λ s. IsClear s → HasEnds s)
      (λ budget k b clear. first_ends k (beginning_opens p most budget k b))
      (λ mid k m g h open_yet table step keeps all clear.
      let stop : mid.stop ≡ None = unstopped mid open_yet in
      step_ends mid k m (h (is_clear mid (goes_lasting p tree i few t most first mid o g) stop))
      (goes_stand p tree i few t most first k o (by_solves mid k g all) clear) step clear)
      (λ mid k m g h f clear.
      let before : HasEnds mid = h (forgotten_clear p mid k m f clear) in record {
        hold = subst (λ (s : State). EndsHold p s.ends) (sym f.others) before.hold;
        policy = λ ne.
            let u = before.policy (λ e. ne (ap (λ (s : State). s.kind) f.others ∙ e)) in
            (u.0, ap (λ (s : State). s.ends.upper) f.others ∙ u.1);
      })
      (λ mid g h unstuck clear. let q : HasEnds mid = h (record { lasting = clear.lasting; unstuck = unstuck }) in
      record { hold = q.hold; policy = q.policy })
      s (λ clear. first_ends first o) g

-- ---- of a run
pub run_shows : (p : Program) (s : State) → IsRunTo p s → s.stop ≡ None → IsShowing p s
run_shows p s r stop = goes_show p r.tree r.program r.few r.walk r.most r.first s r.opens r.goes (run_clear p s r stop)

pub run_ends : (p : Program) (s : State) (r : IsRunTo p s) → s.stop ≡ None → HasEnds p r.tree r.program r.few r.walk r.most s
run_ends p s r stop = goes_end p r.tree r.program r.few r.walk r.most r.first s r.opens r.goes (run_clear p s r stop)
