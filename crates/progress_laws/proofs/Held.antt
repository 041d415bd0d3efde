-- What pools keep, and how many solves were counted, whatever stops the method.
use Rattle.std.proofs.Common.{◌≡◌, ℕ, ◌+◌, ◌^◌, ◌<◌, ◌≤◌, ◌⊎◌, inl, inr, List, [], Ok, IfSome, refl, sym, ap, subst, ◌∙◌, arith}
use Rattle.scen_defs.specs.Program.{Program}
use Rattle.scen_defs.specs.Valid.{IsProgram, Lives}
use Rattle.scen_defs.specs.declared.report.Kind.{Kind}
use Rattle.scen_defs.specs.declared.report.Kind.TheVariants as run_kind
use Rattle.scen_tree.specs.Trees.{Tree, tree_walk}
use Rattle.cut_defs.specs.Data.{IsRight}
use Rattle.edit_defs.specs.Data.{view_in, book}
use Rattle.edit_defs.proofs.Books.{node-right}
use Rattle.edit_defs.proofs.Programs.{edits_keep_programs}
use Rattle.pass_table.specs.Machine.{Machine, dropped, opened}
use Rattle.node_data.specs.Frames.{frame_of}
use Rattle.node_data.specs.declared.versions.Version.{Version}
use Rattle.found_ends.specs.declared.last.Lasts.{Lasts}
use Rattle.pass_core.specs.declared.state.Counts.{Counts}
use Rattle.pass_core.specs.declared.state.State.{State}
use Rattle.pass_core.specs.Counting.{with_commit}
use Rattle.pass_core.specs.Explained.{cut_given}
use Rattle.pass_core.specs.Left.{OpensRun, next_kind, offered_banks}
use Rattle.pass_core.specs.Made.{script_books, AreBooksOf, EndsAreMade, CutsAreMade, KeepsBooks}
use Rattle.pass_core.specs.Tabled.{Opens, not_opened, is_opened}
use Rattle.crew_turns.proofs.Beside.{fit_besides}
use Rattle.pass_core.specs.Desks.{IsDesk}
use Rattle.pass_core.specs.Turns.{SolvesAtDesk, GetsFirstCuts, OpensAnyhow, stays_closed, is_open}
use Rattle.pass_core.proofs.Desks.{desk_at}
use Rattle.pass_core.proofs.Moving.{StepsAtDesk, keeps_books, no_solve, new_run, one_turn}
use Rattle.kept_cut_laws.specs.Kept.{IsCutNow, BanksAreKept}
use Rattle.kept_cut_laws.proofs.Offers.{offers_keep_cuts}
use Rattle.kept_cut_laws.proofs.Solves.{solves_give_cuts}
use Rattle.kept_cut_laws.proofs.FirstCuts.{first_cuts_are_kept}
use Rattle.progress_laws.specs.Courses.{IsOpening, GoesFrom, behind_report}
use Rattle.progress_laws.proofs.Standing.{runs_before}
use Rattle.progress_laws.proofs.Begun.{unused_uncommitted}
use Rattle.progress_laws.proofs.Turned.{turn_commits}
use Rattle.progress_laws.proofs.Course.{IsForgotten, course, beginning_opens}

-- the books of a program without edits are right of it with any versions
pub right_books : (p : Program) → IsProgram p → (versions : List Version) → AreBooksOf p versions (script_books p [])
right_books p i versions = record { plain = λ n l. right run_kind.Cost n _ _ l; cone = λ n l. right run_kind.Recession n _ _ l }
  where
    right : (kind : Kind) (n r c : ℕ) → Lives p n → IsRight (view_in kind p) (book kind p []) n r c
    right kind n r c l =
        let h : IsRight (view_in kind p) (book kind p []) n 0 0 = node-right edits_keep_programs kind p [] i tt 0 n l in
        record { rows = h.rows; cost = h.cost; shares = h.shares; bounds = h.bounds; stage = h.stage; parent = h.parent }

-- the node that a solve is of is live
pub solve_lives : (p : Program) (s new : State) (lasts : Lasts) (m : Machine) (n : ℕ) → IsDesk p s m
    → SolvesAtDesk p (record s { lasts = lasts }) m n new → Lives p n
solve_lives p s new lasts m n table solve =
    subst (Lives p) solve.ends.node (sym (table.machine.live solve.ends.turn.node) ∙ solve.ends.turn.may.live)

-- all cuts are made of the data of the program and up to date, and the pools changed at most so often
pub record IsHeld (p : Program) (most : ℕ) (s : State) : Type 0 where
  pub frame : s.frame ≡ frame_of p
  pub made : CutsAreMade (script_books p []) s
  pub count : ℕ
  pub kept : BanksAreKept p s.versions count s.banks
  pub few : s.counts.all < 2 ^ 63 → count ≤ most + s.counts.all + runs_before s.kind

-- no more commits were made than solves are counted, beside those of solves that weren't wanted any more
pub record IsCounted (p : Program) (s : State) : Type 0 where
  pub most : s.counts.all < 2 ^ 63 → (m : Machine) → IsDesk p s m → m.commits ≤ 2 ^ 62 + s.counts.all

same_commits : (p : Program) (s : State) (m k : Machine) → IsDesk p s m → IsDesk p s k → m.commits ≡ k.commits
same_commits p s m k tm tk = sym (fit_besides.commits s.table m tm.fits) ∙ fit_besides.commits s.table k tk.fits

-- what a table fits doesn't rest on what stops the method, nor on counts
pub tabled_before : (p : Program) (s : State) (m : Machine) → IsDesk p (behind_report s) m → IsDesk p s m
tabled_before p s m h = record {
  valid = h.valid;
  fits = h.fits;
  idle = h.idle;
  machine = record { live = h.machine.live; parent = h.machine.parent; number = h.machine.number };
  pools = h.pools;
  unused = h.unused;
}

module _ (p : Program) (most : ℕ) (i : IsProgram p) (tree : Tree) (t : tree_walk p ≡ Ok tree) where
  held_first : (s : State) → IsOpening p most s → IsHeld p most s
  held_first s o = record {
    frame = o.frame;
    made = (o.cuts.made, subst (EndsAreMade (script_books p []) s.kind) (sym o.ends) (record { root = tt; lower = tt; nowhere = tt }));
    count = most + s.counts.all;
    kept = o.cuts.kept;
    few = λ small. omega arith;
  }

  -- the pools of a new state
  record HoldsPools (old new : State) (count : ℕ) : Type 0 where
    now : ℕ
    kept : BanksAreKept p old.versions now new.banks
    few : new.counts.all < 2 ^ 63 → (old.counts.all < 2 ^ 63) × (now + old.counts.all + runs_before old.kind ≤ count + new.counts.all + runs_before new.kind)

  holds_on : (old new : State) → new.frame ≡ old.frame → new.versions ≡ old.versions → KeepsBooks p old new → (h : IsHeld p most old)
      → HoldsPools old new h.count → IsHeld p most new
  holds_on old new frame versions keeps h k = record {
    frame = frame ∙ h.frame;
    made = keeps (script_books p []) (right_books p i old.versions) h.made;
    count = k.now;
    kept = subst (λ (v : List Version). BanksAreKept p v k.now new.banks) (sym versions) k.kept;
    few = λ small. let f = k.few small in omega (arith, f.1, h.few f.0);
  }

  same_pools : (old new : State) (h : IsHeld p most old) → new.banks ≡ old.banks → new.counts ≡ old.counts → new.kind ≡ old.kind
      → HoldsPools old new h.count
  same_pools old new h banks counts kind = record {
    now = h.count;
    kept = subst (BanksAreKept p old.versions h.count) (sym banks) h.kept;
    few = λ small.
        let all : new.counts.all ≡ old.counts.all = ap (λ (c : Counts). c.all) counts in
        let runs : runs_before new.kind ≡ runs_before old.kind = ap runs_before kind in
        (omega (arith, small, all), omega (arith, all, runs));
  }

  one_later : (k : Kind) → (k ≡ run_kind.Cost → ⊥) → runs_before (next_kind k) ≡ runs_before k + 1
  one_later run_kind.Feasible earlier = refl
  one_later run_kind.Recession earlier = refl
  one_later run_kind.Cost earlier = absurd (earlier refl)

  opening_pools : (old new : State) (h : IsHeld p most old) → (old.kind ≡ run_kind.Cost → ⊥) → new.counts ≡ old.counts → OpensRun old new
      → GetsFirstCuts p tree old new → HoldsPools old new h.count
  opening_pools old new h earlier counts o g = record {
    now = h.count + 1;
    kept = subst (BanksAreKept p old.versions (h.count + 1)) (sym g.banks)
        (first_cuts_are_kept.pools (next_kind old.kind) p old.versions h.count g.cuts old.banks
        (first_cuts_are_kept.cuts (next_kind old.kind) p tree old.versions g.dual g.cuts i g.are) h.kept);
    few = λ small.
        let all : new.counts.all ≡ old.counts.all = ap (λ (c : Counts). c.all) counts in
        let runs : runs_before new.kind ≡ runs_before old.kind + 1 = ap runs_before o.kind ∙ one_later old.kind earlier in
        (omega (arith, small, all), omega (arith, all, runs));
  }

  solve_pools : (old new : State) (lasts : Lasts) (m : Machine) (n : ℕ) (h : IsHeld p most old) → IsDesk p old m
      → SolvesAtDesk p (record old { lasts = lasts }) m n new → HoldsPools old new h.count
  solve_pools old new lasts m n h table solve = go solve.anyhow.banks
    where
      all : new.counts.all ≡ (with_commit old.counts).all
      all = ap (λ (c : Counts). c.all) solve.reasons.counts

      runs : runs_before new.kind ≡ runs_before old.kind
      runs = ap runs_before solve.stays.kind

      given : IfSome (cut_given solve.all) (IsCutNow p old.versions n)
      given = solves_give_cuts p (record old { lasts = lasts }) n h.count solve.task solve.all i (solve_lives p old new lasts m n table solve) h.frame
          solve.is_task solve.fits solve.told solve.answer h.kept

      go : (new.banks ≡ old.banks)
          ⊎ (new.banks ≡ offered_banks old.kind n (cut_given solve.all) solve.task.trial old.banks) → HoldsPools old new h.count
      go (inl e) = record {
        now = h.count;
        kept = subst (BanksAreKept p old.versions h.count) (sym e) h.kept;
        few = λ small. (omega (arith, small, all), omega (arith, small, all, runs));
      }
      go (inr e) = record {
        now = h.count + 1;
        kept = subst (BanksAreKept p old.versions (h.count + 1)) (sym e)
            (offers_keep_cuts p old.versions old.kind n h.count (cut_given solve.all) old.banks given h.kept solve.task.trial);
        few = λ small. (omega (arith, small, all), omega (arith, small, all, runs));
      }

  held_step : (old new : State) (m : Machine) → IsHeld p most old → IsDesk p old m → StepsAtDesk p old m new → KeepsBooks p old new → IsHeld p most new
  held_step old new m h table (no_solve reasons ready) keeps =
      holds_on old new ready.run.frame ready.run.versions keeps h (same_pools old new h ready.banks reasons.counts ready.run.kind)
  held_step old new m h table (new_run tabled made closed earlier opens reasons run puts left) keeps = go left
    where
      go : OpensAnyhow p old new → IsHeld p most new
      go (stays_closed e) = holds_on old new (ap (λ (s : State). s.frame) e) (ap (λ (s : State). s.versions) e) keeps h
          (same_pools old new h (ap (λ (s : State). s.banks) e) (ap (λ (s : State). s.counts) e) (ap (λ (s : State). s.kind) e))
      go (is_open o gets halts) = holds_on old new o.frame o.versions keeps h (opening_pools old new h earlier reasons.counts o (gets tree t))
  held_step old new m h table (one_turn lasts n ready solve) keeps =
      holds_on old new solve.stays.frame solve.stays.versions keeps h (solve_pools old new lasts m n h table solve)

  held_forgotten : (old new : State) (m : Machine) → IsHeld p most old → IsForgotten p old m new → IsHeld p most new
  held_forgotten old new m h f =
      let banks : new.banks ≡ old.banks = ap (λ (s : State). s.banks) f.others in
      let kind : new.kind ≡ old.kind = ap (λ (s : State). s.kind) f.others in
      holds_on old new (ap (λ (s : State). s.frame) f.others) (ap (λ (s : State). s.versions) f.others)
      (keeps_books p old new banks (ap (λ (s : State). s.ends) f.others) kind) h
      (same_pools old new h banks (ap (λ (s : State). s.counts) f.others) kind)

  held_told : (s : State) → IsHeld p most s → IsHeld p most (behind_report s)
  held_told s h = record {
    frame = h.frame;
    made = (h.made.0, h.made.1);
    count = h.count;
    kept = h.kept;
    few = h.few;
  }

  pub goes_held : (first s : State) → IsOpening p most first → GoesFrom p first s → IsHeld p most s
  goes_held first s o g = course p first (IsHeld p most) (λ budget k b. held_first k (beginning_opens p most budget k b))
      (λ mid k m g h open_yet table step keeps all. held_step mid k m h table step keeps) (λ mid k m g h f. held_forgotten mid k m h f)
      (λ mid g h unstuck. held_told mid h) s (held_first first o) g

  -- ---- the commits
  counted_first : (s : State) → IsOpening p most s → IsCounted p s
  counted_first s o = record {
    most = λ small m table. let z : m.commits ≡ 0 = unused_uncommitted p s m i o.frame table o.is_begun in omega (arith, z);
  }

  step_counted : (old new : State) (m : Machine) → IsCounted p old → IsDesk p old m → StepsAtDesk p old m new → IsCounted p new
  step_counted old new m h table (no_solve reasons ready) = record {
    most = λ small k fits.
        let all : new.counts.all ≡ old.counts.all = ap (λ (c : Counts). c.all) reasons.counts in
        omega (arith, all, h.most (omega (arith, all, small)) m table, same_commits p new m k ready.tabled fits);
  }
  step_counted old new m h table (new_run tabled made closed earlier opens reasons run puts left) = record {
    most = λ small k fits.
        let all : new.counts.all ≡ old.counts.all = ap (λ (c : Counts). c.all) reasons.counts in
        omega (arith, all, h.most (omega (arith, all, small)) m table, go opens k fits);
  }
    where
      go : Opens p m new → (k : Machine) → IsDesk p new k → m.commits ≡ k.commits
      go (not_opened stops now) k fits = same_commits p new m k (desk_at p new m now) fits
      go (is_opened number now) k fits = same_commits p new (opened m number) k (desk_at p new (opened m number) now) fits
  step_counted old new m h table (one_turn lasts n ready solve) = record {
    most = λ small k fits.
        let all : new.counts.all ≡ (with_commit old.counts).all = ap (λ (c : Counts). c.all) solve.reasons.counts in
        omega (
          arith,
          all,
          small,
          h.most (omega (arith, all, small)) m table,
          same_commits p new solve.ends.machine k solve.ends.tabled fits,
          turn_commits m solve.ends.machine table.valid table.idle solve.ends.turn,
        );
  }

  counted_forgotten : (old new : State) (m : Machine) → IsForgotten p old m new → IsCounted p new
  counted_forgotten old new m f = record {
    most = λ small k fits. omega (arith, f.few, same_commits p new (dropped m 0) k f.behind fits);
  }

  pub goes_counted : (first s : State) → IsOpening p most first → GoesFrom p first s → IsCounted p s
  goes_counted first s o g = course p first (IsCounted p) (λ budget k b. counted_first k (beginning_opens p most budget k b))
      (λ mid k m g h open_yet table step keeps all. step_counted mid k m h table step) (λ mid k m g h f. counted_forgotten mid k m f)
      (λ mid g h unstuck. record { most = λ small m fits. h.most small m (tabled_before p mid m fits) }) s (counted_first first o) g
