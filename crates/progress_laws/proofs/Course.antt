-- What holds at an opening, and stays through steps and reports, holds of each state to which the program comes.
use Rattle.std.proofs.Common.{◌≡◌, ℕ, zero, suc, ◌+◌, ◌<◌, ◌^◌, List, [], Some, None, slice_get, length, refl, sym, subst, arith}
use Rattle.scen_defs.specs.Program.{Program}
use Rattle.cut_pool.specs.Held.{Held}
use Rattle.cut_banks.specs.Pools.{no_cuts, all_empty}
use Rattle.pass_table.specs.Machine.{Machine, dropped}
use Rattle.proved_report.specs.declared.open.Open.TheVariants.{Solves}
use Rattle.node_data.specs.declared.versions.Version.{Version}
use Rattle.pass_core.specs.declared.budget.Budget.{Budget}
use Rattle.pass_core.specs.declared.state.State.{State}
use Rattle.pass_core.specs.Beginning.{IsBeginning}
use Rattle.pass_core.specs.Made.{script_books, KeepsBooks}
use Rattle.pass_core.specs.Desks.{IsDesk}
use Rattle.pass_core.proofs.Desks.{desk_at}
use Rattle.pass_core.proofs.Moving.{StepsAtDesk, step_moves, work_moves}
use Rattle.pass_core.proofs.MadeAfterEdits.{all_made_at_start}
use Rattle.nested_method.specs.Stands.{SolvesNodes, none, more, beside, forgets, anew, settled_in}
use Rattle.kept_cut_laws.specs.Kept.{IsKeptAt, AreKept, BanksAreKept}
use Rattle.progress_laws.specs.Courses.{IsOpening, GoesFrom, here, by_solves, by_report, behind_report}

-- a solve that isn't wanted any more leaves nothing
pub record IsForgotten (p : Program) (old : State) (m : Machine) (new : State) : Type 0 where
  pub desk : IsDesk p old m
  pub few : m.commits < 2 ^ 62
  pub others : new ≡ record old { table = new.table }
  pub behind : IsDesk p new (dropped m 0)

module _ (p : Program) (first : State) (P : State → Type 0)
    (begins : (budget : Budget) (s : State) → IsBeginning p budget s → P s)
    (steps : (mid k : State) (m : Machine) → GoesFrom p first mid → P mid → settled_in mid ≡ None → IsDesk p mid m → StepsAtDesk p mid m k
    → KeepsBooks p mid k → SolvesNodes p mid k → P k)
    (forgotten : (mid k : State) (m : Machine) → GoesFrom p first mid → P mid → IsForgotten p mid m k → P k)
    (tells : (mid : State) → GoesFrom p first mid → P mid → ((n : ℕ) → mid.stop ≡ Some (Solves n) → ⊥) → P (behind_report mid)) where
  through_solves : (old new : State) → GoesFrom p first old → P old → SolvesNodes p old new → P new
  through_solves old new g h none = h
  through_solves old new g h (more mid k m told before open_yet table step keeps) =
      steps mid k m (by_solves old mid g before) (through_solves old mid g h before) open_yet (desk_at p mid m table)
      (step_moves p mid m k told table step) keeps (more mid k m told none open_yet table step keeps)
  through_solves old new g h (beside mid k m before open_yet desk work keeps) =
      steps mid k m (by_solves old mid g before) (through_solves old mid g h before) open_yet desk (work_moves p mid m k work) keeps
      (beside mid k m none open_yet desk work keeps)
  through_solves old new g h (forgets mid k m w n before b drop) =
      forgotten mid k m (by_solves old mid g before) (through_solves old mid g h before)
      (record { desk = b.desk; few = drop.few; others = drop.others; behind = drop.behind.desk })
  through_solves old new g h (anew mid k before ends over) = begins mid.budget k over.beginning

  pub course : (s : State) → P first → GoesFrom p first s → P s
  course s h here = h
  course s h (by_solves mid new g x) = through_solves mid new g (course mid h g) x
  course s h (by_report mid g unstuck) = tells mid g (course mid h g) unstuck

-- before anything is done there are no cuts
empty_kept : (p : Program) (versions : List Version) (most k count j : ℕ) (pool : Held) → slice_get (all_empty k count) j ≡ Some pool
    → IsKeptAt p versions most (k + j) pool
empty_kept p versions most k zero j pool e = absurd (cc)
empty_kept p versions most k (suc count) zero pool e =
    let same : no_cuts k ≡ pool = cc in
    let at : k ≡ k + 0 = omega arith in
    subst (IsKeptAt p versions most (k + 0)) same
    (record { node = at; cuts = tt; root = λ z. refl; known = tt; places = tt; few = omega arith })
empty_kept p versions most k (suc count) (suc j) pool e =
    let at : suc k + j ≡ k + suc j = omega arith in
    subst (λ (n : ℕ). IsKeptAt p versions most n pool) at (empty_kept p versions most (suc k) count j pool e)

-- where a program begins a run opens
pub beginning_opens : (p : Program) (most : ℕ) (budget : Budget) (s : State) → IsBeginning p budget s → IsOpening p most s
beginning_opens p most budget s b = record {
  frame = b.frame;
  kind = b.kind;
  points = b.points;
  ends = b.ends;
  stop = b.stop;
  lasting = b.lasting;
  is_begun = b.is_begun;
  cuts = record {
    made = (all_made_at_start (script_books p []) s.kind s.banks s.ends (length p.nodes) b.pools b.ends).0;
    kept = subst (BanksAreKept p s.versions (most + s.counts.all)) (sym b.pools) (record {
      plain = kept_empty;
      cone = kept_empty;
    });
  };
}
  where
    kept_empty : AreKept p s.versions (most + s.counts.all) (all_empty 0 (length p.nodes))
    kept_empty n pool e = let at : 0 + n ≡ n = omega arith in
        subst (λ (j : ℕ). IsKeptAt p s.versions (most + s.counts.all) j pool) at (empty_kept p s.versions (most + s.counts.all) 0 (length p.nodes) n pool e)
