-- Before any solve of a run it stands.
use Rattle.std.proofs.Common.{◌≡◌, ℕ, ◌<◌, Bool, true, false, Some, None, length, refl, sym, ap, subst, ◌∙◌, arith}
use Rattle.std.proofs.lemmas.List.{length-map, length-replicate}
use Rattle.scen_defs.specs.Lists.{passes_at}
use Rattle.scen_defs.specs.Program.{Program, is_live}
use Rattle.scen_defs.specs.Valid.{IsProgram}
use Rattle.scen_defs.specs.declared.report.Kind.TheVariants.{Feasible}
use Rattle.scen_tree.specs.Trees.{Tree}
use Rattle.found_ends.specs.declared.ends.Priced.{Priced}
use Rattle.edit_defs.proofs.Lists.{passes-within}
use Rattle.pass_table.specs.Machine.{Machine, unsolved, IsGood}
use Rattle.pass_table.specs.Fits.{IsStart, Fits, lists_of}
use Rattle.node_data.specs.Frames.{Frame, parent_of, frame_of}
use Rattle.found_ends.specs.declared.last.Lasts.{Lasts}
use Rattle.pass_core.specs.declared.state.State.{State}
use Rattle.pass_table.specs.Marks.{nothing}
use Rattle.pass_core.specs.Left.{places_in}
use Rattle.crew_turns.proofs.Beside.{fit_besides}
use Rattle.pass_core.specs.Desks.{IsDesk}
use Rattle.pass_core.specs.Turns.{AreReady}
use Rattle.pass_core.proofs.Parentage.{root_lives}
use Rattle.progress_laws.proofs.Standing.{Known, known_of, EndsHold, HasFirstCuts, StandsBy}

-- no node of the machine has a last solve
abbrev pub IsUnsolved : Machine → Type 0
IsUnsolved m = (n : ℕ) → (m.last n).commit ≡ 0

pub unsolved_stands : (p : Program) (tree : Tree) (w : Known) (m : Machine) → IsProgram p → IsUnsolved m
    → ((n : ℕ) → m.live n ≡ passes_at is_live n p.nodes) → EndsHold p w.ends
    → ((w.kind ≡ Feasible → ⊥) → (u : Priced) × (w.ends.upper ≡ Some u))
    → ((w.kind ≡ Feasible → ⊥) → HasFirstCuts p tree w) → StandsBy p tree w m
unsolved_stands p tree w m i none live ends policy grounds = record {
  policy = policy;
  grounds = grounds;
  lasts = λ n l c h. let z : (m.last n).commit ≡ 0 = none n in absurd (omega (arith, c, z));
  nones = λ n l c h. let z : (m.last n).commit ≡ 0 = none n in absurd (omega (arith, c, z));
  ends = ends;
  complete = λ c. let g : IsGood m 0 = c 0 (live 0 ∙ root_lives p i) in
      let z : (m.last 0).commit ≡ 0 = none 0 in absurd (omega (arith, g.0.solved, z));
}

-- before anything is done a table fits no other machine: nothing was committed, in the first run
pub unused_counts : (p : Program) (s : State) (m : Machine) → IsProgram p → s.frame ≡ frame_of p → IsDesk p s m → s.is_begun ≡ false
    → (m.commits ≡ 0) × (m.run ≡ 1)
unused_counts p s m i frame table idle =
    let fits : Fits s.table start = table.unused idle start is_start in
    let none : (lists_of s.table).commits ≡ 0 = fits.agrees.commits in
    let one : (lists_of s.table).run ≡ 1 = fits.agrees.run in
    let commits : (lists_of s.table).commits ≡ m.commits = fit_besides.commits s.table m table.fits in
    let runs : (lists_of s.table).run ≡ m.run = fit_besides.run s.table m table.fits in
    (omega (arith, none, commits), omega (arith, one, runs))
  where
    start : Machine
    start = record {
      live = m.live;
      parent = m.parent;
      run = 1;
      commits = 0;
      last = λ n. unsolved;
      number = λ n. 0;
      flight = λ w. None;
      waits = λ n. false;
    }

    long : length s.frame.parents ≡ length p.nodes
    long = ap (λ (f : Frame). length f.parents) frame ∙ length-map p.nodes parent_of

    is_start : IsStart s.frame.parents start
    is_start = record {
      parent = table.machine.parent;
      places = λ j l. let q = passes-within is_live j p.nodes (sym (table.machine.live j) ∙ l) in omega (arith, q, long);
      root = table.machine.live 0 ∙ root_lives p i;
      run = refl;
      waits = λ n. refl;
      commits = refl;
      last = λ j. refl;
      flight = λ w. refl;
    }

pub unused_uncommitted : (p : Program) (s : State) (m : Machine) → IsProgram p → s.frame ≡ frame_of p → IsDesk p s m
    → s.is_begun ≡ false → m.commits ≡ 0
unused_uncommitted p s m i frame table idle = (unused_counts p s m i frame table idle).0

-- with places for last solves the run stands as it did
pub record IsReadyState (p : Program) (tree : Tree) (s : State) (lasts : Lasts) (m : Machine) : Type 0 where
  pub stands : StandsBy p tree (known_of (record s { lasts = lasts })) m
  pub long : length lasts.nodes.items ≡ length p.nodes

pub unused_unsolved : (p : Program) (s : State) (m : Machine) → IsProgram p → s.frame ≡ frame_of p → IsDesk p s m → s.is_begun ≡ false → IsUnsolved m
unused_unsolved p s m i frame table idle n = omega (arith, table.valid.numbered n, unused_uncommitted p s m i frame table idle)

-- there is a place for each node, where they have numbers
pub places_of : (p : Program) → length p.nodes < nothing → places_in (frame_of p) ≡ length p.nodes
places_of p few = omega (arith, few, length-map p.nodes parent_of)

pub ready_stands : (p : Program) (tree : Tree) (s : State) (lasts : Lasts) (m : Machine) → IsProgram p → length p.nodes < nothing → s.frame ≡ frame_of p → IsDesk p s m
    → StandsBy p tree (known_of s) m → (s.is_begun ≡ true → length s.lasts.nodes.items ≡ length p.nodes) → AreReady s lasts
    → IsReadyState p tree s lasts m
ready_stands p tree s lasts m i few frame table stands long ready = go s.is_begun refl
  where
    go : (b : Bool) → s.is_begun ≡ b → IsReadyState p tree s lasts m
    go true e = record {
      stands = subst (λ (l : Lasts). StandsBy p tree (known_of (record s { lasts = l })) m) (sym (ready.same e)) stands;
      long = ap (λ (l : Lasts). length l.nodes.items) (ready.same e) ∙ long e;
    }
    go false e = record {
      stands = unsolved_stands p tree (known_of (record s { lasts = lasts })) m i (unused_unsolved p s m i frame table e) table.machine.live stands.ends
          stands.policy (λ ne. let g : HasFirstCuts p tree (known_of s) = stands.grounds ne in
          record { dual = g.dual; cuts = g.cuts; are = g.are; placed = g.placed });
      long = ap length (ready.none e) ∙ length-replicate (places_in s.frame) None ∙ ap places_in frame ∙ places_of p few;
    }
