-- A solve that was begun can end as it was begun, where a solve in flight of another worker ends before it.
use Rattle.std.proofs.Common.{◌≡◌, ℕ, zero, suc, ◌+◌, ◌<◌, inl, inr, Bool, true, false, List, [], ◌∷◌, ◌++◌, map, Result, Option, Some, None, IfSome, Ok, Err, get_or, slice_get, slice_index, refl, sym, ap, ap₂, subst, ◌∙◌, arith}
use Rattle.std.specs.List.{Contains}
use Rattle.std.specs.Option.{option_map, option_to_list}
use Rattle.rationals.specs.Choices.{pick}
use Rattle.rationals.specs.Passes.{Operation}
use Rattle.rationals.specs.Rational.{one_ℚ}
use Rattle.rationals.specs.Forms.{add_scaled_walk}
use Rattle.rationals.specs.Sparse.{Entry}
use Rattle.scen_defs.specs.Program.{Program}
use Rattle.scen_defs.specs.Valid.{IsProgram, Lives}
use Rattle.scen_defs.specs.declared.report.Kind.{Kind}
use Rattle.scen_defs.specs.declared.report.Kind.TheVariants as run_kind
use Rattle.scen_tree.specs.Trees.{Tree, tree_walk}
use Rattle.cut_defs.specs.Data.{Datum}
use Rattle.cut_defs.specs.Stored.{Stored, source_of}
use Rattle.cut_pool.specs.Held.{Held}
use Rattle.cut_banks.specs.declared.banks.Banks.{Banks}
use Rattle.cut_banks.specs.Banks.{pools_of, with_pools}
use Rattle.cut_banks.specs.Pools.{cuts_read, numbers_read, may_take, with_pool}
use Rattle.cut_pool.specs.Pool.{offer_of, after_offer}
use Rattle.node_lp.specs.declared.task.Task.{Task}
use Rattle.node_lp.specs.declared.solved.Solved.{Solved}
use Rattle.node_lp.specs.declared.solved.Solved.TheVariants as solved
use Rattle.node_data.specs.declared.versions.Version.{Version}
use Rattle.node_data.specs.Counts.{version_of}
use Rattle.node_data.specs.Frames.{Frame, frame_of, parent_in, children_in}
use Rattle.found_ends.specs.declared.last.Last.{Last}
use Rattle.found_ends.specs.Lasts.{kept, last_at, along_of, trial_of, with_last}
use Rattle.pass_table.specs.declared.table.Reading.{Reading}
use Rattle.pass_table.specs.Machine.{next, Flight, Machine, IsLive, IsChild, IsFlown}
use Rattle.pass_table.proofs.Stale.{other_at}
use Rattle.crew_turns.specs.Turn.{AreChildren, EndsTurn, drops, commits, adds}
use Rattle.crew_turns.specs.Clear.{SharePath}
use Rattle.crew_turns.proofs.Beside.{live_to, children_from}
use Rattle.pass_core.specs.declared.budget.Budget.{Budget}
use Rattle.pass_core.specs.declared.state.Begun.{Begun}
use Rattle.pass_core.specs.declared.state.State.{State}
use Rattle.pass_core.specs.Explained.{IsDatumOf, KeepsExplained}
use Rattle.pass_core.specs.Left.{IsOffered, OffersCut, LeavesBy, StaysInRun}
use Rattle.pass_core.specs.Tabled.{IsAbout}
use Rattle.pass_core.specs.Desks.{IsDesk, IsBegunBy, EndsOn}
use Rattle.pass_core.specs.Turns.{datum_in, IsTaskOf, CanEnd, IsSetOut, SolvesOn}
use Rattle.pass_core.proofs.CutNodes.{answer_about}
use Rattle.pass_core.proofs.Pooling.{all_numbers}
use Rattle.pass_core.proofs.Desks.{lives, are_children, children_within}
use Rattle.pass_core.proofs.Apart.{reads_same, trial_same, lasts_stay, pools_apart}

-- ---- lists
maps_same : (f g : ℕ → Reading) (cs : List ℕ) → ((c : ℕ) → Contains cs c → f c ≡ g c) → map f cs ≡ map g cs
maps_same f g [] h = refl
maps_same f g (c ∷ cs) h = ap₂ (λ (r : Reading) (rs : List Reading). r ∷ rs) (h c (0, omega arith, refl))
    (maps_same f g cs (λ d i. h d (suc i.0, omega (arith, i.1), i.2)))

-- ---- the numbers of the pools
-- the end of a turn changes no number but that of its node's pool
number_other : (w : ℕ) (m : Machine) (f : Flight) (added : Bool) (k : Machine) → EndsTurn w m f added k → (c : ℕ) → (c ≡ f.node → ⊥)
    → k.number c ≡ m.number c
number_other w m f added k drops c ne = refl
number_other w m f added k (commits point) c ne = refl
number_other w m f added k (adds point low) c ne = other_at m.number f.node (m.number f.node + 1) c ne

-- what is read of the pools of a node's children is what the machine with the solves in flight has
desk_reads : (p : Program) (s : State) (m : Machine) (i : IsProgram p) (frame : s.frame ≡ frame_of p) (d : IsDesk p s m) (k : ℕ) → IsLive m k
    → numbers_read (pools_of s.kind s.banks) (children_in s.frame k)
    ≡ map (λ c. record { child = c; number = d.fits.flying.number c }) (children_in s.frame k)
desk_reads p s m i frame d k live =
    all_numbers (pools_of s.kind s.banks) d.fits.flying.number (children_in s.frame k) (children_within p s m i frame d k live)
    (λ c. sym (ap (λ (g : ℕ → ℕ). g c) (sym d.fits.alike.number) ∙ d.machine.number c))

-- ---- where the worker's solve of node n ends before that of node j.node
module _ (p : Program) (tree : Tree) (old new : State) (m : Machine) (w n : ℕ) (i : IsProgram p) (frame : old.frame ≡ frame_of p)
    (b : IsBegunBy p old m w n) (j : Begun) (v : ℕ) (f : Flight) (flown : IsFlown b.desk.fits.flying j.node v f) (ne : v ≡ w → ⊥) where
  flying : Machine
  flying = b.desk.fits.flying

  live : IsLive m j.node
  live = live_to b.desk.fits.flying m b.desk.fits.alike j.node (b.desk.fits.valid.flown_live j.node v f flown)

  -- the nodes are apart
  apart : SharePath b.desk.fits.flying n j.node → ⊥
  apart share = ne (sym (b.desk.fits.fair.apart n j.node w v b.flight f b.flown flown share))

  child : (c : ℕ) → Contains (children_in old.frame j.node) c → IsChild b.desk.fits.flying j.node c
  child c h = (children_from b.desk.fits.flying m b.desk.fits.alike j.node (children_in old.frame j.node)
      (are_children p old m i frame b.desk j.node live) c).1 h

  not_solved : (c : ℕ) → Contains (children_in old.frame j.node) c → c ≡ n → ⊥
  not_solved c h e =
      let k : IsChild b.desk.fits.flying j.node n = subst (IsChild b.desk.fits.flying j.node) e (child c h) in
      apart (inr (inr (next n k.lower k.parent)))

  -- the same worker's
  same_flight : (e : Flight) → IsFlown b.desk.fits.flying e.node w e → e.node ≡ n
  same_flight e h =
      let same : Some e ≡ Some b.flight = sym h.flight ∙ b.flown.flight in
      let is : e ≡ b.flight = cc in
      ap (λ (x : Flight). x.node) is ∙ b.flown.node

  pub can_stay : (Way : Machine → Flight → Bool → Machine → Type 0) → new.frame ≡ old.frame → new.budget ≡ old.budget
      → EndsOn Way p old m b.desk.fits.flying w n new → CanEnd p tree old j → CanEnd p tree new j
  can_stay Way same budget e h = record {
    node = h.node;
    task = record {
      datum = subst (λ (g : Frame). IsDatumOf j.task.kind p g tree j.task.datum) (sym same) h.task.datum;
      fits = h.task.fits;
      allowed = h.task.allowed ∙ ap (λ (x : Budget). x.pivots) (sym budget);
    };
    readings = h.readings ∙ desk_reads p old m i frame b.desk j.node live
        ∙ sym (maps_same (λ c. record { child = c; number = e.desk.fits.flying.number c }) (λ c. record { child = c; number = b.desk.fits.flying.number c })
        (children_in old.frame j.node) (λ c k. ap (λ (q : ℕ). let r : Reading = record { child = c; number = q } in r) (number c k)))
        ∙ sym (ap (λ (g : Frame). map (λ (c : ℕ). let r : Reading = record { child = c; number = e.desk.fits.flying.number c } in r) (children_in g j.node)) same)
        ∙ sym (desk_reads p new e.machine i (same ∙ frame) e.desk j.node
        (e.desk.machine.live j.node ∙ lives p old m i frame b.desk j.node live));
  }
    where
      number : (c : ℕ) → Contains (children_in old.frame j.node) c → e.desk.fits.flying.number c ≡ b.desk.fits.flying.number c
      number c k = number_other w b.desk.fits.flying e.flight e.turn.added e.desk.fits.flying e.ended c
          (λ q. not_solved c k (q ∙ same_flight e.flight e.flown))

  -- its program stays that of its node, where nothing stops the method then
  pub task_stays : tree_walk p ≡ Ok tree → SolvesOn p old m b.desk.fits.flying w n new → new.stop ≡ None → (t : Task) → IsTaskOf p old j.node t
      → IsTaskOf p new j.node t
  task_stays walk solve none t h = record {
    kind = h.kind ∙ sym solve.stays.kind;
    datum = h.datum ∙ ap (λ (z : Kind). datum_in z p j.node (version_of old.versions j.node)) (sym solve.stays.kind)
        ∙ ap (λ (vs : List Version). datum_in new.kind p j.node (version_of vs j.node)) (sym solve.stays.versions);
    trial = h.trial ∙ sym trial;
    cuts = h.cuts ∙ sym (ap (λ (g : Frame). cuts_read (pools_of new.kind new.banks) (children_in g j.node)) solve.stays.frame
        ∙ ap (λ (z : Kind). cuts_read (pools_of z new.banks) (children_in old.frame j.node)) solve.stays.kind
        ∙ reads_same (pools_of old.kind old.banks) (pools_of old.kind new.banks) (children_in old.frame j.node) pools);
    pivots = h.pivots ∙ ap (λ (x : Budget). x.pivots) (sym solve.stays.budget);
  }
    where
      left : LeavesBy p tree n solve.task.trial solve.all old new
      left = solve.leaves tree walk none

      pools : (c : ℕ) → Contains (children_in old.frame j.node) c
          → slice_get (pools_of old.kind new.banks) c ≡ slice_get (pools_of old.kind old.banks) c
      pools c k = pools_apart p tree n solve.task.trial solve.all old new
          (answer_about solve.task n solve.all (ap (λ (d : Datum). d.node) solve.is_task.datum) solve.answer) left c (not_solved c k)

      trial : trial_of new.lasts.nodes.items (parent_in new.frame j.node) ≡ trial_of old.lasts.nodes.items (parent_in old.frame j.node)
      trial = ap (λ (g : Frame). trial_of new.lasts.nodes.items (parent_in g j.node)) solve.stays.frame
          ∙ trial_same old.lasts.nodes.items new.lasts.nodes.items old.frame n j.node
          (lasts_stay p tree n solve.task.trial solve.all old new left)
          (λ low e. apart (inr (inl (next j.node low
          (ap (λ (g : ℕ → ℕ). g j.node) (sym b.desk.fits.alike.parent ∙ b.desk.machine.parent) ∙ e)))))
