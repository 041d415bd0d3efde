-- The first step of a program that is begun is a solve, which is counted.
use Rattle.std.proofs.Common.{◌≡◌, ℕ, ◌-◌, ◌^◌, min, Bool, true, false, length, refl, ap, ◌∙◌, arith}
use Rattle.std.proofs.lemmas.List.{length-map}
use Rattle.scen_defs.specs.Program.{Program}
use Rattle.scen_defs.specs.Valid.{IsSmall, IsProgram}
use Rattle.node_data.specs.Frames.{Frame, parent_of, frame_of}
use Rattle.pass_table.specs.Machine.{Machine, IsAbove, IsClosed, MayBegin}
use Rattle.pass_table.specs.Machine.IsAbove.{next, further}
use Rattle.pass_core.specs.declared.state.State.{State}
use Rattle.pass_core.specs.Counting.{with_commit}
use Rattle.pass_core.specs.Tabled.{IsTabled, IsTabledBy}
use Rattle.pass_core.specs.Turns.{MakesStep, begins_none, opens_run, solves}
use Rattle.pass_core.proofs.Parentage.{root_lives, first_machine, first_tabled}

-- a frame has as many nodes as the program
pub all_nodes : (p : Program) (frame : Frame) (n : ℕ) → IsSmall p → frame ≡ frame_of p → n ≡ min (length frame.parents) (2 ^ 32 - 1) → n ≡ length p.nodes
all_nodes p frame n small f e =
    let g : length frame.parents ≡ length p.nodes = ap (λ (x : Frame). length x.parents) f ∙ length-map p.nodes parent_of in
    omega (arith, e, g, small.nodes)

module _ (p : Program) (s : State) (i : IsProgram p) where
  -- nothing is above the root
  none_above : (a n : ℕ) → n ≡ 0 → IsAbove (first_machine p s).parent a n → ⊥
  none_above a n e (next k low is) = omega (arith, e, low)
  none_above a n e (further k low above) = omega (arith, e, low)

  -- so that it may be begun
  root_begins : MayBegin (first_machine p s) 0
  root_begins = record {
    live = root_lives p i;
    stale = λ fresh. let low = fresh.made.solved in omega (arith, low);
    idle = λ flying. let f = flying.1.1.flight in absurd (cc);
    above = λ a above. absurd (none_above a 0 refl above);
  }

  not_closed : IsClosed (first_machine p s) → ⊥
  not_closed closed = let low = (closed 0 (root_lives p i)).0.made.solved in omega (arith, low)

  -- where the run is closed something was done
  pub closed_begun : (m : Machine) → s.frame ≡ frame_of p → IsTabledBy p s m → IsClosed m → s.is_begun ≡ true
  closed_begun m frame t closed = go s.is_begun refl
    where
      go : (b : Bool) → s.is_begun ≡ b → s.is_begun ≡ true
      go true e = e
      go false e =
          let first = first_tabled p s i frame t.pools (t.unused e) in
          absurd (not_closed (first.fits.closed.0 (t.fits.closed.1 closed)))

  is_counted : (new : State) (told : Bool) → MakesStep p s (first_machine p s) new told → new.counts ≡ with_commit s.counts
  is_counted new told (begins_none rests points reasons ready) = absurd ((rests (omega arith, omega arith)).idle 0 root_begins)
  is_counted new told (opens_run closed earlier opens points reasons run first left) = absurd (not_closed closed)
  is_counted new told (solves lasts n ready is_next node) = node.reasons.counts

  pub first_counted : (new : State) (told : Bool) → s.frame ≡ frame_of p → s.is_begun ≡ false → IsTabled p s
      → ((m : Machine) → IsTabledBy p s m → MakesStep p s m new told) → new.counts ≡ with_commit s.counts
  first_counted new told frame begun t step =
      is_counted new told (step (first_machine p s) (first_tabled p s i frame t.1.pools (t.1.unused begun)))
