-- The sums behind a run end in no operation but one that passes 128 bits.
use Rattle.std.proofs.Common.{ℕ, suc, ◌+◌, List, [], ◌∷◌, ◌++◌, Option, Some, None, get_or, map}
use Rattle.rationals.specs.declared.Op.TheVariants.{Add, Mul, Div}
use Rattle.rationals.specs.Rational.{ℚ, zero_ℚ, one_ℚ}
use Rattle.rationals.specs.Forms.{find, dot_step, dot_from}
use Rattle.rationals.specs.Sparse.{Entry}
use Rattle.scen_defs.specs.Program.{Node, Program, Scenario}
use Rattle.scen_tree.specs.declared.position.Position.{Position}
use Rattle.scen_tree.specs.declared.position.Position.TheVariants.{Dropped, Root, Below}
use Rattle.scen_tree.specs.Chances.{Sum, gathered_from, live_sum, live_sums_from, share_walk, shares_from, chances_walk}
use Rattle.scen_tree.specs.Trees.{position_of, tree_walk}
use Rattle.cut_defs.specs.Stored.{Stored, StoredUses}
use Rattle.cut_defs.specs.Stored.Stored.{Stored_of}
use Rattle.cut_defs.specs.Stored.StoredUses.{No_stored, Use_stored}
use Rattle.scen_defs.specs.Lists.{Each}
use Rattle.scen_defs.specs.Walks.{total_from}
use Rattle.dual_assemble.specs.Walks.{form_at, padded, flat_from, flats_from}
use Rattle.dual_assemble.specs.Values.{assembled}
use Rattle.found_ends.specs.declared.last.Last.{Last}
use Rattle.found_ends.specs.Lasts.{last_at, last_point}
use Rattle.found_ends.specs.Costs.{part, node_number, node_costs_from, joined_cost}
use Rattle.claim_laws.proofs.Passing.{EndsIn, IsWide, then_ends, walk_ends, step_ends, total_ends}
use Rattle.overflow_laws.proofs.Forms.{changed_ends, sum_wide}

-- ---- the cost of joined points
dot_step_ends : (s v : ℚ) (o : Option ℚ) → EndsIn IsWide (dot_step s v o)
dot_step_ends s v None = tt
dot_step_ends s v (Some w) = step_ends Add s v w

dot_ends : (s : ℚ) (f g : List Entry) → EndsIn IsWide (dot_from s f g)
dot_ends s [] g = tt
dot_ends s (e ∷ f) g = then_ends IsWide _ _ (dot_step_ends s e.value (find g e.column)) (λ t. dot_ends t f g)

part_ends : (total : ℚ) (place : Option Node) (point : Option (List Entry)) (s : ℚ) → EndsIn IsWide (part total place point s)
part_ends total None point s = tt
part_ends total (Some node) None s = tt
part_ends total (Some node) (Some point) s = then_ends IsWide _ _ (dot_ends zero_ℚ node.cost point) (λ own. step_ends Add s total own)

costs_end : (totals : List ℚ) (lasts : List (Option Last)) (n : ℕ) (s : ℚ) (places : List (Option Node))
    → EndsIn IsWide (node_costs_from totals lasts n s places)
costs_end totals lasts n s [] = tt
costs_end totals lasts n s (place ∷ places) =
    then_ends IsWide _ _ (part_ends (get_or totals (node_number n) zero_ℚ) place (last_point (last_at lasts n)) s)
    (λ t. costs_end totals lasts (n + 1) t places)

pub joined_ends : (nodes : List (Option Node)) (totals : List ℚ) (lasts : List (Option Last))
    → EndsIn IsWide (joined_cost nodes totals lasts)
joined_ends nodes totals lasts = costs_end totals lasts 0 zero_ℚ nodes

-- ---- the multipliers of all nodes
mutual
  flat_ends : (fs : List (List Entry)) (w : ℚ) (cut : Stored) → EndsIn IsWide (flat_from fs w cut)
  flat_ends fs w (Stored_of s uses constant form) =
      then_ends IsWide _ _ (changed_ends IsWide _ _ (sum_wide w (form_at (padded fs (s.node + 1)) s.node) s.multipliers))
      (λ t. flats_end t w uses)

  flats_end : (fs : List (List Entry)) (w : ℚ) (uses : StoredUses) → EndsIn IsWide (flats_from fs w uses)
  flats_end fs w No_stored = tt
  flats_end fs w (Use_stored v cut uses) =
      then_ends IsWide _ _ (walk_ends Mul w v) (λ p. then_ends IsWide _ _ (flat_ends fs p cut) (λ t. flats_end t w uses))

pub assembled_ends : (cut : Stored) → EndsIn IsWide (assembled cut)
assembled_ends cut = changed_ends IsWide _ (flat_from [] one_ℚ cut) (flat_ends [] one_ℚ cut)

-- ---- a tree
gathered_ends : (built : List ℚ) (sums : List Sum) → Each (λ (s : Sum). EndsIn IsWide s) sums → EndsIn IsWide (gathered_from built sums)
gathered_ends built [] h = tt
gathered_ends built (s ∷ sums) h = then_ends IsWide s _ h.0 (λ v. gathered_ends (built ++ v ∷ []) sums h.1)

live_ends : (place : Position) (s : Sum) → EndsIn IsWide s → EndsIn IsWide (live_sum place s)
live_ends Dropped s h = tt
live_ends Root s h = h
live_ends (Below parent) s h = h

live_sums_end : (n : ℕ) (places : List Position) (scenarios : List Scenario)
    → Each (λ (s : Sum). EndsIn IsWide s) (live_sums_from n places scenarios)
live_sums_end n [] scenarios = tt
live_sums_end n (place ∷ places) scenarios =
    (live_ends place (total_from n zero_ℚ scenarios) (total_ends n zero_ℚ scenarios), live_sums_end (suc n) places scenarios)

share_ends : (totals : List ℚ) (total : ℚ) (place : Position) → EndsIn IsWide (share_walk totals total place)
share_ends totals total Dropped = tt
share_ends totals total Root = tt
share_ends totals total (Below parent) = walk_ends Div total (get_or totals parent zero_ℚ)

shares_end : (totals : List ℚ) (n : ℕ) (places : List Position) → Each (λ (s : Sum). EndsIn IsWide s) (shares_from totals n places)
shares_end totals n [] = tt
shares_end totals n (place ∷ places) = (share_ends totals (get_or totals n zero_ℚ) place, shares_end totals (suc n) places)

pub tree_ends : (p : Program) → EndsIn IsWide (tree_walk p)
tree_ends p =
    then_ends IsWide (chances_walk (map position_of p.nodes) p.scenarios) _
    (then_ends IsWide _ _
    (gathered_ends [] (live_sums_from 0 (map position_of p.nodes) p.scenarios) (live_sums_end 0 (map position_of p.nodes) p.scenarios))
    (λ totals. then_ends IsWide _ _
    (gathered_ends [] (shares_from totals 0 (map position_of p.nodes)) (shares_end totals 0 (map position_of p.nodes)))
    (λ shares. tt)))
    (λ chances. tt)
