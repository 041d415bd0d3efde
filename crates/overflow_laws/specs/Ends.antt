-- Where a solve, an offer or a sum ends in an operation, that operation passes 128 bits.
use Rattle.std.specs.Prelude.{◌≡◌, Bool, List, Option, Err}
use Rattle.rationals.specs.Rational.{ℚ}
use Rattle.rationals.specs.Sparse.{Entry}
use Rattle.rationals.specs.Passes.{Operation}
use Rattle.scen_defs.specs.Values.{At}
use Rattle.scen_defs.specs.Program.{Node, Program}
use Rattle.scen_tree.specs.Trees.{tree_walk}
use Rattle.proved_report.specs.Open.{IsPassing}
use Rattle.cut_defs.specs.Data.{Datum}
use Rattle.cut_defs.specs.Stored.{Stored}
use Rattle.cut_pool.specs.Held.{Held}
use Rattle.cut_pool.specs.Pool.{offer_of}
use Rattle.cut_pool.specs.declared.offer.Offer.TheVariants as offer
use Rattle.dual_assemble.specs.Values.{assembled}
use Rattle.dual_assemble.specs.Ground.{ground_walk}
use Rattle.node_lp.specs.declared.task.Task.{Task}
use Rattle.node_lp.specs.declared.solved.Solved.TheVariants as solved
use Rattle.node_lp.specs.Tested.{IsToldOf}
use Rattle.found_ends.specs.declared.last.Last.{Last}
use Rattle.found_ends.specs.Costs.{joined_cost}

pub record WalksEndPassing : Type 0 where
  -- the solve of a node, and the making of its cut
  pub solve : (t : Task) (in_cut : Bool) (o : Operation) → IsToldOf t (solved.Passed in_cut o) → IsPassing o
  -- an offer of a cut to a pool
  pub offer : (pool : Held) (cut : Stored) (trial : List Entry) (o : Operation)
      → offer_of pool cut trial ≡ offer.Passed o → IsPassing o
  -- the cost of the points of all nodes together
  pub cost : (nodes : List (Option Node)) (totals : List ℚ) (lasts : List (Option Last)) (o : Operation)
      → joined_cost nodes totals lasts ≡ Err o → IsPassing o
  -- the multipliers of all nodes, from the root's cut
  pub assembly : (cut : Stored) (o : Operation) → assembled cut ≡ Err o → IsPassing o
  -- a ground cut
  pub ground : (d : Datum) (total : ℚ) (dual : List At) (cuts : List Stored) (o : Operation)
      → ground_walk d total dual cuts ≡ Err o → IsPassing o
  -- the totals and shares of a tree
  pub tree : (p : Program) (o : Operation) → tree_walk p ≡ Err o → IsPassing o
