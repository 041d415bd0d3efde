-- Where a solve, an offer or a sum ends in an operation, that operation passes 128 bits.
use Rattle.std.proofs.Common.{◌≡◌, Result, Err, subst}
use Rattle.rationals.specs.Passes.{Operation}
use Rattle.proved_report.specs.Open.{IsPassing}
use Rattle.claim_laws.proofs.Passing.{EndsIn, IsWide}
use Rattle.node_lp.specs.declared.solved.Solved.TheVariants as solved
use Rattle.overflow_laws.specs.Ends.{WalksEndPassing}
use Rattle.overflow_laws.proofs.Cuts.{OfferWide, ground_ends, offer_ends}
use Rattle.overflow_laws.proofs.Nodes.{TellsWell, tells_well}
use Rattle.overflow_laws.proofs.Sums.{joined_ends, assembled_ends, tree_ends}

of_end : {X : Type 0} (w : Result X Operation) (o : Operation) → EndsIn IsWide w → w ≡ Err o → IsPassing o
of_end w o h e = record { holds = subst (EndsIn IsWide) e h }

pub walks_end_passing : WalksEndPassing
walks_end_passing = record {
  solve = λ t in_cut o e. record { holds = tells_well t (solved.Passed in_cut o) e };
  offer = λ pool cut trial o e. record { holds = subst OfferWide e (offer_ends pool cut trial) };
  cost = λ nodes totals lasts o e. of_end _ o (joined_ends nodes totals lasts) e;
  assembly = λ cut o e. of_end _ o (assembled_ends cut) e;
  ground = λ d total dual cuts o e. of_end _ o (ground_ends d total dual cuts) e;
  tree = λ p o e. of_end _ o (tree_ends p) e;
}
