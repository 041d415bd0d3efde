use Rattle.std.proofs.Common.{sym, subst}
use Rattle.cut_defs.specs.declared.kinds.CutKind.{CutKind}
use Rattle.cut_sums.proofs.TallyLaws.{on_ok}
use Rattle.node_lp.specs.Problem.{problem_of}
use Rattle.node_lp.specs.Records.{HasWeights}
use Rattle.node_lp.specs.Tests.{HaveShares, StoredAlone}
use Rattle.node_lp.proofs.ShownLemmas.{bound_weights, ray_weights}
use Rattle.node_lp.proofs.shown.test_kind.Goals as goal

pub returns-in-Bound : goal.returns-in-Bound
returns-in-Bound c = on_ok c.test_shares.result
    (λ (k : HaveShares c.shares.result.now c.deref.result.now c.args.weights.now).
    subst (λ (q : CutKind). HasWeights (problem_of c.args.task.now) q c.args.weights.now) (sym c.in-Bound.is)
    (bound_weights c.args.task.now c.shares.result.now c.deref.result.now c.args.weights.now c.requires.problem (c.requires.priced c.in-Bound.is) c.shares.ensures c.deref.ensures.value k)) c.test_shares.ensures

pub returns-in-Ray : goal.returns-in-Ray
returns-in-Ray c = on_ok c.test_alone.result
    (λ (k : StoredAlone c.args.cuts.now c.args.weights.now).
    subst (λ (q : CutKind). HasWeights (problem_of c.args.task.now) q c.args.weights.now) (sym c.in-Ray.is)
    (ray_weights c.args.task.now c.args.cuts.now c.args.weights.now c.requires.cuts k)) c.test_alone.ensures
