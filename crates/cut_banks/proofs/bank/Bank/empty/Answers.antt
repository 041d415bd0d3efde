use Rattle.std.proofs.Common.{◌∙◌, ◌≡◌, ◌+◌, length, ap, arith}
use Rattle.std.proofs.lemmas.List.{length_push}
use Rattle.cut_banks.specs.Pools.{no_cuts}
use Rattle.cut_banks.proofs.Fitting.{empty_next}
use Rattle.cut_banks.proofs.bank.Bank.empty.Goals as goal

pub loop-node-preserved : goal.loop-node-preserved
loop-node-preserved c = record {
  rest = empty_next c.loop-node.bank c.add.new.self c.loop-node.node c.args.nodes c.loop-node-test.true c.in_ok-add.ensures.ok ∙ c.loop-node.invariant.rest;
  next =
      let pushed : length c.add.new.self ≡ length c.loop-node.bank + 1 = ap length c.in_ok-add.ensures.ok ∙ length_push c.loop-node.bank (no_cuts c.loop-node.node) in
      omega (arith, pushed, c.loop-node.invariant.next);
}
