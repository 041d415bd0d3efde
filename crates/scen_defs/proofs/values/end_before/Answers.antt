use Rattle.std.proofs.Common.{◌≡◌, ◌<◌, ◌-◌, suc, length, arith}
use Rattle.scen_defs.proofs.ValueLaws.{all-before, last-before}
use Rattle.scen_defs.proofs.values.end_before.Goals as goal

pub returns : goal.returns
returns c =
    let size : suc (length c.args.items.now - 1) ≡ length c.args.items.now = omega arith in
    let in_range : length c.args.items.now - 1 < length c.args.items.now = omega arith in (
      (λ t. all-before c.args.node c.args.index (length c.args.items.now - 1) c.args.items.now c.index-items-count.result c.requires size c.index-items-count.is (c.is_before.ensures.0 t)),
      (λ k. c.is_before.ensures.1 (last-before c.args.node c.args.index (length c.args.items.now - 1) c.args.items.now c.index-items-count.result in_range c.index-items-count.is k)),
    )
