use Rattle.std.proofs.Common.{ap, ◌∙◌, Some}
use Rattle.cut_sums.proofs.EndLaws.{above_uses, below_uses, zero_uses}
use Rattle.cut_sums.proofs.sums.used_end.Goals as goal

pub returns-then-sign-gt0 : goal.returns-then-sign-gt0
returns-then-sign-gt0 c = above_uses c.args.low c.args.high c.args.multiplier c.sign-sign.result c.sign-sign.ensures c.if-sign-gt0.true

pub returns-then-sign-lt0 : goal.returns-then-sign-lt0
returns-then-sign-lt0 c = below_uses c.args.low c.args.high c.args.multiplier c.sign-sign.result c.sign-sign.ensures c.if-sign-lt0.true

pub returns-else-sign-lt0 : goal.returns-else-sign-lt0
returns-else-sign-lt0 c = ap (λ q. Some q) c.zero.ensures ∙ zero_uses c.args.low c.args.high c.args.multiplier c.sign-sign.result c.sign-sign.ensures c.if-sign-gt0.false c.if-sign-lt0.false
