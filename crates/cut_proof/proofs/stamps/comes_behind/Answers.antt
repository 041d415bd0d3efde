use Rattle.std.proofs.Common.{sym, ◌∙◌}
use Rattle.cut_proof.proofs.Behind.{behind}
use Rattle.cut_proof.proofs.stamps.comes_behind.Goals as goal

-- where the last stamp comes before the first one of the other list
pub returns : goal.returns
returns c h = behind c.args.xs.now c.args.ys.now _ _ c.requires c.if-len-eq0.false c.if-ys-eq0.false (sym c.is_before.ensures ∙ h)
