use Rattle.std.proofs.Common.{sym, ◌∙◌}
use Rattle.std.proofs.lemmas.Bool.{false≢true}
use Rattle.cut_proof.specs.View.{uses_content}
use Rattle.node_lp.proofs.UseLemmas.{with_none, with_one}
use Rattle.node_lp.proofs.cutting.push_used.Goals as goal

pub returns-then-is_zero : goal.returns-then-is_zero
returns-then-is_zero c = with_none (uses_content c.args.used.now.items) c.args.weight c.args.cut.now (c.is_zero.ensures.0 c.if-is_zero.true)

pub returns : goal.returns
returns c =
    with_one c.args.used.now.items c.push.new.self.items c.args.weight c.in_ok-cut.cut c.args.cut.now (λ z. false≢true (sym c.if-is_zero.false ∙ c.is_zero.ensures.1 z)) c.in_ok-push.ensures.items c.in_ok-cut.ensures
