use Rattle.std.proofs.Common.{sym, ap, subst, arith, ◌∙◌}
use Rattle.rationals.specs.Forms.{IsForm}
use Rattle.slack_form.specs.Standard.{next_slack, turned_form}
use Rattle.slack_form.proofs.Equations.{equation_is_form, equation_made}
use Rattle.slack_form.proofs.slacks.equation.Goals as goal

pub from_terms-requires : goal.from_terms-requires
from_terms-requires c =
    subst IsForm (sym (equation_made c.is_turned-is_turned.result c.args.slack c.args.row.now c.in_ok-terms.terms.items c.push_slack.new.terms.items
    c.is_turned-is_turned.ensures
    (c.in_ok-terms.ensures ∙ ap (turned_form c.is_turned-is_turned.result) c.terms.ensures) c.in_ok-push_slack.ensures))
    (equation_is_form c.args.slack (next_slack c.args.slack c.args.row.now.kind) c.args.row.now c.requires (omega arith)).form

pub returns : goal.returns
returns c =
    c.from_terms.ensures ∙ equation_made c.is_turned-is_turned.result c.args.slack c.args.row.now c.in_ok-terms.terms.items c.push_slack.new.terms.items
    c.is_turned-is_turned.ensures
    (c.in_ok-terms.ensures ∙ ap (turned_form c.is_turned-is_turned.result) c.terms.ensures) c.in_ok-push_slack.ensures
