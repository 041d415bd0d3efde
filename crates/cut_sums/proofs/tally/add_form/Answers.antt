use Rattle.cut_sums.proofs.TallyLaws.{on_ok, form_moves}
use Rattle.cut_sums.proofs.tally.add_form.Goals as goal

pub returns-clause-moved : goal.returns-clause-moved
returns-clause-moved c = on_ok c.add_terms.result (form_moves c.args.weight c.args.form.now _ c.args.tally.now c.add_terms.new.tally c.keeps_order.ensures.rises c.terms.ensures) c.add_terms.ensures.moved
