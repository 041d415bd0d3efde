use Rattle.edit_entries.proofs.Entries.{set_form}
use Rattle.edit_entries.proofs.entry.with_entry.Goals as goal

pub from_terms-requires : goal.from_terms-requires
from_terms-requires c = set_form c.args.column c.args.value c.args.form.now c.in_ok-terms.terms.items c.terms.result.now c.keeps_order.ensures c.terms.ensures c.in_ok-terms.ensures
