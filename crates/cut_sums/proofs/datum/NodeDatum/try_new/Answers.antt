use Rattle.std.proofs.Common.{refl}
use Rattle.cut_sums.proofs.DatumLaws.{datum_seen, no_datum}
use Rattle.cut_sums.proofs.datum.NodeDatum.try_new.Goals as goal

pub invariant_of-result : goal.invariant_of-result
invariant_of-result c =
    datum_seen c.args.node c.args.rows_version c.args.costs_version c.args.cost c.args.rows.items c.deref.result.now c.args.bounds.items c.deref-2.result.now c.args.shares.items c.deref-3.result.now
    c.deref.ensures.value c.deref-2.ensures.value c.deref-3.ensures.value c.is_datum.result c.keeps_order.ensures c.is_datum.ensures c.if-is_datum.true

pub returns-then-is_datum-clause-exact : goal.returns-then-is_datum-clause-exact
returns-then-is_datum-clause-exact c = (
  (λ _. datum_seen c.args.node c.args.rows_version c.args.costs_version c.args.cost c.args.rows.items c.deref.result.now c.args.bounds.items c.deref-2.result.now c.args.shares.items c.deref-3.result.now
      c.deref.ensures.value c.deref-2.ensures.value c.deref-3.ensures.value c.is_datum.result c.keeps_order.ensures c.is_datum.ensures c.if-is_datum.true),
  λ _. refl,
)

pub returns-else-is_datum-clause-exact : goal.returns-else-is_datum-clause-exact
returns-else-is_datum-clause-exact c = (
  (λ e. absurd (cc)),
  no_datum c.args.node c.args.rows_version c.args.costs_version c.args.cost c.args.rows.items c.deref.result.now c.args.bounds.items c.deref-2.result.now c.args.shares.items c.deref-3.result.now
      c.deref.ensures.value c.deref-2.ensures.value c.deref-3.ensures.value c.is_datum.result c.is_datum.ensures c.if-is_datum.false,
)
