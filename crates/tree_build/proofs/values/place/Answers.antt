use Rattle.std.proofs.Common.{ap, ◌+◌, ◌-◌, ◌/◌, ◌<◌, List, length, drop, take, sym, subst, arith, add-one, ℕ}
use Rattle.scen_defs.proofs.NodeReads.{drop_read}
use Rattle.tree_build.specs.declared.parts.RowValues.{RowValues}
use Rattle.tree_build.specs.Values.{RowsFrom, RowsBelow}
use Rattle.tree_build.proofs.RowLemmas.{rows_take, rows_drop}
use Rattle.tree_build.proofs.values.place.Goals as goal

pub bisection-preserved-then-found-row : goal.bisection-preserved-then-found-row
bisection-preserved-then-found-row c =
    let middle = c.bisection.first + (c.bisection.end - c.bisection.first) / 2 in
    let within : middle < length c.args.rows.now = omega (arith, c.bisection.invariant.within, c.bisection-test.true) in
    let x = c.index-rows-middle.result in
    let ex = drop_read c.args.rows.now middle x within c.index-rows-middle.is in
    record {
      order = omega (arith, c.bisection-test.true);
      within = c.bisection.invariant.within;
      before = subst (λ (n : ℕ). RowsBelow c.args.row (take n c.args.rows.now)) (sym (add-one middle)) (rows_take 0 c.args.row middle c.args.rows.now x (drop (middle + 1) c.args.rows.now) c.requires ex (omega (arith, c.if-found-row.true, ap (λ (r : RowValues). r.row) c.index-rows-middle.is)));
      behind = c.bisection.invariant.behind;
    }

pub bisection-preserved : goal.bisection-preserved
bisection-preserved c =
    let middle = c.bisection.first + (c.bisection.end - c.bisection.first) / 2 in
    let within : middle < length c.args.rows.now = omega (arith, c.bisection.invariant.within, c.bisection-test.true) in
    let x = c.index-rows-middle.result in
    let ex = drop_read c.args.rows.now middle x within c.index-rows-middle.is in
    let a = rw ex at (rows_drop 0 middle c.args.rows.now c.requires) in
    let rises : List RowValues → Type 0 = λ l. RowsFrom c.args.row l in
    record {
      order = omega arith;
      within = omega (arith, within);
      before = c.bisection.invariant.before;
      behind = subst rises (sym ex) (omega (arith, c.if-found-row.false, ap (λ (r : RowValues). r.row) c.index-rows-middle.is), a.1);
    }
