use Rattle.std.proofs.Common.{◌+◌, ◌-◌, ◌/◌, ◌<◌, List, length, drop, take, sym, subst, arith, add-one, ℕ}
use Rattle.rationals.specs.Sparse.{Entry, Ascending}
use Rattle.rationals.specs.Forms.{EndsBelow}
use Rattle.frac128.proofs.FormLemmas.{term_read, rises_drop}
use Rattle.tree_build.proofs.TermLemmas.{below_take}
use Rattle.tree_build.proofs.terms.place.Goals as goal

pub bisection-preserved-then-x-column : goal.bisection-preserved-then-x-column
bisection-preserved-then-x-column c =
    let middle = c.bisection.first + (c.bisection.end - c.bisection.first) / 2 in
    let within : middle < length c.args.xs.now = omega (arith, c.bisection.invariant.within, c.bisection-test.true) in
    let ex = term_read c.args.xs.now middle c.index-xs-middle.result _ within c.index-xs-middle.is c.x.view_is in
    record {
      order = omega (arith, c.bisection-test.true);
      within = c.bisection.invariant.within;
      before = subst (λ (n : ℕ). EndsBelow c.args.column (take n c.args.xs.now)) (sym (add-one middle)) (below_take 0 c.args.column middle c.args.xs.now _ (drop (middle + 1) c.args.xs.now) c.requires ex c.if-x-column.true);
      behind = c.bisection.invariant.behind;
    }

pub bisection-preserved : goal.bisection-preserved
bisection-preserved c =
    let middle = c.bisection.first + (c.bisection.end - c.bisection.first) / 2 in
    let within : middle < length c.args.xs.now = omega (arith, c.bisection.invariant.within, c.bisection-test.true) in
    let ex = term_read c.args.xs.now middle c.index-xs-middle.result _ within c.index-xs-middle.is c.x.view_is in
    let a = rw ex at (rises_drop middle c.args.xs.now c.requires) in
    let rises : List Entry → Type 0 = λ l. Ascending c.args.column l in
    record {
      order = omega arith;
      within = omega (arith, within);
      before = c.bisection.invariant.before;
      behind = subst rises (sym ex) (omega (arith, c.if-x-column.false), a.1);
    }
