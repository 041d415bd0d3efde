use Rattle.std.proofs.Common.{◌≡◌, ◌<◌, ◌≤◌, ◌-◌, List, length, arith, Some, None, ap, ◌∙◌}
use Rattle.lp_defs.specs.Phases.{replacing}
use Rattle.lp_defs.specs.Path.{Row, row_at}
use Rattle.lp_defs.proofs.Basic.{pivot_rises}
use Rattle.lp_defs.proofs.Settled.{pivot_long}
use Rattle.simplex_core.proofs.Drives.{found, kept_here, long_here, next_here, stop_here, nonzero_here}
use Rattle.simplex_core.proofs.drive.drive.Goals as goal

pub loop-index-preserved-in_default : goal.loop-index-preserved-in_default
loop-index-preserved-in_default c =
    let e1 : length c.rows-index-end.result.now ≡ length c.args.tableau.now.rows = ap (λ (l : List Row). length l) c.rows-index-end.ensures in
    let e2 : length c.rows.result.now ≡ length c.loop-index.tableau.rows = ap (λ (l : List Row). length l) c.rows.ensures in
    let h : c.loop-index.index < length c.args.tableau.now.rows = omega arith in
    let h2 : c.loop-index.index < length c.loop-index.tableau.rows = omega arith in
    let h3 : c.loop-index.index < length c.rows.result.now = omega arith in
    let f : replacing c.args.columns (row_at c.loop-index.tableau.rows c.loop-index.index) ≡ None = found c.args.columns c.loop-index.index c.loop-index.tableau c.rows.result.now c.index-rows-index.result c.replacing.result h3 c.index-rows-index.is c.rows.ensures c.replacing.ensures ∙ c.in_default.is in
    record {
      within = c.loop-index.invariant.within;
      risen = c.loop-index.invariant.risen;
      long = c.loop-index.invariant.long;
      kept = kept_here c.args.columns (length c.args.tableau.now.rows) c.loop-index.index (c.args.pivots - c.loop-index.count) c.loop-index.count c.loop-index.tableau _ h f c.loop-index.invariant.kept;
    }

pub returns-then-count-pivots-clause-driven : goal.returns-then-count-pivots-clause-driven
returns-then-count-pivots-clause-driven c =
    let e1 : length c.rows-index-end.result.now ≡ length c.args.tableau.now.rows = ap (λ (l : List Row). length l) c.rows-index-end.ensures in
    let e2 : length c.rows.result.now ≡ length c.loop-index.tableau.rows = ap (λ (l : List Row). length l) c.rows.ensures in
    let h : c.loop-index.index < length c.args.tableau.now.rows = omega arith in
    let h2 : c.loop-index.index < length c.loop-index.tableau.rows = omega arith in
    let h3 : c.loop-index.index < length c.rows.result.now = omega arith in
    let f : replacing c.args.columns (row_at c.loop-index.tableau.rows c.loop-index.index) ≡ Some c.in-Some.column = found c.args.columns c.loop-index.index c.loop-index.tableau c.rows.result.now c.index-rows-index.result c.replacing.result h3 c.index-rows-index.is c.rows.ensures c.replacing.ensures ∙ c.in-Some.is in
    long_here c.args.columns (length c.args.tableau.now.rows) c.loop-index.index c.args.pivots c.loop-index.count c.in-Some.column c.loop-index.tableau _ h c.if-count-pivots.true f c.loop-index.invariant.kept

pub pivot-requires-clause-nonzero : goal.pivot-requires-clause-nonzero
pivot-requires-clause-nonzero c =
    let e1 : length c.rows-index-end.result.now ≡ length c.args.tableau.now.rows = ap (λ (l : List Row). length l) c.rows-index-end.ensures in
    let e2 : length c.rows.result.now ≡ length c.loop-index.tableau.rows = ap (λ (l : List Row). length l) c.rows.ensures in
    let h : c.loop-index.index < length c.args.tableau.now.rows = omega arith in
    let h2 : c.loop-index.index < length c.loop-index.tableau.rows = omega arith in
    let h3 : c.loop-index.index < length c.rows.result.now = omega arith in
    let f : replacing c.args.columns (row_at c.loop-index.tableau.rows c.loop-index.index) ≡ Some c.in-Some.column = found c.args.columns c.loop-index.index c.loop-index.tableau c.rows.result.now c.index-rows-index.result c.replacing.result h3 c.index-rows-index.is c.rows.ensures c.replacing.ensures ∙ c.in-Some.is in
    nonzero_here c.args.columns c.loop-index.index c.in-Some.column c.loop-index.tableau h2 c.loop-index.invariant.risen f

pub returns-in-Err-clause-driven : goal.returns-in-Err-clause-driven
returns-in-Err-clause-driven c =
    let e1 : length c.rows-index-end.result.now ≡ length c.args.tableau.now.rows = ap (λ (l : List Row). length l) c.rows-index-end.ensures in
    let e2 : length c.rows.result.now ≡ length c.loop-index.tableau.rows = ap (λ (l : List Row). length l) c.rows.ensures in
    let h : c.loop-index.index < length c.args.tableau.now.rows = omega arith in
    let h2 : c.loop-index.index < length c.loop-index.tableau.rows = omega arith in
    let h3 : c.loop-index.index < length c.rows.result.now = omega arith in
    let f : replacing c.args.columns (row_at c.loop-index.tableau.rows c.loop-index.index) ≡ Some c.in-Some.column = found c.args.columns c.loop-index.index c.loop-index.tableau c.rows.result.now c.index-rows-index.result c.replacing.result h3 c.index-rows-index.is c.rows.ensures c.replacing.ensures ∙ c.in-Some.is in
    let m : c.loop-index.count < c.args.pivots = (let le : c.loop-index.count ≤ c.args.pivots = c.loop-index.invariant.within in let ne : ¬ (c.loop-index.count ≡ c.args.pivots) = c.if-count-pivots.false in omega arith) in
    stop_here c.args.columns (length c.args.tableau.now.rows) c.loop-index.index c.args.pivots c.loop-index.count c.in-Some.column c.loop-index.tableau c.pivot.new.self _ c.in-Err.fault c.stopped.result h m f c.in-Err.ensures c.stopped.ensures c.loop-index.invariant.kept

pub loop-index-preserved : goal.loop-index-preserved
loop-index-preserved c =
    let e1 : length c.rows-index-end.result.now ≡ length c.args.tableau.now.rows = ap (λ (l : List Row). length l) c.rows-index-end.ensures in
    let e2 : length c.rows.result.now ≡ length c.loop-index.tableau.rows = ap (λ (l : List Row). length l) c.rows.ensures in
    let h : c.loop-index.index < length c.args.tableau.now.rows = omega arith in
    let h2 : c.loop-index.index < length c.loop-index.tableau.rows = omega arith in
    let h3 : c.loop-index.index < length c.rows.result.now = omega arith in
    let f : replacing c.args.columns (row_at c.loop-index.tableau.rows c.loop-index.index) ≡ Some c.in-Some.column = found c.args.columns c.loop-index.index c.loop-index.tableau c.rows.result.now c.index-rows-index.result c.replacing.result h3 c.index-rows-index.is c.rows.ensures c.replacing.ensures ∙ c.in-Some.is in
    let m : c.loop-index.count < c.args.pivots = (let le : c.loop-index.count ≤ c.args.pivots = c.loop-index.invariant.within in let ne : ¬ (c.loop-index.count ≡ c.args.pivots) = c.if-count-pivots.false in omega arith) in
    record {
      within = omega arith;
      risen = pivot_rises c.in-Some.column c.loop-index.index c.loop-index.tableau c.pivot.new.self h2 c.loop-index.invariant.risen.rows c.loop-index.invariant.risen.objective c.in-Ok.ensures;
      long = pivot_long c.in-Some.column c.loop-index.index c.loop-index.tableau c.pivot.new.self h2 c.in-Ok.ensures ∙ c.loop-index.invariant.long;
      kept = next_here c.args.columns (length c.args.tableau.now.rows) c.loop-index.index c.args.pivots c.loop-index.count c.in-Some.column c.loop-index.tableau c.pivot.new.self _ h m f c.in-Ok.ensures c.loop-index.invariant.kept;
    }
