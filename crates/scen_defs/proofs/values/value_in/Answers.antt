use Rattle.std.proofs.Common.{◌≡◌, ◌<◌, drop, length, sym, ap, ◌∙◌, arith}
use Rattle.scen_defs.specs.Values.{At, at}
use Rattle.scen_defs.proofs.ValueLaws.{passes-over, nothing-from, found-at}
use Rattle.scen_defs.proofs.values.value_in.Goals as goal

pub search-preserved-then-is_before : goal.search-preserved-then-is_before
search-preserved-then-is_before c =
    let in_range : c.probe-middle.result < length c.args.items.now = omega arith in
    record {
      order = omega arith;
      within = c.search.invariant.within;
      kept = passes-over c.args.node c.args.index _ c.args.items.now c.index-items-middle.result c.requires in_range c.index-items-middle.is (c.is_before.ensures.0 c.if-is_before.true);
      past = c.search.invariant.past;
    }

pub returns-then-stands_at : goal.returns-then-stands_at
returns-then-stands_at c =
    let in_range : c.probe-middle.result < length c.args.items.now = omega arith in
    let here = c.stands_at.ensures.0 c.if-stands_at.true in
    ap (λ (a : At). a.value) c.item.view_is ∙ found-at c.args.node c.args.index _ c.args.items.now c.index-items-middle.result c.requires in_range c.index-items-middle.is here.node here.index

pub search-preserved : goal.search-preserved
search-preserved c =
    let in_range : c.probe-middle.result < length c.args.items.now = omega arith in
    record {
      order = omega arith;
      within = omega arith;
      kept = c.search.invariant.kept;
      past = nothing-from c.args.node c.args.index _ c.args.items.now c.index-items-middle.result c.requires in_range c.index-items-middle.is
          (λ k. let t = c.is_before.ensures.1 k in let f = c.if-is_before.false in absurd (cc (t, f))) (λ k. let t = c.stands_at.ensures.1 k in let f = c.if-stands_at.false in absurd (cc (t, f)));
    }

pub returns : goal.returns
returns c =
    let met : c.search.high ≡ c.search.low = omega arith in
    c.zero.ensures ∙ sym c.search.invariant.past ∙ ap (λ k. at (drop k c.args.items.now) c.args.node c.args.index) met ∙ c.search.invariant.kept
