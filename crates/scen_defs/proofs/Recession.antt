-- Recession forms are trees.
use Rattle.std.proofs.Common.{ℕ, List, [], ◌∷◌, map, Option, Some, None}
use Rattle.rationals.specs.Rational.{ℚ, zero_ℚ, one_ℚ, neg_ℚ, by_linear, terms, le_refl_ℚ}
use Rattle.rationals.specs.Ring.Given.{nothing}
use Rattle.scen_defs.specs.Lists.{Each}
use Rattle.rationals.specs.Intervals.{InOrder}
use Rattle.scen_defs.specs.Program.{HasPlace, IsRow}
use Rattle.scen_defs.specs.Trees.HasPlace.{is_first, is_below}
use Rattle.scen_defs.specs.Flat.{zero_end, zero_row, recession}
use Rattle.scen_defs.specs.Laws.{RecessionsAreTrees}
use Rattle.scen_defs.proofs.SumLaws.{each-map}

zero-order : (low high : Option ℚ) → InOrder low high → InOrder (zero_end low) (zero_end high)
zero-order None high h = tt
zero-order (Some l) None h = tt
zero-order (Some l) (Some u) h = le_refl_ℚ zero_ℚ

box-order : (low high : Option ℚ) → InOrder (Some (elim low [ None ↦ neg_ℚ one_ℚ | Some e ↦ zero_ℚ ])) (Some (elim high [ None ↦ one_ℚ | Some e ↦ zero_ℚ ]))
box-order None None = by_linear [] nothing (search terms depth 40) tt
box-order None (Some u) = by_linear [] nothing (search terms depth 40) tt
box-order (Some l) None = by_linear [] nothing (search terms depth 40) tt
box-order (Some l) (Some u) = le_refl_ℚ zero_ℚ

each-mapped : {A B : Type 0} (P : B → Type 0) (f : A → B) (xs : List A) → Each (λ x. P (f x)) xs → Each P (map f xs)
each-mapped P f [] h = tt
each-mapped P f (x ∷ xs) h = (h.0, each-mapped P f xs h.1)

pub recessions_are_trees : RecessionsAreTrees
recessions_are_trees v t = record {
  nodes = each-map (λ n k. record { live = k.live; place = same k.place; cost = k.cost; rows = each-mapped (IsRow (recession v) (v.stage n)) zero_row (v.rows n) (each-map (λ r i. record { entries = each-map (λ e h. record { column = h.column; reached = h.reached }) r.entries i.entries; in_order = zero-order r.low r.high i.in_order }) (v.rows n) k.rows) }) v.live t.nodes;
  columns = λ s. each-map (λ j h. record { once = h.once; stage = h.stage; in_order = box-order (v.lower j) (v.upper j) }) (v.columns s) (t.columns s);
  paths = each-map (λ s h. record { live = h.live; distinct = h.distinct }) v.scenarios t.paths;
  totals = t.totals;
}
  where
    same : {n : ℕ} → HasPlace v n → HasPlace (recession v) n
    same (is_first e) = is_first e
    same (is_below m e) = is_below m e
