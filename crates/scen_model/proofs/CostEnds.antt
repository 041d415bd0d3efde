-- The value of the walk over the cost.
use Rattle.std.proofs.Common.{◌≡◌, ℕ, [], ◌∷◌, Ok, sym, ◌∙◌}
use Rattle.rationals.specs.declared.Op.TheVariants.{Add}
use Rattle.rationals.specs.Rational.{ℚ, zero_ℚ, one_ℚ, ◌+ℚ◌, ◌*ℚ◌, by_eqs, terms, zero_add_ℚ}
use Rattle.rationals.specs.Ring.Eqs.{done, by_eq}
use Rattle.rationals.specs.Passes.{then_walk, add_product_walk}
use Rattle.rationals.proofs.WalkLaws.{step_value, ended, product_from-ends}
use Rattle.scen_defs.specs.Program.{View, total}
use Rattle.scen_defs.specs.Flat.{node_cost}
use Rattle.scen_defs.proofs.Costs.{cost-by_nodes}
use Rattle.rationals.specs.Forms.{product_from}
use Rattle.scen_defs.specs.Walks.{total_from}
use Rattle.scen_model.specs.Walks.{totals_walk, cost_step, costs_walk}
use Rattle.scen_model.specs.Laws.{CostLaw}
use Rattle.scen_defs.proofs.WalkEnds.{total_from-ends}
use Rattle.scen_model.proofs.WalkEnds.{fold-adds}

step-adds : (v : View) (x : ℕ → ℕ → ℚ) (s : ℚ) (n : ℕ) (q : ℚ) → cost_step v.scenarios (v.cost n) (x n) n s ≡ Ok q → q ≡ s +ℚ total v n *ℚ node_cost v x n
step-adds v x s n q e =
    let one = ended (product_from (x n) zero_ℚ (v.cost n)) (λ c. then_walk (total_from n zero_ℚ v.scenarios) (λ t. add_product_walk s t c)) q e in
    let two = ended (total_from n zero_ℚ v.scenarios) (λ t. add_product_walk s t one.result) q one.next_is in
    let c : one.result ≡ zero_ℚ +ℚ node_cost v x n = product_from-ends (x n) zero_ℚ (v.cost n) one.result one.first_is in
    let t : two.result ≡ zero_ℚ +ℚ total v n = total_from-ends n zero_ℚ v.scenarios two.result two.first_is in
    let r : q ≡ s +ℚ two.result *ℚ one.result = step_value Add s two.result one.result q two.next_is in
    by_eqs (q ∷ s ∷ one.result ∷ two.result ∷ total v n ∷ node_cost v x n ∷ []) (by_eq one_ℚ r (by_eq one.result t (by_eq (total v n) c done))) (search terms depth 40) tt

pub cost_is : CostLaw
cost_is v x q t e =
    let one = ended (totals_walk v v.live) (λ _. costs_walk v x) q e in
    fold-adds (λ s n. cost_step v.scenarios (v.cost n) (x n) n s) (λ n. total v n *ℚ node_cost v x n) (λ s n r k. step-adds v x s n r k) zero_ℚ v.live q one.next_is
    ∙ zero_add_ℚ _ ∙ sym (cost-by_nodes v t x)
