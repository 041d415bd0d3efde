-- What the walk of a total that came to its end went through.
use Rattle.std.proofs.Common.{◌≡◌, ℕ, Bool, true, false, List, [], ◌∷◌, Result, Ok, sym, ◌∙◌}
use Rattle.rationals.specs.declared.Op.TheVariants.{Add}
use Rattle.rationals.specs.Rational.{ℚ, one_ℚ, ◌+ℚ◌, by_eqs, terms, add_zero_ℚ}
use Rattle.rationals.specs.Ring.Eqs.{done, by_eq}
use Rattle.rationals.specs.Passes.{add_walk, then_walk}
use Rattle.rationals.specs.Sums.{sum_ℚ}
use Rattle.rationals.specs.Sparse.{value_if}
use Rattle.rationals.proofs.WalkLaws.{walk_value, ended}
use Rattle.rationals.specs.Choices.{pick}
use Rattle.scen_defs.specs.Lists.{is_in}
use Rattle.scen_defs.specs.Program.{Scenario}
use Rattle.scen_defs.specs.Walks.{total_from}

through : ℕ → List Scenario → ℚ
through n cs = sum_ℚ (λ (c : Scenario). value_if (is_in n c.path) c.probability) cs

pub total_from-ends : (n : ℕ) (s : ℚ) (cs : List Scenario) (q : ℚ) → total_from n s cs ≡ Ok q → q ≡ s +ℚ sum_ℚ (λ (c : Scenario). value_if (is_in n c.path) c.probability) cs
unfolding through
total_from-ends n s [] q e = let d : q ≡ s = cc in d ∙ sym (add_zero_ℚ s)
total_from-ends n s (c ∷ cs) q e = go (is_in n c.path) e (λ t r k. total_from-ends n t cs r k)
  where
    go : (b : Bool) → pick b (then_walk (add_walk s c.probability) (λ t. total_from n t cs)) (total_from n s cs) ≡ Ok q
        → ((t r : ℚ) → total_from n t cs ≡ Ok r → r ≡ t +ℚ through n cs) → q ≡ s +ℚ (value_if b c.probability +ℚ through n cs)
    go true e rest =
        let one = ended (add_walk s c.probability) (λ t. total_from n t cs) q e in
        let r : q ≡ one.result +ℚ through n cs = rest one.result q one.next_is in
        let t : one.result ≡ s +ℚ c.probability = walk_value Add s c.probability one.result one.first_is in
        by_eqs (q ∷ s ∷ one.result ∷ c.probability ∷ through n cs ∷ []) (by_eq one_ℚ r (by_eq one_ℚ t done)) (search terms depth 40) tt
    go false e rest =
        let r : q ≡ s +ℚ through n cs = rest s q e in
        by_eqs (q ∷ s ∷ through n cs ∷ []) (by_eq one_ℚ r done) (search terms depth 40) tt
