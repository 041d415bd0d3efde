-- Where nothing is made of a record, a used end isn't finite.
use Rattle.std.proofs.Common.{◌≡◌, true, List, [], ◌∷◌, map, Option, Some, None, Result, Ok, refl, sym, ap, subst, ◌∙◌}
use Rattle.rationals.specs.Rational.{ℚ}
use Rattle.rationals.specs.Passes.{Operation, add_product_walk, then_walk}
use Rattle.rationals.specs.Sparse.{Entry, coefficient}
use Rattle.scen_defs.specs.declared.program.NodeRow.{NodeRow}
use Rattle.scen_defs.specs.Lists.{Each}
use Rattle.scen_defs.specs.Ends.{used_end, IsFinite, IsGoodAt}
use Rattle.rationals.proofs.WalkLaws.{ended}
use Rattle.cut_defs.specs.Stored.{Stored}
use Rattle.cut_defs.specs.Stored.Stored.{Stored_of}
use Rattle.cut_defs.proofs.Present.{each_mapped}
use Rattle.cut_sums.specs.declared.sums.Priced.{Priced}
use Rattle.cut_sums.specs.declared.sums.Worth.{Worth}
use Rattle.cut_sums.specs.Walks.{all_columns, priced_from, form_from, worth_step, rows_worth, columns_worth, uses_worth, no_worth, constant_walk, cut_if}
use Rattle.cut_proof.specs.Laws.{NotGoodLaw}
use Rattle.cut_sums.proofs.SumEnds.{price_of, priced_ends, constants_ends}

step_good : (w : Worth) (low high : Option ℚ) (y : ℚ) (e : Option ℚ) → used_end low high y ≡ e → IsGoodAt low high y → (v : Worth) → worth_step w y e ≡ Ok v → w.is_good ≡ true → v.is_good ≡ true
step_good w low high y None u g v e t = absurd (subst IsFinite u g.finite)
step_good w low high y (Some b) u g v e t =
    let one = ended (add_product_walk w.sum y b) (λ s. Ok (record { sum = s; is_good = w.is_good })) v e in
    let r : v ≡ record { sum = one.result; is_good = w.is_good } = let q : Ok (record { sum = one.result; is_good = w.is_good }) ≡ Ok v = one.next_is in cc in
    ap (λ (x : Worth). x.is_good) r ∙ t

rows_good : (y : List Entry) (w : Worth) (rs : List NodeRow) (v : Worth) → rows_worth y w rs ≡ Ok v → Each (λ (r : NodeRow). IsGoodAt r.low r.high (coefficient y r.row)) rs → w.is_good ≡ true → v.is_good ≡ true
rows_good y w [] v e g t = let d : v ≡ w = cc in ap (λ (x : Worth). x.is_good) d ∙ t
rows_good y w (r ∷ rs) v e g t =
    let one = ended (worth_step w (coefficient y r.row) (used_end r.low r.high (coefficient y r.row))) (λ x. rows_worth y x rs) v e in
    rows_good y one.result rs v one.next_is g.1 (step_good w r.low r.high (coefficient y r.row) _ refl g.0 one.result one.first_is t)

columns_good : (w : Worth) (ps : List Priced) (v : Worth) → columns_worth w ps ≡ Ok v → Each (λ (p : Priced). IsGoodAt p.lower p.upper p.value) ps → w.is_good ≡ true → v.is_good ≡ true
columns_good w [] v e g t = let d : v ≡ w = cc in ap (λ (x : Worth). x.is_good) d ∙ t
columns_good w (p ∷ ps) v e g t =
    let one = ended (worth_step w p.value (used_end p.lower p.upper p.value)) (λ x. columns_worth x ps) v e in
    columns_good one.result ps v one.next_is g.1 (step_good w p.lower p.upper p.value _ refl g.0 one.result one.first_is t)

no_cut : (w : Worth) (cut : Stored) → ◌≡◌ {A = Result (Option Stored) Operation} (Ok (cut_if w.is_good cut)) (Ok None) → w.is_good ≡ true → ⊥
no_cut w cut e t = let q : ◌≡◌ {A = Result (Option Stored) Operation} (Ok (Some cut)) (Ok None) = sym (ap (λ b. Ok (cut_if b cut)) t) ∙ e in absurd (cc)

pub nothing_is_made : NotGoodLaw
unfolding price_of
nothing_is_made d s uses constant form e m =
    let one = ended (priced_from d s uses [] d.bounds) (λ priced. then_walk (form_from d s uses [] (all_columns d.rows uses)) (λ f. then_walk (constant_walk d s uses priced) (λ w. Ok (cut_if w.is_good (Stored_of s uses w.sum f))))) None e in
    let two = ended (form_from d s uses [] (all_columns d.rows uses)) (λ f. then_walk (constant_walk d s uses one.result) (λ w. Ok (cut_if w.is_good (Stored_of s uses w.sum f)))) None one.next_is in
    let three = ended (constant_walk d s uses one.result) (λ w. Ok (cut_if w.is_good (Stored_of s uses w.sum two.result))) None two.next_is in
    let rows = ended (rows_worth s.multipliers no_worth d.rows) (λ x. then_walk (columns_worth x one.result) (λ y. uses_worth y uses)) three.result three.first_is in
    let columns = ended (columns_worth rows.result one.result) (λ y. uses_worth y uses) three.result rows.next_is in
    let u = constants_ends columns.result uses three.result columns.next_is in
    let ps : one.result ≡ map (price_of d s uses) d.bounds = priced_ends d s uses [] d.bounds one.result one.first_is in
    let g : Each (λ (p : Priced). IsGoodAt p.lower p.upper p.value) one.result = subst (Each (λ (p : Priced). IsGoodAt p.lower p.upper p.value)) (sym ps) (each_mapped (λ (p : Priced). IsGoodAt p.lower p.upper p.value) (price_of d s uses) d.bounds m.bounds) in
    no_cut three.result (Stored_of s uses three.result.sum two.result) three.next_is
    (u.1 ∙ columns_good rows.result one.result columns.result columns.first_is g (rows_good s.multipliers no_worth d.rows rows.result rows.first_is m.rows refl))
