use Rattle.std.proofs.Common.{◌≡◌, List, [], ◌∷◌, ◌++◌, length, inl, inr, refl, sym, ap, ap₂, ◌∙◌, arith, append_assoc}
use Rattle.std.proofs.lemmas.List.{append-nil}
use Rattle.rationals.specs.Rational.{ℚ}
use Rattle.slack_form.specs.declared.limits.Limit.{Limit}
use Rattle.slack_form.specs.Standard.{turned, is_turned, turned_back}
use Rattle.slack_form.proofs.signs.turned_back.Goals as goal

one_more : (own new : List ℚ) (rows rs : List Limit) (duals ds : List ℚ) (row : Limit) (dual value : ℚ) (all : List ℚ) → rows ≡ row ∷ rs → duals ≡ dual ∷ ds → value ≡ turned (is_turned row) dual → new ≡ own ++ value ∷ [] → own ++ turned_back rows duals ≡ all → new ++ turned_back rs ds ≡ all
one_more own new rows rs duals ds row dual value all r d v n h =
    let rest : turned_back rows duals ≡ value ∷ turned_back rs ds = ap₂ turned_back r d ∙ ap (λ (z : ℚ). z ∷ turned_back rs ds) (sym v) in
    ap (λ (l : List ℚ). l ++ turned_back rs ds) n ∙ append_assoc own (value ∷ []) (turned_back rs ds) ∙ ap (λ (l : List ℚ). own ++ l) (sym rest) ∙ h

no_rows : (rows : List Limit) (duals : List ℚ) → length rows ≡ 0 → turned_back rows duals ≡ []
no_rows [] duals e = refl
no_rows (row ∷ rows) duals e = absurd (omega (arith, e))

no_duals : (rows : List Limit) (duals : List ℚ) → length duals ≡ 0 → turned_back rows duals ≡ []
no_duals [] duals e = refl
no_duals (row ∷ rows) [] e = refl
no_duals (row ∷ rows) (dual ∷ duals) e = absurd (omega (arith, e))

pub loop-row-preserved : goal.loop-row-preserved
loop-row-preserved c =
    one_more c.loop-row.own.items c.push.new.self.items c.loop-row.row-iterator.a.rest.now c.next.new.self.a.rest.now c.loop-row.row-iterator.b.rest.now c.next.new.self.b.rest.now c.in-Some.row.now c.in-Some.dual.now c.turned.result (turned_back c.args.rows.now c.args.duals.now)
    c.in-Some.ensures.steps.0 c.in-Some.ensures.steps.1 (c.turned.ensures ∙ ap (λ b. turned b c.in-Some.dual.now) c.is_turned.ensures) c.in_ok-push.ensures.items c.loop-row.invariant

pub returns : goal.returns
returns c =
    let rows = c.loop-row.row-iterator.a.rest.now in
    let duals = c.loop-row.row-iterator.b.rest.now in
    let none : turned_back rows duals ≡ [] = elim c.in-None.ensures.steps [ inl w ↦ no_rows rows duals w.1.0 | inr w ↦ no_duals rows duals w.1.0 ] in
    sym (append-nil c.loop-row.own.items) ∙ ap (λ (l : List ℚ). c.loop-row.own.items ++ l) (sym none) ∙ c.loop-row.invariant
