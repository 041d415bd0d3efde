use Rattle.std.proofs.Common.{◌≡◌, ◌∙◌, sym, subst, take, drop, true, false, List}
use Rattle.rationals.specs.Sparse.{Entry, Ascending}
use Rattle.rationals.specs.Forms.{EndsBelow}
use Rattle.rationals.specs.Rational.{zero_ℚ}
use Rattle.tree_build.specs.Values.{StandsAt}
use Rattle.tree_build.proofs.TermLemmas.{removed, replaced, inserted, left_out}
use Rattle.tree_build.proofs.terms.set_term.Goals as goal

pub returns-then-is_zero : goal.returns-then-is_zero
returns-then-is_zero c =
    let j = c.args.column in
    let at = c.place-at.result in
    let before = subst (λ (l : List Entry). EndsBelow j (take at l)) c.deref.ensures.value c.place-at.ensures.before in
    let stands = subst (λ (l : List Entry). StandsAt l at j) c.deref-2.ensures.value (c.stands_at.ensures.0 c.if-stands_at.true) in
    c.remove.ensures.items ∙ removed j c.args.value c.args.xs.now.items at before stands (c.is_zero.ensures.0 c.if-is_zero.true)

pub returns-else-is_zero : goal.returns-else-is_zero
returns-else-is_zero c =
    let j = c.args.column in
    let at = c.place-at.result in
    let before = subst (λ (l : List Entry). EndsBelow j (take at l)) c.deref.ensures.value c.place-at.ensures.before in
    let stands = subst (λ (l : List Entry). StandsAt l at j) c.deref-2.ensures.value (c.stands_at.ensures.0 c.if-stands_at.true) in
    replaced j c.args.value c.args.xs.now.items at before stands (λ e. (let q : false ≡ true = sym c.if-is_zero.false ∙ c.is_zero.ensures.1 e in cc))

pub returns-in_ok-insert : goal.returns-in_ok-insert
returns-in_ok-insert c =
    let j = c.args.column in
    let at = c.place-at.result in
    let before = subst (λ (l : List Entry). EndsBelow j (take at l)) c.deref.ensures.value c.place-at.ensures.before in
    let behind = subst (λ (l : List Entry). Ascending j (drop at l)) c.deref.ensures.value c.place-at.ensures.behind in
    let none : StandsAt c.args.xs.now.items at j → ⊥ = λ s. (let q : false ≡ true = sym c.if-stands_at.false ∙ c.stands_at.ensures.1 (subst (λ (l : List Entry). StandsAt l at j) (sym c.deref-2.ensures.value) s) in cc) in
    let some : c.args.value ≡ zero_ℚ → ⊥ = λ e. (let q : false ≡ true = sym c.if-not-is_zero.true ∙ c.is_zero-else-stands_at.ensures.1 e in cc) in
    c.in_ok-insert.ensures.items ∙ inserted j c.args.value c.args.xs.now.items at before behind none some

pub returns-else-not-is_zero : goal.returns-else-not-is_zero
returns-else-not-is_zero c =
    let j = c.args.column in
    let at = c.place-at.result in
    let before = subst (λ (l : List Entry). EndsBelow j (take at l)) c.deref.ensures.value c.place-at.ensures.before in
    let behind = subst (λ (l : List Entry). Ascending j (drop at l)) c.deref.ensures.value c.place-at.ensures.behind in
    let none : StandsAt c.args.xs.now.items at j → ⊥ = λ s. (let q : false ≡ true = sym c.if-stands_at.false ∙ c.stands_at.ensures.1 (subst (λ (l : List Entry). StandsAt l at j) (sym c.deref-2.ensures.value) s) in cc) in
    left_out j c.args.value c.args.xs.now.items at before behind none (c.is_zero-else-stands_at.ensures.0 c.if-not-is_zero.false)
