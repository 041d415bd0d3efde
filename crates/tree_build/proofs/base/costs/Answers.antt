use Rattle.std.proofs.Common.{◌≡◌, ◌∙◌, ◌+◌, ◌++◌, ap, sym, subst, suc, true, false, drop, get_or, nat_eq, List, [], append_assoc, add-one, arith, ℕ}
use Rattle.std.proofs.lemmas.List.{at_drop_more}
use Rattle.std.proofs.lemmas.Bool.Decides.{nat_tests}
use Rattle.rationals.specs.Sparse.{Entry}
use Rattle.rationals.specs.Forms.{EndsBelow, put}
use Rattle.rationals.specs.Choices.{pick}
use Rattle.smps_build.proofs.BelowLemmas.{below-more}
use Rattle.stoch_defs.specs.Entries.{no_column}
use Rattle.tree_build.specs.Base.{base_costs}
use Rattle.tree_build.proofs.TermLemmas.{put_apart}
use Rattle.tree_build.proofs.base.costs.Goals as goal
use Rattle.tree_build.proofs.base.costs.Goals.{then-at-stage+in_ok-put, else-at-stage}

pub loop-place-preserved : goal.loop-place-preserved
loop-place-preserved c =
    let place = c.loop-place.place in
    let columns = c.args.columns.now in
    let stage = c.args.stage in
    let stages = c.args.stages.now in
    let form = c.loop-place.form in
    let rest = base_costs columns stage (place + 1) (drop (place + 1) stages) in
    let same : base_costs columns stage (suc place) (drop (place + 1) stages) ≡ rest = ap (λ n. base_costs columns stage n (drop (place + 1) stages)) (sym (add-one place)) in
    let read : form ++ pick (nat_eq (get_or stages place 0) stage) (put place (get_or columns place no_column).cost rest) rest ≡ base_costs columns stage 0 stages =
    ap (λ (r : List Entry). form ++ pick (nat_eq (get_or stages place 0) stage) (put place (get_or columns place no_column).cost r) r) (sym same)
    ∙ sym (at_drop_more (λ l. form ++ base_costs columns stage place l) stages place 0 c.loop-place-test.true) ∙ c.loop-place.invariant.kept in
    elim c.if-at-stage.branch [
      | then-at-stage+in_ok-put w ↦
          (let is : nat_eq (get_or stages place 0) stage ≡ true = grind (arith, nat_tests, w.if-at-stage.true) in
          record {
            kept =
                ap (λ f. f ++ rest) (w.form-is ∙ w.in_ok-put.ensures.ok ∙ ap (λ v. form ++ put place v []) w.cost_of.ensures)
                ∙ append_assoc form (put place (get_or columns place no_column).cost []) rest
                ∙ ap (λ r. form ++ r) (sym (put_apart place (get_or columns place no_column).cost rest))
                ∙ ap (λ b. form ++ pick b (put place (get_or columns place no_column).cost rest) rest) (sym is) ∙ read;
            below = subst (λ (f : List Entry). EndsBelow (place + 1) f) (sym w.form-is) (subst (λ (n : ℕ). EndsBelow n w.put.new.form) (sym (add-one place)) w.in_ok-put.ensures.below);
          })
      | else-at-stage w ↦
          (let is : nat_eq (get_or stages place 0) stage ≡ false = grind (arith, nat_tests, w.if-at-stage.false) in
          record {
            kept = ap (λ f. f ++ rest) w.form-is ∙ ap (λ b. form ++ pick b (put place (get_or columns place no_column).cost rest) rest) (sym is) ∙ read;
            below = subst (λ (f : List Entry). EndsBelow (place + 1) f) (sym w.form-is) (subst (λ (n : ℕ). EndsBelow n form) (sym (add-one place)) (below-more place form c.loop-place.invariant.below));
          })
    ]
