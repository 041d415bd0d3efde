-- What is told of the path alone.
use Rattle.std.proofs.Common.{◌≡◌, ◌∙◌, Bool, true, false, List, Option, Some, None, Result, Ok, Err, refl, sym, ap, subst}
use Rattle.rationals.specs.Rational.{ℚ}
use Rattle.rationals.specs.Sparse.{Entry}
use Rattle.rationals.specs.Passes.{Operation}
use Rattle.rationals.specs.Choices.{pick}
use Rattle.cut_defs.specs.Stored.{Stored}
use Rattle.cut_defs.specs.declared.kinds.CutKind.TheVariants as cut_kind
use Rattle.node_lp.specs.declared.task.Task.{Task}
use Rattle.node_lp.specs.declared.found.Found.{Found}
use Rattle.node_lp.specs.declared.found.Found.TheVariants as found
use Rattle.node_lp.specs.declared.solved.Solved.{Solved}
use Rattle.node_lp.specs.declared.solved.Solved.TheVariants as solved
use Rattle.node_lp.specs.Weighed.{Weighed}
use Rattle.node_lp.specs.Problem.{is_priced, problem_of}
use Rattle.node_lp.specs.Walk.{found_in}
use Rattle.node_lp.specs.Told.{stored_cuts, cut_made, with_cut, told_of}
use Rattle.node_lp.specs.Tested.{IsTestable, HasOrigin, IsToldOf, PathAloneTells}
use Rattle.node_lp.specs.Tested.HasOrigin.{by_test, by_path}

-- no cut, and no point
abbrev IsBare : Solved → Type 0
IsBare (solved.Point x v cut) = ⊥
IsBare (solved.NoPoint cut) = ⊥
IsBare solved.Loose = Unit {0}
IsBare solved.PivotsEnded = Unit {0}
IsBare (solved.Passed true o) = ⊥
IsBare (solved.Passed false o) = Unit {0}
IsBare solved.NotGood = ⊥

cut_not_bare : (tell : Stored → Solved) (w : Result (Option Stored) Operation) → ((c : Stored) → IsBare (tell c) → ⊥) → IsBare (with_cut tell w) → ⊥
cut_not_bare tell (Ok (Some c)) h b = h c b
cut_not_bare tell (Ok None) h b = b
cut_not_bare tell (Err o) h b = b

point_not_bare : (z : Bool) (x : List Entry) (v : ℚ) (w : Result (Option Stored) Operation)
    → IsBare (pick z (with_cut (λ c. solved.Point x v (Some c)) w) (solved.Point x v None)) → ⊥
point_not_bare true x v w b = cut_not_bare (λ c. solved.Point x v (Some c)) w (λ c k. k) b
point_not_bare false x v w b = b

-- what is told so is what is found
abbrev found_so : Solved → Found → Type 0
found_so all f = (all ≡ solved.Loose → f ≡ found.Loose) × ((all ≡ solved.PivotsEnded → f ≡ found.PivotsEnded)
    × ((o : Operation) → all ≡ solved.Passed false o → f ≡ found.Passed o))

told_so : (t : Task) (f : Found) → IsBare (told_of t f) → found_so (told_of t f) f
told_so t (found.Point x v m) b =
    absurd (point_not_bare (is_priced t.kind) x v (cut_made t.datum cut_kind.Bound (stored_cuts (is_priced t.kind) t.children.items) m) b)
told_so t (found.NoPoint m) b =
    absurd (cut_not_bare solved.NoPoint (cut_made t.datum cut_kind.Ray (stored_cuts (is_priced t.kind) t.children.items) m) (λ c k. k) b)
told_so t found.Loose b = ((λ e. refl), ((λ e. absurd (cc)), (λ o e. absurd (cc))))
told_so t found.PivotsEnded b = ((λ e. absurd (cc)), ((λ e. refl), (λ o e. absurd (cc))))
told_so t (found.Passed p) b = ((λ e. absurd (cc)), ((λ e. absurd (cc)), (λ o e. let same : p ≡ o = cc in ap found.Passed same)))

bare_so : (t : Task) (all : Solved) (f : Found) → all ≡ told_of t f → IsBare all → found_so all f
bare_so t all f e b = subst (λ (s : Solved). found_so s f) (sym e) (told_so t f (subst IsBare e b))

-- it isn't tested
of_path : (t : Task) (all : Solved) → IsBare all → (h : IsToldOf t all) → h.origin ≡ found_in (problem_of t) t.pivots
of_path t all b h = go h.origin h.comes h.told
  where
    not_kept : (f : Found) → all ≡ told_of t f → IsTestable f → ⊥
    not_kept (found.Point x v m) e k =
        point_not_bare (is_priced t.kind) x v (cut_made t.datum cut_kind.Bound (stored_cuts (is_priced t.kind) t.children.items) m) (subst IsBare e b)
    not_kept (found.NoPoint m) e k =
        cut_not_bare solved.NoPoint (cut_made t.datum cut_kind.Ray (stored_cuts (is_priced t.kind) t.children.items) m) (λ c k. k) (subst IsBare e b)
    not_kept found.Loose e k = k
    not_kept found.PivotsEnded e k = k
    not_kept (found.Passed o) e k = k

    go : (f : Found) → HasOrigin (problem_of t) t.pivots f → all ≡ told_of t f → f ≡ found_in (problem_of t) t.pivots
    go f (by_test k) e = absurd (not_kept f e k)
    go f (by_path p) e = p

pub path_alone : PathAloneTells
path_alone = record {
  loose = λ t h. sym (of_path t solved.Loose tt h) ∙ (bare_so t solved.Loose h.origin h.told tt).0 refl;
  pivots = λ t h. sym (of_path t solved.PivotsEnded tt h) ∙ (bare_so t solved.PivotsEnded h.origin h.told tt).1.0 refl;
  passed = λ t o h. sym (of_path t (solved.Passed false o) tt h) ∙ (bare_so t (solved.Passed false o) h.origin h.told tt).1.1 o refl;
}
