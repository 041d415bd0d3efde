-- The scenarios after an edit, and the operations that make them.
use Rattle.std.proofs.Common.{◌≡◌, ℕ, Bool, true, false, not, ◌||◌, List, [], ◌∷◌, ◌++◌, map, Option, Some, None, Result, Ok, Err, refl, sym, ap, ap₂, subst, ◌∙◌, append_assoc, append-nil}
use Rattle.rationals.specs.Rational.{ℚ, one_ℚ, ◌-ℚ◌, ◌*ℚ◌, ◌/ℚ◌}
use Rattle.rationals.specs.declared.Op.TheVariants.{Sub, Mul, Div}
use Rattle.rationals.specs.Passes.{Operation, passes, answer, then_walk, then_value, sub_walk, div_walk}
use Rattle.rationals.specs.Choices.{pick}
use Rattle.scen_defs.specs.Program.{Scenario, Program}
use Rattle.scen_tree.specs.declared.position.Position.{Position}
use Rattle.scen_tree.specs.Chances.{Chances, chances_walk}
use Rattle.scen_tree.specs.Trees.{position_of, tree_by, tree_walk}
use Rattle.edit_defs.specs.declared.edit.Edit.{Edit}
use Rattle.edit_defs.specs.declared.edit.Edit.TheVariants.{Prob, Drop, Add}
use Rattle.edit_defs.specs.After.{is_named, is_known, others, times, divided, with_probability, rest_of, after}
use Rattle.edit_defs.specs.Operations.{first_passing, by_factor, operation, or_else, ended_by, old_probability, probability_operations, chances_passed}
use Rattle.edit_chances.specs.declared.scaled.Scale.{Scale}
use Rattle.edit_chances.specs.declared.scaled.Scale.TheVariants.{Times, Over}
use Rattle.edit_chances.specs.Scaled.{with_chance, own_part, scaled_part, with_part, rescaled_from, rest_walk, prob_walk, drop_walk, add_walk_from, tested_walk}
use Rattle.edit_chances.proofs.Comes.{Comes, stepped}

-- ---- without operations
abbrev scaled_value : Scale → ℚ → ℚ
scaled_value (Times factor) q = q *ℚ factor
scaled_value (Over rest) q = q /ℚ rest

abbrev scale_operation : Scale → Scenario → Operation
scale_operation (Times factor) s = by_factor Mul factor s
scale_operation (Over rest) s = by_factor Div rest s

abbrev part : Bool → Option ℚ → Scale → Scenario → List Scenario
part named own scale s = pick named (own_part own s) (with_chance s (scaled_value scale s.probability) ∷ [])

abbrev rescaled : List ℕ → Option ℚ → Scale → List Scenario → List Scenario
rescaled name own scale [] = []
rescaled name own scale (s ∷ ss) = part (is_named name s) own scale s ++ rescaled name own scale ss

abbrev others_by : Bool → Scenario → List Scenario → List Scenario
others_by named s ss = elim (not named) [ true ↦ s ∷ ss | false ↦ ss ]

one-scaled : (t : Bool) (p : Operation) (x : ℚ) (made : List Scenario) (s : Scenario) (f : List Scenario → Result (List Scenario) Operation) (o : Option Operation) (v : List Scenario) → Comes (f (made ++ with_chance s x ∷ [])) o v
    → Comes (then_walk (then_value (λ q. made ++ with_chance s q ∷ []) (answer t p x)) f) (pick t (Some p) o) v
one-scaled true p x made s f o v h = refl
one-scaled false p x made s f o v h = h

scaled-comes : (scale : Scale) (s : Scenario) (made : List Scenario) (f : List Scenario → Result (List Scenario) Operation) (os : List Operation) (v : List Scenario) → Comes (f (made ++ with_chance s (scaled_value scale s.probability) ∷ [])) (first_passing os) v
    → Comes (then_walk (scaled_part scale s made) f) (first_passing (scale_operation scale s ∷ os)) v
scaled-comes (Times factor) s made f os v h = one-scaled (passes Mul s.probability factor) (by_factor Mul factor s) (s.probability *ℚ factor) made s f (first_passing os) v h
scaled-comes (Over rest) s made f os v h = one-scaled (passes Div s.probability rest) (by_factor Div rest s) (s.probability /ℚ rest) made s f (first_passing os) v h

part-comes : (t : Bool) (own : Option ℚ) (scale : Scale) (s : Scenario) (made os : List Scenario) (f : List Scenario → Result (List Scenario) Operation) (rest : List Scenario)
    → ((more : List Scenario) → Comes (f more) (first_passing (map (scale_operation scale) os)) (more ++ rest))
    → Comes (then_walk (pick t (Ok (made ++ own_part own s)) (scaled_part scale s made)) f) (first_passing (map (scale_operation scale) (others_by t s os))) (made ++ (part t own scale s ++ rest))
part-comes true own scale s made os f rest h =
    subst (Comes (f (made ++ own_part own s)) (first_passing (map (scale_operation scale) os))) (append_assoc made (own_part own s) rest) (h (made ++ own_part own s))
part-comes false own scale s made os f rest h =
    scaled-comes scale s made f (map (scale_operation scale) os) (made ++ (with_chance s (scaled_value scale s.probability) ∷ rest))
    (subst (Comes (f (made ++ with_chance s (scaled_value scale s.probability) ∷ [])) (first_passing (map (scale_operation scale) os))) (append_assoc made (with_chance s (scaled_value scale s.probability) ∷ []) rest) (h (made ++ with_chance s (scaled_value scale s.probability) ∷ [])))

pub rescales : (name : List ℕ) (own : Option ℚ) (scale : Scale) (made ss : List Scenario)
    → Comes (rescaled_from name own scale made ss) (first_passing (map (scale_operation scale) (others name ss))) (made ++ rescaled name own scale ss)
rescales name own scale made [] = (sym (append-nil made), refl)
rescales name own scale made (s ∷ ss) = part-comes (is_named name s) own scale s made (others name ss) (λ more. rescaled_from name own scale more ss) (rescaled name own scale ss) (λ more. rescales name own scale more ss)

-- ---- the three edits
prob-same : (name : List ℕ) (q factor : ℚ) (ss : List Scenario) → rescaled name (Some q) (Times factor) ss ≡ map (with_probability name q factor) ss
prob-same name q factor [] = refl
prob-same name q factor (s ∷ ss) = go (is_named name s) (prob-same name q factor ss)
  where
    go : (t : Bool) → rescaled name (Some q) (Times factor) ss ≡ map (with_probability name q factor) ss → part t (Some q) (Times factor) s ++ rescaled name (Some q) (Times factor) ss ≡ pick t (record s { probability = q }) (times factor s) ∷ map (with_probability name q factor) ss
    go true h = ap (λ ts. with_chance s q ∷ ts) h
    go false h = ap (λ ts. times factor s ∷ ts) h

drop-same : (name : List ℕ) (rest : ℚ) (ss : List Scenario) → rescaled name None (Over rest) ss ≡ map (divided rest) (others name ss)
drop-same name rest [] = refl
drop-same name rest (s ∷ ss) = go (is_named name s) (drop-same name rest ss)
  where
    go : (t : Bool) → rescaled name None (Over rest) ss ≡ map (divided rest) (others name ss) → part t None (Over rest) s ++ rescaled name None (Over rest) ss ≡ map (divided rest) (others_by t s (others name ss))
    go true h = h
    go false h = ap (λ ts. divided rest s ∷ ts) h

all-others : (name : List ℕ) (ss : List Scenario) → is_known name ss ≡ false → others name ss ≡ ss
all-others name [] h = refl
all-others name (s ∷ ss) h = go (is_named name s) h (all-others name ss)
  where
    go : (t : Bool) → t || is_known name ss ≡ false → (is_known name ss ≡ false → others name ss ≡ ss) → others_by t s (others name ss) ≡ s ∷ ss
    go true h f = absurd (cc)
    go false h f = ap (λ ts. s ∷ ts) (f h)

add-same : (name : List ℕ) (factor : ℚ) (ss : List Scenario) → is_known name ss ≡ false → rescaled name None (Times factor) ss ≡ map (times factor) ss
add-same name factor [] h = refl
add-same name factor (s ∷ ss) h = go (is_named name s) h (add-same name factor ss)
  where
    go : (t : Bool) → t || is_known name ss ≡ false → (is_known name ss ≡ false → rescaled name None (Times factor) ss ≡ map (times factor) ss) → part t None (Times factor) s ++ rescaled name None (Times factor) ss ≡ times factor s ∷ map (times factor) ss
    go true h f = absurd (cc)
    go false h f = ap (λ ts. times factor s ∷ ts) (f h)

prob-comes : (p : Program) (name : List ℕ) (q : ℚ) → Comes (prob_walk p.scenarios name q) (first_passing (probability_operations p (Prob name q))) (after p (Prob name q)).scenarios
prob-comes p name q = stepped Sub one_ℚ q (λ left. then_walk (rest_walk name p.scenarios) (λ rest. then_walk (div_walk left rest) (λ f. rescaled_from name (Some q) (Times f) [] p.scenarios)))
    (operation Sub one_ℚ (old_probability p name) ∷ operation Div (one_ℚ -ℚ q) (rest_of name p.scenarios) ∷ map (by_factor Mul factor) (others name p.scenarios)) new
    (stepped Sub one_ℚ (old_probability p name) (λ rest. then_walk (div_walk (one_ℚ -ℚ q) rest) (λ f. rescaled_from name (Some q) (Times f) [] p.scenarios))
    (operation Div (one_ℚ -ℚ q) (rest_of name p.scenarios) ∷ map (by_factor Mul factor) (others name p.scenarios)) new
    (stepped Div (one_ℚ -ℚ q) (rest_of name p.scenarios) (λ f. rescaled_from name (Some q) (Times f) [] p.scenarios)
    (map (by_factor Mul factor) (others name p.scenarios)) new
    (subst (Comes (rescaled_from name (Some q) (Times factor) [] p.scenarios) (first_passing (map (by_factor Mul factor) (others name p.scenarios)))) (prob-same name q factor p.scenarios) (rescales name (Some q) (Times factor) [] p.scenarios))))
  where
    factor : ℚ
    factor = (one_ℚ -ℚ q) /ℚ rest_of name p.scenarios

    new : List Scenario
    new = map (with_probability name q factor) p.scenarios

drop-comes : (p : Program) (name : List ℕ) → Comes (drop_walk p.scenarios name) (first_passing (probability_operations p (Drop name))) (after p (Drop name)).scenarios
drop-comes p name = stepped Sub one_ℚ (old_probability p name) (λ rest. rescaled_from name None (Over rest) [] p.scenarios)
    (map (by_factor Div (rest_of name p.scenarios)) (others name p.scenarios)) (map (divided (rest_of name p.scenarios)) (others name p.scenarios))
    (subst (Comes (rescaled_from name None (Over (rest_of name p.scenarios)) [] p.scenarios) (first_passing (map (by_factor Div (rest_of name p.scenarios)) (others name p.scenarios)))) (drop-same name (rest_of name p.scenarios) p.scenarios) (rescales name None (Over (rest_of name p.scenarios)) [] p.scenarios))

with-new : (r : Result (List Scenario) Operation) (o : Option Operation) (v : List Scenario) (new : Scenario) → Comes r o v → Comes (then_value (λ all. all ++ new ∷ []) r) o (v ++ new ∷ [])
with-new (Ok ss) o v new h = (ap (λ ts. ts ++ new ∷ []) h.0, h.1)
with-new (Err p) o v new h = h

pub add-comes : (p : Program) (name parent : List ℕ) (q : ℚ) (t : ℕ) (new : Scenario) → is_known name p.scenarios ≡ false → new.name ≡ name → new.probability ≡ q → Comes (add_walk_from p.scenarios new) (first_passing (probability_operations p (Add name parent q t))) (map (times (one_ℚ -ℚ q)) p.scenarios ++ new ∷ [])
add-comes p name parent q t new h e f =
    with-new _ (first_passing (probability_operations p (Add name parent q t))) (map (times (one_ℚ -ℚ q)) p.scenarios) new (subst (λ (n : List ℕ). Comes (then_walk (sub_walk one_ℚ new.probability) (λ left. rescaled_from n None (Times left) [] p.scenarios)) (first_passing (probability_operations p (Add name parent q t))) (map (times (one_ℚ -ℚ q)) p.scenarios)) (sym e)
    (subst (λ (x : ℚ). Comes (then_walk (sub_walk one_ℚ x) (λ left. rescaled_from name None (Times left) [] p.scenarios)) (first_passing (probability_operations p (Add name parent q t))) (map (times (one_ℚ -ℚ q)) p.scenarios)) (sym f)
    (stepped Sub one_ℚ q (λ left. rescaled_from name None (Times left) [] p.scenarios) (map (by_factor Mul (one_ℚ -ℚ q)) p.scenarios) (map (times (one_ℚ -ℚ q)) p.scenarios)
    (subst (λ (ts : List Scenario). Comes (rescaled_from name None (Times (one_ℚ -ℚ q)) [] p.scenarios) (first_passing (map (by_factor Mul (one_ℚ -ℚ q)) ts)) (map (times (one_ℚ -ℚ q)) p.scenarios)) (all-others name p.scenarios h)
    (subst (Comes (rescaled_from name None (Times (one_ℚ -ℚ q)) [] p.scenarios) (first_passing (map (by_factor Mul (one_ℚ -ℚ q)) (others name p.scenarios)))) (add-same name (one_ℚ -ℚ q) p.scenarios h) (rescales name None (Times (one_ℚ -ℚ q)) [] p.scenarios))))))

-- ---- and behind them the operations of the tree
abbrev pub Told : Program → Edit → Result (List Scenario) Operation → Type 0
Told p e (Ok ss) = (ss ≡ (after p e).scenarios) × (chances_passed p e ≡ None)
Told p e (Err o) = chances_passed p e ≡ Some o

pub told : (p : Program) (e : Edit) (w : Result (List Scenario) Operation) (positions : List Scenario → List Position) → Comes w (first_passing (probability_operations p e)) (after p e).scenarios
    → positions (after p e).scenarios ≡ map position_of (after p e).nodes → Told p e (then_walk w (λ ss. tested_walk (positions ss) ss))
told p e (Err o) positions h l = ap (λ x. or_else x (ended_by (tree_walk (after p e)))) h
told p e (Ok ss) positions h l = go (chances_walk (positions ss) ss) refl
  where
    same : chances_walk (positions ss) ss ≡ chances_walk (map position_of (after p e).nodes) (after p e).scenarios
    same = ap (λ ts. chances_walk (positions ts) ts) h.0 ∙ ap (λ ps. chances_walk ps (after p e).scenarios) l

    end : (c : Result Chances Operation) → chances_walk (positions ss) ss ≡ c → chances_passed p e ≡ ended_by (then_walk c (λ chances. Ok (tree_by (map position_of (after p e).nodes) chances)))
    end c f = ap₂ (λ x d. or_else x (ended_by (then_walk d (λ chances. Ok (tree_by (map position_of (after p e).nodes) chances))))) h.1 (sym same ∙ f)

    go : (c : Result Chances Operation) → chances_walk (positions ss) ss ≡ c → Told p e (then_walk c (λ _. Ok ss))
    go (Ok chances) f = (h.0, end (Ok chances) f)
    go (Err o) f = end (Err o) f

pub prob-told : (p : Program) (name : List ℕ) (q : ℚ) → Told p (Prob name q) (then_walk (prob_walk p.scenarios name q) (λ ss. tested_walk (map position_of p.nodes) ss))
prob-told p name q = told p (Prob name q) (prob_walk p.scenarios name q) (λ ss. map position_of p.nodes) (prob-comes p name q) refl

pub drop-told : (p : Program) (name : List ℕ) (positions : List Scenario → List Position) → positions (after p (Drop name)).scenarios ≡ map position_of (after p (Drop name)).nodes → Told p (Drop name) (then_walk (drop_walk p.scenarios name) (λ ss. tested_walk (positions ss) ss))
drop-told p name positions h = told p (Drop name) (drop_walk p.scenarios name) positions (drop-comes p name) h

-- ---- the code's loop
pub next_part : (name : List ℕ) (own : Option ℚ) (scale : Scale) (s : Scenario) (made more ss : List Scenario) → with_part name own scale s made ≡ Ok more → rescaled_from name own scale made (s ∷ ss) ≡ rescaled_from name own scale more ss
next_part name own scale s made more ss h = ap (λ w. then_walk w (λ m. rescaled_from name own scale m ss)) h

pub stopped : (name : List ℕ) (own : Option ℚ) (scale : Scale) (s : Scenario) (made ss : List Scenario) (o : Operation) → with_part name own scale s made ≡ Err o → rescaled_from name own scale made (s ∷ ss) ≡ Err o
stopped name own scale s made ss o h = ap (λ w. then_walk w (λ m. rescaled_from name own scale m ss)) h
