-- The totals in a program's tree are the totals of its nodes.
use Rattle.std.proofs.Common.{◌≡◌, ◌∙◌, ap, sym, subst, refl, ℕ, zero, suc, ◌+◌, ◌<◌, true, List, [], ◌∷◌, ◌++◌, length, get_or}
use Rattle.std.proofs.Common.{map, Option, Some, None, Result, Ok, length-append, arith}
use Rattle.std.proofs.lemmas.List.{get_or_append_left, get_or-append-add}
use Rattle.rationals.specs.Rational.{ℚ, zero_ℚ, zero_add_ℚ}
use Rattle.rationals.specs.Passes.{Operation, then_walk}
use Rattle.scen_defs.specs.Lists.{passes_at}
use Rattle.scen_defs.specs.Program.{Node, Scenario, Program, view_of, is_live, total}
use Rattle.scen_defs.specs.Valid.{Lives}
use Rattle.scen_defs.proofs.Subtrees.{no}
use Rattle.scen_defs.specs.Walks.{total_from}
use Rattle.rationals.proofs.WalkLaws.{ended}
use Rattle.scen_defs.proofs.WalkEnds.{total_from-ends}
use Rattle.scen_tree.specs.declared.position.Position.{Position}
use Rattle.scen_tree.specs.Chances.{Sum, Chances, gathered_from, live_sum, live_sums_from, totals_walk, shares_walk, chances_walk}
use Rattle.scen_tree.specs.Trees.{position_by, position_of, Tree, tree_by, tree_walk}

-- what was gathered stays in its place
still_there : (built : List ℚ) (sums : List Sum) (values : List ℚ) (n : ℕ) → gathered_from built sums ≡ Ok values → n < length built
    → get_or values n zero_ℚ ≡ get_or built n zero_ℚ
still_there built [] values n e h = let same : values ≡ built = cc in ap (λ vs. get_or vs n zero_ℚ) same
still_there built (sum ∷ sums) values n e h =
    let one = ended sum (λ value. gathered_from (built ++ value ∷ []) sums) values e in
    still_there (built ++ one.result ∷ []) sums values n one.next_is (omega (arith, h, length-append built (one.result ∷ [])))
    ∙ get_or_append_left built (one.result ∷ []) zero_ℚ n h

live_is : (parent : Option ℕ) (sum : Sum) → live_sum (position_by parent) sum ≡ sum
live_is None sum = refl
live_is (Some m) sum = refl

-- the last one that was gathered
last_there : (built : List ℚ) (k : ℕ) (v : ℚ) → k ≡ length built → get_or (built ++ v ∷ []) k zero_ℚ ≡ v
last_there built k v b = let d : k ≡ length built + 0 = omega (arith, b) in
    ap (λ m. get_or (built ++ v ∷ []) m zero_ℚ) d ∙ get_or-append-add built (v ∷ []) 0 zero_ℚ

one_more : (built : List ℚ) (k : ℕ) (v : ℚ) → k ≡ length built → suc k ≡ length (built ++ v ∷ [])
one_more built k v b = omega (arith, b, length-append built (v ∷ []))

-- the value that is gathered for a live node is its sum over the scenarios
sum_there : (ss : List Scenario) (k j : ℕ) (built values : List ℚ) (nodes : List (Option Node)) → k ≡ length built
    → gathered_from built (live_sums_from k (map position_of nodes) ss) ≡ Ok values → passes_at is_live j nodes ≡ true
    → total_from (k + j) zero_ℚ ss ≡ Ok (get_or values (k + j) zero_ℚ)
sum_there ss k j built values [] b e l = absurd (no refl l)
sum_there ss k zero built values (None ∷ nodes) b e l = absurd (no refl l)
sum_there ss k zero built values (Some node ∷ nodes) b e l =
    let rest : List Sum = live_sums_from (suc k) (map position_of nodes) ss in
    let one = ended (live_sum (position_by node.parent) (total_from k zero_ℚ ss))
    (λ value. gathered_from (built ++ value ∷ []) rest) values e in
    let more : suc k ≡ length (built ++ one.result ∷ []) = one_more built k one.result b in
    let there : get_or values k zero_ℚ ≡ one.result =
    still_there (built ++ one.result ∷ []) rest values k one.next_is (omega (arith, more)) ∙ last_there built k one.result b in
    let here : total_from k zero_ℚ ss ≡ Ok (get_or values k zero_ℚ) =
    sym (live_is node.parent (total_from k zero_ℚ ss)) ∙ one.first_is ∙ ap (λ (x : ℚ). Ok x) (sym there) in
    let d : k ≡ k + 0 = omega arith in
    subst (λ m. total_from m zero_ℚ ss ≡ Ok (get_or values m zero_ℚ)) d here
sum_there ss k (suc j) built values (place ∷ nodes) b e l =
    let rest : List Sum = live_sums_from (suc k) (map position_of nodes) ss in
    let one = ended (live_sum (position_of place) (total_from k zero_ℚ ss)) (λ value. gathered_from (built ++ value ∷ []) rest) values e in
    let d : suc k + j ≡ k + suc j = omega arith in
    subst (λ m. total_from m zero_ℚ ss ≡ Ok (get_or values m zero_ℚ)) d
    (sum_there ss (suc k) j (built ++ one.result ∷ []) values nodes (one_more built k one.result b) one.next_is l)

same_ok : {X : Type 0} (a b : X) → (let r : Result X Operation = Ok a in r) ≡ Ok b → a ≡ b
same_ok a b e = cc

abbrev both : List ℚ → List ℚ → Chances
both totals shares = record { totals = totals; shares = shares }

-- the walk over a tree begins with its totals
totals_walked : (p : Program) (tree : Tree) → tree_walk p ≡ Ok tree
    → totals_walk (map position_of p.nodes) p.scenarios ≡ Ok tree.chances.totals
totals_walked p tree e =
    let positions : List Position = map position_of p.nodes in
    let all = ended (chances_walk positions p.scenarios) (λ chances. Ok (tree_by positions chances)) tree e in
    let first = ended (totals_walk positions p.scenarios)
    (λ totals. then_walk (shares_walk totals positions) (λ shares. Ok (both totals shares))) all.result all.first_is in
    let next = ended (shares_walk first.result positions) (λ shares. Ok (both first.result shares)) all.result first.next_is in
    first.first_is ∙ ap (λ (c : Chances). Ok c.totals) (same_ok (both first.result next.result) all.result next.next_is)
    ∙ ap (λ (t : Tree). Ok t.chances.totals) (same_ok (tree_by positions all.result) tree all.next_is)

pub tree_total : (p : Program) (tree : Tree) (n : ℕ) → tree_walk p ≡ Ok tree → Lives p n
    → get_or tree.chances.totals n zero_ℚ ≡ total (view_of p) n
tree_total p tree n e l =
    total_from-ends n zero_ℚ p.scenarios (get_or tree.chances.totals n zero_ℚ)
    (let d : 0 + n ≡ n = omega arith in
    subst (λ m. total_from m zero_ℚ p.scenarios ≡ Ok (get_or tree.chances.totals m zero_ℚ)) d
    (sum_there p.scenarios 0 n [] tree.chances.totals p.nodes refl (totals_walked p tree e) l))
    ∙ zero_add_ℚ (total (view_of p) n)
