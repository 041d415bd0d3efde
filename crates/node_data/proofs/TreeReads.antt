-- What the tree of a program says of its nodes.
use Rattle.std.proofs.Common.{◌≡◌, ◌∙◌, ap, ap₂, sym, refl, ℕ, zero, suc, ◌+◌, ◌<◌, Bool, true, false, ◌&&◌, eqb, nat_eq, List, [], ◌∷◌, ◌++◌, length, get_or, map, Option, Some, None, Result, Ok, append_assoc, append-nil, arith, add-zero, eqb-true}
use Rattle.std.proofs.lemmas.Bool.{eq-eqb}
use Rattle.std.proofs.lemmas.Bool.Decides.{nat_tests}
use Rattle.rationals.specs.declared.Op.TheVariants.{Div}
use Rattle.rationals.specs.Rational.{ℚ, zero_ℚ, ◌/ℚ◌, zero_add_ℚ}
use Rattle.rationals.specs.Passes.{Operation, div_walk, then_walk}
use Rattle.rationals.proofs.WalkLaws.{walk_value, ended}
use Rattle.scen_defs.specs.Lists.{places, passes_at, keep}
use Rattle.scen_defs.specs.Program.{Node, Scenario, Program, view_of, is_live, node_at, or_root, total}
use Rattle.scen_defs.specs.Flat.{is_child, children}
use Rattle.scen_defs.specs.Valid.{Lives, HasParent, IsProgram}
use Rattle.scen_defs.specs.Walks.{total_from}
use Rattle.scen_defs.proofs.WalkEnds.{total_from-ends}
use Rattle.scen_tree.specs.declared.position.Position.{Position}
use Rattle.scen_tree.specs.declared.position.Position.TheVariants.{Dropped}
use Rattle.scen_tree.specs.Chances.{Sum, Chances, gathered_from, live_sum, live_sums_from, share_walk, shares_from, totals_walk, shares_walk, chances_walk}
use Rattle.scen_tree.specs.Trees.{position_by, position_of, is_below, children_of, children_from, Tree, tree_by, tree_walk}
use Rattle.cut_defs.specs.declared.datum.Share.{Share}
use Rattle.cut_defs.specs.Data.{share_of}
use Rattle.edit_defs.proofs.Lists.{passes-within}
use Rattle.node_data.specs.NodeData.{share_in}

no : {A : Type 0} → false ≡ true → A
no e = absurd (cc)

-- ---- gathered sums
abbrev AreOf : List Sum → List ℚ → Type 0
AreOf [] [] = Unit {0}
AreOf [] (v ∷ vs) = ⊥
AreOf (s ∷ ss) [] = ⊥
AreOf (s ∷ ss) (v ∷ vs) = (s ≡ Ok v) × AreOf ss vs

record Gathered (built : List ℚ) (sums : List Sum) (values : List ℚ) : Type 0 where
  more : List ℚ
  is : values ≡ built ++ more
  each : AreOf sums more

gathered : (built : List ℚ) (sums : List Sum) (values : List ℚ) → gathered_from built sums ≡ Ok values → Gathered built sums values
gathered built [] values e = let same : values ≡ built = cc in record { more = []; is = same ∙ sym (append-nil built); each = tt }
gathered built (sum ∷ sums) values e =
    let one = ended sum (λ value. gathered_from (built ++ value ∷ []) sums) values e in
    let rest : Gathered (built ++ one.result ∷ []) sums values = gathered (built ++ one.result ∷ []) sums values one.next_is in
    record { more = one.result ∷ rest.more; is = rest.is ∙ append_assoc built (one.result ∷ []) rest.more; each = (one.first_is, rest.each) }

of_at : (sums : List Sum) (values : List ℚ) → AreOf sums values → (i : ℕ) → i < length sums → get_or sums i (Ok zero_ℚ) ≡ Ok (get_or values i zero_ℚ)
of_at [] values a i h = absurd (omega arith)
of_at (s ∷ sums) [] a i h = absurd a
of_at (s ∷ sums) (v ∷ values) a zero h = a.0
of_at (s ∷ sums) (v ∷ values) a (suc i) h = of_at sums values a.1 i (omega arith)

gathered_at : (sums : List Sum) (values : List ℚ) → gathered_from [] sums ≡ Ok values → (i : ℕ) → i < length sums → get_or sums i (Ok zero_ℚ) ≡ Ok (get_or values i zero_ℚ)
gathered_at sums values e i h =
    let all : Gathered [] sums values = gathered [] sums values e in
    of_at sums all.more all.each i h ∙ ap (λ (vs : List ℚ). Ok (get_or vs i zero_ℚ)) (sym all.is)

-- ---- sums and shares by node
sums_length : (k : ℕ) (positions : List Position) (ss : List Scenario) → length (live_sums_from k positions ss) ≡ length positions
sums_length k [] ss = refl
sums_length k (position ∷ positions) ss = ap suc (sums_length (suc k) positions ss)

shares_length : (totals : List ℚ) (k : ℕ) (positions : List Position) → length (shares_from totals k positions) ≡ length positions
shares_length totals k [] = refl
shares_length totals k (position ∷ positions) = ap suc (shares_length totals (suc k) positions)

sums_at : (k i : ℕ) (positions : List Position) (ss : List Scenario) → i < length positions
    → get_or (live_sums_from k positions ss) i (Ok zero_ℚ) ≡ live_sum (get_or positions i Dropped) (total_from (k + i) zero_ℚ ss)
sums_at k i [] ss h = absurd (omega arith)
sums_at k zero (position ∷ positions) ss h = ap (λ n. live_sum position (total_from n zero_ℚ ss)) (sym (add-zero k))
sums_at k (suc i) (position ∷ positions) ss h = sums_at (suc k) i positions ss (omega arith)
    ∙ ap (λ n. live_sum (get_or positions i Dropped) (total_from n zero_ℚ ss)) (let e : suc k + i ≡ k + suc i = omega arith in e)

shares_at : (totals : List ℚ) (k i : ℕ) (positions : List Position) → i < length positions
    → get_or (shares_from totals k positions) i (Ok zero_ℚ) ≡ share_walk totals (get_or totals (k + i) zero_ℚ) (get_or positions i Dropped)
shares_at totals k i [] h = absurd (omega arith)
shares_at totals k zero (position ∷ positions) h = ap (λ n. share_walk totals (get_or totals n zero_ℚ) position) (sym (add-zero k))
shares_at totals k (suc i) (position ∷ positions) h = shares_at totals (suc k) i positions (omega arith)
    ∙ ap (λ n. share_walk totals (get_or totals n zero_ℚ) (get_or positions i Dropped)) (let e : suc k + i ≡ k + suc i = omega arith in e)

positions_length : (nodes : List (Option Node)) → length (map position_of nodes) ≡ length nodes
positions_length [] = refl
positions_length (place ∷ nodes) = ap suc (positions_length nodes)

position_at : (nodes : List (Option Node)) (n : ℕ) → passes_at is_live n nodes ≡ true → get_or (map position_of nodes) n Dropped ≡ position_by (node_at nodes n).parent
position_at [] n h = no h
position_at (None ∷ nodes) zero h = no h
position_at (Some node ∷ nodes) zero h = refl
position_at (None ∷ nodes) (suc n) h = position_at nodes n h
position_at (Some node ∷ nodes) (suc n) h = position_at nodes n h

pub stands_within : (p : Program) (n : ℕ) → Lives p n → n < length (map position_of p.nodes)
stands_within p n l = let e : length (map position_of p.nodes) ≡ length p.nodes = positions_length p.nodes in
    let h : n < length p.nodes = passes-within is_live n p.nodes l in omega (arith, e, h)

-- the walk came to these totals and shares
record Came (p : Program) (tree : Tree) : Type 0 where
  totals : gathered_from [] (live_sums_from 0 (map position_of p.nodes) p.scenarios) ≡ Ok tree.chances.totals
  shares : gathered_from [] (shares_from tree.chances.totals 0 (map position_of p.nodes)) ≡ Ok tree.chances.shares

came : (p : Program) (tree : Tree) → tree_walk p ≡ Ok tree → Came p tree
came p tree e =
    let positions : List Position = map position_of p.nodes in
    let all = ended (chances_walk positions p.scenarios) (λ chances. Ok (tree_by positions chances)) tree e in
    let made : tree ≡ tree_by positions all.result = cc in
    let same : tree.chances ≡ all.result = ap (λ (t : Tree). t.chances) made in
    let first = ended (totals_walk positions p.scenarios)
    (λ totals. then_walk (shares_walk totals positions) (λ shares. let c : Chances = record { totals = totals; shares = shares } in Ok c)) all.result all.first_is in
    let next = ended (shares_walk first.result positions) (λ shares. let c : Chances = record { totals = first.result; shares = shares } in Ok c) all.result first.next_is in
    let is : (let c : Chances = record { totals = first.result; shares = next.result } in c) ≡ tree.chances = ok_is _ _ next.next_is ∙ sym same in
    let totals : first.result ≡ tree.chances.totals = ap (λ (c : Chances). c.totals) is in
    let shares : next.result ≡ tree.chances.shares = ap (λ (c : Chances). c.shares) is in
    record {
      totals = first.first_is ∙ ap (λ (vs : List ℚ). Ok vs) totals;
      shares = ap (λ (ts : List ℚ). gathered_from [] (shares_from ts 0 positions)) (sym totals) ∙ next.first_is ∙ ap (λ (vs : List ℚ). Ok vs) shares;
    }
  where
    ok_is : (a b : Chances) → (let r : Result Chances Operation = Ok a in r) ≡ Ok b → a ≡ b
    ok_is a b e = cc

total_at : (p : Program) (tree : Tree) → tree_walk p ≡ Ok tree → (n : ℕ) → Lives p n → get_or tree.chances.totals n zero_ℚ ≡ total (view_of p) n
total_at p tree e n l =
    let positions : List Position = map position_of p.nodes in
    let within : n < length positions = stands_within p n l in
    let sums : List Sum = live_sums_from 0 positions p.scenarios in
    let long : length sums ≡ length positions = sums_length 0 positions p.scenarios in
    let here : get_or sums n (Ok zero_ℚ) ≡ Ok (get_or tree.chances.totals n zero_ℚ) = gathered_at sums tree.chances.totals (came p tree e).totals n (omega (arith, long, within)) in
    let step : 0 + n ≡ n = omega arith in
    let sum : total_from n zero_ℚ p.scenarios ≡ Ok (get_or tree.chances.totals n zero_ℚ) =
    sym (ap (λ m. total_from m zero_ℚ p.scenarios) step) ∙ sym (alive (node_at p.nodes n).parent (total_from (0 + n) zero_ℚ p.scenarios))
    ∙ sym (ap (λ (q : Position). live_sum q (total_from (0 + n) zero_ℚ p.scenarios)) (position_at p.nodes n l)) ∙ sym (sums_at 0 n positions p.scenarios within) ∙ here in
    total_from-ends n zero_ℚ p.scenarios (get_or tree.chances.totals n zero_ℚ) sum ∙ zero_add_ℚ (total (view_of p) n)
  where
    alive : (parent : Option ℕ) (sum : Sum) → live_sum (position_by parent) sum ≡ sum
    alive None sum = refl
    alive (Some m) sum = refl

pub share_at : (p : Program) (tree : Tree) → tree_walk p ≡ Ok tree → (m q : ℕ) → Lives p m → Lives p q → (node_at p.nodes m).parent ≡ Some q → share_in tree m ≡ share_of (view_of p) m
share_at p tree e m q l above is =
    let positions : List Position = map position_of p.nodes in
    let totals : List ℚ = tree.chances.totals in
    let within : m < length positions = stands_within p m l in
    let long : length (shares_from totals 0 positions) ≡ length positions = shares_length totals 0 positions in
    let here : get_or (shares_from totals 0 positions) m (Ok zero_ℚ) ≡ Ok (get_or tree.chances.shares m zero_ℚ) =
    gathered_at (shares_from totals 0 positions) tree.chances.shares (came p tree e).shares m (omega (arith, long, within)) in
    let step : 0 + m ≡ m = omega arith in
    let walk : div_walk (get_or totals m zero_ℚ) (get_or totals q zero_ℚ) ≡ Ok (get_or tree.chances.shares m zero_ℚ) =
    sym (ap (λ n. div_walk (get_or totals n zero_ℚ) (get_or totals q zero_ℚ)) step)
    ∙ sym (ap (λ (x : Position). share_walk totals (get_or totals (0 + m) zero_ℚ) x) (position_at p.nodes m l ∙ ap position_by is))
    ∙ sym (shares_at totals 0 m positions within) ∙ here in
    let value : get_or tree.chances.shares m zero_ℚ ≡ get_or totals m zero_ℚ /ℚ get_or totals q zero_ℚ = walk_value Div (get_or totals m zero_ℚ) (get_or totals q zero_ℚ) (get_or tree.chances.shares m zero_ℚ) walk in
    ap (λ (s : ℚ). let x : Share = record { child = m; share = s } in x)
    (value ∙ ap₂ ◌/ℚ◌ (total_at p tree e m l) (total_at p tree e q above ∙ ap (total (view_of p)) (sym (ap or_root is))))

-- ---- children
pub children_at : (all : List Position) (k i : ℕ) (rest : List Position) → i < length rest → get_or (children_from all k rest) i [] ≡ children_of all (k + i)
children_at all k i [] h = absurd (omega arith)
children_at all k zero (position ∷ rest) h = ap (children_of all) (sym (add-zero k))
children_at all k (suc i) (position ∷ rest) h = children_at all (suc k) i rest (omega arith) ∙ ap (children_of all) (let e : suc k + i ≡ k + suc i = omega arith in e)

unlike : (a b : ℕ) → (a ≡ b → ⊥) → nat_eq a b ≡ false
unlike a b ne = grind (arith, nat_tests)

like : (a b : ℕ) → a ≡ b → nat_eq a b ≡ true
like a b e = grind (arith, nat_tests)

apart : (a b : ℕ) → (a ≡ b → ⊥) → eqb a b ≡ false
apart a b ne = grind (arith, nat_tests)

and_false : (b : Bool) → (b && false) ≡ false
and_false true = refl
and_false false = refl

-- a live node stands below n where it is a child of n
below_is : (p : Program) → IsProgram p → (n m : ℕ) → Lives p m → is_below n (position_by (node_at p.nodes m).parent) ≡ is_child (view_of p) n m
below_is p i n m l = go (node_at p.nodes m).parent refl (i.nodes m l).parent
  where
    by : (q : ℕ) → (node_at p.nodes m).stage ≡ suc (node_at p.nodes q).stage → (b : Bool) → eqb q n ≡ b
        → nat_eq q n ≡ eqb (node_at p.nodes m).stage (suc (node_at p.nodes n).stage) && eqb q n
    by q e true t = let same : q ≡ n = eqb-true q n t in
        like q n same ∙ sym (ap₂ ◌&&◌ (eq-eqb (node_at p.nodes m).stage (suc (node_at p.nodes n).stage) (e ∙ ap (λ k. suc (node_at p.nodes k).stage) same)) t)
    by q e false t = unlike q n (λ same. no (sym t ∙ eq-eqb q n same))
        ∙ sym (ap (λ b. eqb (node_at p.nodes m).stage (suc (node_at p.nodes n).stage) && b) t ∙ and_false (eqb (node_at p.nodes m).stage (suc (node_at p.nodes n).stage)))

    go : (parent : Option ℕ) → (node_at p.nodes m).parent ≡ parent → HasParent p m (node_at p.nodes m).stage parent → is_below n (position_by (node_at p.nodes m).parent) ≡ is_child (view_of p) n m
    go None e h =
        ap (λ (x : Option ℕ). is_below n (position_by x)) e
        ∙ sym (ap (λ b. b && eqb (or_root (node_at p.nodes m).parent) n) (apart 0 (suc (node_at p.nodes n).stage) (λ z. omega (arith, z))))
        ∙ sym (ap (λ s. eqb s (suc (node_at p.nodes n).stage) && eqb (or_root (node_at p.nodes m).parent) n) h.1)
    go (Some q) e h = ap (λ (x : Option ℕ). is_below n (position_by x)) e ∙ by q h.earlier (eqb q n) refl
        ∙ ap (λ (x : Option ℕ). eqb (node_at p.nodes m).stage (suc (node_at p.nodes n).stage) && eqb (or_root x) n) (sym e)

children_from_live : (p : Program) (n k : ℕ) (rest : List (Option Node))
    → ((j : ℕ) → passes_at is_live j rest ≡ true → is_below n (position_by (node_at rest j).parent) ≡ is_child (view_of p) n (k + j))
    → places (is_below n) k (map position_of rest) ≡ keep (λ m. is_child (view_of p) n m) (places is_live k rest)
children_from_live p n k [] h = refl
children_from_live p n k (None ∷ rest) h =
    children_from_live p n (suc k) rest (λ j l. h (suc j) l ∙ ap (is_child (view_of p) n) (let e : k + suc j ≡ suc k + j = omega arith in e))
children_from_live p n k (Some node ∷ rest) h =
    let tail : places (is_below n) (suc k) (map position_of rest) ≡ keep (λ m. is_child (view_of p) n m) (places is_live (suc k) rest) =
    children_from_live p n (suc k) rest (λ j l. h (suc j) l ∙ ap (is_child (view_of p) n) (let e : k + suc j ≡ suc k + j = omega arith in e)) in
    ap₂ (λ (b : Bool) (ns : List ℕ). elim b [ true ↦ k ∷ ns | false ↦ ns ]) (h 0 refl ∙ ap (is_child (view_of p) n) (add-zero k)) tail

pub children_are : (p : Program) → IsProgram p → (n : ℕ) → children_of (map position_of p.nodes) n ≡ children (view_of p) n
children_are p i n = children_from_live p n 0 p.nodes (λ j l. below_is p i n j l ∙ ap (is_child (view_of p) n) (let e : j ≡ 0 + j = omega arith in e))
