-- Children of nodes.
use Rattle.std.proofs.Common.{◌≡◌, ◌∙◌, ap, ap₂, sym, refl, ℕ, zero, suc, ◌+◌, ◌<◌, ◌≤◌, Bool, true, false, List, [], ◌∷◌, ◌++◌, length, get_or, set, map, Option, nat_eq, append_assoc, append-nil, arith}
use Rattle.std.proofs.lemmas.Bool.Decides.{nat_tests}
use Rattle.rationals.specs.Choices.{pick}
use Rattle.scen_defs.specs.Lists.{places}
use Rattle.scen_defs.specs.declared.program.Node.{Node as NodeOf}
use Rattle.scen_defs.specs.Program.{nodes_content}
use Rattle.scen_tree.specs.declared.children.Children.{Children}
use Rattle.scen_tree.specs.declared.position.Position.{Position}
use Rattle.scen_tree.specs.declared.position.Position.TheVariants.{Dropped, Root, Below}
use Rattle.scen_tree.specs.Trees.{position_of, is_below, children_from, lists, empty_lists, with_child}

both : {one other : List ℕ} {rest others : List (List ℕ)} → one ≡ other → rest ≡ others → one ∷ rest ≡ other ∷ others
both a b = ap₂ (λ (s : List ℕ) (ss : List (List ℕ)). s ∷ ss) a b

pub lists_push : (all : List Children) (one : Children) → lists (all ++ one ∷ []) ≡ lists all ++ one.nodes.items ∷ []
lists_push [] one = refl
lists_push (first ∷ all) one = both refl (lists_push all one)

pub lists_length : (all : List Children) → length (lists all) ≡ length all
lists_length [] = refl
lists_length (one ∷ all) = ap suc (lists_length all)

pub lists_at : (all : List Children) (i : ℕ) (one : Children) → i < length all → one ≡ get_or all i one → get_or (lists all) i [] ≡ one.nodes.items
lists_at [] i one below is = absurd (omega arith)
lists_at (first ∷ all) zero one below is = ap (λ (c : Children). c.nodes.items) (sym is)
lists_at (first ∷ all) (suc i) one below is = lists_at all i one (omega arith) is

pub childless_more : (all : List Children) (one : Children) (position : Position) (rest : List Position) → one.nodes.items ≡ [] →
    lists (all ++ one ∷ []) ++ empty_lists rest ≡ lists all ++ empty_lists (position ∷ rest)
childless_more all one position rest empty = ap (λ l. l ++ empty_lists rest) (lists_push all one ∙ ap (λ (nodes : List ℕ). lists all ++ nodes ∷ []) empty) ∙ append_assoc (lists all) ([] ∷ []) (empty_lists rest)

pub no_parent : (n : ℕ) (position : Position) (k : ℕ) (all : List (List ℕ)) → ((m : ℕ) → is_below m position ≡ false) → with_child n position k all ≡ all
no_parent n position k [] none = refl
no_parent n position k (nodes ∷ all) none = both (ap (λ b. pick b (nodes ++ n ∷ []) nodes) (none k)) (no_parent n position (suc k) all none)

unlike : (a b : ℕ) → (a ≡ b → ⊥) → nat_eq a b ≡ false
unlike a b ne = grind (arith, nat_tests)

like : (a b : ℕ) → a ≡ b → nat_eq a b ≡ true
like a b e = grind (arith, nat_tests)

pub parent_past : (n parent k : ℕ) (all : List (List ℕ)) → ((m : ℕ) → k ≤ m → m < k + length all → parent ≡ m → ⊥) → with_child n (Below parent) k all ≡ all
parent_past n parent k [] apart = refl
parent_past n parent k (nodes ∷ all) apart =
    both (ap (λ b. pick b (nodes ++ n ∷ []) nodes) (unlike parent k (λ e. apart k (omega arith) (omega arith) e))) (parent_past n parent (suc k) all (λ m low high e. apart m (omega arith) (omega arith) e))

pub parent_at : (n parent i k : ℕ) (all : List Children) (old new : Children) → parent ≡ k + i → i < length all → old ≡ get_or all i old → new.nodes.items ≡ old.nodes.items ++ n ∷ [] →
    lists (set all i new) ≡ with_child n (Below parent) k (lists all)
parent_at n parent i k [] old new at below is made = absurd (omega arith)
parent_at n parent zero k (first ∷ all) old new at below is made =
    both (made ∙ ap (λ (c : Children). c.nodes.items ++ n ∷ []) is ∙ sym (ap (λ b. pick b (first.nodes.items ++ n ∷ []) first.nodes.items) (like parent k (omega arith))))
    (sym (parent_past n parent (suc k) (lists all) (λ m low high e. omega arith)))
parent_at n parent (suc i) k (first ∷ all) old new at below is made =
    both (sym (ap (λ b. pick b (first.nodes.items ++ n ∷ []) first.nodes.items) (unlike parent k (λ e. omega arith)))) (parent_at n parent i (suc k) all old new (omega arith) (omega arith) is made)

-- ---- node by node

-- the children with those among further nodes, the first of which has the number n
abbrev pub finished : List Position → ℕ → ℕ → List (List ℕ) → List (List ℕ)
finished rest n k [] = []
finished rest n k (nodes ∷ all) = (nodes ++ places (is_below k) n rest) ∷ finished rest n (suc k) all

pub children_begin : (all : List Position) (k : ℕ) (rest : List Position) → finished all 0 k (empty_lists rest) ≡ children_from all k rest
children_begin all k [] = refl
children_begin all k (position ∷ rest) = both refl (children_begin all (suc k) rest)

pub children_end : (n k : ℕ) (all : List (List ℕ)) → finished [] n k all ≡ all
children_end n k [] = refl
children_end n k (nodes ∷ all) = both (append-nil nodes) (children_end n (suc k) all)

pub children_more : (position : Position) (rest : List Position) (n k : ℕ) (all : List (List ℕ)) → finished (position ∷ rest) n k all ≡ finished rest (suc n) k (with_child n position k all)
children_more position rest n k [] = refl
children_more position rest n k (nodes ∷ all) = both (go (is_below k position)) (children_more position rest n (suc k) all)
  where
    go : (b : Bool) → nodes ++ (elim b [ true ↦ n ∷ places (is_below k) (suc n) rest | false ↦ places (is_below k) (suc n) rest ]) ≡ pick b (nodes ++ n ∷ []) nodes ++ places (is_below k) (suc n) rest
    go true = sym (append_assoc nodes (n ∷ []) (places (is_below k) (suc n) rest))
    go false = refl

pub positions_length : (nodes : List (Option NodeOf)) → length (map position_of (nodes_content nodes)) ≡ length nodes
positions_length [] = refl
positions_length (node ∷ nodes) = ap suc (positions_length nodes)
