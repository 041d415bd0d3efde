-- What the points of all nodes cost together, node by node.
use Rattle.std.proofs.Common.{◌≡◌, ℕ, suc, ◌+◌, ◌<◌, true, eqb, ◌^◌, List, [], ◌∷◌, Option, Some, None, Ok, get_or, refl, sym, ap}
use Rattle.std.proofs.Common.{ap₂, subst, ◌∙◌, arith, add-one}
use Rattle.rationals.specs.declared.Op.TheVariants.{Add}
use Rattle.rationals.specs.Rational.{ℚ, zero_ℚ, one_ℚ, ◌+ℚ◌, ◌*ℚ◌, by_eqs, terms, zero_add_ℚ, add_zero_ℚ}
use Rattle.rationals.specs.Ring.Eqs.{done, by_eq}
use Rattle.rationals.specs.Sums.{sum_ℚ}
use Rattle.rationals.specs.Sparse.{Entry, product, coefficient}
use Rattle.rationals.specs.Forms.{IsForm, dot_walk}
use Rattle.rationals.specs.Passes.{add_product_walk}
use Rattle.rationals.proofs.WalkLaws.{step_value, walk_laws, ended}
use Rattle.scen_defs.specs.declared.program.Column.{Column}
use Rattle.scen_defs.specs.declared.report.Kind.{Kind}
use Rattle.scen_defs.specs.declared.report.Kind.TheVariants.{Cost}
use Rattle.scen_defs.specs.Lists.{places, passes_at}
use Rattle.scen_defs.specs.Values.{at}
use Rattle.scen_defs.specs.Program.{Node, Program, view_of, is_live, node_at, total}
use Rattle.scen_defs.specs.Flat.{node_cost}
use Rattle.scen_defs.specs.Valid.{Lives, IsProgram}
use Rattle.scen_defs.proofs.SumLaws.{each-map, sum-same}
use Rattle.scen_defs.proofs.Costs.{cost-by_nodes}
use Rattle.scen_tree.specs.Trees.{Tree, tree_walk}
use Rattle.edit_defs.proofs.Lists.{passes-within}
use Rattle.dual_assemble.specs.Values.{point_entries}
use Rattle.found_ends.specs.declared.last.Last.{Last}
use Rattle.found_ends.specs.Lasts.{last_at, last_point, joined_points}
use Rattle.found_ends.specs.Costs.{part, node_number, node_costs_from}
use Rattle.joined_laws.specs.Points.{MeetsAt, point_at}
use Rattle.joined_laws.specs.Joins.{JoinedCosts}
use Rattle.joined_laws.proofs.Joined.{joined_number}
use Rattle.joined_laws.proofs.Places.{tree_in, few_nodes}
use Rattle.joined_laws.proofs.Totals.{tree_total}

-- ---- node by node
module _ (totals : List ℚ) (lasts : List (Option Last)) (g : ℕ → ℚ) where
  -- the part of a live node is g of its number
  abbrev IsPart : ℕ → Node → Type 0
  IsPart n node = (s t : ℚ) → part (get_or totals (node_number n) zero_ℚ) (Some node) (last_point (last_at lasts n)) s ≡ Ok t → t ≡ s +ℚ g n

  later_parts : (k : ℕ) (place : Option Node) (rest : List (Option Node))
      → ((j : ℕ) → passes_at is_live j (place ∷ rest) ≡ true → IsPart (k + j) (node_at (place ∷ rest) j))
      → (j : ℕ) → passes_at is_live j rest ≡ true → IsPart (suc k + j) (node_at rest j)
  later_parts k None rest h j l = subst (λ n. IsPart n (node_at rest j)) (let d : k + suc j ≡ suc k + j = omega arith in d) (h (suc j) l)
  later_parts k (Some node) rest h j l =
      subst (λ n. IsPart n (node_at rest j)) (let d : k + suc j ≡ suc k + j = omega arith in d) (h (suc j) l)

  costs_from : (k : ℕ) (s c : ℚ) (rest : List (Option Node)) → ((j : ℕ) → passes_at is_live j rest ≡ true → IsPart (k + j) (node_at rest j))
      → node_costs_from totals lasts k s rest ≡ Ok c → c ≡ s +ℚ sum_ℚ g (places is_live k rest)
  costs_from k s c [] h e = let d : c ≡ s = cc in d ∙ sym (add_zero_ℚ s)
  costs_from k s c (None ∷ rest) h e =
      costs_from (suc k) s c rest (later_parts k None rest h) (ap (λ n. node_costs_from totals lasts n s rest) (sym (add-one k)) ∙ e)
  costs_from k s c (Some node ∷ rest) h e =
      let one = ended (part (get_or totals (node_number k) zero_ℚ) (Some node) (last_point (last_at lasts k)) s)
      (λ t. node_costs_from totals lasts (k + 1) t rest) c e in
      let here : IsPart k node = subst (λ n. IsPart n node) (let d : k + 0 ≡ k = omega arith in d) (h 0 refl) in
      let t : one.result ≡ s +ℚ g k = here s one.result one.first_is in
      let next : node_costs_from totals lasts (suc k) one.result rest ≡ Ok c =
      ap (λ n. node_costs_from totals lasts n one.result rest) (sym (add-one k)) ∙ one.next_is in
      let r : c ≡ one.result +ℚ sum_ℚ g (places is_live (suc k) rest) =
      costs_from (suc k) one.result c rest (later_parts k (Some node) rest h) next in
      by_eqs (c ∷ s ∷ one.result ∷ g k ∷ sum_ℚ g (places is_live (suc k) rest) ∷ [])
      (by_eq one_ℚ r (by_eq one_ℚ t done)) (search terms depth 40) tt

-- ---- one node
module _ (kind : Kind) (p : Program) (lasts : List (Option Last)) (tree : Tree) (i : IsProgram p) (walk : tree_walk p ≡ Ok tree) where
  -- the joined points
  abbrev x : ℕ → ℕ → ℚ
  x = at (joined_points lasts)

  -- what node n adds to the cost
  abbrev weighed_cost : ℕ → ℚ
  weighed_cost n = total (view_of p) n *ℚ node_cost (view_of p) x n

  total_is : (n : ℕ) → Lives p n → get_or tree.chances.totals (node_number n) zero_ℚ ≡ total (view_of p) n
  total_is n l =
      let few : n < 2 ^ 32 = few_nodes p n i l in
      let same : node_number n ≡ n = omega (arith, few) in
      ap (λ m. get_or tree.chances.totals m zero_ℚ) same ∙ tree_total p tree n walk l

  cost_is : (n : ℕ) → Lives p n → IsForm (point_at lasts n)
      → product (node_at p.nodes n).cost (coefficient (point_at lasts n)) ≡ node_cost (view_of p) x n
  cost_is n l form =
      sum-same (λ (e : Entry). e.value *ℚ coefficient (point_at lasts n) e.column) (λ (e : Entry). e.value *ℚ x n e.column)
      (node_at p.nodes n).cost
      (each-map {Q = λ (e : Entry). e.value *ℚ coefficient (point_at lasts n) e.column ≡ e.value *ℚ x n e.column}
      (λ e q. ap (λ z. e.value *ℚ z) (sym (joined_number lasts n e.column form (few_nodes p n i l)
      (omega (arith, passes-within (λ (c : Column). eqb c.stage (node_at p.nodes n).stage) e.column p.columns q, i.small.columns)))))
      (node_at p.nodes n).cost (i.nodes n l).cost)

  part_is : (n : ℕ) → Lives p n → MeetsAt kind p lasts n → IsPart tree.chances.totals lasts weighed_cost n (node_at p.nodes n)
  part_is n l m s t e =
      let total_n : ℚ = get_or tree.chances.totals (node_number n) zero_ℚ in
      let with_point : part total_n (Some (node_at p.nodes n)) (Some m.last.point) s ≡ Ok t =
      ap (λ (o : Option Last). part total_n (Some (node_at p.nodes n)) (last_point o) s) (sym m.there) ∙ e in
      let one = ended (dot_walk (node_at p.nodes n).cost m.last.point) (λ own. add_product_walk s total_n own) t with_point in
      let own : one.result ≡ product (node_at p.nodes n).cost (coefficient m.last.point) =
      walk_laws.dot (node_at p.nodes n).cost m.last.point one.result m.form one.first_is in
      let form : IsForm (point_at lasts n) = subst (λ (o : Option Last). IsForm (point_entries (last_point o))) (sym m.there) m.form in
      let same : one.result ≡ node_cost (view_of p) x n =
      own ∙ ap (λ (o : Option Last). product (node_at p.nodes n).cost (coefficient (point_entries (last_point o)))) (sym m.there)
      ∙ cost_is n l form in
      step_value Add s total_n one.result t one.next_is ∙ ap₂ (λ (a b : ℚ). s +ℚ a *ℚ b) (total_is n l) same

pub joined_points_cost : JoinedCosts
joined_points_cost kind p lasts tree c i h walk e =
    let g : ℕ → ℚ = weighed_cost kind p lasts tree i walk in
    costs_from tree.chances.totals lasts g 0 zero_ℚ c p.nodes
    (λ j l. let d : j ≡ 0 + j = omega arith in
    subst (λ n. IsPart tree.chances.totals lasts g n (node_at p.nodes j)) d (part_is kind p lasts tree i walk j l (h j l))) e
    ∙ zero_add_ℚ (sum_ℚ g (places is_live 0 p.nodes))
    ∙ sym (cost-by_nodes (view_of p) (tree_in Cost p i) (at (joined_points lasts)))
