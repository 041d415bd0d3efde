-- What the lists of a program and its frame say of the nodes and columns in the forms that runs solve.
use Rattle.std.proofs.Common.{◌≡◌, ℕ, zero, suc, ◌<◌, ◌^◌, Bool, true, false, ◌||◌, eqb, List, [], ◌∷◌, Option, Some, None, map}
use Rattle.std.proofs.Common.{slice_get, refl, sym, ap, subst, ◌∙◌, arith, eqb-true}
use Rattle.rationals.specs.Rational.{ℚ, one_ℚ, ◌+ℚ◌, zero_add_ℚ, ne_of_gt_ℚ, zero_lt_one_ℚ}
use Rattle.rationals.specs.Sums.{sum_ℚ}
use Rattle.rationals.specs.Sparse.{value_if}
use Rattle.scen_defs.specs.declared.program.Column.{Column}
use Rattle.scen_defs.specs.declared.report.Kind.{Kind}
use Rattle.scen_defs.specs.declared.report.Kind.TheVariants.{Feasible, Recession, Cost}
use Rattle.scen_defs.specs.Lists.{Each, is_in, places, passes_at}
use Rattle.scen_defs.specs.Program.{Node, Scenario, Program, View, view_of, is_live, node_at, or_root, IsLive, IsColumn, IsPath, IsTree}
use Rattle.scen_defs.specs.Flat.{IsRoot}
use Rattle.scen_defs.specs.Valid.{Lives, HasParent, IsProgram}
use Rattle.scen_defs.proofs.SumLaws.{each-once}
use Rattle.scen_defs.proofs.Subtrees.{no}
use Rattle.scen_defs.proofs.Valid.{each-place, programs_are_trees}
use Rattle.edit_defs.specs.Data.{view_in}
use Rattle.edit_defs.proofs.Lists.{passes-within}
use Rattle.edit_defs.proofs.EditLaws.{scripts_make_books}
use Rattle.node_data.specs.Frames.{parent_of, frame_of, parent_in}

-- ---- parents in the frame
parent_there : (nodes : List (Option Node)) (n : ℕ) → passes_at is_live n nodes ≡ true
    → slice_get (map parent_of nodes) n ≡ Some (or_root (node_at nodes n).parent)
parent_there [] n h = absurd (no refl h)
parent_there (None ∷ nodes) zero h = absurd (no refl h)
parent_there (Some node ∷ nodes) zero h = refl
parent_there (None ∷ nodes) (suc n) h = parent_there nodes n h
parent_there (Some node ∷ nodes) (suc n) h = parent_there nodes n h

first_is_root : (p : Program) (n stage : ℕ) (parent : Option ℕ) → HasParent p n stage parent → stage ≡ 0 → n ≡ 0
first_is_root p n stage None h e = h.0
first_is_root p n stage (Some m) h e = absurd (omega (arith, e, h.earlier))

later_is_above : (p : Program) (n stage s : ℕ) (parent : Option ℕ) → HasParent p n stage parent → stage ≡ suc s → 0 < n
later_is_above p n stage s None h e = absurd (omega (arith, e, h.1))
later_is_above p n stage s (Some m) h e = omega (arith, h.smaller)

parent_above : (p : Program) (n : ℕ) → 0 < n → Lives p n → parent_in (frame_of p) n ≡ Some (or_root (node_at p.nodes n).parent)
parent_above p zero h l = absurd (omega arith)
parent_above p (suc n) h l = parent_there p.nodes (suc n) l

-- ---- a form of a program: its live nodes, their parents in the frame, and its columns
pub record IsFramed (p : Program) (v : View) : Type 0 where
  pub alive : (n : ℕ) → IsLive v n → Lives p n
  pub first : (n : ℕ) → Lives p n → v.stage n ≡ 0 → parent_in (frame_of p) n ≡ None
  pub later : (n s : ℕ) → Lives p n → v.stage n ≡ suc s → parent_in (frame_of p) n ≡ Some (v.parent n)
  pub column : (s j : ℕ) → IsColumn v s j → j < 2 ^ 32

framed : (p : Program) → IsProgram p → IsFramed p (view_of p)
framed p i = record {
  alive = λ n h. each-once (Lives p) n (places is_live 0 p.nodes) h (each-place (Lives p) is_live p.nodes (λ m q. q));
  first = λ n l e.
      ap (parent_in (frame_of p)) (first_is_root p n (node_at p.nodes n).stage (node_at p.nodes n).parent (i.nodes n l).parent e);
  later = λ n s l e. parent_above p n (later_is_above p n (node_at p.nodes n).stage s (node_at p.nodes n).parent (i.nodes n l).parent e) l;
  column = λ s j o. each-once (λ k. k < 2 ^ 32) j (places (λ (c : Column). eqb c.stage s) 0 p.columns) o
      (each-place (λ k. k < 2 ^ 32) (λ (c : Column). eqb c.stage s) p.columns
      (λ k q. omega (arith, passes-within (λ (c : Column). eqb c.stage s) k p.columns q, i.small.columns)));
}

pub framed_in : (kind : Kind) (p : Program) → IsProgram p → IsFramed p (view_in kind p)
framed_in Feasible p i = let f = framed p i in record { alive = f.alive; first = f.first; later = f.later; column = f.column }
framed_in Recession p i = let f = framed p i in record { alive = f.alive; first = f.first; later = f.later; column = f.column }
framed_in Cost p i = framed p i

pub tree_in : (kind : Kind) (p : Program) → IsProgram p → IsTree (view_in kind p)
tree_in kind p i = (scripts_make_books kind p [] i tt).tree 0

pub few_nodes : (p : Program) (n : ℕ) → IsProgram p → Lives p n → n < 2 ^ 32
few_nodes p n i l = omega (arith, passes-within is_live n p.nodes l, i.small.nodes)

-- ---- the root
pub root_in : (kind : Kind) (p : Program) → IsProgram p → IsRoot (view_in kind p) 0
root_in Feasible p i = let r = (programs_are_trees p i).1 in record { above = r.above; certain = r.certain }
root_in Recession p i = let r = (programs_are_trees p i).1 in record { above = r.above; certain = r.certain }
root_in Cost p i = (programs_are_trees p i).1

-- what holds of each member holds of one that is in the list
pub in_each : (P : ℕ → Type 0) (n : ℕ) (xs : List ℕ) → Each P xs → is_in n xs ≡ true → P n
in_each P n [] h e = absurd (no refl e)
in_each P n (x ∷ xs) h e = go (eqb x n) refl e (in_each P n xs h.1)
  where
    go : (b : Bool) → eqb x n ≡ b → (b || is_in n xs) ≡ true → (is_in n xs ≡ true → P n) → P n
    go true q e rest = subst P (eqb-true x n q) h.0
    go false q e rest = rest e

-- a node that all scenarios go through is live
pub root_is_live : (v : View) (n : ℕ) (ss : List Scenario) → Each (λ (s : Scenario). IsPath v s.path) ss
    → sum_ℚ (λ (s : Scenario). value_if (is_in n s.path) s.probability) ss ≡ one_ℚ → IsLive v n
root_is_live v n [] h e = absurd (ne_of_gt_ℚ zero_lt_one_ℚ (sym e))
root_is_live v n (s ∷ ss) h e = go (is_in n s.path) refl e (root_is_live v n ss h.1)
  where
    more : ℚ
    more = sum_ℚ (λ (s : Scenario). value_if (is_in n s.path) s.probability) ss

    go : (b : Bool) → is_in n s.path ≡ b → value_if b s.probability +ℚ more ≡ one_ℚ → (more ≡ one_ℚ → IsLive v n) → IsLive v n
    go true q e rest = in_each (IsLive v) n s.path h.0.live q
    go false q e rest = rest (sym (zero_add_ℚ more) ∙ e)
