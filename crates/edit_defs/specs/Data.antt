-- Versions, and the data of nodes by version.
use Rattle.std.specs.Prelude.{ℕ, zero, suc, ◌+◌, ◌-◌, Bool, true, false, ◌&&◌, eqb, List, [], ◌∷◌, map}
use Rattle.rationals.specs.Sparse.{Entry}
use Rattle.rationals.specs.Choices.{pick}
use Rattle.scen_defs.specs.Lists.{passes_at}
use Rattle.scen_defs.specs.declared.report.Kind.{Kind}
use Rattle.scen_defs.specs.declared.report.Kind.TheVariants.{Feasible, Recession, Cost}
use Rattle.scen_defs.specs.declared.program.NodeRow.{NodeRow}
use Rattle.scen_defs.specs.Program.{Program, View, view_of, is_live}
use Rattle.scen_defs.specs.Flat.{without_costs, recession, children}
use Rattle.cut_defs.specs.declared.datum.Share.{Share}
use Rattle.cut_defs.specs.Data.{History, Book, share_of, bounds_of}
use Rattle.edit_defs.specs.declared.edit.Edit.{Edit}
use Rattle.edit_defs.specs.After.{after, after_edits}
use Rattle.edit_defs.specs.Touches.{touches_rows, touches_costs}

-- the form of a program that a run of this kind solves
abbrev pub formed : Kind → View → View
formed Feasible v = without_costs v
formed Recession v = recession v
formed Cost v = v

-- ---- the two parts of a node
-- each child with its share
abbrev pub shares : View → ℕ → List Share
shares v n = map (share_of v) (children v n)

pub record Priced : Type 0 where
  pub cost : List Entry
  pub shares : List Share

abbrev pub rows_part : View → ℕ → List NodeRow
rows_part v n = v.rows n

abbrev pub costs_part : View → ℕ → Priced
costs_part v n = record { cost = v.cost n; shares = shares v n }

-- ---- versions: how many of the first k edits touched the part of node n
abbrev pub Test : Type 0
Test = Program → Edit → ℕ → Bool

abbrev pub one_if : Bool → ℕ
one_if true = 1
one_if false = 0

abbrev pub version : Test → ℕ → Program → List Edit → ℕ → ℕ
version touched k p [] n = 0
version touched zero p (e ∷ es) n = 0
version touched (suc k) p (e ∷ es) n = one_if (touched p e n) + version touched k (after p e) es n

-- the part of node n that has the version, in the first program where the node is live with it
abbrev pub datum : {X : Type 0} → (Program → ℕ → X) → Test → Program → List Edit → ℕ → ℕ → X
datum part touched p [] n v = part p n
datum part touched p (e ∷ es) n v =
    pick (passes_at is_live n p.nodes && eqb v 0) (part p n) (datum part touched (after p e) es n (v - one_if (touched p e n)))

-- ---- the programs of a script in the form of a kind, and the book of their data
abbrev pub view_in : Kind → Program → View
view_in kind p = formed kind (view_of p)

abbrev pub rows_datum : Kind → Program → List Edit → ℕ → ℕ → List NodeRow
rows_datum kind = datum (λ p n. rows_part (view_in kind p) n) touches_rows

abbrev pub costs_datum : Kind → Program → List Edit → ℕ → ℕ → Priced
costs_datum kind = datum (λ p n. costs_part (view_in kind p) n) touches_costs

abbrev pub history : Kind → Program → List Edit → History
history kind p es = record {
  after = λ k. view_in kind (after_edits k p es);
  rows_version = λ k n. version touches_rows k p es n;
  costs_version = λ k n. version touches_costs k p es n;
}

-- a node's stage and parent, in the first program where it is live
abbrev pub never : Test
never p e n = false

abbrev pub book : Kind → Program → List Edit → Book
book kind p es = record {
  rows = λ n v. rows_datum kind p es n v;
  cost = λ n v. (costs_datum kind p es n v).cost;
  shares = λ n v. (costs_datum kind p es n v).shares;
  bounds = λ n. map (bounds_of (view_in kind p)) ((view_of p).columns (datum (λ p n. (view_of p).stage n) never p es n 0));
  stage = λ n. datum (λ p n. (view_of p).stage n) never p es n 0;
  parent = λ n. datum (λ p n. (view_of p).parent n) never p es n 0;
}
