-- One row among a node's rows.
use Rattle.std.proofs.Common.{◌≡◌, ℕ, zero, suc, ◌+◌, ◌<◌, ◌≤◌, Bool, true, eqb, List, [], ◌∷◌, length, get_or, drop, map, slice_set, Option, Some, inl, inr, refl, sym, ap, ap₂, subst, ◌∙◌, arith}
use Rattle.std.proofs.lemmas.Bool.{eq-eqb, ne_eqb}
use Rattle.rationals.specs.Choices.{pick}
use Rattle.scen_defs.specs.declared.program.Node.{Node as NodeOf}
use Rattle.scen_defs.specs.declared.program.Row.{Row}
use Rattle.scen_defs.specs.declared.program.NodeRow.{NodeRow}
use Rattle.scen_defs.specs.Lists.{Once, Absent, passes_at}
use Rattle.scen_defs.specs.Program.{Node, Program, node_at, nodes_content}
use Rattle.scen_defs.specs.Valid.{row_at, IsProgram}
use Rattle.scen_defs.proofs.Valid.{once-passes}
use Rattle.scen_defs.proofs.NodeReads.{drop_read, node_read}
use Rattle.smps_words.specs.declared.entry.Entry.{Entry}
use Rattle.smps_words.specs.declared.entry.Entry.TheVariants.{Matrix, Rhs}
use Rattle.edit_defs.specs.After.{change_row, home_of, stage_of_entry}
use Rattle.edit_defs.specs.Applies.{IsSet}
use Rattle.edit_defs.proofs.Kept.{home-is}

pub once_next : (i : ℕ) (rows : List NodeRow) (k : ℕ) (r : NodeRow) → k < length rows → r ≡ get_or rows k r → (r.row ≡ i → ⊥) → Once i (map (λ (r : NodeRow). r.row) (drop k rows)) → Once i (map (λ (r : NodeRow). r.row) (drop (k + 1) rows))
once_next i rows k r h e n o = go (subst (λ (rs : List NodeRow). Once i (map (λ (r : NodeRow). r.row) rs)) (drop_read rows k r h e) o)
  where
    go : Once i (map (λ (r : NodeRow). r.row) (r ∷ drop (k + 1) rows)) → Once i (map (λ (r : NodeRow). r.row) (drop (k + 1) rows))
    go (inl q) = absurd (n q.0)
    go (inr q) = q.1

pub once_none : (i : ℕ) (rows : List NodeRow) (k : ℕ) → length rows ≤ k → Once i (map (λ (r : NodeRow). r.row) (drop k rows)) → ⊥
once_none i [] zero h o = o
once_none i [] (suc k) h o = o
once_none i (r ∷ rows) zero h o = absurd (omega (arith, h))
once_none i (r ∷ rows) (suc k) h o = once_none i rows k (omega (arith, h)) o

pub found_row : (rows : List NodeRow) (k i : ℕ) (r : NodeRow) → r ≡ get_or rows k r → r.row ≡ i → k < length rows → (s : NodeRow) → s ≡ get_or rows k s → s.row ≡ i
found_row [] k i r e f h s g = absurd (omega (arith, h))
found_row (x ∷ rows) zero i r e f h s g = let a : s ≡ x = g in let b : r ≡ x = e in ap (λ (y : NodeRow). y.row) (a ∙ sym b) ∙ f
found_row (x ∷ rows) (suc k) i r e f h s g = found_row rows k i r e f (omega (arith, h)) s g

pub absent-same : (i : ℕ) (f : NodeRow → NodeRow) (rows : List NodeRow) → Absent i (map (λ (r : NodeRow). r.row) rows) → map (change_row i f) rows ≡ rows
absent-same i f [] a = refl
absent-same i f (r ∷ rows) a = ap₂ (λ (x : NodeRow) xs. x ∷ xs) (ap (λ b. pick b (f r) r) (ne_eqb r.row i a.0)) (absent-same i f rows a.1)

absent-at : (i : ℕ) (rows : List NodeRow) (k : ℕ) (r : NodeRow) → k < length rows → r ≡ get_or rows k r → r.row ≡ i → Absent i (map (λ (r : NodeRow). r.row) rows) → ⊥
absent-at i [] k r h e f a = omega (arith, h)
absent-at i (x ∷ rows) zero r h e f a = let b : r ≡ x = e in a.0 (ap (λ (y : NodeRow). y.row) (sym b) ∙ f)
absent-at i (x ∷ rows) (suc k) r h e f a = absent-at i rows k r (omega (arith, h)) e f a.1

pub once_set : (i : ℕ) (f : NodeRow → NodeRow) (rows : List NodeRow) (k : ℕ) (r s : NodeRow) → k < length rows → r ≡ get_or rows k r → r.row ≡ i → s ≡ change_row i f r → Once i (map (λ (r : NodeRow). r.row) rows) → slice_set rows k s ≡ map (change_row i f) rows
once_set i f [] k r s h e n p o = absurd (omega (arith, h))
once_set i f (x ∷ rows) zero r s h e n p (inl o) = let b : r ≡ x = e in ap₂ (λ (y : NodeRow) ys. y ∷ ys) (p ∙ ap (change_row i f) b) (sym (absent-same i f rows o.1))
once_set i f (x ∷ rows) zero r s h e n p (inr o) = absurd (let b : r ≡ x = e in o.0 (ap (λ (y : NodeRow). y.row) (sym b) ∙ n))
once_set i f (x ∷ rows) (suc k) r s h e n p (inl o) = absurd (absent-at i rows k r (omega (arith, h)) e n o.1)
once_set i f (x ∷ rows) (suc k) r s h e n p (inr o) = ap₂ (λ (y : NodeRow) ys. y ∷ ys) (sym (ap (λ b. pick b (f x) x) (ne_eqb x.row i o.0))) (once_set i f rows k r s (omega (arith, h)) e n p o.1)

pub set_back : (rows : List NodeRow) (k : ℕ) (r s : NodeRow) → k < length rows → r ≡ get_or rows k r → s ≡ r → slice_set rows k s ≡ rows
set_back [] k r s h e p = absurd (omega (arith, h))
set_back (x ∷ rows) zero r s h e p = let b : r ≡ x = e in ap (λ (y : NodeRow). y ∷ rows) (p ∙ b)
set_back (x ∷ rows) (suc k) r s h e p = ap (λ ys. x ∷ ys) (set_back rows k r s (omega (arith, h)) e p)

-- the numbers of the rows that are read
pub once_read : (nodes : List (Option NodeOf)) (n i : ℕ) (x : NodeOf) → n < length nodes → Some x ≡ get_or nodes n (Some x) → Once i (map (λ (r : NodeRow). r.row) (node_at (nodes_content nodes) n).rows) → Once i (map (λ (r : NodeRow). r.row) x.rows.items)
once_read nodes n i x h e o = subst (λ (y : Node). Once i (map (λ (r : NodeRow). r.row) y.rows)) (node_read nodes n x h e) o

row-passes : (test : Row → Bool) (i : ℕ) (rs : List Row) → i < length rs → test (row_at rs i) ≡ true → passes_at test i rs ≡ true
row-passes test i [] h t = absurd (omega (arith, h))
row-passes test zero (r ∷ rs) h t = t
row-passes test (suc i) (r ∷ rs) h t = row-passes test i rs (omega (arith, h)) t

-- a row of the entry's stage stands once at the entry's node
once_at_home : (p : Program) (name : List ℕ) (entry : Entry) (i n : ℕ) (nodes : List (Option Node)) → IsProgram p → IsSet p name entry → i < length p.rows → stage_of_entry p entry ≡ (row_at p.rows i).stage
    → n ≡ home_of p name entry → nodes ≡ p.nodes → Once i (map (λ (r : NodeRow). r.row) (node_at nodes n).rows)
once_at_home p name entry i n nodes g a row same e f =
    let home = home-is p g name entry a in
    let fits = g.nodes (home_of p name entry) home.0 in
    let stage : (node_at p.nodes (home_of p name entry)).stage ≡ (row_at p.rows i).stage = home.1 ∙ same in
    subst (λ (x : Node). Once i (map (λ (r : NodeRow). r.row) x.rows)) (sym (ap₂ node_at f e))
    (subst (Once i) (sym fits.numbers) (once-passes (λ (r : Row). eqb r.stage (node_at p.nodes (home_of p name entry)).stage) i p.rows
    (row-passes (λ (r : Row). eqb r.stage (node_at p.nodes (home_of p name entry)).stage) i p.rows row (eq-eqb (row_at p.rows i).stage (node_at p.nodes (home_of p name entry)).stage (sym stage)))))

pub once_there : (p : Program) (name : List ℕ) (i j n : ℕ) (nodes : List (Option Node)) → IsProgram p → IsSet p name (Matrix i j) → n ≡ home_of p name (Matrix i j) → nodes ≡ p.nodes → Once i (map (λ (r : NodeRow). r.row) (node_at nodes n).rows)
once_there p name i j n nodes g a e f = once_at_home p name (Matrix i j) i n nodes g a a.entry_is.row refl e f

pub once_right : (p : Program) (name : List ℕ) (i n : ℕ) (nodes : List (Option Node)) → IsProgram p → IsSet p name (Rhs i) → n ≡ home_of p name (Rhs i) → nodes ≡ p.nodes → Once i (map (λ (r : NodeRow). r.row) (node_at nodes n).rows)
once_right p name i n nodes g a e f = once_at_home p name (Rhs i) i n nodes g a a.entry_is refl e f
