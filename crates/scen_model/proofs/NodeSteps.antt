-- Loops over the live nodes of a program.
use Rattle.std.proofs.Common.{◌≡◌, ℕ, ◌+◌, ◌<◌, List, ◌∷◌, Option, Some, None, true, false, is_some, length, drop, get_or, refl, sym, ap, subst, ◌∙◌, Result, Ok, Err, add-one}
use Rattle.rationals.specs.Passes.{then_walk}
use Rattle.scen_defs.specs.declared.program.Node.{Node as NodeOf}
use Rattle.scen_defs.specs.declared.program.Program.{Program as ProgramOf}
use Rattle.scen_defs.specs.Lists.{places}
use Rattle.scen_defs.specs.Program.{content, view_of, is_live, node_at, node_content, place_content, nodes_content}
use Rattle.scen_defs.proofs.NodeReads.{nodes_read, node_read}
use Rattle.scen_model.specs.Walks.{fold_walk}

-- the live nodes from place i on
abbrev pub live_from : ℕ → List (Option NodeOf) → List ℕ
live_from i nodes = places is_live i (nodes_content (drop i nodes))

live_read : (nodes : List (Option NodeOf)) (i : ℕ) (n : NodeOf) → i < length nodes → Some n ≡ get_or nodes i (Some n) → live_from i nodes ≡ i ∷ live_from (i + 1) nodes
live_read nodes i n h e = ap (places is_live i) (nodes_read nodes i (Some n) h e) ∙ ap (λ k. i ∷ places is_live k (nodes_content (drop (i + 1) nodes))) (sym (add-one i))

dead_read : (nodes : List (Option NodeOf)) (i : ℕ) (place : Option NodeOf) → i < length nodes → place ≡ get_or nodes i place → place ≡ None → live_from i nodes ≡ live_from (i + 1) nodes
dead_read nodes i place h e d = ap (places is_live i) (nodes_read nodes i place h e ∙ ap (λ p. place_content p ∷ nodes_content (drop (i + 1) nodes)) d) ∙ ap (λ k. places is_live k (nodes_content (drop (i + 1) nodes))) (sym (add-one i))

pub some_read : (nodes : List (Option NodeOf)) (i : ℕ) (place : Option NodeOf) (n : NodeOf) → place ≡ get_or nodes i place → place ≡ Some n → Some n ≡ get_or nodes i (Some n)
some_read nodes i place n e d = subst (λ (q : Option NodeOf). q ≡ get_or nodes i q) d e

-- `items` is the slice that a loop reads
pub live_there : (nodes items : List (Option NodeOf)) → items ≡ nodes → (i : ℕ) (place : Option NodeOf) (n : NodeOf) → i < length items → place ≡ get_or items i place → place ≡ Some n
    → live_from i nodes ≡ i ∷ live_from (i + 1) nodes
live_there nodes items same i place n h e d = subst (λ (l : List (Option NodeOf)). live_from i l ≡ i ∷ live_from (i + 1) l) same (live_read items i n h (some_read items i place n e d))

pub dead_there : (nodes items : List (Option NodeOf)) → items ≡ nodes → (i : ℕ) (place : Option NodeOf) → i < length items → place ≡ get_or items i place → place ≡ None
    → live_from i nodes ≡ live_from (i + 1) nodes
dead_there nodes items same i place h e d = subst (λ (l : List (Option NodeOf)). live_from i l ≡ live_from (i + 1) l) same (dead_read items i place h e d)

-- the node of that number
pub node_is : (nodes items : List (Option NodeOf)) → items ≡ nodes → (i : ℕ) (place : Option NodeOf) (n : NodeOf) → i < length items → place ≡ get_or items i place → place ≡ Some n
    → node_at (nodes_content nodes) i ≡ node_content n
node_is nodes items same i place n h e d = ap (λ l. node_at (nodes_content l) i) (sym same) ∙ node_read items i n h (some_read items i place n e d)

-- its rows are those of the node
pub rows_read : (p : ProgramOf) (items : List (Option NodeOf)) → items ≡ p.nodes.items → (i : ℕ) (place : Option NodeOf) (n : NodeOf) → i < length items → place ≡ get_or items i place → place ≡ Some n
    → n.rows.items ≡ (view_of (content p)).rows i
rows_read p items same i place n h e d = sym (ap (λ m. m.rows) (node_is p.nodes.items items same i place n h e d))

-- `items` is the slice that the loop reads
module _ {S P : Type 0} (f : S → ℕ → Result S P) (s : S) (nodes items : List (Option NodeOf)) (same : items ≡ nodes) (i : ℕ) (whole : Result S P) (kept : fold_walk f s (live_from i nodes) ≡ whole) where
  kept_items : fold_walk f s (live_from i items) ≡ whole
  kept_items = ap (λ l. fold_walk f s (live_from i l)) same ∙ kept

  back : (t : S) → fold_walk f t (live_from (i + 1) items) ≡ whole → fold_walk f t (live_from (i + 1) nodes) ≡ whole
  back t e = ap (λ l. fold_walk f t (live_from (i + 1) l)) (sym same) ∙ e

  pub next_live : (place : Option NodeOf) (n : NodeOf) (t : S) → i < length items → place ≡ get_or items i place → place ≡ Some n → Ok t ≡ f s i → fold_walk f t (live_from (i + 1) nodes) ≡ whole
  next_live place n t h e d k = back t (ap (λ r. then_walk r (λ u. fold_walk f u (live_from (i + 1) items))) k ∙ sym (ap (fold_walk f s) (live_read items i n h (some_read items i place n e d))) ∙ kept_items)

  pub stop_live : (place : Option NodeOf) (n : NodeOf) (p : P) → i < length items → place ≡ get_or items i place → place ≡ Some n → Err p ≡ f s i → Err p ≡ whole
  stop_live place n p h e d k = ap (λ r. then_walk r (λ u. fold_walk f u (live_from (i + 1) items))) k ∙ sym (ap (fold_walk f s) (live_read items i n h (some_read items i place n e d))) ∙ kept_items

  pub next_dead : (place : Option NodeOf) → i < length items → place ≡ get_or items i place → place ≡ None → fold_walk f s (live_from (i + 1) nodes) ≡ whole
  next_dead place h e d = back s (sym (ap (fold_walk f s) (dead_read items i place h e d)) ∙ kept_items)

  -- a place that is tested, and not taken apart
  pub next_some : (place : Option NodeOf) (t : S) → i < length items → place ≡ get_or items i place → is_some place ≡ true → Ok t ≡ f s i → fold_walk f t (live_from (i + 1) nodes) ≡ whole
  next_some place t h e b k = go place refl
    where
      go : (p : Option NodeOf) → place ≡ p → fold_walk f t (live_from (i + 1) nodes) ≡ whole
      go None d = absurd (let q : is_some place ≡ false = ap is_some d in cc)
      go (Some n) d = next_live place n t h e d k

  pub next_none : (place : Option NodeOf) → i < length items → place ≡ get_or items i place → is_some place ≡ false → fold_walk f s (live_from (i + 1) nodes) ≡ whole
  next_none place h e b = go place refl
    where
      go : (p : Option NodeOf) → place ≡ p → fold_walk f s (live_from (i + 1) nodes) ≡ whole
      go None d = next_dead place h e d
      go (Some n) d = absurd (let q : is_some place ≡ true = ap is_some d in cc)
